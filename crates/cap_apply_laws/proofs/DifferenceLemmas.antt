-- All changes of a capture, one after another.
use Rattle.std.proofs.Common.{◌≡◌, ℕ, suc, ◌+◌, Bool, cond, Option, Some, None, Ok, List, [], ◌∷◌, length, map, refl, sym, ap, ◌∙◌, arith}
use Rattle.cap_database_laws.proofs.UndoneLemmas.{put-found}
use Rattle.cap_apply.proofs.Common.{length-map, map-map, bytes_cmp, bytes_cmp-Equal, Fields, fields_cmp, fields_cmp_total, fields_cmp-Equal, fields_eq, fields_eq_decides, IsOrdered, get, put_entry, ordered_put, ordered_take, put_entry-Updates, take_entry-Updates, TableState, Tables, table_of, patch_of, RowChange, other_order, AppliedState, and_then, changes_applied, counted, with_row, with_row_in, Requested, requested_by_change, requested_by_patch, AllApplied, AreApart, Difference, GivesRowsNow, HoldAfter, HoldBefore, IsDifference, OtherTables, RowsAfter, RowsBefore, requested_by_changes, requested_by_inverses, turned}
use Rattle.cap_apply.specs.declared.policy.Policy.{Policy}
use Rattle.cap_apply.proofs.ChangeLemmas.{same_columns, same_rest}
use Rattle.cap_apply.proofs.EntryLemmas.{get_put_other}
use Rattle.cap_apply.proofs.FieldLemmas.{no_old}
use Rattle.cap_apply_laws.proofs.CaptureLemmas.{AsksFor, asks_by_change, captured_one, turned_difference}

module _ {A : Type 0} where
  -- ---- a table with a row under a key

  module _ (table : TableState A) (key : Fields A) where
    rows_at : (after : Option (Fields A)) → IsOrdered fields_cmp table.keyed → (q : Fields A) → get fields_cmp (with_row table key after).keyed q ≡ cond (fields_eq key q) after (get fields_cmp table.keyed q)
    rows_at None ordered = take_entry-Updates fields_cmp fields_cmp_total key table.keyed ordered
    rows_at (Some row) ordered = put_entry-Updates fields_cmp fields_cmp_total key row table.keyed

    rows_other : (after : Option (Fields A)) → IsOrdered fields_cmp table.keyed → (other : Fields A) → (other ≡ key → ⊥) →
        get fields_cmp (with_row table key after).keyed other ≡ get fields_cmp table.keyed other
    rows_other after ordered other apart =
        rows_at after ordered other ∙ ap (λ b. cond b after (get fields_cmp table.keyed other)) (other_order (fields_cmp key other) (λ e. apart (sym ((fields_cmp-Equal key other).0 e))))

    rows_ordered : (after : Option (Fields A)) → IsOrdered fields_cmp table.keyed → IsOrdered fields_cmp (with_row table key after).keyed
    rows_ordered None ordered = ordered_take fields_cmp fields_cmp_total key table.keyed ordered
    rows_ordered (Some row) ordered = ordered_put fields_cmp fields_cmp_total key row table.keyed ordered

  other_table : (database : Tables A) (name other : List ℕ) (table : TableState A) → (other ≡ name → ⊥) →
      table_of (put_entry bytes_cmp database name table) other ≡ table_of database other
  other_table database name other table apart =
      get_put_other bytes_cmp (λ x y. (bytes_cmp-Equal x y).0) name table other (other_order (bytes_cmp other name) (λ e. apart ((bytes_cmp-Equal other name).0 e))) database

  -- the others are unchanged
  hold_still : (flags : List Bool) (table next : TableState A) (key : Fields A) (ds : List (Difference A)) →
      ((other : Fields A) → (other ≡ key → ⊥) → get fields_cmp next.keyed other ≡ get fields_cmp table.keyed other) →
      AreApart key ds → HoldBefore flags table ds → HoldBefore flags next ds
  hold_still flags table next key [] same apart hold = tt
  hold_still flags table next key (d ∷ ds) same apart hold =
      (hold.0, same d.key (λ e. apart.0 (sym e)) ∙ hold.1, hold.2, hold_still flags table next key ds same apart.1 hold.3)

  -- ---- all of them

  module _ (policy : Policy) (name : List ℕ) (flags : List Bool) (f : Difference A → Requested A) (asks : (d : Difference A) → IsDifference flags d → AsksFor flags (f d) d.key d.before d.after) where
    apply_all : (ds : List (Difference A)) (number : ℕ) (table : TableState A) (state : AppliedState A) → table_of state.database name ≡ Some table → table.schema ≡ flags →
        IsOrdered fields_cmp table.keyed → HoldBefore flags table ds → (left : AppliedState A) × (changes_applied policy number name flags (map f ds) state ≡ Ok left)
        × RowsAfter name table ds left.database × OtherTables name state.database left.database × AllApplied ds state left
    apply_all [] number table state there columns ordered hold =
        let none : state.report.applied ≡ state.report.applied + 0 = omega arith in (
          state,
          refl,
          record {
            found = table;
            there = there;
            rows = tt;
            other_rows = λ key apart. refl;
            loose = refl;
            columns = refl;
            next_id = refl;
            ordered = ordered;
          },
          λ other apart. refl,
          ap (λ n. record state.report { applied = n }) none,
        )
    apply_all (d ∷ ds) number table state there columns ordered hold =
        let next = counted (with_row_in name table d.key d.before d.after state) in
        let after = with_row table d.key d.after in
        let one = captured_one policy number name flags (f d) state table d.key d.before d.after there columns hold.1 (asks d hold.0) in
        let there_after : table_of next.database name ≡ Some after = put-found state.database name after in
        let rest = apply_all ds (number + 1) after next there_after (same_columns table d.key d.after ∙ columns) (rows_ordered table d.key d.after ordered)
        (hold_still flags table after d.key ds (rows_other table d.key d.after ordered) hold.2 hold.3) in
        let rows = rest.2 in
        let more : state.report.applied + 1 + length ds ≡ state.report.applied + suc (length ds) = omega arith in (
          rest.0,
          ap (λ r. and_then r (λ s. changes_applied policy (number + 1) name flags (map f ds) s)) one ∙ rest.1,
          record {
            found = rows.found;
            there = rows.there;
            rows = (rows.other_rows d.key hold.2 ∙ rows_at table d.key d.after ordered d.key ∙ ap (λ b. cond b d.after (get fields_cmp table.keyed d.key)) ((fields_eq_decides d.key d.key).1 refl), rows.rows);
            other_rows = λ key apart. rows.other_rows key apart.1 ∙ rows_other table d.key d.after ordered key apart.0;
            loose = rows.loose ∙ ap (λ (t : TableState A). t.loose) (same_rest table d.key d.after);
            columns = rows.columns ∙ same_columns table d.key d.after;
            next_id = rows.next_id ∙ ap (λ (t : TableState A). t.next_id) (same_rest table d.key d.after);
            ordered = rows.ordered;
          },
          λ other apart. rest.3 other apart ∙ other_table state.database name other after apart,
          rest.4 ∙ ap (λ n. record state.report { applied = n }) more,
        )

  -- ---- of a changeset, of its patchset, and of the inverse

  pub change_asks : (flags : List Bool) (d : Difference A) → IsDifference flags d → AsksFor flags (requested_by_change flags d.change) d.key d.before d.after
  change_asks flags d h = asks_by_change flags h.change.0 d.key d.before d.after d.change h.before h.after h.change.1

  -- a patchset has no old values that could differ
  pub patch_asks : (flags : List Bool) (d : Difference A) → IsDifference flags d → AsksFor flags (requested_by_patch flags (patch_of flags d.change)) d.key d.before d.after
  patch_asks flags d h =
      let asked = change_asks flags d h in
      record { names = asked.names; met = grind (arith, asked.met, no_old {A = A} flags []); leaves = asked.leaves }

  module _ (policy : Policy) (f : List Bool → RowChange A → Requested A) (asks : (flags : List Bool) (d : Difference A) → IsDifference flags d → AsksFor flags (f flags d.change) d.key d.before d.after) where
    pub rows_given : (number : ℕ) (name : List ℕ) (table : TableState A) (ds : List (Difference A)) (state : AppliedState A) → RowsBefore name table ds state.database
        → GivesRowsNow policy number name table ds (map (λ (d : Difference A). f table.schema d.change) ds) state
    rows_given number name table ds state before =
        apply_all policy name table.schema (λ d. f table.schema d.change) (asks table.schema) ds number table state before.there refl before.ordered before.rows

  pub changes_give : (policy : Policy) (number : ℕ) (name : List ℕ) (table : TableState A) (ds : List (Difference A))
      (state : AppliedState A) → RowsBefore name table ds state.database
      → GivesRowsNow policy number name table ds (requested_by_changes table.schema ds) state
  changes_give policy = rows_given policy requested_by_change change_asks

  module _ (flags : List Bool) where
    apart_turned : (key : Fields A) (ds : List (Difference A)) → (AreApart key ds → AreApart key (map (turned flags) ds))
        × (AreApart key (map (turned flags) ds) → AreApart key ds)
    apart_turned key [] = (λ apart. apart, λ apart. apart)
    apart_turned key (d ∷ ds) =
        let rest = apart_turned key ds in (λ apart. (apart.0, rest.0 apart.1), λ apart. (apart.0, rest.1 apart.1))

    hold_turned : (table found : TableState A) (ds : List (Difference A)) → HoldBefore flags table ds → HoldAfter found ds → HoldBefore flags found (map (turned flags) ds)
    hold_turned table found [] hold rows = tt
    hold_turned table found (d ∷ ds) hold rows = (turned_difference flags d hold.0, rows.0, (apart_turned d.key ds).0 hold.2, hold_turned table found ds hold.3 rows.1)

  pub inverse_gives : (policy : Policy) (number : ℕ) (name : List ℕ) (table : TableState A) (ds : List (Difference A)) (state : AppliedState A) → RowsBefore name table ds state.database
      → (left : AppliedState A) × (again : AppliedState A) × (changes_applied policy number name table.schema (requested_by_changes table.schema ds) state ≡ Ok left)
      × (changes_applied policy number name table.schema (requested_by_inverses table.schema ds) left ≡ Ok again)
      × RowsAfter name table (map (turned table.schema) ds) again.database × OtherTables name state.database again.database × AllApplied ds left again
  inverse_gives policy number name table ds state before =
      let flags = table.schema in
      let asked = λ (d : Difference A). requested_by_change flags d.change in
      let first = changes_give policy number name table ds state before in
      let left = first.0 in
      let rows = first.2 in
      let back = apply_all policy name flags asked (change_asks flags) (map (turned flags) ds) number rows.found left rows.there rows.columns rows.ordered (hold_turned flags table rows.found ds before.rows rows.rows) in
      let last = back.2 in (
        left,
        back.0,
        first.1,
        ap (λ asks. changes_applied policy number name flags asks left) (sym (map-map asked (turned flags) ds)) ∙ back.1,
        record {
          found = last.found;
          there = last.there;
          rows = last.rows;
          other_rows = λ key apart. last.other_rows key apart ∙ rows.other_rows key ((apart_turned flags key ds).1 apart);
          loose = last.loose ∙ rows.loose;
          columns = last.columns ∙ rows.columns;
          next_id = last.next_id ∙ rows.next_id;
          ordered = last.ordered;
        },
        λ other apart. back.3 other apart ∙ first.3 other apart,
        back.4 ∙ ap (λ n. record left.report { applied = left.report.applied + n }) (length-map ds (turned flags)),
      )
