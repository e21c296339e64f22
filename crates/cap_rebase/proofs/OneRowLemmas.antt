-- A change over a remote one of its row, from one base, leads from the hub's row to the client's.
use Rattle.std.proofs.lemmas.Bool.{and_parts}
use Rattle.std.proofs.Common.{◌≡◌, ℕ, suc, List, [], ◌∷◌, length, Bool, true, false, not, Option, Some, None, is_some, Ok, cond, refl, ap, sym, subst, ◌∙◌}
use Rattle.std.specs.List.{cons_option, list_any}
use Rattle.std.specs.Option.{ForSome, option_map, unwrap_or}
use Rattle.cap_value.specs.declared.value.Value.{Value}
use Rattle.cap_value.specs.Value.{value_eq, value_eq_decides}
use Rattle.cap_row.specs.Fields.{Fields}
use Rattle.cap_row.specs.Key.{fields_eq, fields_eq_decides, is_key, key_fields, key_of}
use Rattle.cap_changes.specs.Change.{change_of, full_record, new_field, old_field}
use Rattle.cap_changes.specs.Column.{by_column}
use Rattle.cap_changes.specs.FieldRecord.{RecordFields}
use Rattle.cap_changes.specs.Invert.{inverse_of}
use Rattle.cap_changes.specs.Patch.{patch_of, update_record}
use Rattle.cap_changes.specs.declared.row_change.RowChange.{RowChange}
use Rattle.cap_changes.specs.declared.row_change.RowChange.TheVariants.{Insert, Update, Delete}
use Rattle.cap_changes.proofs.ChangeLemmas.{change_of-other, change_of-same, update_modifies}
use Rattle.cap_group.specs.Rows.{Follow, IsRowUnder, is_indirect}
use Rattle.cap_group_laws.proofs.JoinLemmas.{followed}
use Rattle.cap_apply.specs.Difference.{IsUnder}
use Rattle.cap_apply.specs.Policy.{made_anyway}
use Rattle.cap_apply.specs.Row.{has_old_value, has_old_values, row_after, set_fields}
use Rattle.cap_apply.specs.declared.conflict.ConflictKind.{ConflictKind}
use Rattle.cap_apply.specs.declared.conflict.ConflictKind.TheVariants.{Data, NotFound, Conflict}
use Rattle.cap_apply.specs.declared.policy.Answer.{Answer}
use Rattle.cap_apply.specs.declared.policy.Answer.TheVariants.{Omit, Replace, Abort}
use Rattle.cap_apply_laws.proofs.CaptureLemmas.{asks_by_change, turned_difference}
use Rattle.cap_rebase.specs.Buffer.{answered}
use Rattle.cap_rebase.specs.Flag.{flagged}
use Rattle.cap_rebase.specs.OneRow.{AreApplied, HaveOneBase, IsApplied, Leads, Remote, all_buffered, client_after, conflict_at}
use Rattle.cap_rebase.specs.Rebase.{field_left, new_left, old_left, over_omitted, over_replaced, rebased, rebased_next, rebased_over}

no_conflict : {kind : ConflictKind} (met : Option ConflictKind) → met ≡ Some kind → met ≡ None → ⊥
no_conflict met e e' = absurd (cc (e, e'))

none_met : (b : Bool) → cond b None (Some Data) ≡ None → b ≡ true
none_met true e = refl
none_met false e = cc e

met_none : {kind : ConflictKind} (met : Option ConflictKind) → met ≡ Some NotFound → met ≡ Some kind → NotFound ≡ kind
met_none met e e' = cc

made_is : {made : Bool} (number : ℕ) (kind : ConflictKind) → made_anyway number kind Replace ≡ Ok made → (true ≡ made) × (NotFound ≡ kind → ⊥)
made_is number Data e = (cc e, λ is. absurd (cc is))
made_is number NotFound e = absurd (cc e)
made_is number Conflict e = (cc e, λ is. absurd (cc is))

module _ {A : Type 0} where
  -- ---- flags

  flag_of : (flag : Bool) (change : RowChange A) → is_indirect (flagged flag change) ≡ flag
  flag_of flag (Insert indirect new) = refl
  flag_of flag (Update indirect old new) = refl
  flag_of flag (Delete indirect old) = refl

  own_flag : (change : RowChange A) → flagged (is_indirect change) change ≡ change
  own_flag (Insert indirect new) = refl
  own_flag (Update indirect old new) = refl
  own_flag (Delete indirect old) = refl

  -- the change between two rows with another flag
  reflagged_between : (flags : List Bool) (flag other : Bool) (before after : Option (Fields A)) → option_map (flagged flag) (change_of flags other before after) ≡ change_of flags flag before after
  reflagged_between flags flag other None None = refl
  reflagged_between flags flag other None (Some now) = refl
  reflagged_between flags flag other (Some image) None = refl
  reflagged_between flags flag other (Some image) (Some now) =
      elim (fields_eq image now) as (λ b.
      option_map (flagged flag) (cond b None (Some (Update other (by_column old_field flags image now) (by_column new_field flags image now))))
      ≡ cond b None (Some (Update flag (by_column old_field flags image now) (by_column new_field flags image now)))) [
        | true ↦ refl
        | false ↦ refl
      ]

  -- ---- rows under a key

  its_values : (b : Bool) (values key : Fields A) → cond b (Some values) None ≡ Some key → values ≡ key
  its_values true values key e = cc
  its_values false values key e = cc

  key_is : (flags : List Bool) (row key : Fields A) → key_of flags row ≡ Some key → key_fields flags row ≡ key
  key_is flags row key e = its_values (is_key (key_fields flags row)) (key_fields flags row) key e

  row_under : (flags : List Bool) (key : Fields A) (row : Option (Fields A)) → IsUnder flags key row → ForSome row (IsRowUnder flags key)
  row_under flags key None u = λ row is. absurd (cc is)
  row_under flags key (Some found) u = λ row is.
      let same : found ≡ row = cc is in
      subst (λ (r : Fields A). IsRowUnder flags key r) same (record { wide = u.0; under = key_is flags found key u.1 })

  -- ---- OMIT: from the hub's row to the base, and from there to the client's

  omitted : (flags : List Bool) (key : Fields A) (base client hub : Option (Fields A)) (local buffered : RowChange A) →
      IsUnder flags key base → IsUnder flags key client → IsUnder flags key hub →
      change_of flags (is_indirect local) base client ≡ Some local → change_of flags (is_indirect buffered) base hub ≡ Some buffered →
      over_omitted flags buffered local ≡ change_of flags (is_indirect local) hub client
  omitted flags key base client hub local buffered b c m made made' =
      let back = turned_difference flags (record { key = key; before = base; after = hub; change = buffered }) (record { before = b; after = m; change = (is_indirect buffered, made') }) in
      let inverse = inverse_of flags buffered in
      let undone : change_of flags (is_indirect inverse) hub base ≡ Some inverse =
      sym (reflagged_between flags (is_indirect inverse) back.change.0 hub base) ∙ ap (option_map (flagged (is_indirect inverse))) back.change.1 ∙ ap Some (own_flag inverse) in
      let follow : Follow flags key hub (inverse ∷ local ∷ []) client =
      (base, row_under flags key base b, undone, (client, row_under flags key client c, made, refl)) in
      let both = followed flags key hub (inverse ∷ local ∷ []) client (row_under flags key hub m) follow in
      ap (option_map (flagged (is_indirect local))) both.1 ∙ reflagged_between flags (is_indirect local) both.0 hub client

  -- ---- REPLACE: the columns that the remote change does not modify

  -- the client's row after the remote update, all the same
  abbrev after_update : List Bool → Fields A → Fields A → Fields A → Fields A
  after_update flags base client hub =
      set_fields (update_record flags (by_column old_field flags base hub) (by_column new_field flags base hub)) client

  value_same : (a b : Value A) → a ≡ b → value_eq a b ≡ true
  value_same a b e = (value_eq_decides a b).1 e

  -- one column outside the key, with its values of the base, the client and the hub, and the client's then
  abbrev then_value : Bool → Value A → Value A → Value A
  then_value same client hub = unwrap_or (cond (not same) (Some hub) None) client

  module _ (b c m : Value A) where
    new_column : (y : Bool) → value_eq b m ≡ y → field_left (cond (not (value_eq b c)) (Some c) None) (cond (not y) (Some m) None) ≡ new_field false m (then_value y c m)
    new_column true q = ap (λ (v : Value A). cond (not (value_eq v c)) (Some c) None) ((value_eq_decides b m).0 q)
    new_column false q = rw (value_same m m refl)

    kept_old : (x : Bool) → value_eq b c ≡ x → b ≡ m → cond (is_some (cond (not x) (Some c) None)) (cond (not x) (Some b) None) None ≡ cond (not (value_eq m c)) (Some m) None
    kept_old true p e = rw (sym (ap (λ (v : Value A). value_eq v c) e) ∙ p)
    kept_old false p e = rw (sym (ap (λ (v : Value A). value_eq v c) e) ∙ p) (ap Some e)

    old_column : (y : Bool) → value_eq b m ≡ y → old_left false (cond (not (value_eq b c)) (Some b) None) (field_left (cond (not (value_eq b c)) (Some c) None) (cond (not y) (Some m) None)) ≡ old_field false m (then_value y c m)
    old_column true q = kept_old (value_eq b c) refl ((value_eq_decides b m).0 q)
    old_column false q = rw (value_same m m refl)

  same_first : {a b : Value A} {xs ys : Fields A} → (a ∷ xs) ≡ (b ∷ ys) → (a ≡ b) × (xs ≡ ys)
  same_first e = (cc, cc)

  -- what is left of the local update, and the client's row then
  record Leaves (flags : List Bool) (base client hub : Fields A) : Type 0 where
    new_is : new_left (by_column new_field flags base client) (by_column new_field flags base hub) ≡ by_column new_field flags hub (after_update flags base client hub)
    old_is : by_column old_left flags (by_column old_field flags base client) (new_left (by_column new_field flags base client) (by_column new_field flags base hub)) ≡ by_column old_field flags hub (after_update flags base client hub)
    wide : length (after_update flags base client hub) ≡ length flags
    key_kept : key_fields flags (after_update flags base client hub) ≡ key_fields flags base

  leaves : (flags : List Bool) (base client hub : Fields A) → length base ≡ length flags → length client ≡ length flags → length hub ≡ length flags →
      key_fields flags base ≡ key_fields flags hub → Leaves flags base client hub
  leaves [] [] [] [] w w' w'' keys = record { new_is = refl; old_is = refl; wide = refl; key_kept = refl }
  leaves [] [] [] (m ∷ hub) w w' w'' keys = cc
  leaves [] [] (c ∷ client) hub w w' w'' keys = cc
  leaves [] (b ∷ base) client hub w w' w'' keys = cc
  leaves (key ∷ flags) [] client hub w w' w'' keys = cc
  leaves (key ∷ flags) (b ∷ base) [] hub w w' w'' keys = cc
  leaves (key ∷ flags) (b ∷ base) (c ∷ client) [] w w' w'' keys = cc
  leaves (true ∷ flags) (b ∷ base) (c ∷ client) (m ∷ hub) w w' w'' keys =
      let firsts : (b ≡ m) × (key_fields flags base ≡ key_fields flags hub) = same_first keys in
      let more = leaves flags base client hub (cc) (cc) (cc) firsts.1 in record {
        new_is = ap (λ (r : RecordFields A). None ∷ r) more.new_is;
        old_is = λ i. Some (firsts.0 i) ∷ more.old_is i;
        wide = ap suc more.wide;
        key_kept = ap (λ (k : Fields A). b ∷ k) more.key_kept;
      }
  leaves (false ∷ flags) (b ∷ base) (c ∷ client) (m ∷ hub) w w' w'' keys =
      let more = leaves flags base client hub (cc) (cc) (cc) keys in record {
        new_is = λ i. new_column b c m (value_eq b m) refl i ∷ more.new_is i;
        old_is = λ i. old_column b c m (value_eq b m) refl i ∷ more.old_is i;
        wide = ap suc more.wide;
        key_kept = more.key_kept;
      }

  -- ---- an UPDATE with the modified fields is the change of the rows

  no_fields : (flags : List Bool) (row : Fields A) → list_any is_some (by_column new_field flags row row) ≡ false
  no_fields [] row = refl
  no_fields (key ∷ flags) [] = refl
  no_fields (true ∷ flags) (a ∷ row) = no_fields flags row
  no_fields (false ∷ flags) (a ∷ row) = rw (value_same a a refl) (no_fields flags row)

  between_rows : (flags : List Bool) (indirect : Bool) (key hub then : Fields A) → length hub ≡ length flags → length then ≡ length flags →
      key_of flags hub ≡ Some key → key_of flags then ≡ Some key → (same : Bool) → fields_eq hub then ≡ same →
      cond (list_any is_some (by_column new_field flags hub then)) (Some (Update indirect (by_column old_field flags hub then) (by_column new_field flags hub then))) None
      ≡ change_of flags indirect (Some hub) (Some then)
  between_rows flags indirect key hub then w w' k k' true e =
      let same : hub ≡ then = (fields_eq_decides hub then).0 e in
      let none : list_any is_some (by_column new_field flags hub then) ≡ false = ap (λ (row : Fields A). list_any is_some (by_column new_field flags hub row)) (sym same) ∙ no_fields flags hub in
      ap (λ b. cond b (Some (Update indirect (by_column old_field flags hub then) (by_column new_field flags hub then))) None) none
      ∙ sym (change_of-same flags indirect hub then same)
  between_rows flags indirect key hub then w w' k k' false e =
      let other : hub ≡ then → ⊥ = λ same. absurd (cc (e, (fields_eq_decides hub then).1 same)) in
      let some : list_any is_some (by_column new_field flags hub then) ≡ true =
      update_modifies flags hub then (record { wide = w; keyed = rw k refl }) (record { wide = w'; keyed = rw k' refl }) (k ∙ sym k') other in
      ap (λ b. cond b (Some (Update indirect (by_column old_field flags hub then) (by_column new_field flags hub then))) None) some
      ∙ sym (change_of-other flags indirect hub then other)

  -- ---- the cases of the rows

  module _ (flags : List Bool) (key : Fields A) where
    abbrev made_anyhow : Bool → RowChange A → RowChange A → Option (Fields A) → Option (Fields A) → Type 0
    made_anyhow indirect local remote client hub =
        over_replaced flags (flagged true remote) local ≡ change_of flags indirect hub (row_after (length flags) (patch_of flags remote) client)

    inserted : (indirect flag : Bool) (local : RowChange A) (client : Option (Fields A)) (hub : Fields A) → IsUnder flags key (Some hub) → made_anyhow indirect local (Insert flag (full_record hub)) client (Some hub)
    inserted indirect flag local client hub m =
        let asks = asks_by_change flags flag key None (Some hub) (Insert flag (full_record hub)) tt m refl in
        sym (ap (change_of flags indirect (Some hub)) asks.leaves ∙ change_of-same flags indirect hub hub refl)

    updated : (indirect flag : Bool) (base client hub : Fields A) → IsUnder flags key (Some base) → IsUnder flags key (Some client) → IsUnder flags key (Some hub) →
        made_anyhow indirect (Update indirect (by_column old_field flags base client) (by_column new_field flags base client))
        (Update flag (by_column old_field flags base hub) (by_column new_field flags base hub)) (Some client) (Some hub)
    updated indirect flag base client hub b c m =
        let then = after_update flags base client hub in
        let left = leaves flags base client hub b.0 c.0 m.0 (key_is flags base key b.1 ∙ sym (key_is flags hub key m.1)) in
        let then_key : key_of flags then ≡ Some key = ap (λ (k : Fields A). cond (is_key k) (Some k) None) left.key_kept ∙ b.1 in
        (λ i. cond (list_any is_some (left.new_is i)) (Some (Update indirect (left.old_is i) (left.new_is i))) None)
        ∙ between_rows flags indirect key hub then m.0 left.wide m.1 then_key (fields_eq hub then) refl

    replaced : (indirect flag : Bool) (base client hub : Option (Fields A)) (local remote : RowChange A) (kind : ConflictKind) →
        IsUnder flags key base → IsUnder flags key client → IsUnder flags key hub →
        change_of flags indirect base client ≡ Some local → change_of flags flag base hub ≡ Some remote →
        conflict_at flags remote client ≡ Some kind → (NotFound ≡ kind → ⊥) → made_anyhow indirect local remote client hub
    replaced indirect flag None None hub local remote kind b c m made made' met there = absurd (cc made)
    replaced indirect flag None (Some now) None local remote kind b c m made made' met there = absurd (cc made')
    replaced indirect flag None (Some now) (Some then) local remote kind b c m made made' met there =
        let same : Insert flag (full_record then) ≡ remote = cc made' in
        subst (λ (r : RowChange A). made_anyhow indirect local r (Some now) (Some then)) same (inserted indirect flag local (Some now) then m)
    replaced indirect flag (Some image) None None local remote kind b c m made made' met there =
        let same : Delete flag (full_record image) ≡ remote = cc made' in
        absurd (there (met_none (conflict_at flags remote None) (ap (λ (r : RowChange A). conflict_at flags r None) (sym same)) met))
    replaced indirect flag (Some image) None (Some then) local remote kind b c m made made' met there = differ (fields_eq image then) made'
      where
        differ : (x : Bool) → cond x None (Some (Update flag (by_column old_field flags image then) (by_column new_field flags image then))) ≡ Some remote → made_anyhow indirect local remote None (Some then)
        differ true e = absurd (cc e)
        differ false e =
            let same : Update flag (by_column old_field flags image then) (by_column new_field flags image then) ≡ remote = cc e in
            absurd (there (met_none (conflict_at flags remote None) (ap (λ (r : RowChange A). conflict_at flags r None) (sym same)) met))
    replaced indirect flag (Some image) (Some now) None local remote kind b c m made made' met there =
        let same : Delete flag (full_record image) ≡ remote = cc made' in
        subst (λ (r : RowChange A). made_anyhow indirect local r (Some now) None) same refl
    replaced indirect flag (Some image) (Some now) (Some then) local remote kind b c m made made' met there = differ (fields_eq image now) (fields_eq image then) made made'
      where
        differ : (x y : Bool) → cond x None (Some (Update indirect (by_column old_field flags image now) (by_column new_field flags image now))) ≡ Some local →
            cond y None (Some (Update flag (by_column old_field flags image then) (by_column new_field flags image then))) ≡ Some remote → made_anyhow indirect local remote (Some now) (Some then)
        differ true y e e' = absurd (cc e)
        differ false true e e' = absurd (cc e')
        differ false false e e' =
            let local_is : Update indirect (by_column old_field flags image now) (by_column new_field flags image now) ≡ local = cc e in
            let remote_is : Update flag (by_column old_field flags image then) (by_column new_field flags image then) ≡ remote = cc e' in
            subst (λ (l : RowChange A). made_anyhow indirect l remote (Some now) (Some then)) local_is
            (subst (λ (r : RowChange A). made_anyhow indirect (Update indirect (by_column old_field flags image now) (by_column new_field flags image now)) r (Some now) (Some then)) remote_is
            (updated indirect flag image now then b c m))

  -- ---- no conflict

  -- the row that a DELETE finds as it was
  agrees_whole : (flags : List Bool) (base client : Fields A) → length base ≡ length flags → length client ≡ length flags → key_fields flags base ≡ key_fields flags client →
      has_old_values flags (full_record base) client ≡ true → base ≡ client
  agrees_whole [] [] [] w w' keys h = refl
  agrees_whole [] [] (c ∷ client) w w' keys h = cc
  agrees_whole [] (b ∷ base) client w w' keys h = cc
  agrees_whole (key ∷ flags) [] client w w' keys h = cc
  agrees_whole (key ∷ flags) (b ∷ base) [] w w' keys h = cc
  agrees_whole (true ∷ flags) (b ∷ base) (c ∷ client) w w' keys h =
      let firsts : (b ≡ c) × (key_fields flags base ≡ key_fields flags client) = same_first keys in
      λ i. firsts.0 i ∷ agrees_whole flags base client (cc) (cc) firsts.1 h i
  agrees_whole (false ∷ flags) (b ∷ base) (c ∷ client) w w' keys h =
      let parts = and_parts (value_eq b c) (has_old_values flags (full_record base) client) h in
      λ i. (value_eq_decides b c).0 parts.0 i ∷ agrees_whole flags base client (cc) (cc) keys parts.1 i

  module _ (b c m : Value A) where
    new_stays : (y : Bool) → value_eq b m ≡ y → has_old_value false (cond (not y) (Some b) None) c ≡ true → new_field false m (then_value y c m) ≡ new_field false b c
    new_stays true q h = ap (λ (v : Value A). cond (not (value_eq v c)) (Some c) None) (sym ((value_eq_decides b m).0 q))
    new_stays false q h = rw (value_same m m refl, h) refl

    old_stays : (y : Bool) → value_eq b m ≡ y → has_old_value false (cond (not y) (Some b) None) c ≡ true → old_field false m (then_value y c m) ≡ old_field false b c
    old_stays true q h = ap (λ (v : Value A). cond (not (value_eq v c)) (Some v) None) (sym ((value_eq_decides b m).0 q))
    old_stays false q h = rw (value_same m m refl, h) refl

  record Stays (flags : List Bool) (base client hub : Fields A) : Type 0 where
    new_is : by_column new_field flags hub (after_update flags base client hub) ≡ by_column new_field flags base client
    old_is : by_column old_field flags hub (after_update flags base client hub) ≡ by_column old_field flags base client

  stays : (flags : List Bool) (base client hub : Fields A) → length base ≡ length flags → length client ≡ length flags → length hub ≡ length flags →
      key_fields flags base ≡ key_fields flags hub → has_old_values flags (by_column old_field flags base hub) client ≡ true → Stays flags base client hub
  stays [] [] [] [] w w' w'' keys h = record { new_is = refl; old_is = refl }
  stays [] [] [] (m ∷ hub) w w' w'' keys h = cc
  stays [] [] (c ∷ client) hub w w' w'' keys h = cc
  stays [] (b ∷ base) client hub w w' w'' keys h = cc
  stays (key ∷ flags) [] client hub w w' w'' keys h = cc
  stays (key ∷ flags) (b ∷ base) [] hub w w' w'' keys h = cc
  stays (key ∷ flags) (b ∷ base) (c ∷ client) [] w w' w'' keys h = cc
  stays (true ∷ flags) (b ∷ base) (c ∷ client) (m ∷ hub) w w' w'' keys h =
      let firsts : (b ≡ m) × (key_fields flags base ≡ key_fields flags hub) = same_first keys in
      let more = stays flags base client hub (cc) (cc) (cc) firsts.1 h in
      record { new_is = ap (λ (r : RecordFields A). None ∷ r) more.new_is; old_is = λ i. Some (sym firsts.0 i) ∷ more.old_is i }
  stays (false ∷ flags) (b ∷ base) (c ∷ client) (m ∷ hub) w w' w'' keys h =
      let parts = and_parts (has_old_value false (old_field false b m) c) (has_old_values flags (by_column old_field flags base hub) client) h in
      let more = stays flags base client hub (cc) (cc) (cc) keys parts.1 in record {
        new_is = λ i. new_stays b c m (value_eq b m) refl parts.0 i ∷ more.new_is i;
        old_is = λ i. old_stays b c m (value_eq b m) refl parts.0 i ∷ more.old_is i;
      }

  module _ (flags : List Bool) (key : Fields A) where
    updated_on : (indirect flag : Bool) (base client hub : Fields A) → IsUnder flags key (Some base) → IsUnder flags key (Some client) → IsUnder flags key (Some hub) →
        (base ≡ client → ⊥) → has_old_values flags (by_column old_field flags base hub) client ≡ true →
        change_of flags indirect (Some hub) (Some (after_update flags base client hub)) ≡ Some (Update indirect (by_column old_field flags base client) (by_column new_field flags base client))
    updated_on indirect flag base client hub b c m other agrees =
        let then = after_update flags base client hub in
        let keys = key_is flags base key b.1 ∙ sym (key_is flags hub key m.1) in
        let left = leaves flags base client hub b.0 c.0 m.0 keys in
        let stay = stays flags base client hub b.0 c.0 m.0 keys agrees in
        let then_key : key_of flags then ≡ Some key = ap (λ (k : Fields A). cond (is_key k) (Some k) None) left.key_kept ∙ b.1 in
        let some : list_any is_some (by_column new_field flags base client) ≡ true =
        update_modifies flags base client (record { wide = b.0; keyed = rw b.1 refl }) (record { wide = c.0; keyed = rw c.1 refl }) (b.1 ∙ sym c.1) other in
        sym (between_rows flags indirect key hub then m.0 left.wide m.1 then_key (fields_eq hub then) refl)
        ∙ (λ i. cond (list_any is_some (stay.new_is i)) (Some (Update indirect (stay.old_is i) (stay.new_is i))) None)
        ∙ ap (λ b. cond b (Some (Update indirect (by_column old_field flags base client) (by_column new_field flags base client))) None) some

    unmet : (indirect flag : Bool) (base client hub : Option (Fields A)) (local remote : RowChange A) →
        IsUnder flags key base → IsUnder flags key client → IsUnder flags key hub →
        change_of flags indirect base client ≡ Some local → change_of flags flag base hub ≡ Some remote → conflict_at flags remote client ≡ None →
        change_of flags indirect hub (row_after (length flags) (patch_of flags remote) client) ≡ Some local
    unmet indirect flag None None hub local remote b c m made made' met = absurd (cc made)
    unmet indirect flag None (Some now) None local remote b c m made made' met = absurd (cc made')
    unmet indirect flag None (Some now) (Some then) local remote b c m made made' met =
        let same : Insert flag (full_record then) ≡ remote = cc made' in
        absurd (no_conflict (conflict_at flags remote (Some now)) (ap (λ (r : RowChange A). conflict_at flags r (Some now)) (sym same)) met)
    unmet indirect flag (Some image) None None local remote b c m made made' met =
        let same : Delete flag (full_record image) ≡ remote = cc made' in
        absurd (no_conflict (conflict_at flags remote None) (ap (λ (r : RowChange A). conflict_at flags r None) (sym same)) met)
    unmet indirect flag (Some image) None (Some then) local remote b c m made made' met = differ (fields_eq image then) made'
      where
        differ : (x : Bool) → cond x None (Some (Update flag (by_column old_field flags image then) (by_column new_field flags image then))) ≡ Some remote →
            change_of flags indirect (Some then) (row_after (length flags) (patch_of flags remote) None) ≡ Some local
        differ true e = absurd (cc e)
        differ false e =
            let same : Update flag (by_column old_field flags image then) (by_column new_field flags image then) ≡ remote = cc e in
            absurd (no_conflict (conflict_at flags remote None) (ap (λ (r : RowChange A). conflict_at flags r None) (sym same)) met)
    unmet indirect flag (Some image) (Some now) None local remote b c m made made' met =
        let same : Delete flag (full_record image) ≡ remote = cc made' in
        let agrees = none_met (has_old_values flags (full_record image) now) (ap (λ (r : RowChange A). conflict_at flags r (Some now)) same ∙ met) in
        let rows : image ≡ now = agrees_whole flags image now b.0 c.0 (key_is flags image key b.1 ∙ sym (key_is flags now key c.1)) agrees in
        absurd (cc (made, change_of-same flags indirect image now rows))
    unmet indirect flag (Some image) (Some now) (Some then) local remote b c m made made' met = differ (fields_eq image now) (fields_eq image then) refl made made'
      where
        differ : (x y : Bool) → fields_eq image now ≡ x → cond x None (Some (Update indirect (by_column old_field flags image now) (by_column new_field flags image now))) ≡ Some local →
            cond y None (Some (Update flag (by_column old_field flags image then) (by_column new_field flags image then))) ≡ Some remote →
            change_of flags indirect (Some then) (row_after (length flags) (patch_of flags remote) (Some now)) ≡ Some local
        differ true y is e e' = absurd (cc e)
        differ false true is e e' = absurd (cc e')
        differ false false is e e' =
            let remote_is : Update flag (by_column old_field flags image then) (by_column new_field flags image then) ≡ remote = cc e' in
            let other : image ≡ now → ⊥ = λ same. absurd (cc (is, (fields_eq_decides image now).1 same)) in
            let agrees = none_met (has_old_values flags (by_column old_field flags image then) now) (ap (λ (r : RowChange A). conflict_at flags r (Some now)) remote_is ∙ met) in
            subst (λ (r : RowChange A). change_of flags indirect (Some then) (row_after (length flags) (patch_of flags r) (Some now)) ≡ Some local) remote_is
            (updated_on indirect flag image now then b c m other agrees ∙ e)

    -- ---- the client's row then

    after_under : (flag : Bool) (base client hub : Option (Fields A)) (remote : RowChange A) → IsUnder flags key base → IsUnder flags key client → IsUnder flags key hub →
        change_of flags flag base hub ≡ Some remote → IsUnder flags key (row_after (length flags) (patch_of flags remote) client)
    after_under flag None client None remote b c m made = absurd (cc made)
    after_under flag None client (Some then) remote b c m made =
        let same : Insert flag (full_record then) ≡ remote = cc made in
        let asks = asks_by_change flags flag key None (Some then) (Insert flag (full_record then)) tt m refl in
        subst (λ (r : RowChange A). IsUnder flags key (row_after (length flags) (patch_of flags r) client)) same (subst (IsUnder flags key) (sym asks.leaves) m)
    after_under flag (Some image) client None remote b c m made =
        let same : Delete flag (full_record image) ≡ remote = cc made in
        subst (λ (r : RowChange A). IsUnder flags key (row_after (length flags) (patch_of flags r) client)) same tt
    after_under flag (Some image) client (Some then) remote b c m made = differ (fields_eq image then) made
      where
        updated_under : (row : Option (Fields A)) → IsUnder flags key row → IsUnder flags key (row_after (length flags) (patch_of flags (Update flag (by_column old_field flags image then) (by_column new_field flags image then))) row)
        updated_under None u = tt
        updated_under (Some now) u =
            let left = leaves flags image now then b.0 u.0 m.0 (key_is flags image key b.1 ∙ sym (key_is flags then key m.1)) in
            (left.wide, ap (λ (k : Fields A). cond (is_key k) (Some k) None) left.key_kept ∙ b.1)

        differ : (x : Bool) → cond x None (Some (Update flag (by_column old_field flags image then) (by_column new_field flags image then))) ≡ Some remote →
            IsUnder flags key (row_after (length flags) (patch_of flags remote) client)
        differ true e = absurd (cc e)
        differ false e =
            let same : Update flag (by_column old_field flags image then) (by_column new_field flags image then) ≡ remote = cc e in
            subst (λ (r : RowChange A). IsUnder flags key (row_after (length flags) (patch_of flags r) client)) same (updated_under client c)

    -- the change between two rows leads from the one to the other
    leads : (indirect : Bool) (before after : Option (Fields A)) (o : Option (RowChange A)) → IsUnder flags key before → IsUnder flags key after →
        o ≡ change_of flags indirect before after → Leads flags before o after
    leads indirect before after (Some change) p q e =
        let asks = asks_by_change flags indirect key before after change p q (sym e) in
        (asks.met, asks.leaves)
    leads indirect None None None p q e = refl
    leads indirect None (Some now) None p q e = cc e
    leads indirect (Some image) None None p q e = cc e
    leads indirect (Some image) (Some now) None p q e = differ (fields_eq image now) refl e
      where
        differ : (x : Bool) → fields_eq image now ≡ x → None ≡ cond x None (Some (Update indirect (by_column old_field flags image now) (by_column new_field flags image now))) → Some image ≡ Some now
        differ true is e = ap Some ((fields_eq_decides image now).0 is)
        differ false is e = cc e

  -- ---- by the answer

  by_flag : (flags : List Bool) (flag : Bool) (remote local : RowChange A) → is_indirect remote ≡ flag → rebased flags remote local ≡ cond flag (over_replaced flags remote local) (over_omitted flags remote local)
  by_flag flags flag remote local e = ap (λ b. cond b (over_replaced flags remote local) (over_omitted flags remote local)) e

  pub over_one_remote : (flags : List Bool) (key : Fields A) (base client hub : Option (Fields A)) (local remote buffered : RowChange A) (number : ℕ) (kind : ConflictKind) (answer : Answer) (made : Bool) →
      HaveOneBase flags key base client hub local remote → conflict_at flags remote client ≡ Some kind → made_anyway number kind answer ≡ Ok made → answered answer remote ≡ Some buffered →
      rebased flags buffered local ≡ change_of flags (is_indirect local) hub (client_after flags made remote client)
  over_one_remote flags key base client hub local remote buffered number kind Omit made h met is has =
      let not_made : false ≡ made = cc is in
      let same : flagged false remote ≡ buffered = cc has in
      let flag = flag_of false remote in
      let made' : change_of flags (is_indirect (flagged false remote)) base hub ≡ Some (flagged false remote) =
      ap (λ i. change_of flags i base hub) flag ∙ sym (reflagged_between flags false (is_indirect remote) base hub) ∙ ap (option_map (flagged false)) h.remote_is in
      subst (λ (r : RowChange A). rebased flags r local ≡ change_of flags (is_indirect local) hub (client_after flags made remote client)) same
      (by_flag flags false (flagged false remote) local flag
      ∙ omitted flags key base client hub local (flagged false remote) h.base_under h.client_under h.hub_under h.local_is made'
      ∙ ap (λ b. change_of flags (is_indirect local) hub (client_after flags b remote client)) not_made)
  over_one_remote flags key base client hub local remote buffered number kind Replace made h met is has =
      let made_so = made_is number kind is in
      let same : flagged true remote ≡ buffered = cc has in
      subst (λ (r : RowChange A). rebased flags r local ≡ change_of flags (is_indirect local) hub (client_after flags made remote client)) same
      (by_flag flags true (flagged true remote) local (flag_of true remote)
      ∙ replaced flags key (is_indirect local) (is_indirect remote) base client hub local remote kind h.base_under h.client_under h.hub_under h.local_is h.remote_is met made_so.1
      ∙ ap (λ b. change_of flags (is_indirect local) hub (client_after flags b remote client)) made_so.0)
  over_one_remote flags key base client hub local remote buffered number kind Abort made h met is has = absurd (cc has)

  pub over_no_conflict : (flags : List Bool) (key : Fields A) (base client hub : Option (Fields A)) (local remote : RowChange A) →
      HaveOneBase flags key base client hub local remote → conflict_at flags remote client ≡ None → change_of flags (is_indirect local) hub (client_after flags true remote client) ≡ Some local
  over_no_conflict flags key base client hub local remote h met =
      unmet flags key (is_indirect local) (is_indirect remote) base client hub local remote h.base_under h.client_under h.hub_under h.local_is h.remote_is met

  after_made : (flags : List Bool) (key : Fields A) (base client hub : Option (Fields A)) (local remote : RowChange A) (made : Bool) →
      HaveOneBase flags key base client hub local remote → IsUnder flags key (client_after flags made remote client)
  after_made flags key base client hub local remote true h = after_under flags key (is_indirect remote) base client hub remote h.base_under h.client_under h.hub_under h.remote_is
  after_made flags key base client hub local remote false h = h.client_under

  pub leads_on_the_hub : (flags : List Bool) (key : Fields A) (base client hub : Option (Fields A)) (local remote buffered : RowChange A) (number : ℕ) (kind : ConflictKind) (answer : Answer) (made : Bool) →
      HaveOneBase flags key base client hub local remote → conflict_at flags remote client ≡ Some kind → made_anyway number kind answer ≡ Ok made → answered answer remote ≡ Some buffered →
      Leads flags hub (rebased flags buffered local) (client_after flags made remote client)
  leads_on_the_hub flags key base client hub local remote buffered number kind answer made h met is has =
      leads flags key (is_indirect local) hub (client_after flags made remote client) (rebased flags buffered local) h.hub_under (after_made flags key base client hub local remote made h)
      (over_one_remote flags key base client hub local remote buffered number kind answer made h met is has)

  -- ---- several remote changes, one after the other

  flag_is : (flags : List Bool) (indirect : Bool) (before after : Option (Fields A)) (change : RowChange A) → change_of flags indirect before after ≡ Some change → is_indirect change ≡ indirect
  flag_is flags indirect before after change e =
      let twice : Some (flagged indirect change) ≡ Some change = ap (option_map (flagged indirect)) (sym e) ∙ reflagged_between flags indirect indirect before after ∙ e in
      let same : flagged indirect change ≡ change = cc twice in
      ap is_indirect (sym same) ∙ flag_of indirect change

  not_none : (remote : RowChange A) (number : ℕ) (kind : ConflictKind) (answer : Answer) (made : Bool) → made_anyway number kind answer ≡ Ok made → None ≡ answered answer remote → ⊥
  not_none remote number kind Omit made is has = absurd (cc has)
  not_none remote number kind Replace made is has = absurd (cc has)
  not_none remote number kind Abort made is has = absurd (cc is)

  unchanged : (flags : List Bool) (indirect : Bool) (row : Option (Fields A)) → None ≡ change_of flags indirect row row
  unchanged flags indirect None = refl
  unchanged flags indirect (Some row) = sym (change_of-same flags indirect row row refl)

  -- over what a buffer has of one more remote change
  abbrev stepped : List Bool → Option (RowChange A) → Option (RowChange A) → Option (RowChange A)
  stepped flags local None = local
  stepped flags local (Some remote) = rebased_next flags local remote

  over_more : (flags : List Bool) (local buffered : Option (RowChange A)) (remotes : List (RowChange A)) → rebased_over flags local (cons_option buffered remotes) ≡ rebased_over flags (stepped flags local buffered) remotes
  over_more flags local None remotes = refl
  over_more flags local (Some remote) remotes = refl

  module _ (flags : List Bool) (key : Fields A) (indirect : Bool) (base client : Option (Fields A)) (remote : Remote A) (b : IsUnder flags key base) (c : IsUnder flags key client) (m : IsUnder flags key remote.hub)
      (is : change_of flags (is_indirect remote.change) base remote.hub ≡ Some remote.change) where
    abbrev Steps : Option (RowChange A) → Bool → Type 0
    Steps local made = stepped flags local remote.buffered ≡ change_of flags indirect remote.hub (client_after flags made remote.change client)

    some_unmet : (local : RowChange A) → change_of flags indirect base client ≡ Some local → conflict_at flags remote.change client ≡ None → remote.buffered ≡ None → Steps (Some local) true
    some_unmet local e met nothing =
        ap (stepped flags (Some local)) nothing ∙ sym (unmet flags key indirect (is_indirect remote.change) base client remote.hub local remote.change b c m e is met)

    some_met : (local : RowChange A) (kind : ConflictKind) (number : ℕ) (answer : Answer) (made : Bool) → change_of flags indirect base client ≡ Some local → conflict_at flags remote.change client ≡ Some kind →
        made_anyway number kind answer ≡ Ok made → (o : Option (RowChange A)) → o ≡ answered answer remote.change →
        stepped flags (Some local) o ≡ change_of flags indirect remote.hub (client_after flags made remote.change client)
    some_met local kind number answer made e met so None has = absurd (not_none remote.change number kind answer made so has)
    some_met local kind number answer made e met so (Some one) has =
        let flag = flag_is flags indirect base client local e in
        let local_is : change_of flags (is_indirect local) base client ≡ Some local = ap (λ i. change_of flags i base client) flag ∙ e in
        over_one_remote flags key base client remote.hub local remote.change one number kind answer made
        (record { base_under = b; client_under = c; hub_under = m; local_is = local_is; remote_is = is }) met so (sym has)
        ∙ ap (λ i. change_of flags i remote.hub (client_after flags made remote.change client)) flag

    -- nothing is left where the client has the hub's row
    none_left : None ≡ change_of flags indirect base client → (conflict_at flags remote.change client ≡ None) × (client_after flags true remote.change client ≡ remote.hub)
    none_left e =
        let rows : base ≡ client = leads flags key indirect base client None b c e in
        let asks = asks_by_change flags (is_indirect remote.change) key base remote.hub remote.change b m is in
        (ap (conflict_at flags remote.change) (sym rows) ∙ asks.met, ap (client_after flags true remote.change) (sym rows) ∙ asks.leaves)

    one_step : (local : Option (RowChange A)) → local ≡ change_of flags indirect base client → (met : Option ConflictKind) → conflict_at flags remote.change client ≡ met → (made : Bool) → IsApplied met remote made → Steps local made
    one_step (Some local) e None met made (nothing, so) = subst (Steps (Some local)) (sym so) (some_unmet local (sym e) met nothing)
    one_step (Some local) e (Some kind) met made (number, answer, so, has) = some_met local kind number answer made (sym e) met so remote.buffered has
    one_step None e None met made (nothing, so) =
        subst (Steps None) (sym so) (ap (stepped flags None) nothing ∙ unchanged flags indirect remote.hub ∙ ap (change_of flags indirect remote.hub) (sym (none_left e).1))
    one_step None e (Some kind) met made applied = absurd (no_conflict (conflict_at flags remote.change client) met (none_left e).0)

    under_after : (made : Bool) → IsUnder flags key (client_after flags made remote.change client)
    under_after true = after_under flags key (is_indirect remote.change) base client remote.hub remote.change b c m is
    under_after false = c

  pub over_each : (flags : List Bool) (key : Fields A) (indirect : Bool) (base client : Option (Fields A)) (remotes : List (Remote A)) (last_client last_hub : Option (Fields A)) →
      IsUnder flags key base → IsUnder flags key client → AreApplied flags key client base remotes last_client last_hub →
      rebased_over flags (change_of flags indirect base client) (all_buffered remotes) ≡ change_of flags indirect last_hub last_client
  over_each flags key indirect base client [] last_client last_hub b c h = λ i. change_of flags indirect (h.1 i) (h.0 i)
  over_each flags key indirect base client (remote ∷ remotes) last_client last_hub b c (m, is, (made, applied, more)) =
      over_more flags (change_of flags indirect base client) remote.buffered (all_buffered remotes)
      ∙ ap (λ (o : Option (RowChange A)). rebased_over flags o (all_buffered remotes))
      (one_step flags key indirect base client remote b c m is (change_of flags indirect base client) refl (conflict_at flags remote.change client) refl made applied)
      ∙ over_each flags key indirect remote.hub (client_after flags made remote.change client) remotes last_client last_hub m
      (under_after flags key indirect base client remote b c m is made) more
