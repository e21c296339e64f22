-- A changeset that leads from the rows of a database, applied to it: no conflict, and the rows after.
use Rattle.std.proofs.Common.{◌≡◌, ℕ, ◌+◌, Bool, true, false, cond, List, [], ◌∷◌, length, map, Option, Some, Ok, refl, ap, sym, subst, ◌∙◌, arith}
use Rattle.std.specs.Option.{ForSome}
use Rattle.std.specs.List.{AllByRecursion}
use Rattle.std.specs.Cmp.Lexicographic.{bytes_decides}
use Rattle.std.proofs.lemmas.List.{length-map}
use Rattle.std.proofs.lemmas.List.Sums.{sum_by-cons}
use Rattle.cap_value.specs.Bytes.{bytes_eq}
use Rattle.cap_row.specs.Fields.{Fields}
use Rattle.cap_row.specs.Key.{fields_eq, fields_eq_decides}
use Rattle.cap_row.specs.Schema.{has_key}
use Rattle.cap_database.specs.Read.{row_at}
use Rattle.cap_database.specs.Tables.{AreRising, Tables, table_of}
use Rattle.cap_changes.specs.Fits.{change_fits}
use Rattle.cap_changes.specs.Group.{TableChanges}
use Rattle.cap_changes.specs.declared.row_change.RowChange.{RowChange}
use Rattle.cap_codec.specs.declared.read.Contents.TheVariants.{Changes}
use Rattle.cap_apply.specs.Applied.{AppliedState}
use Rattle.cap_apply.specs.Apply.{and_then, change_applied, changes_applied, counted, groups_applied, nothing_applied, with_row_in}
use Rattle.cap_apply_laws.specs.Counted.{change_count}
use Rattle.cap_apply.specs.Report.{ReportState}
use Rattle.cap_apply.specs.Requested.{requested_by_change, requested_in}
use Rattle.cap_apply.specs.declared.policy.Policy.{Policy}
use Rattle.cap_apply_laws.proofs.CaptureLemmas.{asks_by_change, captured_one}
use Rattle.cap_apply.proofs.GroupLemmas.{group_there}
use Rattle.cap_group.specs.ChangeKey.{change_key}
use Rattle.cap_group.specs.Rows.{Follow, IsRowUnder, changes_of_row, is_indirect}
use Rattle.cap_captures.specs.Rows.{row_changes}
use Rattle.cap_convergence.specs.Convergence.{Columns, HasTables, HaveSameRows, IsAppliedWhole, LeadsFrom, Rows}
use Rattle.cap_convergence.proofs.KeyLemmas.{group_row, has_its_key, is_under, some_same}
use Rattle.cap_convergence.proofs.StepLemmas.{RowPut, Stands, found_row, row_put, same_rows}
use Rattle.cap_convergence.proofs.AppliedLemmas.{AllStand, AreSound, follow_parts, has_target, stays}
use Rattle.cap_convergence.proofs.TurnLemmas.{all_stand, follows, sound}

module _ {A : Type 0} where
  -- ---- changes of one group

  module _ (policy : Policy) (name : List ℕ) (flags : List Bool) (keyed : has_key flags ≡ true) where
    -- the changes of each row lead somewhere from the row that is there
    record LeadSomewhere (database : Tables A) (changes : List (RowChange A)) : Type 0 where
      under : (key : Fields A) → ForSome (row_at database name key) (IsRowUnder flags key)
      follow : (key : Fields A) → (next : Option (Fields A)) × Follow flags key (row_at database name key) (changes_of_row change_key flags key changes) next

    -- what is left: each change is made without a conflict
    record AreMade (changes : List (RowChange A)) (number : ℕ) (state : AppliedState A) : Type 0 where
      left : AppliedState A
      applied : changes_applied policy number name flags (map (requested_by_change flags) changes) state ≡ Ok left
      stands : Stands name flags left.database
      under : (key : Fields A) → ForSome (row_at left.database name key) (IsRowUnder flags key)
      others : (other : List ℕ) → bytes_eq name other ≡ false → table_of left.database other ≡ table_of state.database other
      report : left.report ≡ record state.report { applied = state.report.applied + length changes }
      rows : (key : Fields A) (next : Option (Fields A)) → Follow flags key (row_at state.database name key) (changes_of_row change_key flags key changes) next → row_at left.database name key ≡ next

    module _ (change : RowChange A) (changes : List (RowChange A)) (number : ℕ) (state : AppliedState A) (s : Stands name flags state.database) (fits : change_fits flags change ≡ true)
        (lead : LeadSomewhere state.database (change ∷ changes)) where
      abbrev its_key : Fields A
      its_key = change_key flags change

      abbrev its_row : Option (Fields A)
      its_row = row_at state.database name its_key

      abbrev of_row : Fields A → List (RowChange A)
      of_row key = changes_of_row change_key flags key changes

      -- the changes of the row of the change
      own_changes : (next : Option (Fields A)) → Follow flags its_key its_row (changes_of_row change_key flags its_key (change ∷ changes)) next → Follow flags its_key its_row (change ∷ of_row its_key) next
      own_changes next follow = subst (λ b. Follow flags its_key its_row (cond b (change ∷ of_row its_key) (of_row its_key)) next) ((fields_eq_decides its_key its_key).1 refl) follow

      first_follow : Follow flags its_key its_row (change ∷ of_row its_key) (lead.follow its_key).0
      first_follow = own_changes (lead.follow its_key).0 (lead.follow its_key).1

      abbrev its_next : Option (Fields A)
      its_next = first_follow.0

      abbrev its_mid : AppliedState A
      its_mid = counted (with_row_in name s.table its_key its_row its_next state)

      its_applied : change_applied policy number name flags (requested_by_change flags change) state ≡ Ok its_mid
      its_applied =
          let key_is = has_its_key flags change keyed fits in
          let asks = asks_by_change flags (is_indirect change) its_key its_row its_next change (is_under flags its_key key_is its_row (lead.under its_key)) (is_under flags its_key key_is its_next first_follow.1) first_follow.2 in
          captured_one policy number name flags (requested_by_change flags change) state s.table its_key its_row its_next s.there s.columns (sym (found_row name state.database s.table s.there its_key)) asks

      its_put : RowPut name flags its_key its_next state.database its_mid.database
      its_put = row_put name flags its_key its_next state.database s

      under_next : (key : Fields A) → ForSome (row_at its_mid.database name key) (IsRowUnder flags key)
      under_next key =
          elim (fields_eq its_key key) as (λ b. fields_eq its_key key ≡ b → ForSome (row_at its_mid.database name key) (IsRowUnder flags key)) [
            | true ↦ λ same.
                subst (λ k. ForSome (row_at its_mid.database name k) (IsRowUnder flags k)) ((fields_eq_decides its_key key).0 same)
                (subst (λ row. ForSome row (IsRowUnder flags its_key)) (sym its_put.here) first_follow.1)
            | false ↦ λ apart. subst (λ row. ForSome row (IsRowUnder flags key)) (sym (its_put.rows key apart)) (lead.under key)
          ] refl

      follow_next : (key : Fields A) → (next : Option (Fields A)) × Follow flags key (row_at its_mid.database name key) (of_row key) next
      follow_next key =
          elim (fields_eq its_key key) as (λ b. fields_eq its_key key ≡ b → (next : Option (Fields A)) × Follow flags key (row_at state.database name key) (cond b (change ∷ of_row key) (of_row key)) next
          → (next : Option (Fields A)) × Follow flags key (row_at its_mid.database name key) (of_row key) next) [
            | true ↦ λ same f.
                subst (λ k. (next : Option (Fields A)) × Follow flags k (row_at its_mid.database name k) (of_row k) next) ((fields_eq_decides its_key key).0 same)
                ((lead.follow its_key).0, subst (λ row. Follow flags its_key row (of_row its_key) (lead.follow its_key).0) (sym its_put.here) first_follow.3)
            | false ↦ λ apart f. (f.0, subst (λ row. Follow flags key row (of_row key) f.0) (sym (its_put.rows key apart)) f.1)
          ] refl (lead.follow key)

      made_more : AreMade changes (number + 1) its_mid → AreMade (change ∷ changes) number state
      made_more more = record {
        left = more.left;
        applied = ap (λ r. and_then r (λ next. changes_applied policy (number + 1) name flags (map (requested_by_change flags) changes) next)) its_applied ∙ more.applied;
        stands = more.stands;
        under = more.under;
        others = λ other apart. more.others other apart ∙ its_put.others other apart;
        report =
            let count : state.report.applied + 1 + length changes ≡ state.report.applied + length (change ∷ changes) = omega arith in
            more.report ∙ ap (λ n. record state.report { applied = n }) count;
        rows = λ key next follow. elim (fields_eq its_key key) as (λ b. fields_eq its_key key ≡ b → Follow flags key (row_at state.database name key) (cond b (change ∷ of_row key) (of_row key)) next → row_at more.left.database name key ≡ next) [
          | true ↦ λ same.
              subst (λ k. Follow flags k (row_at state.database name k) (change ∷ of_row k) next → row_at more.left.database name k ≡ next) ((fields_eq_decides its_key key).0 same)
              (λ f. more.rows its_key next (subst (λ row. Follow flags its_key row (of_row its_key) next) (sym its_put.here) (same_end next f)))
          | false ↦ λ apart f. more.rows key next (subst (λ row. Follow flags key row (of_row key) next) (sym (its_put.rows key apart)) f)
        ] refl follow;
      }
        where
          -- the change leads to one row
          same_end : (next : Option (Fields A)) → Follow flags its_key its_row (change ∷ of_row its_key) next → Follow flags its_key its_next (of_row its_key) next
          same_end next (mid, under, is, later) =
              let key_is = has_its_key flags change keyed fits in
              let one = asks_by_change flags (is_indirect change) its_key its_row its_next change (is_under flags its_key key_is its_row (lead.under its_key)) (is_under flags its_key key_is its_next first_follow.1) first_follow.2 in
              let two = asks_by_change flags (is_indirect change) its_key its_row mid change (is_under flags its_key key_is its_row (lead.under its_key)) (is_under flags its_key key_is mid under) is in
              subst (λ row. Follow flags its_key row (of_row its_key) next) (sym two.leaves ∙ one.leaves) later

    made : (changes : List (RowChange A)) (number : ℕ) (state : AppliedState A) → AllByRecursion (λ change. change_fits flags change ≡ true) changes → Stands name flags state.database → LeadSomewhere state.database changes
        → AreMade changes number state
    made [] number state fits s lead = record {
      left = state;
      applied = refl;
      stands = s;
      under = lead.under;
      others = λ other apart. refl;
      report = let none : state.report.applied ≡ state.report.applied + 0 = omega arith in ap (λ n. record state.report { applied = n }) none;
      rows = λ key next follow. follow;
    }
    made (change ∷ changes) number state fits s lead =
        made_more change changes number state s fits.0 lead
        (made changes (number + 1) (its_mid change changes number state s fits.0 lead) fits.1 (its_put change changes number state s fits.0 lead).stands
        (record { under = under_next change changes number state s fits.0 lead; follow = follow_next change changes number state s fits.0 lead }))

  -- ---- groups

  module _ (columns : Columns) (policy : Policy) where
    -- the changes of each row lead somewhere from the row that is there
    record AllLeadSomewhere (database : Tables A) (groups : List (TableChanges A)) : Type 0 where
      under : (name : List ℕ) (flags : List Bool) (key : Fields A) → columns name ≡ Some flags → ForSome (row_at database name key) (IsRowUnder flags key)
      follow : (name : List ℕ) (flags : List Bool) (key : Fields A) → columns name ≡ Some flags → (next : Option (Fields A)) × Follow flags key (row_at database name key) (row_changes name key groups) next

    abbrev pub total : List (TableChanges A) → ℕ
    total groups = change_count {A = A} (Changes groups)

    pub record AreAllMade (groups : List (TableChanges A)) (place number : ℕ) (state : AppliedState A) : Type 0 where
      pub left : AppliedState A
      pub applied : groups_applied policy place number (map (requested_in requested_by_change) groups) state ≡ Ok left
      pub report : left.report ≡ record state.report { applied = state.report.applied + total groups }
      pub rows : (name : List ℕ) (flags : List Bool) (key : Fields A) → columns name ≡ Some flags → (next : Option (Fields A)) → Follow flags key (row_at state.database name key) (row_changes name key groups) next
          → row_at left.database name key ≡ next

    module _ (group : TableChanges A) (groups : List (TableChanges A)) (place number : ℕ) (state : AppliedState A) (known : columns group.table ≡ Some group.schema) (keyed : has_key group.schema ≡ true)
        (all : AllStand columns state.database) (lead : AllLeadSomewhere state.database (group ∷ groups)) where
      abbrev of_group : Fields A → List (RowChange A)
      of_group key = changes_of_row change_key group.schema key group.changes

      -- the changes of a row in the first group
      here : (key : Fields A) → group_row group.table key group ≡ of_group key
      here key = ap (λ b. cond b (of_group key) []) ((bytes_decides group.table group.table).1 refl)

      lead_here : LeadSomewhere policy group.table group.schema keyed state.database group.changes
      lead_here = record {
        under = λ key. lead.under group.table group.schema key known;
        follow = λ key.
            let whole = lead.follow group.table group.schema key known in
            let parts = follow_parts group.schema key (row_at state.database group.table key) whole.0 (group_row group.table key group) (row_changes group.table key groups) whole.1 in
            (parts.0, subst (λ l. Follow group.schema key (row_at state.database group.table key) l parts.0) (here key) parts.1);
      }

      module _ (one : AreMade policy group.table group.schema keyed group.changes number state) where
        abbrev its_left : AppliedState A
        its_left = one.left

        left_stand : AllStand columns its_left.database
        left_stand = stays columns group state.database its_left.database known all one.stands one.others

        -- the row after the first group
        row_next : (name : List ℕ) (flags : List Bool) (key : Fields A) → columns name ≡ Some flags → (next : Option (Fields A)) → Follow flags key (row_at state.database name key) (group_row name key group) next
            → row_at its_left.database name key ≡ next
        row_next name flags key is next follow =
            elim (bytes_eq group.table name) as (λ b. bytes_eq group.table name ≡ b → Follow flags key (row_at state.database name key) (cond b (of_group key) []) next → row_at its_left.database name key ≡ next) [
              | true ↦ λ same f.
                  let name_is = (bytes_decides group.table name).0 same in
                  let flags_are : group.schema ≡ flags = some_same (sym known ∙ ap columns name_is ∙ is) in
                  let f' = subst (λ n. Follow group.schema key (row_at state.database n key) (of_group key) next) (sym name_is) (subst (λ s. Follow s key (row_at state.database name key) (of_group key) next) (sym flags_are) f) in
                  subst (λ n. row_at its_left.database n key ≡ next) name_is (one.rows key next f')
              | false ↦ λ apart f. same_rows name its_left.database state.database (one.others name apart) key ∙ f
            ] refl follow

        lead_next : AllLeadSomewhere its_left.database groups
        lead_next = record {
          under = λ name flags key is. elim (bytes_eq group.table name) as (λ b. bytes_eq group.table name ≡ b → ForSome (row_at its_left.database name key) (IsRowUnder flags key)) [
            | true ↦ λ same.
                let name_is = (bytes_decides group.table name).0 same in
                let flags_are : group.schema ≡ flags = some_same (sym known ∙ ap columns name_is ∙ is) in
                subst (λ s. ForSome (row_at its_left.database name key) (IsRowUnder s key)) flags_are (subst (λ n. ForSome (row_at its_left.database n key) (IsRowUnder group.schema key)) name_is (one.under key))
            | false ↦ λ apart. subst (λ row. ForSome row (IsRowUnder flags key)) (sym (same_rows name its_left.database state.database (one.others name apart) key)) (lead.under name flags key is)
          ] refl;
          follow = λ name flags key is.
              let whole = lead.follow name flags key is in
              let parts = follow_parts flags key (row_at state.database name key) whole.0 (group_row name key group) (row_changes name key groups) whole.1 in
              (whole.0, subst (λ row. Follow flags key row (row_changes name key groups) whole.0) (sym (row_next name flags key is parts.0 parts.1)) parts.2);
        }

        all_made_more : AreAllMade groups (place + 1) (number + length group.changes) its_left → AreAllMade (group ∷ groups) place number state
        all_made_more more = record {
          left = more.left;
          applied =
              ap (λ r. and_then r (λ next. groups_applied policy (place + 1) (number + length (map (requested_by_change group.schema) group.changes)) (map (requested_in requested_by_change) groups) next))
              (group_there policy requested_by_change number group place state (has_target columns policy group.table group.schema state.database (all group.table group.schema known)) ∙ one.applied)
              ∙ ap (λ n. groups_applied policy (place + 1) (number + n) (map (requested_in requested_by_change) groups) its_left) (length-map group.changes (requested_by_change group.schema))
              ∙ more.applied;
          report =
              let sizes : total (group ∷ groups) ≡ length group.changes + total groups = sum_by-cons (λ n. n) (length group.changes) (map (λ (g : TableChanges A). length g.changes) groups) in
              let count : state.report.applied + length group.changes + total groups ≡ state.report.applied + total (group ∷ groups) = omega (arith, sizes) in
              more.report ∙ ap (λ (r : ReportState). record r { applied = r.applied + total groups }) one.report ∙ ap (λ n. record state.report { applied = n }) count;
          rows = λ name flags key is next follow.
              let parts = follow_parts flags key (row_at state.database name key) next (group_row name key group) (row_changes name key groups) follow in
              more.rows name flags key is next (subst (λ row. Follow flags key row (row_changes name key groups) next) (sym (row_next name flags key is parts.0 parts.1)) parts.2);
        }

    all_made : (groups : List (TableChanges A)) (place number : ℕ) (state : AppliedState A) → AreSound columns groups → AllStand columns state.database → AllLeadSomewhere state.database groups → AreAllMade groups place number state
    all_made [] place number state sound all lead = record {
      left = state;
      applied = refl;
      report = let none : state.report.applied ≡ state.report.applied + 0 = omega arith in ap (λ n. record state.report { applied = n }) none;
      rows = λ name flags key is next follow. follow;
    }
    all_made (group ∷ groups) place number state sound all lead =
        let one = made policy group.table group.schema sound.0.1 group.changes number state sound.0.2 (all group.table group.schema sound.0.0) (lead_here group groups place number state sound.0.0 sound.0.1 all lead) in
        all_made_more group groups place number state sound.0.0 sound.0.1 all lead one
        (all_made groups (place + 1) (number + length group.changes) one.left sound.1 (left_stand group groups place number state sound.0.0 sound.0.1 all lead one)
        (lead_next group groups place number state sound.0.0 sound.0.1 all lead one))

  -- the whole changeset
  pub applied_whole : (policy : Policy) (columns : Columns) (database : Tables A) (before after : Rows A) (changes : List (TableChanges A)) → AreRising database → HasTables columns database
      → HaveSameRows columns (row_at database) before → LeadsFrom columns before after changes
      → IsAppliedWhole columns after database changes policy
  applied_whole policy columns database before after changes rise has same leads =
      let follow : (name : List ℕ) (flags : List Bool) (key : Fields A) → columns name ≡ Some flags → Follow flags key (row_at database name key) (row_changes name key changes) (after name key)
      = λ name flags key is. subst (λ row. Follow flags key row (row_changes name key changes) (after name key)) (sym (same name flags key is)) (follows columns before after changes leads name flags key is) in
      let done = all_made columns policy changes 0 0 (nothing_applied database) (sound columns before after changes leads) (all_stand columns database rise has) (record {
        under = λ name flags key is. subst (λ row. ForSome row (IsRowUnder flags key)) (sym (same name flags key is)) (leads.rows.under name flags key is);
        follow = λ name flags key is. (after name key, follow name flags key is);
      }) in
      let all : 0 + change_count {A = A} (Changes changes) ≡ change_count {A = A} (Changes changes) = omega arith in
      (done.left, done.applied, done.report ∙ ap (λ n. record { applied = n; conflicts = []; omitted = []; skipped = [] }) all, λ name flags key is. done.rows name flags key is (after name key) (follow name flags key is))
