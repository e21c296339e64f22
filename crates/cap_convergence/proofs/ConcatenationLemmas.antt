-- The concatenation of changesets in a row leads from the first rows to the last.
use Rattle.std.proofs.Common.{◌≡◌, ℕ, ◌≤◌, Bool, true, false, cond, List, [], ◌∷◌, length, Option, Some, None, Result, Ok, refl, ap, sym, subst, ◌∙◌, arith}
use Rattle.std.specs.Prelude.{IfSome, map}
use Rattle.std.specs.List.{AllByRecursion, cons_option}
use Rattle.std.specs.Cmp.Lexicographic.{bytes_decides}
use Rattle.std.proofs.lemmas.List.Elements.{All-from_recursion, recursion_from_All}
use Rattle.cap_value.specs.Bytes.{bytes_eq}
use Rattle.cap_row.specs.Fields.{Fields}
use Rattle.cap_row.specs.Key.{fields_eq, fields_eq_decides, is_key}
use Rattle.cap_row.specs.Schema.{has_key}
use Rattle.cap_changes.specs.Change.{change_of}
use Rattle.cap_changes.specs.Entries.{IsFitting}
use Rattle.cap_changes.specs.Fits.{change_fits}
use Rattle.cap_changes.specs.Group.{TableChanges}
use Rattle.cap_changes.specs.declared.row_change.RowChange.{RowChange}
use Rattle.cap_codec.specs.Writable.{has_some}
use Rattle.cap_codec.specs.declared.read.Contents.{Contents}
use Rattle.cap_codec.specs.declared.read.Contents.TheVariants.{Changes}
use Rattle.cap_apply.specs.Fitting.{FitsItsColumns}
use Rattle.cap_group.specs.ChangeGroup.{concat_of}
use Rattle.cap_group.specs.ChangeKey.{change_key}
use Rattle.cap_group.specs.Combined.{combined}
use Rattle.cap_group.specs.Rows.{Follow, changes_of_row, together}
use Rattle.cap_group.specs.declared.refusal.GroupRefusal.{GroupRefusal}
use Rattle.cap_group_laws.proofs.JoinLemmas.{followed}
use Rattle.cap_captures.specs.Rows.{AreInARow, all_row_changes, row_changes}
use Rattle.cap_captures.proofs.ConcatLemmas.{IsMade, concatenated-whole, last_under}
use Rattle.cap_captures.proofs.RecordLemmas.{follow-next}
use Rattle.cap_convergence.specs.Convergence.{Columns, HasOneChangeEach, LeadsFrom, Rows}
use Rattle.cap_convergence.proofs.AppliedLemmas.{AreSound}
use Rattle.cap_convergence.proofs.KeyLemmas.{all_append, all_turn, append_none, change_between_fits, group_row, has_its_key, is_under, some_same}
use Rattle.cap_convergence.proofs.TurnLemmas.{sound_from}

few : {X : Type 0} (o : Option X) → length (cons_option o []) ≤ 1
few None = omega arith
few (Some x) = omega arith

module _ {A : Type 0} (columns : Columns) where
  -- a table with a key, and a key of it
  abbrev IsKeyOf : List Bool → Fields A → Type 0
  IsKeyOf flags key = (has_key flags ≡ true) × (is_key key ≡ true)

  -- a row with a change has a key
  changes_keyed : (flags : List Bool) (key : Fields A) → has_key flags ≡ true → (changes : List (RowChange A)) → AllByRecursion (λ change. change_fits flags change ≡ true) changes
      → AllByRecursion (λ change. IsKeyOf flags key) (changes_of_row change_key flags key changes)
  changes_keyed flags key keyed [] fits = tt
  changes_keyed flags key keyed (change ∷ changes) fits =
      let rest = changes_of_row change_key flags key changes in
      elim (fields_eq (change_key flags change) key) as (λ b. fields_eq (change_key flags change) key ≡ b → AllByRecursion (λ c. IsKeyOf flags key) (cond b (change ∷ rest) rest)) [
        | true ↦ λ same. ((keyed, ap is_key (sym ((fields_eq_decides (change_key flags change) key).0 same)) ∙ has_its_key flags change keyed fits.0), changes_keyed flags key keyed changes fits.1)
        | false ↦ λ _. changes_keyed flags key keyed changes fits.1
      ] refl

  group_keyed : (name : List ℕ) (flags : List Bool) (key : Fields A) → columns name ≡ Some flags → (group : TableChanges A) → columns group.table ≡ Some group.schema → has_key group.schema ≡ true
      → AllByRecursion (λ change. change_fits group.schema change ≡ true) group.changes → AllByRecursion (λ change. IsKeyOf flags key) (group_row name key group)
  group_keyed name flags key is group known keyed fits =
      elim (bytes_eq group.table name) as (λ b. bytes_eq group.table name ≡ b → AllByRecursion (λ change. IsKeyOf flags key) (cond b (changes_of_row change_key group.schema key group.changes) [])) [
        | true ↦ λ same.
            let flags_are : group.schema ≡ flags = some_same (sym known ∙ ap columns ((bytes_decides group.table name).0 same) ∙ is) in
            subst (λ f. AllByRecursion (λ change. IsKeyOf f key) (changes_of_row change_key group.schema key group.changes)) flags_are (changes_keyed group.schema key keyed group.changes fits)
        | false ↦ λ _. tt
      ] refl

  row_keyed : (name : List ℕ) (flags : List Bool) (key : Fields A) → columns name ≡ Some flags → (groups : List (TableChanges A)) → AreSound columns groups → AllByRecursion (λ change. IsKeyOf flags key) (row_changes name key groups)
  row_keyed name flags key is [] all = tt
  row_keyed name flags key is (group ∷ groups) all =
      all_append (λ change. IsKeyOf flags key) (group_row name key group) (row_changes name key groups) (group_keyed name flags key is group all.0.0 all.0.1 all.0.2) (row_keyed name flags key is groups all.1)

  all_keyed : (name : List ℕ) (flags : List Bool) (key : Fields A) → columns name ≡ Some flags → (lists : List (List (TableChanges A))) → AllByRecursion (AreSound columns) lists → AllByRecursion (λ change. IsKeyOf flags key) (all_row_changes name key lists)
  all_keyed name flags key is [] all = tt
  all_keyed name flags key is (list ∷ lists) all =
      all_append (λ change. IsKeyOf flags key) (row_changes name key list) (all_row_changes name key lists) (row_keyed name flags key is list all.0) (all_keyed name flags key is lists all.1)

  -- what changes of a row are together is something only where there are some
  some_keyed : (flags : List Bool) (key : Fields A) (changes : List (RowChange A)) (change : RowChange A) → together combined flags changes ≡ Some change → AllByRecursion (λ c. IsKeyOf flags key) changes → IsKeyOf flags key
  some_keyed flags key [] change is all = cc
  some_keyed flags key (first ∷ changes) change is all = all.0

  lists_sound : (lists : List (List (TableChanges A))) → AllByRecursion (λ groups. AllByRecursion (λ group. columns group.table ≡ Some group.schema) groups) lists → AllByRecursion (λ list. FitsItsColumns (Changes list)) lists
      → AllByRecursion (AreSound columns) lists
  lists_sound [] known fit = tt
  lists_sound (list ∷ lists) known fit = (sound_from columns list known.0 (recursion_from_All (IsFitting change_fits) list fit.0), lists_sound lists known.1 fit.1)

  module _ (first last : Rows A) (lists : List (List (TableChanges A))) (in_a_row : AreInARow columns first last lists) (fit : AllByRecursion (λ list. FitsItsColumns (Changes list)) lists) where
    all_sound : AllByRecursion (AreSound columns) lists
    all_sound = lists_sound lists in_a_row.schemas fit

    -- a change of the concatenation, between two rows under its key
    made_fits : (name : List ℕ) (flags : List Bool) (key : Fields A) (change : RowChange A) → columns name ≡ Some flags → together combined flags (all_row_changes name key lists) ≡ Some change
        → (has_key flags ≡ true) × (change_fits flags change ≡ true)
    made_fits name flags key change is made =
        let changes = all_row_changes name key lists in
        let under = in_a_row.under name flags key is in
        let follow = in_a_row.rows name flags key is in
        let keyed = some_keyed flags key changes change made (all_keyed name flags key is lists all_sound) in
        let whole = followed flags key (first name key) changes (last name key) under follow in
        let fits = change_between_fits flags key whole.0 (first name key) (last name key) (is_under flags key keyed.1 (first name key) under)
        (is_under flags key keyed.1 (last name key) (last_under flags key (first name key) changes (last name key) under follow)) in
        (keyed.0, subst (λ o. IfSome o (λ c. change_fits flags c ≡ true)) (sym whole.1 ∙ made) fits)

    each_fits : (group : TableChanges A) → columns group.table ≡ Some group.schema → (changes : List (RowChange A))
        → AllByRecursion (λ change. together combined group.schema (all_row_changes group.table (change_key group.schema change) lists) ≡ Some change) changes → AllByRecursion (λ change. change_fits group.schema change ≡ true) changes
    each_fits group known [] made = tt
    each_fits group known (change ∷ changes) made = ((made_fits group.table group.schema (change_key group.schema change) change known made.0).1, each_fits group known changes made.1)

    group_fits : (group : TableChanges A) → IsMade columns lists group → IsFitting change_fits group
    group_fits group made = record {
      keyed = keyed group.changes made.some made.made;
      each = All-from_recursion (λ change. change_fits group.schema change ≡ true) group.changes (each_fits group made.known group.changes made.made);
    }
      where
        keyed : (changes : List (RowChange A)) → has_some changes ≡ true → AllByRecursion (λ change. together combined group.schema (all_row_changes group.table (change_key group.schema change) lists) ≡ Some change) changes
            → has_key group.schema ≡ true
        keyed [] some all = cc
        keyed (change ∷ changes) some all = (made_fits group.table group.schema (change_key group.schema change) change made.known all.0).0

    pub concatenation_leads : (groups : List (TableChanges A)) → concat_of (map Changes lists) ≡ Ok (Changes groups) → LeadsFrom columns first last groups × HasOneChangeEach groups
    concatenation_leads groups is =
        let whole = concatenated-whole columns first last lists in_a_row in
        subst (λ made. LeadsFrom columns first last made × HasOneChangeEach made) (same_changes whole.0 groups (sym whole.1 ∙ is)) (
          record {
            fits = All-from_recursion (IsFitting change_fits) whole.0 (all_turn (IsMade columns lists) (IsFitting change_fits) group_fits whole.0 whole.2.each);
            rows = record {
              schemas = (all_turn (IsMade columns lists) (λ group. columns group.table ≡ Some group.schema) (λ group made. made.known) whole.0 whole.2.each, tt);
              under = in_a_row.under;
              rows = λ name flags key known.
                  let changes = all_row_changes name key lists in
                  let under = in_a_row.under name flags key known in
                  let follow = in_a_row.rows name flags key known in
                  let one = followed flags key (first name key) changes (last name key) under follow in
                  subst (λ l. Follow flags key (first name key) l (last name key))
                  (ap (λ o. cons_option o []) (sym one.1) ∙ sym (whole.2.together.rows name flags key known) ∙ append_none (row_changes name key whole.0))
                  (follow-next flags key one.0 (first name key) [] (first name key) (last name key) refl (last_under flags key (first name key) changes (last name key) under follow) (change_of flags one.0 (first name key) (last name key)) refl);
            };
          },
          λ name key. elim (columns name) as (λ o. columns name ≡ o → length (row_changes name key whole.0) ≤ 1) [
            | None ↦ λ none. subst (λ (l : List (RowChange A)). length l ≤ 1) (sym (whole.2.together.others name key none)) (few {X = RowChange A} None)
            | Some flags ↦ λ known. subst (λ (l : List (RowChange A)). length l ≤ 1) (sym (whole.2.together.rows name flags key known)) (few (together combined flags (all_row_changes name key lists)))
          ] refl,
        )
      where
        same_changes : (a b : List (TableChanges A)) → (let made : Result (Contents A) GroupRefusal = Ok (Changes a) in made) ≡ Ok (Changes b) → a ≡ b
        same_changes a b e = cc
