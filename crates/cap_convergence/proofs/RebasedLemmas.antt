-- A changeset of the client over the buffers leads from the hub's rows to the client's.
use Rattle.std.proofs.Common.{◌≡◌, ℕ, ◌+◌, ◌≤◌, Bool, true, false, cond, ◌&&◌, not, List, [], ◌∷◌, ◌++◌, length, map, Option, Some, None, Ok, refl, ap, sym, subst, ◌∙◌, arith}
use Rattle.std.specs.Prelude.{IfSome, filter, filter_map, flat_map}
use Rattle.std.specs.Option.{ForSome}
use Rattle.std.specs.List.{AllByRecursion, cons_option, list_any}
use Rattle.std.specs.Cmp.Lexicographic.{bytes_decides}
use Rattle.std.proofs.lemmas.List.Elements.{All-from_recursion}
use Rattle.cap_value.specs.Bytes.{bytes_eq}
use Rattle.cap_row.specs.Fields.{Fields}
use Rattle.cap_row.specs.Key.{fields_eq, fields_eq_decides, is_key}
use Rattle.cap_row.specs.Schema.{flags_eq, has_key}
use Rattle.cap_database.specs.Read.{row_at}
use Rattle.cap_database.specs.Tables.{AreRising, Tables}
use Rattle.cap_changes.specs.Change.{change_of}
use Rattle.cap_changes.specs.Entries.{IsFitting}
use Rattle.cap_changes.specs.Fits.{change_fits}
use Rattle.cap_changes.specs.Group.{TableChanges}
use Rattle.cap_changes.specs.declared.row_change.RowChange.{RowChange}
use Rattle.cap_codec.specs.Writable.{has_some}
use Rattle.cap_apply.specs.Difference.{IsUnder}
use Rattle.cap_group.specs.ChangeKey.{change_key}
use Rattle.cap_group.specs.Rows.{Follow, IsRowUnder, changes_of_row, is_indirect}
use Rattle.cap_rebase.specs.Flag.{are_of_one_row}
use Rattle.cap_rebase.specs.OneRow.{AreApplied, all_buffered}
use Rattle.cap_rebase.specs.Rebase.{rebased_over}
use Rattle.cap_rebase.specs.Rebaser.{Buffers, buffered, differ_in_columns, has_other_columns, of_its_row, rebase, rebased_group, rebased_in, rebased_list, refused_from, unless}
use Rattle.cap_rebase.specs.declared.refusal.RebaseRefusal.TheVariants.{OtherColumns}
use Rattle.cap_rebase.proofs.OneRowLemmas.{over_each}
use Rattle.cap_rebase.proofs.SameKeyLemmas.{one_row}
use Rattle.cap_captures.specs.Rows.{all_row_changes, row_changes}
use Rattle.cap_captures.proofs.CaptureLemmas.{row-under}
use Rattle.cap_captures.proofs.ConcatLemmas.{own_key}
use Rattle.cap_captures.proofs.RecordLemmas.{follow-next, unchanged}
use Rattle.cap_convergence.specs.Convergence.{Columns, HasOneChangeEach, LeadsFrom, Rows}
use Rattle.cap_convergence.proofs.KeyLemmas.{IsIn, all_filter, all_in, all_kept, all_turn, alone, append_none, change_between_fits, group_row, has_its_key, in_row, is_under, other_name, row_of_some, same_filter, same_test, some_same}
use Rattle.cap_convergence.proofs.AppliedLemmas.{AreSound, RowApplied}
use Rattle.cap_convergence.proofs.TurnLemmas.{InTurn, follows, sound}

flags_self : (a : List Bool) → flags_eq a a ≡ true
flags_self [] = refl
flags_self (true ∷ a) = flags_self a
flags_self (false ∷ a) = flags_self a

none_any : {X : Type 0} (p : X → Bool) (xs : List X) → AllByRecursion (λ x. p x ≡ false) xs → list_any p xs ≡ false
none_any p [] all = refl
none_any p (x ∷ xs) all = rw all.0 (none_any p xs all.1)

module _ {A : Type 0} where
  -- ---- the rebase is not refused

  module _ (columns : Columns) (group : TableChanges A) (known : columns group.table ≡ Some group.schema) where
    same_columns : (other : TableChanges A) → columns other.table ≡ Some other.schema → bytes_eq group.table other.table ≡ true → group.schema ≡ other.schema
    same_columns other is same = some_same (sym known ∙ ap columns ((bytes_decides group.table other.table).0 same) ∙ is)

    not_differing : (other : TableChanges A) → columns other.table ≡ Some other.schema → differ_in_columns group other ≡ false
    not_differing other is =
        elim (bytes_eq group.table other.table) as (λ b. bytes_eq group.table other.table ≡ b → (b && not (flags_eq group.schema other.schema)) ≡ false) [
          | true ↦ λ same. ap (λ s. not (flags_eq group.schema s)) (sym (same_columns other is same)) ∙ ap not (flags_self group.schema)
          | false ↦ λ apart. refl
        ] refl

    none_differs : (buffers : Buffers A) → AllByRecursion (AreSound columns) buffers → has_other_columns buffers group ≡ false
    none_differs buffers all =
        none_any (λ buffer. list_any (differ_in_columns group) buffer) buffers (all_turn (AreSound columns) (λ buffer. list_any (differ_in_columns group) buffer ≡ false)
        (λ buffer sound. none_any (differ_in_columns group) buffer
        (all_turn (λ (other : TableChanges A). (columns other.table ≡ Some other.schema) × (has_key other.schema ≡ true) × AllByRecursion (λ change. change_fits other.schema change ≡ true) other.changes)
        (λ other. differ_in_columns group other ≡ false) (λ other is. not_differing other is.0) buffer sound)) buffers all)

  not_refused : (columns : Columns) (buffers : Buffers A) → AllByRecursion (AreSound columns) buffers → (place : ℕ) (groups : List (TableChanges A)) → AreSound columns groups → refused_from place buffers groups ≡ None
  not_refused columns buffers all place [] is = refl
  not_refused columns buffers all place (group ∷ groups) is =
      ap (λ b. cond b (Some (OtherColumns place)) (refused_from (place + 1) buffers groups)) (none_differs columns group is.0.0 buffers all) ∙ not_refused columns buffers all (place + 1) groups is.1

  -- ---- the buffered changes of a row

  module _ (columns : Columns) (group : TableChanges A) (known : columns group.table ≡ Some group.schema) (change : RowChange A) (fits : change_fits group.schema change ≡ true) where
    abbrev its_key : Fields A
    its_key = change_key group.schema change

    same_row : (other : RowChange A) → change_fits group.schema other ≡ true → are_of_one_row group.schema change other ≡ fields_eq (change_key group.schema other) its_key
    same_row other fit =
        let law = one_row group.schema change other fits fit in
        same_test (are_of_one_row group.schema change other) (fields_eq (change_key group.schema other) its_key)
        (λ e. (fields_eq_decides (change_key group.schema other) its_key).1 (sym (law.0 e)))
        (λ e. law.1 (sym ((fields_eq_decides (change_key group.schema other) its_key).0 e)))

    found_in : (other : TableChanges A) → columns other.table ≡ Some other.schema → AllByRecursion (λ c. change_fits other.schema c ≡ true) other.changes → of_its_row group change other ≡ group_row group.table its_key other
    found_in other is all =
        let changes = other.changes in
        elim (bytes_eq group.table other.table) as (λ b. bytes_eq group.table other.table ≡ b → cond (b && flags_eq group.schema other.schema) (filter (are_of_one_row group.schema change) changes) [] ≡ group_row group.table its_key other) [
          | true ↦ λ same.
              let flags_are = same_columns columns group known other is same in
              let back : bytes_eq other.table group.table ≡ true = (bytes_decides other.table group.table).1 (sym ((bytes_decides group.table other.table).0 same)) in
              let all' = subst (λ s. AllByRecursion (λ c. change_fits s c ≡ true) changes) (sym flags_are) all in
              ap (λ s. cond (flags_eq group.schema s) (filter (are_of_one_row group.schema change) changes) []) (sym flags_are)
              ∙ ap (λ b. cond b (filter (are_of_one_row group.schema change) changes) []) (flags_self group.schema)
              ∙ same_filter (are_of_one_row group.schema change) (λ c. fields_eq (change_key group.schema c) its_key) changes
              (all_turn (λ c. change_fits group.schema c ≡ true) (λ c. are_of_one_row group.schema change c ≡ fields_eq (change_key group.schema c) its_key) same_row changes all')
              ∙ ap (λ s. changes_of_row change_key s its_key changes) flags_are
              ∙ sym (ap (λ b. cond b (changes_of_row change_key other.schema its_key changes) []) back)
          | false ↦ λ apart. sym (ap (λ b. cond b (changes_of_row change_key other.schema its_key changes) []) (other_name group.table other.table apart))
        ] refl

    found_in_buffer : (buffer : List (TableChanges A)) → AreSound columns buffer → flat_map (of_its_row group change) buffer ≡ row_changes group.table its_key buffer
    found_in_buffer [] all = refl
    found_in_buffer (other ∷ buffer) all = λ i. found_in other all.0.0 all.0.2 i ++ found_in_buffer buffer all.1 i

    pub found_in_buffers : (buffers : Buffers A) → AllByRecursion (AreSound columns) buffers → buffered buffers group change ≡ all_row_changes group.table its_key buffers
    found_in_buffers [] all = refl
    found_in_buffers (buffer ∷ buffers) all = λ i. found_in_buffer buffer all.0 i ++ found_in_buffers buffers all.1 i

  -- ---- changes of a row that become the change between two rows

  kept_row : (flags : List Bool) (key : Fields A) (o : Option (RowChange A)) (own : Fields A) (rest : List (RowChange A)) → IfSome o (λ change. change_key flags change ≡ own)
      → changes_of_row change_key flags key (cons_option o rest) ≡ cond (fields_eq own key) (cons_option o (changes_of_row change_key flags key rest)) (changes_of_row change_key flags key rest)
  kept_row flags key None own rest is = elim (fields_eq own key) as (λ b. changes_of_row change_key flags key rest ≡ cond b (changes_of_row change_key flags key rest) (changes_of_row change_key flags key rest)) [ true ↦ refl | false ↦ refl ]
  kept_row flags key (Some change) own rest is =
      ap (λ k. cond (fields_eq k key) (change ∷ changes_of_row change_key flags key rest) (changes_of_row change_key flags key rest)) is

  few_kept : (h : RowChange A → Option (RowChange A)) (xs : List (RowChange A)) → length xs ≤ 1 → length (filter_map h xs) ≤ 1
  few_kept h [] few = omega arith
  few_kept h (x ∷ []) few = one (h x)
    where
      one : (o : Option (RowChange A)) → length (cons_option o []) ≤ 1
      one None = omega arith
      one (Some y) = omega arith
  few_kept h (x ∷ y ∷ xs) few = absurd (omega (arith, few))

  -- no group is of a table without columns
  no_row : (columns : Columns) (groups : List (TableChanges A)) (name : List ℕ) (key : Fields A) → AreSound columns groups → columns name ≡ None → row_changes name key groups ≡ []
  no_row columns [] name key all none = refl
  no_row columns (group ∷ groups) name key all none =
      let apart : bytes_eq group.table name ≡ false =
      elim (bytes_eq group.table name) as (λ b. bytes_eq group.table name ≡ b → b ≡ false) [
        | true ↦ λ same. let clash : Some group.schema ≡ None = sym all.0.0 ∙ ap columns ((bytes_decides group.table name).0 same) ∙ none in cc
        | false ↦ λ _. refl
      ] refl in
      ap (λ b. cond b (changes_of_row change_key group.schema key group.changes) [] ++ row_changes name key groups) apart ∙ no_row columns groups name key all.1 none

  module _ (columns : Columns) (base hub : Rows A) (client last : Tables A) (buffers : Buffers A) (local : List (TableChanges A)) (client_rises : AreRising client)
      (leads : LeadsFrom columns base (row_at client) local) (once : HasOneChangeEach local) (turn : InTurn columns base client buffers hub last) where
    -- the change from the hub's row to the client's
    abbrev between : List Bool → List ℕ → Fields A → RowChange A → Option (RowChange A)
    between flags name key change = change_of flags (is_indirect change) (hub name key) (row_at last name key)

    local_sound : AreSound columns local
    local_sound = sound columns base (row_at client) local leads

    one_follows : (flags : List Bool) (key : Fields A) (before after : Option (Fields A)) (change : RowChange A) → Follow flags key before (change ∷ []) after → change_of flags (is_indirect change) before after ≡ Some change
    one_follows flags key before after change (mid, under, is, same) = ap (change_of flags (is_indirect change) before) (sym same) ∙ is

    one_ends : (flags : List Bool) (key : Fields A) (before after : Option (Fields A)) (change : RowChange A) → Follow flags key before (change ∷ []) after → ForSome after (IsRowUnder flags key)
    one_ends flags key before after change (mid, under, is, same) = subst (λ row. ForSome row (IsRowUnder flags key)) same under

    -- a local change, over the buffers
    rebased_is : (group : TableChanges A) → IsIn group local → columns group.table ≡ Some group.schema → has_key group.schema ≡ true → (change : RowChange A) → IsIn change group.changes → change_fits group.schema change ≡ true
        → rebased_in buffers group change ≡ between group.schema group.table (change_key group.schema change) change
    rebased_is group in_local known keyed change in_group fits =
        let flags = group.schema in
        let name = group.table in
        let key = change_key flags change in
        let row = alone change (row_changes name key local) (in_row group local in_local change in_group) (once name key) in
        let follow = subst (λ l. Follow flags key (base name key) l (row_at client name key)) row (follows columns base (row_at client) local leads name flags key known) in
        let key_is = has_its_key flags change keyed fits in
        let row_applied = turn.row name flags key known in
        ap (rebased_over flags (Some change)) (found_in_buffers columns group known change fits buffers turn.buffers_sound ∙ sym row_applied.buffered_is)
        ∙ ap (λ o. rebased_over flags o (all_buffered row_applied.remotes)) (sym (one_follows flags key (base name key) (row_at client name key) change follow))
        ∙ over_each flags key (is_indirect change) (base name key) (row_at client name key) row_applied.remotes (row_at last name key) (hub name key)
        (is_under flags key key_is (base name key) (leads.rows.under name flags key known)) (is_under flags key key_is (row_at client name key) (one_ends flags key (base name key) (row_at client name key) change follow)) row_applied.applied

    hub_under : (name : List ℕ) (flags : List Bool) (key : Fields A) → columns name ≡ Some flags → ForSome (hub name key) (IsRowUnder flags key)
    hub_under = turn.under

    last_row_under : (name : List ℕ) (flags : List Bool) (key : Fields A) → columns name ≡ Some flags → ForSome (row_at last name key) (IsRowUnder flags key)
    last_row_under name flags key is = row-under last turn.rise name flags key (turn.tables name flags is)

    own : (flags : List Bool) (name : List ℕ) (key : Fields A) → columns name ≡ Some flags → (change : RowChange A) → IfSome (between flags name key change) (λ made. change_key flags made ≡ key)
    own flags name key is change = by_change (between flags name key change) refl
      where
        by_change : (o : Option (RowChange A)) → between flags name key change ≡ o → IfSome o (λ made. change_key flags made ≡ key)
        by_change None e = tt
        by_change (Some made) e = own_key flags key (is_indirect change) (hub name key) (row_at last name key) made (hub_under name flags key is) (last_row_under name flags key is) e

    abbrev IsRebased : TableChanges A → RowChange A → Type 0
    IsRebased group change = (rebased_in buffers group change ≡ between group.schema group.table (change_key group.schema change) change) × (change_fits group.schema change ≡ true)

    each_change : (group : TableChanges A) → IsIn group local → columns group.table ≡ Some group.schema → has_key group.schema ≡ true → (changes : List (RowChange A)) → AllByRecursion (λ c. IsIn c group.changes) changes
        → AllByRecursion (λ c. change_fits group.schema c ≡ true) changes → AllByRecursion (IsRebased group) changes
    each_change group in_local known keyed [] all fits = tt
    each_change group in_local known keyed (change ∷ changes) all fits =
        ((rebased_is group in_local known keyed change all.0 fits.0, fits.0), each_change group in_local known keyed changes all.1 fits.1)

    abbrev AreRebased : List (TableChanges A) → Type 0
    AreRebased groups = AllByRecursion (λ group. (columns group.table ≡ Some group.schema) × (has_key group.schema ≡ true) × AllByRecursion (IsRebased group) group.changes) groups

    each_group : (groups : List (TableChanges A)) → AllByRecursion (λ group. IsIn group local) groups → AreSound columns groups → AreRebased groups
    each_group [] all is = tt
    each_group (group ∷ groups) all is =
        ((is.0.0, is.0.1, each_change group all.0 is.0.0 is.0.1 group.changes (all_in group.changes) is.0.2), each_group groups all.1 is.1)

    local_rebased : AreRebased local
    local_rebased = each_group local (all_in local) local_sound

    -- ---- the changes of a row in the rebased changeset

    changes_row : (group : TableChanges A) → columns group.table ≡ Some group.schema → (key : Fields A) (changes : List (RowChange A)) → AllByRecursion (IsRebased group) changes
        → changes_of_row change_key group.schema key (filter_map (rebased_in buffers group) changes) ≡ filter_map (between group.schema group.table key) (changes_of_row change_key group.schema key changes)
    changes_row group known key [] all = refl
    changes_row group known key (change ∷ changes) all =
        let flags = group.schema in
        let own_key_is = change_key flags change in
        let rest = filter_map (rebased_in buffers group) changes in
        let others = changes_of_row change_key flags key changes in
        let more = changes_row group known key changes all.1 in
        ap (λ o. changes_of_row change_key flags key (cons_option o rest)) all.0.0
        ∙ kept_row flags key (between flags group.table own_key_is change) own_key_is rest (own flags group.table own_key_is known change)
        ∙ (λ i. cond (fields_eq own_key_is key) (cons_option (between flags group.table own_key_is change) (more i)) (more i))
        ∙ elim (fields_eq own_key_is key) as (λ b. fields_eq own_key_is key ≡ b
        → cond b (cons_option (between flags group.table own_key_is change) (filter_map (between flags group.table key) others)) (filter_map (between flags group.table key) others)
        ≡ filter_map (between flags group.table key) (cond b (change ∷ others) others)) [
          | true ↦ λ same. ap (λ k. cons_option (between flags group.table k change) (filter_map (between flags group.table key) others)) ((fields_eq_decides own_key_is key).0 same)
          | false ↦ λ apart. refl
        ] refl

    one_group_row : (name : List ℕ) (flags : List Bool) (key : Fields A) → columns name ≡ Some flags → (group : TableChanges A) → columns group.table ≡ Some group.schema → AllByRecursion (IsRebased group) group.changes
        → group_row name key (rebased_group buffers group) ≡ filter_map (between flags name key) (group_row name key group)
    one_group_row name flags key is group known all =
        elim (bytes_eq group.table name) as (λ b. bytes_eq group.table name ≡ b → cond b (changes_of_row change_key group.schema key (filter_map (rebased_in buffers group) group.changes)) []
        ≡ filter_map (between flags name key) (cond b (changes_of_row change_key group.schema key group.changes) [])) [
          | true ↦ λ same.
              let name_is = (bytes_decides group.table name).0 same in
              let flags_are : group.schema ≡ flags = some_same (sym known ∙ ap columns name_is ∙ is) in
              changes_row group known key group.changes all
              ∙ (λ i. filter_map (between (flags_are i) (name_is i) key) (changes_of_row change_key group.schema key group.changes))
          | false ↦ λ apart. refl
        ] refl

    kept_append : (h : RowChange A → Option (RowChange A)) (xs ys : List (RowChange A)) → filter_map h (xs ++ ys) ≡ filter_map h xs ++ filter_map h ys
    kept_append h [] ys = refl
    kept_append h (x ∷ xs) ys = ap (cons_option (h x)) (kept_append h xs ys) ∙ put_first (h x)
      where
        put_first : (o : Option (RowChange A)) → cons_option o (filter_map h xs ++ filter_map h ys) ≡ cons_option o (filter_map h xs) ++ filter_map h ys
        put_first None = refl
        put_first (Some y) = refl

    groups_row : (name : List ℕ) (flags : List Bool) (key : Fields A) → columns name ≡ Some flags → (groups : List (TableChanges A)) → AreRebased groups
        → row_changes name key (map (rebased_group buffers) groups) ≡ filter_map (between flags name key) (row_changes name key groups)
    groups_row name flags key is [] all = refl
    groups_row name flags key is (group ∷ groups) all =
        (λ i. one_group_row name flags key is group all.0.0 all.0.2 i ++ groups_row name flags key is groups all.1 i)
        ∙ sym (kept_append (between flags name key) (group_row name key group) (row_changes name key groups))

    pub rebased_row : (name : List ℕ) (flags : List Bool) (key : Fields A) → columns name ≡ Some flags → row_changes name key (rebased_list buffers local) ≡ filter_map (between flags name key) (row_changes name key local)
    rebased_row name flags key is = row_of_some name key (map (rebased_group buffers) local) ∙ groups_row name flags key is local local_rebased

    -- ---- each rebased change fits

    change_fits_then : (group : TableChanges A) → columns group.table ≡ Some group.schema → has_key group.schema ≡ true → (change : RowChange A) → IsRebased group change → IfSome (rebased_in buffers group change) (λ made. change_fits group.schema made ≡ true)
    change_fits_then group known keyed change (is, fits) =
        let flags = group.schema in
        let name = group.table in
        let key = change_key flags change in
        let key_is = has_its_key flags change keyed fits in
        subst (λ o. IfSome o (λ made. change_fits flags made ≡ true)) (sym is)
        (change_between_fits flags key (is_indirect change) (hub name key) (row_at last name key)
        (is_under flags key key_is (hub name key) (hub_under name flags key known)) (is_under flags key key_is (row_at last name key) (last_row_under name flags key known)))

    groups_fit : (groups : List (TableChanges A)) → AreRebased groups → AreSound columns (map (rebased_group buffers) groups)
    groups_fit [] all = tt
    groups_fit (group ∷ groups) all = (
      (
        all.0.0,
        all.0.1,
        all_kept (λ made. change_fits group.schema made ≡ true) (rebased_in buffers group) group.changes
            (all_turn (IsRebased group) (λ change. IfSome (rebased_in buffers group change) (λ made. change_fits group.schema made ≡ true)) (change_fits_then group all.0.0 all.0.1) group.changes all.0.2),
      ),
      groups_fit groups all.1,
    )

    rebased_sound : AreSound columns (rebased_list buffers local)
    rebased_sound =
        all_filter (λ (group : TableChanges A). (columns group.table ≡ Some group.schema) × (has_key group.schema ≡ true) × AllByRecursion (λ change. change_fits group.schema change ≡ true) group.changes)
        (λ (group : TableChanges A). has_some group.changes) (map (rebased_group buffers) local) (groups_fit local local_rebased)

    -- ---- from the hub's rows to the client's

    -- a row without a local change
    row_unchanged : (name : List ℕ) (flags : List Bool) (key : Fields A) → columns name ≡ Some flags → base name key ≡ row_at client name key → hub name key ≡ row_at last name key
    row_unchanged name flags key is same = by_key (is_key key) refl
      where
        row_applied : RowApplied flags key (base name key) (hub name key) (row_at client name key) (row_at last name key) (all_row_changes name key buffers)
        row_applied = turn.row name flags key is

        none_over : (remotes : List (RowChange A)) → rebased_over flags None remotes ≡ None
        none_over [] = refl
        none_over (remote ∷ remotes) = none_over remotes

        nothing : (row : Option (Fields A)) → change_of flags false row row ≡ None
        nothing None = refl
        nothing (Some row) = rw ((fields_eq_decides row row).1 refl)

        by_key : (b : Bool) → is_key key ≡ b → hub name key ≡ row_at last name key
        by_key true keyed =
            let base_under = is_under flags key keyed (base name key) (leads.rows.under name flags key is) in
            let made = over_each flags key false (base name key) (row_at client name key) row_applied.remotes (row_at last name key) (hub name key) base_under (subst (IsUnder flags key) same base_under) row_applied.applied in
            unchanged flags false (hub name key) (row_at last name key)
            (sym made ∙ ap (λ row. rebased_over flags (change_of flags false (base name key) row) (all_buffered row_applied.remotes)) (sym same)
            ∙ ap (λ o. rebased_over flags o (all_buffered row_applied.remotes)) (nothing (base name key)) ∙ none_over (all_buffered row_applied.remotes))
        by_key false keyless =
            let ends = subst (λ rs. AreApplied flags key (row_at client name key) (base name key) rs (row_at last name key) (hub name key)) (row_applied.none keyless) row_applied.applied in
            sym ends.1 ∙ same ∙ ends.0

    row_follows : (name : List ℕ) (flags : List Bool) (key : Fields A) → columns name ≡ Some flags → (changes : List (RowChange A)) → row_changes name key local ≡ changes → length changes ≤ 1
        → Follow flags key (base name key) changes (row_at client name key) → Follow flags key (hub name key) (filter_map (between flags name key) changes) (row_at last name key)
    row_follows name flags key is [] are few same = row_unchanged name flags key is same
    row_follows name flags key is (change ∷ []) are few follow =
        follow-next flags key (is_indirect change) (hub name key) [] (hub name key) (row_at last name key) refl (last_row_under name flags key is) (between flags name key change) refl
    row_follows name flags key is (change ∷ other ∷ changes) are few follow = absurd (omega (arith, few))

    rebased_follows : (name : List ℕ) (flags : List Bool) (key : Fields A) → columns name ≡ Some flags → Follow flags key (hub name key) (all_row_changes name key (rebased_list buffers local ∷ [])) (row_at last name key)
    rebased_follows name flags key is =
        subst (λ l. Follow flags key (hub name key) l (row_at last name key)) (sym (rebased_row name flags key is) ∙ append_none (row_changes name key (rebased_list buffers local)))
        (row_follows name flags key is (row_changes name key local) refl (once name key) (follows columns base (row_at client) local leads name flags key is))

    pub rebased_leads : LeadsFrom columns hub (row_at last) (rebased_list buffers local)
    rebased_leads = record {
      fits = All-from_recursion (IsFitting change_fits) (rebased_list buffers local) (fitting (rebased_list buffers local) rebased_sound);
      rows = record {
        schemas = (
          all_turn (λ (group : TableChanges A). (columns group.table ≡ Some group.schema) × (has_key group.schema ≡ true) × AllByRecursion (λ change. change_fits group.schema change ≡ true) group.changes)
              (λ group. columns group.table ≡ Some group.schema) (λ group is. is.0) (rebased_list buffers local) rebased_sound,
          tt,
        );
        under = hub_under;
        rows = rebased_follows;
      };
    }
      where
        fitting : (groups : List (TableChanges A)) → AreSound columns groups → AllByRecursion (IsFitting change_fits) groups
        fitting [] all = tt
        fitting (group ∷ groups) all =
            (record { keyed = all.0.1; each = All-from_recursion (λ change. change_fits group.schema change ≡ true) group.changes all.0.2 }, fitting groups all.1)

    pub rebased_once : HasOneChangeEach (rebased_list buffers local)
    rebased_once name key =
        elim (columns name) as (λ o. columns name ≡ o → length (row_changes name key (rebased_list buffers local)) ≤ 1) [
          | None ↦ λ none. subst (λ l. length l ≤ 1) (sym (no_row columns (rebased_list buffers local) name key rebased_sound none)) (omega arith)
          | Some flags ↦ λ is. subst (λ l. length l ≤ 1) (sym (rebased_row name flags key is)) (few_kept (between flags name key) (row_changes name key local) (once name key))
        ] refl

    pub is_rebased : rebase buffers local ≡ Ok (rebased_list buffers local)
    is_rebased = ap (λ o. unless o (rebased_list buffers local)) (not_refused columns buffers turn.buffers_sound 0 local local_sound)
