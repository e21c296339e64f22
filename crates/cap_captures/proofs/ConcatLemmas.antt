-- The concatenation of changesets in a row has of each row what its changes are together.
use Rattle.std.proofs.Common.{◌≡◌, ℕ, ◌+◌, Bool, true, false, cond, ◌&&◌, List, [], ◌∷◌, ◌++◌, length, Option, Some, None, Ok, Err, Result, refl, ap, sym, subst, ◌∙◌}
use Rattle.std.specs.Prelude.{map, filter, fold, option_and_then}
use Rattle.std.specs.Option.{ForSome, unwrap_or}
use Rattle.std.specs.List.{AllByRecursion, cons_option}
use Rattle.std.specs.List.Sorted.{IsStrictlySortedBy}
use Rattle.std.specs.Cmp.{eq_by_cmp_equiv}
use Rattle.std.specs.Cmp.Lexicographic.{bytes_decides}
use Rattle.std.proofs.lemmas.List.{append-nil}
use Rattle.std.proofs.lemmas.List.Elements.{recursion_from_All}
use Rattle.std.proofs.lemmas.List.Sums.{fold-append}
use Rattle.cap_value.specs.Bytes.{bytes_eq}
use Rattle.cap_row.specs.Fields.{Fields}
use Rattle.cap_row.specs.Key.{fields_cmp, fields_cmp_total, fields_eq, fields_eq_decides, key_fields}
use Rattle.cap_row.specs.Schema.{flags_eq}
use Rattle.cap_tree.specs.Tree.{IsOrdered, get}
use Rattle.cap_tree.proofs.EntryLemmas.{each_found, get-below, ordered_put, ordered_take, put_entry-Updates, sorted_nil, take_entry-Updates}
use Rattle.cap_changes.specs.Change.{change_of, full_record, old_field, new_field}
use Rattle.cap_changes.specs.Column.{by_column}
use Rattle.cap_changes.specs.Group.{TableChanges}
use Rattle.cap_changes.specs.declared.row_change.RowChange.{RowChange}
use Rattle.cap_changes.specs.declared.row_change.RowChange.TheVariants.{Update}
use Rattle.cap_codec.specs.Writable.{has_some}
use Rattle.cap_codec.specs.declared.read.Contents.TheVariants.{Changes}
use Rattle.cap_group.specs.ChangeKey.{change_key, key_values}
use Rattle.cap_group.specs.ChangeGroup.{GroupContent, added_unless, all_added, and_then, concat_of, contents_of, groups_of, has_changes, table_of, with_group, with_groups}
use Rattle.cap_group.specs.Combined.{combined}
use Rattle.cap_group.specs.KeyedChanges.{KeyedChanges, change_after, entries_of, no_changes, set_change, table_at, with_change, with_changes, with_table}
use Rattle.cap_group.specs.Rows.{Follow, IsRowUnder, changes_of_row, together}
use Rattle.cap_group.specs.declared.refusal.GroupRefusal.{GroupRefusal}
use Rattle.cap_group.specs.declared.refusal.GroupRefusal.TheVariants.{OtherColumns, OtherKind}
use Rattle.cap_group.proofs.GroupLemmas.{kept_table}
use Rattle.cap_group_laws.proofs.JoinLemmas.{followed}
use Rattle.cap_captures.specs.Rows.{AreInARow, HasTogether, all_row_changes, row_changes}

-- ---- names

pub other_name : (a b : List ℕ) → bytes_eq a b ≡ false → bytes_eq b a ≡ false
other_name a b is =
    elim (bytes_eq b a) as (λ r. bytes_eq b a ≡ r → r ≡ false) [
      | true ↦ λ same. let clash : true ≡ false = sym ((bytes_decides a b).1 (sym ((bytes_decides b a).0 same))) ∙ is in cc
      | false ↦ λ _. refl
    ] refl

flags_self : (a : List Bool) → flags_eq a a ≡ true
flags_self [] = refl
flags_self (true ∷ a) = flags_self a
flags_self (false ∷ a) = flags_self a

and_none : (b : Bool) → (b && false) ≡ false
and_none true = refl
and_none false = refl

pub some_same : {X : Type 0} {x y : X} → Some x ≡ Some y → x ≡ y
some_same e = cc

abbrev Keyed : Type 0 → Type 0
Keyed A = KeyedChanges A (RowChange A)

module _ {A : Type 0} where
  -- ---- the changes of one table

  set_at : (es : List (Fields A × RowChange A)) → IsOrdered fields_cmp es → (k q : Fields A) (o : Option (RowChange A)) →
      get fields_cmp (set_change es k o) q ≡ cond (fields_eq k q) o (get fields_cmp es q)
  set_at es s k q None = take_entry-Updates fields_cmp fields_cmp_total k es s q
  set_at es s k q (Some x) = put_entry-Updates fields_cmp fields_cmp_total k x es q

  set_ordered : (es : List (Fields A × RowChange A)) → IsOrdered fields_cmp es → (k : Fields A) (o : Option (RowChange A)) → IsOrdered fields_cmp (set_change es k o)
  set_ordered es s k None = ordered_take fields_cmp fields_cmp_total k es s
  set_ordered es s k (Some x) = ordered_put fields_cmp fields_cmp_total k x es s

  -- the table after changes
  abbrev after : Keyed A → List (RowChange A) → Keyed A
  after t xs = with_changes change_key combined t xs

  after_schema : (t : Keyed A) (xs : List (RowChange A)) → (after t xs).schema ≡ t.schema
  after_schema t [] = refl
  after_schema t (x ∷ xs) = after_schema (with_change change_key combined t x) xs

  after_ordered : (t : Keyed A) (xs : List (RowChange A)) → IsOrdered fields_cmp t.changes → IsOrdered fields_cmp (after t xs).changes
  after_ordered t [] s = s
  after_ordered t (x ∷ xs) s =
      let k = change_key t.schema x in
      after_ordered (with_change change_key combined t x) xs (set_ordered t.changes s k (change_after combined t.schema (get fields_cmp t.changes k) x))

  one_more : (t : Keyed A) → IsOrdered fields_cmp t.changes → (q : Fields A) (x : RowChange A) (later : List (RowChange A)) →
      fold (change_after combined t.schema) (get fields_cmp (with_change change_key combined t x).changes q) later
      ≡ fold (change_after combined t.schema) (get fields_cmp t.changes q) (cond (fields_eq (change_key t.schema x) q) (x ∷ later) later)
  one_more t s q x later =
      let k = change_key t.schema x in
      let made = change_after combined t.schema (get fields_cmp t.changes k) x in
      ap (λ o. fold (change_after combined t.schema) o later) (set_at t.changes s k q made)
      ∙ elim (fields_eq k q) as (λ b. fields_eq k q ≡ b → fold (change_after combined t.schema) (cond b made (get fields_cmp t.changes q)) later
      ≡ fold (change_after combined t.schema) (get fields_cmp t.changes q) (cond b (x ∷ later) later)) [
        | true ↦ λ same. ap (λ (at : Fields A). fold (change_after combined t.schema) (change_after combined t.schema (get fields_cmp t.changes at) x) later) ((fields_eq_decides k q).0 same)
        | false ↦ λ other. refl
      ] refl

  after_row : (xs : List (RowChange A)) (t : Keyed A) → IsOrdered fields_cmp t.changes → (q : Fields A) →
      get fields_cmp (after t xs).changes q ≡ fold (change_after combined t.schema) (get fields_cmp t.changes q) (changes_of_row change_key t.schema q xs)
  after_row [] t s q = refl
  after_row (x ∷ xs) t s q =
      after_row xs (with_change change_key combined t x) (set_ordered t.changes s (change_key t.schema x) (change_after combined t.schema (get fields_cmp t.changes (change_key t.schema x)) x)) q
      ∙ one_more t s q x (changes_of_row change_key t.schema q xs)

  -- ---- tables by name

  named : (ts : List (Keyed A)) (t : Keyed A) (name : List ℕ) → table_at (with_table ts t) name ≡ cond (bytes_eq t.table name) (Some t) (table_at ts name)
  named [] t name = refl
  named (u ∷ us) t name =
      elim (bytes_eq u.table t.table) as (λ b. bytes_eq u.table t.table ≡ b
      → table_at (cond b (t ∷ us) (u ∷ with_table us t)) name ≡ cond (bytes_eq t.table name) (Some t) (cond (bytes_eq u.table name) (Some u) (table_at us name))) [
        | true ↦ λ same. elim (bytes_eq t.table name) as (λ b. bytes_eq t.table name ≡ b → cond b (Some t) (table_at us name) ≡ cond b (Some t) (cond (bytes_eq u.table name) (Some u) (table_at us name))) [
          | true ↦ λ _. refl
          | false ↦ λ apart.
              sym (ap (λ b. cond b (Some u) (table_at us name)) (ap (λ n. bytes_eq n name) ((bytes_decides u.table t.table).0 same) ∙ apart))
        ] refl
        | false ↦ λ apart. elim (bytes_eq u.table name) as (λ b. bytes_eq u.table name ≡ b → cond b (Some u) (table_at (with_table us t) name) ≡ cond (bytes_eq t.table name) (Some t) (cond b (Some u) (table_at us name))) [
          | true ↦ λ is.
              sym (ap (λ b. cond b (Some t) (Some u)) (ap (bytes_eq t.table) (sym ((bytes_decides u.table name).0 is)) ∙ other_name u.table t.table apart))
          | false ↦ λ _. named us t name
        ] refl
      ] refl

  found_name : (ts : List (Keyed A)) (name : List ℕ) (t : Keyed A) → table_at ts name ≡ Some t → t.table ≡ name
  found_name [] name t found = cc
  found_name (u ∷ us) name t found =
      elim (bytes_eq u.table name) as (λ b. bytes_eq u.table name ≡ b → cond b (Some u) (table_at us name) ≡ Some t → t.table ≡ name) [
        | true ↦ λ same is. ap (λ (k : Keyed A). k.table) (sym (some_same is)) ∙ (bytes_decides u.table name).0 same
        | false ↦ λ _ is. found_name us name t is
      ] refl found

  -- no name comes twice
  abbrev AreApart : List (Keyed A) → Type 0
  AreApart [] = Unit {0}
  AreApart (t ∷ ts) = (table_at ts t.table ≡ None) × AreApart ts

  apart_put : (ts : List (Keyed A)) (t : Keyed A) → AreApart ts → AreApart (with_table ts t)
  apart_put [] t apart = (refl, tt)
  apart_put (u ∷ us) t apart =
      elim (bytes_eq u.table t.table) as (λ b. bytes_eq u.table t.table ≡ b → AreApart (cond b (t ∷ us) (u ∷ with_table us t))) [
        | true ↦ λ same. (ap (table_at us) (sym ((bytes_decides u.table t.table).0 same)) ∙ apart.0, apart.1)
        | false ↦ λ other. (named us t u.table ∙ ap (λ b. cond b (Some t) (table_at us u.table)) (other_name u.table t.table other) ∙ apart.0, apart_put us t apart.1)
      ] refl

  -- the change at a key of a table
  abbrev at : List (Keyed A) → List ℕ → Fields A → Option (RowChange A)
  at ts name key = option_and_then (λ t. get fields_cmp t.changes key) (table_at ts name)

  module _ (columns : List ℕ → Option (List Bool)) where
    record Stands (ts : List (Keyed A)) : Type 0 where
      names : AreApart ts
      schema : (name : List ℕ) (t : Keyed A) → table_at ts name ≡ Some t → columns name ≡ Some t.schema
      ordered : (name : List ℕ) (t : Keyed A) → table_at ts name ≡ Some t → IsOrdered fields_cmp t.changes

    none_stands : Stands []
    none_stands = record { names = tt; schema = λ name t found. cc; ordered = λ name t found. cc }

    -- ---- one group

    module _ (ts : List (Keyed A)) (group : TableChanges A) where
      record Has (u : Keyed A) : Type 0 where
        name : u.table ≡ group.table
        schema : u.schema ≡ group.schema
        ordered : IsOrdered fields_cmp u.changes
        rows : (key : Fields A) → get fields_cmp u.changes key ≡ at ts group.table key

      has_from : (found : Option (Keyed A)) → table_at ts group.table ≡ found → Stands ts → columns group.table ≡ Some group.schema → Has (unwrap_or found (no_changes group.table group.schema))
      has_from None is stands known = record {
        name = refl;
        schema = refl;
        ordered = sorted_nil fields_cmp;
        rows = λ key. ap (option_and_then (λ t. get fields_cmp t.changes key)) (sym is);
      }
      has_from (Some t) is stands known = record {
        name = found_name ts group.table t is;
        schema = some_same (sym (stands.schema group.table t is) ∙ known);
        ordered = stands.ordered group.table t is;
        rows = λ key. ap (option_and_then (λ t. get fields_cmp t.changes key)) (sym is);
      }

      abbrev before : Keyed A
      before = table_of change_key combined ts group

      abbrev left : List (Keyed A)
      left = with_table ts (after before group.changes)

      module _ (stands : Stands ts) (known : columns group.table ≡ Some group.schema) where
        has : Has before
        has = has_from (table_at ts group.table) refl stands known

        group_taken : (place : ℕ) → with_group change_key combined place ts group ≡ Ok left
        group_taken place =
            ap (λ b. cond b (Ok left) (Err (OtherColumns place))) (ap (λ s. flags_eq s group.schema) has.schema ∙ flags_self group.schema)

        after_name : (after before group.changes).table ≡ group.table
        after_name = kept_table change_key combined before group.changes ∙ has.name

        left_at : (name : List ℕ) → table_at left name ≡ cond (bytes_eq group.table name) (Some (after before group.changes)) (table_at ts name)
        left_at name = named ts (after before group.changes) name ∙ ap (λ n. cond (bytes_eq n name) (Some (after before group.changes)) (table_at ts name)) after_name

        -- what holds of the table with the changes, and of the others
        left_each : (P : List ℕ → Keyed A → Type 0) → P group.table (after before group.changes) → ((name : List ℕ) (t : Keyed A) → table_at ts name ≡ Some t → P name t)
            → (name : List ℕ) (t : Keyed A) → table_at left name ≡ Some t → P name t
        left_each P here others name t found =
            elim (bytes_eq group.table name) as (λ b. bytes_eq group.table name ≡ b → cond b (Some (after before group.changes)) (table_at ts name) ≡ Some t → P name t) [
              | true ↦ λ same is. subst (λ n. P n t) ((bytes_decides group.table name).0 same) (subst (P group.table) (some_same is) here)
              | false ↦ λ _ is. others name t is
            ] refl (sym (left_at name) ∙ found)

        left_stands : Stands left
        left_stands = record {
          names = apart_put ts (after before group.changes) stands.names;
          schema = left_each (λ name t. columns name ≡ Some t.schema) (known ∙ ap Some (sym (after_schema before group.changes ∙ has.schema))) stands.schema;
          ordered = left_each (λ name t. IsOrdered fields_cmp t.changes) (after_ordered before group.changes has.ordered) stands.ordered;
        }

        left_row : (name : List ℕ) (flags : List Bool) (key : Fields A) → columns name ≡ Some flags
            → at left name key ≡ fold (change_after combined flags) (at ts name key) (cond (bytes_eq group.table name) (changes_of_row change_key group.schema key group.changes) [])
        left_row name flags key is =
            ap (option_and_then (λ t. get fields_cmp t.changes key)) (left_at name)
            ∙ elim (bytes_eq group.table name) as (λ b. bytes_eq group.table name ≡ b → option_and_then (λ t. get fields_cmp t.changes key) (cond b (Some (after before group.changes)) (table_at ts name))
            ≡ fold (change_after combined flags) (at ts name key) (cond b (changes_of_row change_key group.schema key group.changes) [])) [
              | true ↦ λ same.
                  let name_is : group.table ≡ name = (bytes_decides group.table name).0 same in
                  let flags_are : group.schema ≡ flags = some_same (sym known ∙ ap columns name_is ∙ is) in
                  after_row group.changes before has.ordered key
                  ∙ ap (λ s. fold (change_after combined s) (get fields_cmp before.changes key) (changes_of_row change_key s key group.changes)) has.schema
                  ∙ ap (λ o. fold (change_after combined group.schema) o (changes_of_row change_key group.schema key group.changes)) (has.rows key ∙ ap (λ n. at ts n key) name_is)
                  ∙ ap (λ s. fold (change_after combined s) (at ts name key) (changes_of_row change_key group.schema key group.changes)) flags_are
              | false ↦ λ _. refl
            ] refl

    -- ---- groups, one after the other

    abbrev AreKnown : List (TableChanges A) → Type 0
    AreKnown groups = AllByRecursion (λ group. columns group.table ≡ Some group.schema) groups

    -- these tables are left, with these changes of each row added
    record Leaves (ts : List (Keyed A)) (added : List ℕ → Fields A → List (RowChange A)) (left : List (Keyed A)) : Type 0 where
      stands : Stands left
      rows : (name : List ℕ) (flags : List Bool) (key : Fields A) → columns name ≡ Some flags → at left name key ≡ fold (change_after combined flags) (at ts name key) (added name key)

    nothing_left : (ts : List (Keyed A)) → Stands ts → Leaves ts (λ name key. []) ts
    nothing_left ts stands = record { stands = stands; rows = λ name flags key is. refl }

    more_left : (ts mid last : List (Keyed A)) (first next : List ℕ → Fields A → List (RowChange A)) → Leaves ts first mid → Leaves mid next last → Leaves ts (λ name key. first name key ++ next name key) last
    more_left ts mid last first next one two = record {
      stands = two.stands;
      rows = λ name flags key is.
          two.rows name flags key is
          ∙ ap (λ o. fold (change_after combined flags) o (next name key)) (one.rows name flags key is)
          ∙ sym (fold-append (change_after combined flags) (at ts name key) (first name key) (next name key));
    }

    abbrev Taken : ℕ → List (TableChanges A) → List (Keyed A) → Type 0
    Taken place groups ts = (left : List (Keyed A)) × (with_groups change_key combined place ts groups ≡ Ok left) × Leaves ts (λ name key. row_changes name key groups) left

    -- a group is taken, or passed over where it has no changes
    abbrev by_changes : ℕ → TableChanges A → List (TableChanges A) → List (Keyed A) → List (RowChange A) → Result (List (Keyed A)) GroupRefusal
    by_changes place group groups ts changes =
        cond (has_some changes) (and_then (with_group change_key combined place ts group) (λ more. with_groups change_key combined (place + 1) more groups)) (with_groups change_key combined (place + 1) ts groups)

    groups_taken : (place : ℕ) (groups : List (TableChanges A)) (ts : List (Keyed A)) → Stands ts → AreKnown groups → Taken place groups ts
    groups_taken place [] ts stands known = (ts, refl, nothing_left ts stands)
    groups_taken place (group ∷ groups) ts stands known =
        elim group.changes as (λ cs. group.changes ≡ cs → Taken place (group ∷ groups) ts) [
          | [] ↦ λ none.
              let rest = groups_taken (place + 1) groups ts stands known.1 in (
                rest.0,
                ap (by_changes place group groups ts) none ∙ rest.1,
                record {
                  stands = rest.2.stands;
                  rows = λ name flags key is.
                      rest.2.rows name flags key is
                      ∙ ap (λ (l : List (RowChange A)). fold (change_after combined flags) (at ts name key) (l ++ row_changes name key groups))
                      (elim (bytes_eq group.table name) as (λ b. [] ≡ cond b (changes_of_row change_key group.schema key []) []) [ true ↦ refl | false ↦ refl ]
                      ∙ ap (λ cs. cond (bytes_eq group.table name) (changes_of_row change_key group.schema key cs) []) (sym none));
                },
              )
          | change ∷ changes ↦ λ some.
              let mid = left ts group in
              let rest = groups_taken (place + 1) groups mid (left_stands ts group stands known.0) known.1 in (
                rest.0,
                ap (by_changes place group groups ts) some
                    ∙ ap (λ (r : Result (List (Keyed A)) GroupRefusal). and_then r (λ more. with_groups change_key combined (place + 1) more groups)) (group_taken ts group stands known.0 place) ∙ rest.1,
                more_left ts mid rest.0 (λ name key. cond (bytes_eq group.table name) (changes_of_row change_key group.schema key group.changes) []) (λ name key. row_changes name key groups)
                    (record { stands = left_stands ts group stands known.0; rows = left_row ts group stands known.0 }) rest.2,
              )
        ] refl

    abbrev content : List (Keyed A) → GroupContent A
    content ts = record { changes = ts; patches = [] }

    lists_taken : (lists : List (List (TableChanges A))) (ts : List (Keyed A)) → Stands ts → AllByRecursion AreKnown lists
        → (left : List (Keyed A)) × (all_added (content ts) (map Changes lists) ≡ Ok (content left)) × Leaves ts (λ name key. all_row_changes name key lists) left
    lists_taken [] ts stands known = (ts, refl, nothing_left ts stands)
    lists_taken (groups ∷ lists) ts stands known =
        let one = groups_taken 0 groups ts stands known.0 in
        let rest = lists_taken lists one.0 one.2.stands known.1 in (
          rest.0,
          ap (λ b. and_then (added_unless (cond b (Some OtherKind) None) (content ts) (Changes groups)) (λ more. all_added more (map Changes lists))) (and_none (has_changes groups))
              ∙ ap (λ (r : Result (List (Keyed A)) GroupRefusal). and_then (and_then r (λ tables. Ok (content tables))) (λ more. all_added more (map Changes lists))) one.1
              ∙ rest.1,
          more_left ts one.0 rest.0 (λ name key. row_changes name key groups) (λ name key. all_row_changes name key lists) one.2 rest.2,
        )

  -- ---- the key of a change

  full_key : (flags : List Bool) (row : Fields A) → key_values flags (full_record row) ≡ key_fields flags row
  full_key [] row = refl
  full_key (flag ∷ flags) [] = refl
  full_key (true ∷ flags) (value ∷ row) = ap (λ (k : Fields A). value ∷ k) (full_key flags row)
  full_key (false ∷ flags) (value ∷ row) = full_key flags row

  old_key : (flags : List Bool) (image now : Fields A) → length image ≡ length flags → length now ≡ length flags → key_values flags (by_column old_field flags image now) ≡ key_fields flags image
  old_key [] image now wide wide' = refl
  old_key (flag ∷ flags) [] now wide wide' = cc
  old_key (flag ∷ flags) (a ∷ image) [] wide wide' = cc
  old_key (true ∷ flags) (a ∷ image) (b ∷ now) wide wide' = ap (λ (k : Fields A). a ∷ k) (old_key flags image now (cc) (cc))
  old_key (false ∷ flags) (a ∷ image) (b ∷ now) wide wide' = old_key flags image now (cc) (cc)

  pub own_key : (flags : List Bool) (key : Fields A) (indirect : Bool) (first last : Option (Fields A)) (change : RowChange A) → ForSome first (IsRowUnder flags key) → ForSome last (IsRowUnder flags key)
      → change_of flags indirect first last ≡ Some change → change_key flags change ≡ key
  own_key flags key indirect None None change f l is = cc
  own_key flags key indirect None (Some now) change f l is = ap (change_key flags) (sym (some_same is)) ∙ full_key flags now ∙ (l now refl).under
  own_key flags key indirect (Some image) None change f l is = ap (change_key flags) (sym (some_same is)) ∙ full_key flags image ∙ (f image refl).under
  own_key flags key indirect (Some image) (Some now) change f l is =
      let made : RowChange A = Update indirect (by_column old_field flags image now) (by_column new_field flags image now) in
      elim (fields_eq image now) as (λ b. cond b None (Some made) ≡ Some change → change_key flags change ≡ key) [
        | true ↦ λ e. cc
        | false ↦ λ e. ap (change_key flags) (sym (some_same e)) ∙ old_key flags image now (f image refl).wide (l now refl).wide ∙ (f image refl).under
      ] is

  pub last_under : (flags : List Bool) (key : Fields A) (first : Option (Fields A)) (changes : List (RowChange A)) (last : Option (Fields A)) → ForSome first (IsRowUnder flags key)
      → Follow flags key first changes last → ForSome last (IsRowUnder flags key)
  last_under flags key first [] last f is = subst (λ o. ForSome o (IsRowUnder flags key)) is f
  last_under flags key first (change ∷ changes) last f h = last_under flags key h.0 changes last h.1 h.3

  -- ---- the changeset of the tables

  -- each change is under its key
  abbrev AreOwn : List Bool → List (Fields A × RowChange A) → Type 0
  AreOwn flags es = AllByRecursion (λ e. change_key flags e.1 ≡ e.0) es

  -- the changes of a row, where each change is under its key
  pub row_in : (flags : List Bool) (key : Fields A) (es : List (Fields A × RowChange A)) → IsOrdered fields_cmp es → AreOwn flags es
      → changes_of_row change_key flags key (map (λ (e : Fields A × RowChange A). e.1) es) ≡ cons_option (get fields_cmp es key) []
  unfolding IsStrictlySortedBy
  row_in flags key [] s own = refl
  row_in flags key (e ∷ es) s own =
      let rest : List (RowChange A) = changes_of_row change_key flags key (map (λ (e : Fields A × RowChange A). e.1) es) in
      let more = row_in flags key es s.1 own.1 in
      ap (λ k. cond (fields_eq k key) (e.1 ∷ rest) rest) own.0
      ∙ ap (λ b. cond b (e.1 ∷ rest) rest) ((eq_by_cmp_equiv fields_cmp_total).symm e.0 key)
      ∙ elim (fields_eq key e.0) as (λ b. fields_eq key e.0 ≡ b → cond b (e.1 ∷ rest) rest ≡ cons_option (cond b (Some e.1) (get fields_cmp es key)) []) [
        | true ↦ λ same.
            let none : get fields_cmp es key ≡ None = ap (get fields_cmp es) ((fields_eq_decides key e.0).0 same) ∙ get-below fields_cmp e.0 es s.0 in
            ap (λ (l : List (RowChange A)). e.1 ∷ l) (more ∙ ap (λ o. cons_option o []) none)
        | false ↦ λ _. more
      ] refl

  own_from : (flags : List Bool) (all : List (Fields A × RowChange A)) → ((key : Fields A) (change : RowChange A) → get fields_cmp all key ≡ Some change → change_key flags change ≡ key)
      → (es : List (Fields A × RowChange A)) → AllByRecursion (λ e. get fields_cmp all e.0 ≡ Some e.1) es → AreOwn flags es
  own_from flags all h [] found = tt
  own_from flags all h (e ∷ es) found = (h e.0 e.1 found.0, own_from flags all h es found.1)

  record IsOwn (t : Keyed A) : Type 0 where
    ordered : IsOrdered fields_cmp t.changes
    own : AreOwn t.schema t.changes

  each_table : (P : Keyed A → Type 0) (ts : List (Keyed A)) → AreApart ts → ((name : List ℕ) (t : Keyed A) → table_at ts name ≡ Some t → P t) → AllByRecursion P ts
  each_table P [] apart h = tt
  each_table P (t ∷ ts) apart h = (
    h t.table t (ap (λ b. cond b (Some t) (table_at ts t.table)) ((bytes_decides t.table t.table).1 refl)),
    each_table P ts apart.1 (λ name u found. h name u (
        elim (bytes_eq t.table name) as (λ b. bytes_eq t.table name ≡ b → cond b (Some t) (table_at ts name) ≡ Some u) [
          | true ↦ λ same. let clash : None ≡ Some u = sym apart.0 ∙ ap (table_at ts) ((bytes_decides t.table name).0 same) ∙ found in cc
          | false ↦ λ _. found
        ] refl
        )),
  )

  tables_row : (name : List ℕ) (key : Fields A) (ts : List (Keyed A)) → AreApart ts → AllByRecursion IsOwn ts → row_changes name key (map entries_of ts) ≡ cons_option (at ts name key) []
  tables_row name key [] apart own = refl
  tables_row name key (t ∷ ts) apart own =
      let rest = row_changes name key (map entries_of ts) in
      let more = tables_row name key ts apart.1 own.1 in
      elim (bytes_eq t.table name) as (λ b. bytes_eq t.table name ≡ b
      → (cond b (changes_of_row change_key t.schema key (map (λ (e : Fields A × RowChange A). e.1) t.changes)) []) ++ rest ≡ cons_option (option_and_then (λ u. get fields_cmp u.changes key) (cond b (Some t) (table_at ts name))) []) [
        | true ↦ λ same.
            let none : at ts name key ≡ None = ap (option_and_then (λ u. get fields_cmp u.changes key)) (ap (table_at ts) (sym ((bytes_decides t.table name).0 same)) ∙ apart.0) in
            ap (λ (l : List (RowChange A)). changes_of_row change_key t.schema key (map (λ (e : Fields A × RowChange A). e.1) t.changes) ++ l) (more ∙ ap (λ o. cons_option o []) none)
            ∙ append-nil (changes_of_row change_key t.schema key (map (λ (e : Fields A × RowChange A). e.1) t.changes))
            ∙ row_in t.schema key t.changes own.0.ordered own.0.own
        | false ↦ λ _. more
      ] refl

  -- groups without changes have no change of a row
  some_row : (name : List ℕ) (key : Fields A) (groups : List (TableChanges A)) → row_changes name key (filter (λ group. has_some group.changes) groups) ≡ row_changes name key groups
  some_row name key [] = refl
  some_row name key (group ∷ groups) =
      let rest = row_changes name key (filter (λ group. has_some group.changes) groups) in
      elim group.changes as (λ cs. group.changes ≡ cs → row_changes name key (cond (has_some group.changes) (group ∷ filter (λ group. has_some group.changes) groups) (filter (λ group. has_some group.changes) groups)) ≡ row_changes name key (group ∷ groups)) [
        | [] ↦ λ none.
            ap (λ (cs : List (RowChange A)). row_changes name key (cond (has_some cs) (group ∷ filter (λ group. has_some group.changes) groups) (filter (λ group. has_some group.changes) groups))) none
            ∙ some_row name key groups
            ∙ ap (λ (l : List (RowChange A)). l ++ row_changes name key groups)
            (elim (bytes_eq group.table name) as (λ b. [] ≡ cond b (changes_of_row change_key group.schema key []) []) [ true ↦ refl | false ↦ refl ]
            ∙ ap (λ cs. cond (bytes_eq group.table name) (changes_of_row change_key group.schema key cs) []) (sym none))
        | change ∷ changes ↦ λ some.
            ap (λ (cs : List (RowChange A)). row_changes name key (cond (has_some cs) (group ∷ filter (λ group. has_some group.changes) groups) (filter (λ group. has_some group.changes) groups))) some
            ∙ ap (λ (l : List (RowChange A)). (cond (bytes_eq group.table name) (changes_of_row change_key group.schema key group.changes) []) ++ l) (some_row name key groups)
      ] refl

  -- ---- the groups

  -- a group of a table with these columns, with one change for each row, in the order of the keys
  pub record IsMade (columns : List ℕ → Option (List Bool)) (lists : List (List (TableChanges A))) (group : TableChanges A) : Type 0 where
    pub known : columns group.table ≡ Some group.schema
    pub some : has_some group.changes ≡ true
    pub sorted : IsStrictlySortedBy fields_cmp (map (change_key group.schema) group.changes)
    pub made : AllByRecursion (λ change. together combined group.schema (all_row_changes group.table (change_key group.schema change) lists) ≡ Some change) group.changes

  -- no table comes twice
  abbrev pub NoneTwice : List (TableChanges A) → Type 0
  NoneTwice [] = Unit {0}
  NoneTwice (group ∷ groups) = AllByRecursion (λ other. bytes_eq group.table other.table ≡ false) groups × NoneTwice groups

  pub record IsWhole (columns : List ℕ → Option (List Bool)) (lists : List (List (TableChanges A))) (groups : List (TableChanges A)) : Type 0 where
    pub together : HasTogether columns lists groups
    pub names : NoneTwice groups
    pub each : AllByRecursion (IsMade columns lists) groups

  own-keys : (flags : List Bool) (es : List (Fields A × RowChange A)) → AreOwn flags es → map (change_key flags) (map (λ (e : Fields A × RowChange A). e.1) es) ≡ map (λ (e : Fields A × RowChange A). e.0) es
  own-keys flags [] own = refl
  own-keys flags (e ∷ es) own = λ i. own.0 i ∷ own-keys flags es own.1 i

  made-each : (columns : List ℕ → Option (List Bool)) (lists : List (List (TableChanges A))) (t : Keyed A) (flags : List Bool) (es : List (Fields A × RowChange A)) → AreOwn flags es
      → ((key : Fields A) (change : RowChange A) → get fields_cmp t.changes key ≡ Some change → together combined flags (all_row_changes t.table key lists) ≡ Some change)
      → AllByRecursion (λ e. get fields_cmp t.changes e.0 ≡ Some e.1) es
      → AllByRecursion (λ change. together combined flags (all_row_changes t.table (change_key flags change) lists) ≡ Some change) (map (λ (e : Fields A × RowChange A). e.1) es)
  made-each columns lists t flags [] own h found = tt
  made-each columns lists t flags (e ∷ es) own h found =
      (ap (λ key. together combined flags (all_row_changes t.table key lists)) own.0 ∙ h e.0 e.1 found.0, made-each columns lists t flags es own.1 h found.1)

  others-apart : (name : List ℕ) (ts : List (Keyed A)) → table_at ts name ≡ None → AllByRecursion (λ other. bytes_eq name other.table ≡ false) (groups_of ts)
  others-apart name [] none = tt
  others-apart name (t ∷ ts) none =
      elim (bytes_eq t.table name) as (λ b. bytes_eq t.table name ≡ b → cond b (Some t) (table_at ts name) ≡ None → AllByRecursion (λ other. bytes_eq name other.table ≡ false) (groups_of (t ∷ ts))) [
        | true ↦ λ _ e. cc
        | false ↦ λ apart e. elim (has_some (entries_of t).changes) as (λ b. AllByRecursion (λ other. bytes_eq name other.table ≡ false) (cond b (entries_of t ∷ groups_of ts) (groups_of ts))) [
          | true ↦ (other_name t.table name apart, others-apart name ts e)
          | false ↦ others-apart name ts e
        ]
      ] refl none

  none-twice : (ts : List (Keyed A)) → AreApart ts → NoneTwice (groups_of ts)
  none-twice [] apart = tt
  none-twice (t ∷ ts) apart = elim (has_some (entries_of t).changes) as (λ b. NoneTwice (cond b (entries_of t ∷ groups_of ts) (groups_of ts))) [
    | true ↦ (others-apart t.table ts apart.0, none-twice ts apart.1)
    | false ↦ none-twice ts apart.1
  ]

  each-group : (P : TableChanges A → Type 0) (ts : List (Keyed A)) → AllByRecursion (λ t. has_some (entries_of t).changes ≡ true → P (entries_of t)) ts → AllByRecursion P (groups_of ts)
  each-group P [] all = tt
  each-group P (t ∷ ts) all = elim (has_some (entries_of t).changes) as (λ b. has_some (entries_of t).changes ≡ b → AllByRecursion P (cond b (entries_of t ∷ groups_of ts) (groups_of ts))) [
    | true ↦ λ is. (all.0 is, each-group P ts all.1)
    | false ↦ λ _. each-group P ts all.1
  ] refl

  -- ---- all together

  module _ (columns : List ℕ → Option (List Bool)) (first last : List ℕ → Fields A → Option (Fields A)) (lists : List (List (TableChanges A))) (in_a_row : AreInARow columns first last lists) where
    all : (left : List (Keyed A)) × (all_added (content columns []) (map Changes lists) ≡ Ok (content columns left)) × Leaves columns [] (λ name key. all_row_changes name key lists) left
    all = lists_taken columns lists [] (none_stands columns) in_a_row.schemas

    abbrev ts : List (Keyed A)
    ts = all.0

    stands : Stands columns ts
    stands = all.2.stands

    -- a change that is kept is what the changes of its row are together
    kept-is : (name : List ℕ) (t : Keyed A) → table_at ts name ≡ Some t → (key : Fields A) (change : RowChange A) → get fields_cmp t.changes key ≡ Some change
        → together combined t.schema (all_row_changes name key lists) ≡ Some change
    kept-is name t found key change is =
        sym (all.2.rows name t.schema key (stands.schema name t found)) ∙ ap (option_and_then (λ (u : Keyed A). get fields_cmp u.changes key)) found ∙ is

    all-found : (name : List ℕ) (t : Keyed A) → table_at ts name ≡ Some t → AllByRecursion (λ e. get fields_cmp t.changes e.0 ≡ Some e.1) t.changes
    all-found name t found = recursion_from_All _ t.changes (each_found fields_cmp fields_cmp_total t.changes (stands.ordered name t found))

    own : (name : List ℕ) (t : Keyed A) → table_at ts name ≡ Some t → IsOwn t
    own name t found = record {
      ordered = stands.ordered name t found;
      own = own_from t.schema t.changes (λ key change is.
          let known = stands.schema name t found in
          let under = in_a_row.under name t.schema key known in
          let follow = in_a_row.rows name t.schema key known in
          let whole = followed t.schema key (first name key) (all_row_changes name key lists) (last name key) under follow in
          own_key t.schema key whole.0 (first name key) (last name key) change under (last_under t.schema key (first name key) (all_row_changes name key lists) (last name key) under follow)
          (sym whole.1 ∙ kept-is name t found key change is))
          t.changes (all-found name t found);
    }

    made : (name : List ℕ) (t : Keyed A) → table_at ts name ≡ Some t → has_some (entries_of t).changes ≡ true → IsMade columns lists (entries_of t)
    made name t found some =
        let named : t.table ≡ name = found_name ts name t found in
        record {
          known = ap columns named ∙ stands.schema name t found;
          some = some;
          sorted = subst (IsStrictlySortedBy fields_cmp) (sym (own-keys t.schema t.changes (own name t found).own)) (stands.ordered name t found);
          made = made-each columns lists t t.schema t.changes (own name t found).own (λ key change is. ap (λ n. together combined t.schema (all_row_changes n key lists)) named ∙ kept-is name t found key change is) (all-found name t found);
        }

    has-row : (name : List ℕ) (key : Fields A) → row_changes name key (groups_of ts) ≡ cons_option (at ts name key) []
    has-row name key = some_row name key (map entries_of ts) ∙ tables_row name key ts stands.names (each_table IsOwn ts stands.names own)

    pub concatenated-whole : (groups : List (TableChanges A)) × (concat_of (map Changes lists) ≡ Ok (Changes groups)) × IsWhole columns lists groups
    concatenated-whole = (
      groups_of ts,
      ap (λ (r : Result (GroupContent A) GroupRefusal). and_then r (λ group. Ok (contents_of group))) all.1,
      record {
        together = record {
          rows = λ name flags key is. has-row name key ∙ ap (λ o. cons_option o []) (all.2.rows name flags key is);
          others = λ name key is. has-row name key ∙ elim (table_at ts name) as (λ o. table_at ts name ≡ o → cons_option (option_and_then (λ (u : Keyed A). get fields_cmp u.changes key) o) [] ≡ []) [
            | None ↦ λ _. refl
            | Some t ↦ λ found. let clash : None ≡ Some t.schema = sym is ∙ stands.schema name t found in cc
          ] refl;
        };
        names = none-twice ts stands.names;
        each = each-group (IsMade columns lists) ts (each_table (λ t. has_some (entries_of t).changes ≡ true → IsMade columns lists (entries_of t)) ts stands.names made);
      },
    )

    pub concatenated : (groups : List (TableChanges A)) × (concat_of (map Changes lists) ≡ Ok (Changes groups)) × HasTogether columns lists groups
    concatenated = (concatenated-whole.0, concatenated-whole.1, concatenated-whole.2.together)
