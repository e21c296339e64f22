-- A changeset that leads from the rows of one database to those of another, applied to the first.
use Rattle.std.proofs.Common.{◌≡◌, ℕ, Bool, true, false, cond, Option, Some, None, Ok, List, [], ◌∷◌, ◌++◌, ◌⊎◌, inl, inr, refl, sym, ap, subst, ◌∙◌, T}
use Rattle.std.specs.Prelude.{map, option_and_then}
use Rattle.std.specs.Option.{option_map}
use Rattle.std.specs.List.{AllByRecursion}
use Rattle.std.specs.List.Sorted.{IsStrictlySortedBy}
use Rattle.std.specs.declared.cmp.Ordering.TheVariants.{Less, Equal}
use Rattle.std.specs.Cmp.Lexicographic.{bytes_decides}
use Rattle.std.specs.FinMap.Entries.{same_entries}
use Rattle.std.proofs.lemmas.Cmp.{nat_list_cmp_total}
use Rattle.std.proofs.lemmas.List.{append-nil}
use Rattle.cap_value.specs.Bytes.{bytes_cmp, bytes_eq}
use Rattle.cap_row.specs.Fields.{Fields}
use Rattle.cap_row.specs.Key.{fields_cmp, fields_cmp-Equal, fields_cmp_total, fields_eq, fields_eq_decides}
use Rattle.cap_tree.specs.Tree.{get}
use Rattle.cap_table.specs.Sound.{IsRising}
use Rattle.cap_table.specs.Table.{TableState}
use Rattle.cap_database.specs.Read.{row_at}
use Rattle.cap_database.specs.Tables.{AreRising, Tables, schema_of, table_of}
use Rattle.cap_changes.specs.Change.{change_of}
use Rattle.cap_changes.specs.Group.{TableChanges}
use Rattle.cap_changes.specs.declared.row_change.RowChange.{RowChange}
use Rattle.cap_codec.specs.Writable.{has_some}
use Rattle.cap_codec.specs.declared.read.Contents.TheVariants.{Changes}
use Rattle.cap_apply.specs.Applied.{AppliedState}
use Rattle.cap_apply.specs.Apply.{apply}
use Rattle.cap_apply.specs.Captured.{AllAfter, AllBefore, AllDiffer, AreOthers, GivesAllRowsNow, TableRows, changes_of as group_of_rows}
use Rattle.cap_apply.specs.Difference.{AreApart, Difference, HoldAfter, HoldBefore, RowsAfter}
use Rattle.cap_apply.specs.Fitting.{FitsItsColumns}
use Rattle.cap_apply.specs.declared.policy.Policy.{Policy}
use Rattle.cap_group.specs.ChangeKey.{change_key}
use Rattle.cap_group.specs.Rows.{changes_of_row}
use Rattle.cap_core.specs.AppliedCapture.{but_keyed, changes_in}
use Rattle.cap_core_laws.proofs.AppliedCaptureLemmas.{found-rising, same_but_keyed, total-is}
use Rattle.cap_core_laws.proofs.InsertLemmas.{names_same}
use Rattle.cap_core.proofs.KeyedLemmas.{ordered}
use Rattle.cap_core.proofs.TouchedLemmas.{fields_same, get-find}
use Rattle.cap_captures.specs.Rows.{row_changes}
use Rattle.cap_captures.proofs.CaptureLemmas.{row-stands, with-table}
use Rattle.cap_captures.proofs.ConcatLemmas.{NoneTwice, other_name, some_same}

sum-map : {X Y X' Y' : Type 0} → (X → X') → (Y → Y') → X ⊎ Y → X' ⊎ Y'
sum-map f g (inl x) = inl (f x)
sum-map f g (inr y) = inr (g y)

apart-names : (a b : List ℕ) → bytes_eq a b ≡ false → a ≡ b → ⊥
apart-names a b is same = let clash : true ≡ false = sym ((bytes_decides a b).1 same) ∙ is in cc

module _ {A : Type 0} where
  -- no group of the name has a change of the row
  pub absent-row : (name : List ℕ) (key : Fields A) (groups : List (TableChanges A)) → AllByRecursion (λ other. bytes_eq name other.table ≡ false) groups → row_changes name key groups ≡ []
  absent-row name key [] apart = refl
  absent-row name key (group ∷ groups) apart =
      ap (λ b. (cond b (changes_of_row change_key group.schema key group.changes) []) ++ row_changes name key groups) (other_name name group.table apart.0) ∙ absent-row name key groups apart.1

module _ {A : Type 0} (database main : Tables A) (rise : AreRising database) (main_rise : AreRising main) where
  -- a change of a row that leads from the one to the other
  abbrev difference : List ℕ → List Bool → RowChange A → Difference A
  difference name flags change = record {
    key = change_key flags change;
    before = row_at database name (change_key flags change);
    after = row_at main name (change_key flags change);
    change = change;
  }

  -- a group of such changes
  pub record Turns (group : TableChanges A) : Type 0 where
    pub here : schema_of database group.table ≡ Some group.schema
    pub there : schema_of main group.table ≡ Some group.schema
    pub sorted : IsStrictlySortedBy fields_cmp (map (change_key group.schema) group.changes)
    pub changes : AllByRecursion (λ change. (indirect : Bool) × (change_of group.schema indirect (row_at database group.table (change_key group.schema change)) (row_at main group.table (change_key group.schema change)) ≡ Some change)) group.changes

  -- ---- one group

  module _ (name : List ℕ) (flags : List Bool) (here : schema_of database name ≡ Some flags) (there : schema_of main name ≡ Some flags) where
    abbrev Turned : RowChange A → Type 0
    Turned change = (indirect : Bool) × (change_of flags indirect (row_at database name (change_key flags change)) (row_at main name (change_key flags change)) ≡ Some change)

    apart-sorted : (key : Fields A) (changes : List (RowChange A)) → AllByRecursion (λ y. fields_cmp key y ≡ Less) (map (change_key flags) changes) → AreApart key (map (difference name flags) changes)
    apart-sorted key [] above = tt
    apart-sorted key (change ∷ changes) above =
        (λ same. let clash : Equal ≡ Less = sym ((fields_cmp-Equal key (change_key flags change)).1 same) ∙ above.0 in cc, apart-sorted key changes above.1)

    stand-before : (table : TableState A) → table_of database name ≡ Some table → (changes : List (RowChange A)) → IsStrictlySortedBy fields_cmp (map (change_key flags) changes) → AllByRecursion Turned changes
        → HoldBefore flags table (map (difference name flags) changes)
    unfolding IsStrictlySortedBy
    stand-before table found [] sorted turned = tt
    stand-before table found (change ∷ changes) sorted turned =
        let key = change_key flags change in (
          record {
            before = row-stands database rise name flags key here;
            after = row-stands main main_rise name flags key there;
            change = turned.0;
          },
          sym (ap (option_and_then (λ t. get fields_cmp t.keyed key)) found),
          apart-sorted key changes sorted.0,
          stand-before table found changes sorted.1 turned.1,
        )

  back : (name : List ℕ) (flags : List Bool) (changes : List (RowChange A)) → map (λ (d : Difference A). d.change) (map (difference name flags) changes) ≡ changes
  back name flags [] = refl
  back name flags (change ∷ changes) = ap (λ (l : List (RowChange A)). change ∷ l) (back name flags changes)

  -- at each key the table has main's row, or no change is of the key
  in-changes : (found : TableState A) (name : List ℕ) (flags : List Bool) (changes : List (RowChange A)) → HoldAfter found (map (difference name flags) changes) → (key : Fields A)
      → ((get fields_cmp found.keyed key ≡ row_at main name key) × (changes_of_row change_key flags key changes ≡ [] → ⊥)) ⊎ (AreApart key (map (difference name flags) changes) × (changes_of_row change_key flags key changes ≡ []))
  in-changes found name flags [] after key = inr (tt, refl)
  in-changes found name flags (change ∷ changes) after key =
      let rest = changes_of_row change_key flags key changes in
      elim (fields_eq (change_key flags change) key) as (λ b. fields_eq (change_key flags change) key ≡ b
      → ((get fields_cmp found.keyed key ≡ row_at main name key) × (cond b (change ∷ rest) rest ≡ [] → ⊥)) ⊎ (AreApart key (map (difference name flags) (change ∷ changes)) × (cond b (change ∷ rest) rest ≡ []))) [
        | true ↦ λ same.
            inl (subst (λ k. get fields_cmp found.keyed k ≡ row_at main name k) ((fields_eq_decides (change_key flags change) key).0 same) after.0, λ none. cc)
        | false ↦ λ apart.
            let others = in-changes found name flags changes after.1 key in
            sum-map (λ both. both)
            (λ both. ((λ same. let clash : true ≡ false = sym ((fields_eq_decides (change_key flags change) key).1 (sym same)) ∙ apart in cc, both.0), both.1)) others
      ] refl

  -- ---- all groups

  abbrev table-here : (group : TableChanges A) → Turns group → (table : TableState A) × (table_of database group.table ≡ Some table) × (table.schema ≡ group.schema)
  table-here group turns = with-table group.schema (table_of database group.table) turns.here

  abbrev rows-of : (group : TableChanges A) → Turns group → TableRows A
  rows-of group turns = record { name = group.table; table = (table-here group turns).0; differences = map (difference group.table group.schema) group.changes }

  plan : (groups : List (TableChanges A)) → AllByRecursion Turns groups → List (TableRows A)
  plan [] all = []
  plan (group ∷ groups) all = rows-of group all.0 ∷ plan groups all.1

  plan-is : (groups : List (TableChanges A)) (all : AllByRecursion Turns groups) → map group_of_rows (plan groups all) ≡ groups
  unfolding plan
  plan-is [] all = refl
  plan-is (group ∷ groups) all =
      λ i. record { table = group.table; schema = (table-here group all.0).2 i; changes = back group.table group.schema group.changes i } ∷ plan-is groups all.1 i

  others-of : (name : List ℕ) (groups : List (TableChanges A)) (all : AllByRecursion Turns groups) → AllByRecursion (λ other. bytes_eq name other.table ≡ false) groups → AreOthers name (plan groups all)
  unfolding plan
  others-of name [] all apart = tt
  others-of name (group ∷ groups) all apart = (apart-names name group.table apart.0, others-of name groups all.1 apart.1)

  before-of : (groups : List (TableChanges A)) (all : AllByRecursion Turns groups) → NoneTwice groups → AllBefore (plan groups all) database
  unfolding plan
  before-of [] all names = tt
  before-of (group ∷ groups) all names =
      let table = table-here group all.0 in
      let differences = map (difference group.table group.schema) group.changes in (
        record {
          there = table.1;
          rows = subst (λ s. HoldBefore s table.0 differences) (sym table.2)
              (stand-before group.table group.schema all.0.here all.0.there table.0 table.1 group.changes all.0.sorted all.0.changes);
          ordered = ordered fields_cmp table.0.keyed (found-rising database group.table table.0 rise.each table.1).keys;
        },
        others-of group.table groups all.1 names.0,
        before-of groups all.1 names.1,
      )

  -- a row that is left: main's, or as it was where it has no change
  abbrev pub IsLeft : Tables A → List ℕ → Fields A → List (TableChanges A) → Type 0
  IsLeft left name key groups =
      ((row_at left name key ≡ row_at main name key) × (row_changes name key groups ≡ [] → ⊥)) ⊎ ((row_at left name key ≡ row_at database name key) × (row_changes name key groups ≡ []))

  module _ (left : Tables A) where
    here-left : (group : TableChanges A) (groups : List (TableChanges A)) (turns : Turns group) → AllByRecursion (λ other. bytes_eq group.table other.table ≡ false) groups
        → RowsAfter group.table (table-here group turns).0 (map (difference group.table group.schema) group.changes) left → (key : Fields A) → IsLeft left group.table key (group ∷ groups)
    here-left group groups turns names rows key =
        let table = table-here group turns in
        let of_row = changes_of_row change_key group.schema key group.changes in
        let at_left : row_at left group.table key ≡ get fields_cmp rows.found.keyed key = ap (option_and_then (λ t. get fields_cmp t.keyed key)) rows.there in
        let at_database : row_at database group.table key ≡ get fields_cmp table.0.keyed key = ap (option_and_then (λ t. get fields_cmp t.keyed key)) table.1 in
        let changes : row_changes group.table key (group ∷ groups) ≡ of_row =
        ap (λ b. (cond b of_row []) ++ row_changes group.table key groups) ((bytes_decides group.table group.table).1 refl)
        ∙ ap (λ (l : List (RowChange A)). of_row ++ l) (absent-row group.table key groups names) ∙ append-nil of_row in
        sum-map (λ both. (at_left ∙ both.0, λ none. both.1 (sym changes ∙ none)))
        (λ both. (at_left ∙ rows.other_rows key both.0 ∙ sym at_database, changes ∙ both.1))
        (in-changes rows.found group.table group.schema group.changes rows.rows key)

    rows-left : (groups : List (TableChanges A)) (all : AllByRecursion Turns groups) → NoneTwice groups → AllAfter (plan groups all) left → (name : List ℕ) (key : Fields A)
        → (AreOthers name (plan groups all) → table_of left name ≡ table_of database name) → IsLeft left name key groups
    unfolding plan
    rows-left [] all names after name key stay = inr (ap (option_and_then (λ t. get fields_cmp t.keyed key)) (stay tt), refl)
    rows-left (group ∷ groups) all names after name key stay =
        elim (bytes_eq group.table name) as (λ b. bytes_eq group.table name ≡ b → IsLeft left name key (group ∷ groups)) [
          | true ↦ λ same. subst (λ n. IsLeft left n key (group ∷ groups)) ((bytes_decides group.table name).0 same) (here-left group groups all.0 names.0 after.0 key)
          | false ↦ λ apart.
              let changes : row_changes name key (group ∷ groups) ≡ row_changes name key groups =
              ap (λ b. (cond b (changes_of_row change_key group.schema key group.changes) []) ++ row_changes name key groups) apart in
              sum-map (λ both. (both.0, λ none. both.1 (sym changes ∙ none))) (λ both. (both.0, changes ∙ both.1))
              (rows-left groups all.1 names.1 after.1 name key (λ away. stay (apart-names name group.table (other_name group.table name apart), away)))
        ] refl

    tables-left : (groups : List (TableChanges A)) (all : AllByRecursion Turns groups) → AllAfter (plan groups all) left → (name : List ℕ)
        → (AreOthers name (plan groups all) → table_of left name ≡ table_of database name) → option_map but_keyed (table_of left name) ≡ option_map but_keyed (table_of database name)
    unfolding plan
    tables-left [] all after name stay = ap (option_map but_keyed) (stay tt)
    tables-left (group ∷ groups) all after name stay =
        elim (bytes_eq group.table name) as (λ b. bytes_eq group.table name ≡ b → option_map but_keyed (table_of left name) ≡ option_map but_keyed (table_of database name)) [
          | true ↦ λ same.
              let table = table-here group all.0 in
              let rows = after.0 in
              subst (λ n. option_map but_keyed (table_of left n) ≡ option_map but_keyed (table_of database n)) ((bytes_decides group.table name).0 same)
              (ap (option_map but_keyed) rows.there ∙ ap Some (same_but_keyed rows.found table.0 rows.loose rows.columns rows.next_id) ∙ sym (ap (option_map but_keyed) table.1))
          | false ↦ λ apart. tables-left groups all.1 after.1 name (λ away. stay (apart-names name group.table (other_name group.table name apart), away))
        ] refl

  -- what is left of the database
  pub record IsTurned (policy : Policy) (groups : List (TableChanges A)) : Type 0 where
    pub left : AppliedState A
    pub applied : apply database (Changes groups) policy ≡ Ok left
    pub rows : (name : List ℕ) (key : Fields A) → IsLeft left.database name key groups
    pub others : (name : List ℕ) → option_map but_keyed (table_of left.database name) ≡ option_map but_keyed (table_of database name)
    pub report : left.report ≡ record { applied = changes_in groups; conflicts = []; omitted = []; skipped = [] }

  pub turned : (policy : Policy) (groups : List (TableChanges A)) → AllByRecursion Turns groups → NoneTwice groups
      → ((policy : Policy) (ts : List (TableRows A)) (tables : Tables A) → AllBefore ts tables → GivesAllRowsNow policy ts (Changes (map group_of_rows ts)) tables)
      → IsTurned policy groups
  turned policy groups all names law =
      let gives = law policy (plan groups all) database (before-of groups all names) in
      record {
        left = gives.0;
        applied = ap (λ l. apply database (Changes l) policy) (sym (plan-is groups all)) ∙ gives.1;
        rows = λ name key. rows-left gives.0.database groups all names gives.2 name key (gives.3 name);
        others = λ name. tables-left gives.0.database groups all gives.2 name (gives.3 name);
        report = gives.4 ∙ ap (λ n. record { applied = n; conflicts = []; omitted = []; skipped = [] }) (total-is (plan groups all) ∙ ap changes_in (plan-is groups all));
      }

  differ-of : (groups : List (TableChanges A)) (all : AllByRecursion Turns groups) → AllByRecursion (λ group. has_some group.changes ≡ true) groups → AllDiffer (plan groups all)
  unfolding plan
  differ-of [] all some = tt
  differ-of (group ∷ groups) all some = (some-of group.changes some.0, differ-of groups all.1 some.1)
    where
      some-of : (changes : List (RowChange A)) → has_some changes ≡ true → has_some (map (difference group.table group.schema) changes) ≡ true
      some-of [] is = is
      some-of (change ∷ changes) is = refl

  -- the changeset fits its tables
  pub turned-fits : (groups : List (TableChanges A)) → AllByRecursion Turns groups → NoneTwice groups → AllByRecursion (λ group. has_some group.changes ≡ true) groups
      → ((ts : List (TableRows A)) (tables : Tables A) → AllBefore ts tables → AllDiffer ts → FitsItsColumns (Changes (map group_of_rows ts)))
      → FitsItsColumns (Changes groups)
  turned-fits groups all names some law = subst (λ l. FitsItsColumns (Changes l)) (plan-is groups all) (law (plan groups all) database (before-of groups all names) (differ-of groups all some))

-- ---- tables with the same rows

module _ {A : Type 0} where
  same-table : (a b : TableState A) → IsRising a → IsRising b → but_keyed a ≡ but_keyed b → ((key : Fields A) → get fields_cmp a.keyed key ≡ get fields_cmp b.keyed key) → a ≡ b
  same-table a b rise_a rise_b but rows =
      let keyed : a.keyed ≡ b.keyed = same_entries fields_cmp fields_cmp_total fields_same a.keyed b.keyed (subst T (sym rise_a.keys) tt) (subst T (sym rise_b.keys) tt)
      (λ q. sym (get-find fields_cmp a.keyed q) ∙ rows q ∙ get-find fields_cmp b.keyed q) in
      λ i. record { schema = (but i).schema; keyed = keyed i; loose = (but i).loose; next_id = (but i).next_id }

  -- databases with the same rows and otherwise the same tables are the same
  pub same-tables : (a b : Tables A) → AreRising a → AreRising b → ((name : List ℕ) → option_map but_keyed (table_of a name) ≡ option_map but_keyed (table_of b name))
      → ((name : List ℕ) (key : Fields A) → row_at a name key ≡ row_at b name key) → a ≡ b
  same-tables a b rise_a rise_b others rows =
      same_entries bytes_cmp nat_list_cmp_total names_same a b (subst T (sym rise_a.names) tt) (subst T (sym rise_b.names) tt)
      (λ name. sym (get-find bytes_cmp a name) ∙ one name (table_of a name) (table_of b name) refl refl ∙ get-find bytes_cmp b name)
    where
      one : (name : List ℕ) (in_a in_b : Option (TableState A)) → table_of a name ≡ in_a → table_of b name ≡ in_b → table_of a name ≡ table_of b name
      one name None None is_a is_b = is_a ∙ sym is_b
      one name None (Some table) is_a is_b = let clash : None ≡ Some (but_keyed table) = sym (ap (option_map but_keyed) is_a) ∙ others name ∙ ap (option_map but_keyed) is_b in cc
      one name (Some table) None is_a is_b = let clash : Some (but_keyed table) ≡ None = sym (ap (option_map but_keyed) is_a) ∙ others name ∙ ap (option_map but_keyed) is_b in cc
      one name (Some table) (Some other) is_a is_b =
          is_a
          ∙ ap Some (same-table table other (found-rising a name table rise_a.each is_a) (found-rising b name other rise_b.each is_b)
          (some_same (sym (ap (option_map but_keyed) is_a) ∙ others name ∙ ap (option_map but_keyed) is_b))
          (λ key. sym (ap (option_and_then (λ t. get fields_cmp t.keyed key)) is_a) ∙ rows name key ∙ ap (option_and_then (λ t. get fields_cmp t.keyed key)) is_b))
          ∙ sym is_b
