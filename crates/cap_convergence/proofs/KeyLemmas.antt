-- Keys of changes, rows under a key, and lists.
use Rattle.std.proofs.Common.{◌≡◌, ℕ, ◌≤◌, Bool, true, false, cond, List, [], ◌∷◌, ◌++◌, length, Option, Some, None, ◌⊎◌, inl, inr, refl, ap, sym, subst, ◌∙◌, arith}
use Rattle.std.specs.Prelude.{filter, filter_map, IfSome}
use Rattle.std.specs.Option.{ForSome}
use Rattle.std.specs.List.{AllByRecursion, cons_option}
use Rattle.std.specs.Cmp.Lexicographic.{bytes_decides}
use Rattle.std.proofs.lemmas.Bool.{and_parts}
use Rattle.cap_value.specs.Bytes.{bytes_eq}
use Rattle.cap_row.specs.Fields.{Fields}
use Rattle.cap_row.specs.Key.{fields_eq, fields_eq_decides, is_key, key_from}
use Rattle.cap_row.specs.Schema.{has_key}
use Rattle.cap_changes.specs.Change.{change_of, new_field, old_field}
use Rattle.cap_changes.specs.Column.{by_column}
use Rattle.cap_changes.specs.FieldRecord.{RecordFields}
use Rattle.cap_changes.specs.Fits.{change_fits}
use Rattle.cap_changes.specs.Group.{TableChanges}
use Rattle.cap_changes.specs.Patch.{patch_of}
use Rattle.cap_changes.specs.Requirements.{new_requirements, requirements, satisfy}
use Rattle.cap_changes.specs.declared.record_kind.RecordKind.TheVariants.{Keyed}
use Rattle.cap_changes.specs.declared.row_change.RowChange.{RowChange}
use Rattle.cap_changes.specs.declared.row_change.RowChange.TheVariants.{Insert, Update, Delete}
use Rattle.cap_changes.proofs.ChangeLemmas as captured
use Rattle.cap_changes.proofs.PatchLemmas.{update_fits}
use Rattle.cap_codec.specs.Writable.{has_some}
use Rattle.cap_apply.specs.Difference.{IsUnder}
use Rattle.cap_apply.specs.Row as applied
use Rattle.cap_apply.proofs.KeyLemmas.{change_has_key}
use Rattle.cap_apply.proofs.RowLemmas.{record_key, update_key}
use Rattle.cap_group.specs.ChangeKey.{change_key, key_values}
use Rattle.cap_group.specs.Rows.{IsRowUnder, changes_of_row}
use Rattle.cap_rebase.specs.Flag.{flagged}
use Rattle.cap_captures.specs.Rows.{row_changes}

-- ---- lists

pub some_same : {X : Type 0} {x y : X} → Some x ≡ Some y → x ≡ y
some_same e = cc

pub other_name : (a b : List ℕ) → bytes_eq a b ≡ false → bytes_eq b a ≡ false
other_name a b is =
    elim (bytes_eq b a) as (λ r. bytes_eq b a ≡ r → r ≡ false) [
      | true ↦ λ same. let clash : true ≡ false = sym ((bytes_decides a b).1 (sym ((bytes_decides b a).0 same))) ∙ is in cc
      | false ↦ λ _. refl
    ] refl

pub same_test : (a b : Bool) → (a ≡ true → b ≡ true) → (b ≡ true → a ≡ true) → a ≡ b
same_test true b f g = sym (f refl)
same_test false true f g = g refl
same_test false false f g = refl

pub all_turn : {X : Type 0} (P Q : X → Type 0) → ((x : X) → P x → Q x) → (xs : List X) → AllByRecursion P xs → AllByRecursion Q xs
all_turn P Q h [] all = tt
all_turn P Q h (x ∷ xs) all = (h x all.0, all_turn P Q h xs all.1)

pub all_append : {X : Type 0} (P : X → Type 0) (xs ys : List X) → AllByRecursion P xs → AllByRecursion P ys → AllByRecursion P (xs ++ ys)
all_append P [] ys all more = more
all_append P (x ∷ xs) ys all more = (all.0, all_append P xs ys all.1 more)

pub all_filter : {X : Type 0} (P : X → Type 0) (p : X → Bool) (xs : List X) → AllByRecursion P xs → AllByRecursion P (filter p xs)
all_filter P p [] all = tt
all_filter P p (x ∷ xs) all = elim (p x) as (λ b. AllByRecursion P (cond b (x ∷ filter p xs) (filter p xs))) [
  | true ↦ (all.0, all_filter P p xs all.1)
  | false ↦ all_filter P p xs all.1
]

kept_first : {Y : Type 0} (P : Y → Type 0) (o : Option Y) (ys : List Y) → IfSome o P → AllByRecursion P ys → AllByRecursion P (cons_option o ys)
kept_first P None ys holds all = all
kept_first P (Some y) ys holds all = (holds, all)

pub all_kept : {X Y : Type 0} (P : Y → Type 0) (h : X → Option Y) (xs : List X) → AllByRecursion (λ x. IfSome (h x) P) xs → AllByRecursion P (filter_map h xs)
all_kept P h [] all = tt
all_kept P h (x ∷ xs) all = kept_first P (h x) (filter_map h xs) all.0 (all_kept P h xs all.1)

pub same_kept : {X Y : Type 0} (g h : X → Option Y) (xs : List X) → AllByRecursion (λ x. g x ≡ h x) xs → filter_map g xs ≡ filter_map h xs
same_kept g h [] all = refl
same_kept g h (x ∷ xs) all = λ i. cons_option (all.0 i) (same_kept g h xs all.1 i)

pub none_kept : {X Y : Type 0} (h : X → Option Y) (xs : List X) → AllByRecursion (λ x. h x ≡ None) xs → filter_map h xs ≡ []
none_kept h [] all = refl
none_kept h (x ∷ xs) all = λ i. cons_option (all.0 i) (none_kept h xs all.1 i)

pub same_filter : {X : Type 0} (p q : X → Bool) (xs : List X) → AllByRecursion (λ x. p x ≡ q x) xs → filter p xs ≡ filter q xs
same_filter p q [] all = refl
same_filter p q (x ∷ xs) all = λ i. cond (all.0 i) (x ∷ same_filter p q xs all.1 i) (same_filter p q xs all.1 i)

pub append_none : {X : Type 0} (xs : List X) → xs ≡ xs ++ []
append_none [] = refl
append_none (x ∷ xs) = ap (λ l. x ∷ l) (append_none xs)

pub option_append : {X : Type 0} (o : Option X) (xs : List X) → cons_option o [] ++ xs ≡ cons_option o xs
option_append None xs = refl
option_append (Some x) xs = refl

-- an element of a list
abbrev pub IsIn : {X : Type 0} → X → List X → Type 0
IsIn x [] = ⊥
IsIn x (y ∷ ys) = (x ≡ y) ⊎ IsIn x ys

in_front : {X : Type 0} (x : X) (xs ys : List X) → IsIn x xs → IsIn x (xs ++ ys)
in_front x [] ys is = absurd is
in_front x (y ∷ xs) ys (inl is) = inl is
in_front x (y ∷ xs) ys (inr later) = inr (in_front x xs ys later)

in_back : {X : Type 0} (x : X) (xs ys : List X) → IsIn x ys → IsIn x (xs ++ ys)
in_back x [] ys is = is
in_back x (y ∷ xs) ys is = inr (in_back x xs ys is)

in_filter : {X : Type 0} (p : X → Bool) (x : X) (xs : List X) → p x ≡ true → IsIn x xs → IsIn x (filter p xs)
in_filter p x [] passes is = absurd is
in_filter p x (y ∷ ys) passes (inl is) =
    let here : p y ≡ true = ap p (sym is) ∙ passes in
    subst (λ l. IsIn x l) (sym (ap (λ b. cond b (y ∷ filter p ys) (filter p ys)) here)) (inl is)
in_filter p x (y ∷ ys) passes (inr later) =
    elim (p y) as (λ b. IsIn x (cond b (y ∷ filter p ys) (filter p ys))) [
      | true ↦ inr (in_filter p x ys passes later)
      | false ↦ in_filter p x ys passes later
    ]

pub all_in : {X : Type 0} (xs : List X) → AllByRecursion (λ x. IsIn x xs) xs
all_in [] = tt
all_in (x ∷ xs) = (inl refl, all_turn (λ y. IsIn y xs) (λ y. IsIn y (x ∷ xs)) (λ y is. inr is) xs (all_in xs))

pub alone : {X : Type 0} (x : X) (xs : List X) → IsIn x xs → length xs ≤ 1 → xs ≡ x ∷ []
alone x [] is few = absurd is
alone x (y ∷ []) (inr is) few = absurd is
alone x (y ∷ []) (inl is) few = ap (λ z. z ∷ []) (sym is)
alone x (y ∷ z ∷ ys) is few = absurd (omega (arith, few))

module _ {A : Type 0} where
  -- ---- the changes of a row in a changeset

  -- the changes of a row in one group
  abbrev pub group_row : List ℕ → Fields A → TableChanges A → List (RowChange A)
  group_row name key group = cond (bytes_eq group.table name) (changes_of_row change_key group.schema key group.changes) []

  no_changes : (name : List ℕ) (key : Fields A) (group : TableChanges A) → group.changes ≡ [] → group_row name key group ≡ []
  no_changes name key group none =
      ap (λ cs. cond (bytes_eq group.table name) (changes_of_row change_key group.schema key cs) []) none
      ∙ elim (bytes_eq group.table name) as (λ b. cond b (changes_of_row change_key group.schema key []) [] ≡ []) [ true ↦ refl | false ↦ refl ]

  -- groups without changes have no change of a row
  pub row_of_some : (name : List ℕ) (key : Fields A) (groups : List (TableChanges A)) → row_changes name key (filter (λ group. has_some group.changes) groups) ≡ row_changes name key groups
  row_of_some name key [] = refl
  row_of_some name key (group ∷ groups) =
      let rest = filter (λ (g : TableChanges A). has_some g.changes) groups in
      elim group.changes as (λ cs. group.changes ≡ cs → row_changes name key (cond (has_some group.changes) (group ∷ rest) rest) ≡ row_changes name key (group ∷ groups)) [
        | [] ↦ λ none.
            ap (λ (cs : List (RowChange A)). row_changes name key (cond (has_some cs) (group ∷ rest) rest)) none
            ∙ row_of_some name key groups
            ∙ ap (λ l. l ++ row_changes name key groups) (sym (no_changes name key group none))
        | change ∷ changes ↦ λ some.
            ap (λ (cs : List (RowChange A)). row_changes name key (cond (has_some cs) (group ∷ rest) rest)) some
            ∙ ap (λ l. group_row name key group ++ l) (row_of_some name key groups)
      ] refl

  -- each change is among those of its row
  pub in_row : (group : TableChanges A) (groups : List (TableChanges A)) → IsIn group groups → (change : RowChange A) → IsIn change group.changes
      → IsIn change (row_changes group.table (change_key group.schema change) groups)
  in_row group [] is change is' = absurd is
  in_row group (other ∷ groups) (inr later) change is =
      in_back change (group_row group.table (change_key group.schema change) other) (row_changes group.table (change_key group.schema change) groups) (in_row group groups later change is)
  in_row group (other ∷ groups) (inl same) change is =
      let key = change_key group.schema change in
      let filtered = in_filter (λ (c : RowChange A). fields_eq (change_key group.schema c) key) change group.changes ((fields_eq_decides key key).1 refl) is in
      let here : IsIn change (group_row group.table key group) = subst (λ b. IsIn change (cond b (changes_of_row change_key group.schema key group.changes) [])) (sym ((bytes_decides group.table group.table).1 refl)) filtered in
      in_front change (group_row group.table key other) (row_changes group.table key groups) (subst (λ (g : TableChanges A). IsIn change (group_row group.table key g)) same here)

  -- ---- the key of a change that fits its table

  same_values : (flags : List Bool) (fields : RecordFields A) → applied.key_values flags fields ≡ key_values flags fields
  same_values [] fields = refl
  same_values (flag ∷ flags) [] = refl
  same_values (true ∷ flags) (None ∷ fields) = same_values flags fields
  same_values (false ∷ flags) (None ∷ fields) = same_values flags fields
  same_values (true ∷ flags) (Some value ∷ fields) = ap (λ (k : Fields A). value ∷ k) (same_values flags fields)
  same_values (false ∷ flags) (Some value ∷ fields) = same_values flags fields

  -- the key under which a change is applied
  pub applied_key : (flags : List Bool) (change : RowChange A) → change_fits flags change ≡ true → applied.key_values flags (applied.key_record_of (patch_of flags change)) ≡ change_key flags change
  applied_key flags (Insert indirect new) fits = same_values flags new
  applied_key flags (Update indirect old new) fits =
      let parts = and_parts (satisfy (requirements Keyed flags) old) (satisfy (new_requirements flags old) new) fits in
      update_key flags old new (update_fits flags old new parts.0 parts.1) ∙ same_values flags old
  applied_key flags (Delete indirect old) fits = record_key flags old ∙ same_values flags old

  pub has_its_key : (flags : List Bool) (change : RowChange A) → has_key flags ≡ true → change_fits flags change ≡ true → is_key (change_key flags change) ≡ true
  has_its_key flags (Insert indirect new) keyed fits = ap is_key (sym (same_values flags new)) ∙ change_has_key flags (Insert indirect new) keyed fits
  has_its_key flags (Update indirect old new) keyed fits = ap is_key (sym (same_values flags old)) ∙ change_has_key flags (Update indirect old new) keyed fits
  has_its_key flags (Delete indirect old) keyed fits = ap is_key (sym (same_values flags old)) ∙ change_has_key flags (Delete indirect old) keyed fits

  pub flagged_key : (flags : List Bool) (flag : Bool) (change : RowChange A) → change_key flags (flagged flag change) ≡ change_key flags change
  flagged_key flags flag (Insert indirect new) = refl
  flagged_key flags flag (Update indirect old new) = refl
  flagged_key flags flag (Delete indirect old) = refl

  pub flagged_fits : (flags : List Bool) (flag : Bool) (change : RowChange A) → change_fits flags change ≡ true → change_fits flags (flagged flag change) ≡ true
  flagged_fits flags flag (Insert indirect new) fits = fits
  flagged_fits flags flag (Update indirect old new) fits = fits
  flagged_fits flags flag (Delete indirect old) fits = fits

  -- ---- rows under a key

  pub is_under : (flags : List Bool) (key : Fields A) → is_key key ≡ true → (row : Option (Fields A)) → ForSome row (IsRowUnder flags key) → IsUnder flags key row
  is_under flags key keyed None under = tt
  is_under flags key keyed (Some row) under =
      ((under row refl).wide, ap key_from (under row refl).under ∙ ap (λ b. cond b (Some key) None) keyed)

  -- the change between two rows under a key fits their table
  pub change_between_fits : (flags : List Bool) (key : Fields A) (indirect : Bool) (before after : Option (Fields A)) → IsUnder flags key before → IsUnder flags key after
      → IfSome (change_of flags indirect before after) (λ change. change_fits flags change ≡ true)
  change_between_fits flags key indirect None None b a = tt
  change_between_fits flags key indirect None (Some now) b a = captured.full_fits flags now (record { wide = a.0; keyed = rw a.1 refl })
  change_between_fits flags key indirect (Some image) None b a = captured.full_fits flags image (record { wide = b.0; keyed = rw b.1 refl })
  change_between_fits flags key indirect (Some image) (Some now) b a =
      elim (fields_eq image now) as (λ e. IfSome (cond e None (Some (Update indirect (by_column old_field flags image now) (by_column new_field flags image now)))) (λ change. change_fits flags change ≡ true)) [
        | true ↦ tt
        | false ↦ captured.update_fits flags indirect image now (record { wide = b.0; keyed = rw b.1 refl }) (record { wide = a.0; keyed = rw a.1 refl })
      ]
