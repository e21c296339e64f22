-- The differences of two lists of rows are just the keys at which the rows differ.
use Rattle.std.proofs.Common.{◌≡◌, true, false, cond, Option, Some, None, List, [], ◌∷◌, map, refl, sym, ap, ◌∙◌, Bor}
use Rattle.std.specs.Option.{option_copied}
use Rattle.std.specs.Prelude.{filter_map}
use Rattle.std.specs.declared.cmp.Ordering.TheVariants.{Less}
use Rattle.std.specs.Ordering.{is_eq}
use Rattle.std.specs.Cmp.{Equal-is, tied_itself}
use Rattle.std.specs.List.{AllByRecursion, cons_option}
use Rattle.std.specs.List.Sorted.{IsStrictlySortedBy}
use Rattle.std.specs.Map.{keys_of}
use Rattle.std.specs.BTreeMap.{is_at}
use Rattle.cap_row.specs.Fields.{Fields}
use Rattle.cap_row.specs.Key.{fields_cmp, fields_cmp_total}
use Rattle.cap_tree.specs.Tree.{IsOrdered, get}
use Rattle.cap_compare.specs.Beside.{beside, both_at}
use Rattle.cap_compare.specs.declared.difference.Difference.{Difference}
use Rattle.cap_compare.specs.Compare.{AreDifferences, difference_at, differences, image_at, image_of}

-- a key with its rows in both lists
abbrev Both : Type 0 → Type 0
Both A = Fields A × (Option (Fields A) × Option (Fields A))

module _ {A : Type 0} where
  abbrev found_in : List (Both A) → List (Fields A × Option (Fields A))
  found_in es = map image_of (filter_map (λ row. difference_at row.0 (image_at row.1.0 row.1.1)) es)

  -- the differences with one that may be there in front
  abbrev with_first : Fields A → Option (Option (Fields A)) → List (Both A) → List (Fields A × Option (Fields A))
  with_first key found es = map image_of (cons_option (difference_at key found) (filter_map (λ row. difference_at row.0 (image_at row.1.0 row.1.1)) es))

  shown : Option (Option (Fields A) × Option (Fields A)) → Option (Option (Fields A))
  shown None = None
  shown (Some rows) = image_at rows.0 rows.1

  each_found : (P : Fields A → Type 0) (es : List (Both A)) → AllByRecursion P (keys_of es) → AllByRecursion P (keys_of (found_in es))
  each_found P [] h = tt
  each_found P (e ∷ es) h =
      elim (image_at e.1.0 e.1.1) as (λ found. AllByRecursion P (keys_of (with_first e.0 found es))) [
        | None ↦ each_found P es h.1
        | Some image ↦ (h.0, each_found P es h.1)
      ]

  ordered_found : (es : List (Both A)) → IsOrdered fields_cmp es → IsOrdered fields_cmp (found_in es)
  unfolding IsStrictlySortedBy
  ordered_found [] s = tt
  ordered_found (e ∷ es) s =
      elim (image_at e.1.0 e.1.1) as (λ found. IsStrictlySortedBy fields_cmp (keys_of (with_first e.0 found es))) [
        | None ↦ ordered_found es s.1
        | Some image ↦ (each_found (λ k. fields_cmp e.0 k ≡ Less) es s.0, ordered_found es s.1)
      ]

  -- a key that is equal to one below the entries is not among them
  absent : {X : Type 0} (q k : Fields A) (es : List (Fields A × X)) → is_eq (fields_cmp q k) ≡ true → AllByRecursion (λ y. fields_cmp k y ≡ Less) (keys_of es) → get fields_cmp es q ≡ None
  absent q k [] same h = refl
  absent q k (e ∷ es) same h =
      ap (λ r. cond (is_eq r) (Some e.1) (get fields_cmp es q)) (fields_cmp_total.congr q k e.0 ((Equal-is (fields_cmp q k)).0 same) ∙ h.0) ∙ absent q k es same h.1

  get_found : (es : List (Both A)) (q : Fields A) → IsOrdered fields_cmp es → get fields_cmp (found_in es) q ≡ shown (get fields_cmp es q)
  unfolding IsStrictlySortedBy shown
  get_found [] q s = refl
  get_found (e ∷ es) q s =
      elim (image_at e.1.0 e.1.1) as (λ found. image_at e.1.0 e.1.1 ≡ found → get fields_cmp (with_first e.0 found es) q ≡ shown (cond (is_at (fields_cmp q) e.0) (Some e.1) (get fields_cmp es q))) [
        | None ↦ λ none.
            get_found es q s.1
            ∙ elim (is_at (fields_cmp q) e.0) as (λ b. is_at (fields_cmp q) e.0 ≡ b → shown (get fields_cmp es q) ≡ shown (cond b (Some e.1) (get fields_cmp es q))) [
              | true ↦ λ same. ap shown (absent q e.0 es same s.0) ∙ sym none
              | false ↦ λ apart. refl
            ] refl
        | Some image ↦ λ there.
            elim (is_at (fields_cmp q) e.0) as (λ b. cond b (Some image) (get fields_cmp (found_in es) q) ≡ shown (cond b (Some e.1) (get fields_cmp es q))) [
              | true ↦ sym there
              | false ↦ get_found es q s.1
            ]
      ] refl

  shown-both : (x y : Option (Fields A)) → shown (both_at x y) ≡ image_at x y
  unfolding shown
  shown-both None None = refl
  shown-both None (Some y) = refl
  shown-both (Some x) None = refl
  shown-both (Some x) (Some y) = refl

  -- what is known of two lists beside each other
  module _ (from to : List (Fields A × Fields A)) (ordered : IsOrdered fields_cmp (beside fields_cmp from to))
      (each : (key : Fields A) → get fields_cmp (beside fields_cmp from to) key ≡ both_at (get fields_cmp from key) (get fields_cmp to key)) where
    pub are_differences : AreDifferences from to (differences from to)
    are_differences =
        record {
          ordered = ordered_found (beside fields_cmp from to) ordered;
          each = λ key. get_found (beside fields_cmp from to) key ordered ∙ ap shown (each key) ∙ shown-both (get fields_cmp from key) (get fields_cmp to key);
        }

  image_at-same : (x : Option (Fields A)) → image_at x x ≡ None
  image_at-same None = refl
  image_at-same (Some row) = ap (λ r. cond (is_eq r) None (Some (Some row))) (tied_itself fields_cmp_total row)

  -- where no key shows a difference there is none
  none_found : (found : List (Difference A)) → ((key : Fields A) → get fields_cmp (map image_of found) key ≡ None) → found ≡ []
  none_found [] none = refl
  none_found (d ∷ ds) none =
      let there : get fields_cmp (map image_of (d ∷ ds)) d.key ≡ Some d.image = ap (λ r. cond (is_eq r) (Some d.image) (get fields_cmp (map image_of ds) d.key)) (tied_itself fields_cmp_total d.key) in
      let impossible : None ≡ Some d.image = sym (none d.key) ∙ there in
      absurd cc

  pub none_of_itself : (rows : List (Fields A × Fields A)) → AreDifferences rows rows (differences rows rows) → differences rows rows ≡ []
  none_of_itself rows are = none_found (differences rows rows) (λ key. are.each key ∙ image_at-same (get fields_cmp rows key))

-- a table that is lent, and what it shows
pub same_table : {X : Type 0} (lent : Option (Bor X)) (table : Bor X) (shown : X) → lent ≡ Some table → option_copied lent ≡ Some shown → table.now ≡ shown
same_table None table shown is shows = cc
same_table (Some other) table shown is shows = cc
