-- Changes in the order of their keys make the table that they make in any order that keeps those of one row.
use Rattle.std.proofs.Common.{◌≡◌, ℕ, Bool, List, [], ◌∷◌, map, refl, ap, sym, ◌∙◌, arith}
use Rattle.std.specs.Prelude.{Option, All, filter}
use Rattle.std.specs.List.{AllByRecursion}
use Rattle.std.specs.List.Sorted.{IsPermutation, IsStable, ties}
use Rattle.std.specs.Ordering.{is_lt}
use Rattle.std.proofs.lemmas.List.{map-id, nil_from_length}
use Rattle.std.proofs.lemmas.List.Elements.{All-map, filter_agree, recursion_from_All}
use Rattle.std.proofs.lemmas.List.Sorted.{All-permutation, length_permutation}
use Rattle.std.proofs.lemmas.Simd.{map-map}
use Rattle.cap_row.specs.Fields.{Fields}
use Rattle.cap_row.specs.Key.{fields_cmp, fields_cmp_total, fields_cmp-Equal, fields_eq}
use Rattle.cap_tree.specs.Tree.{IsOrdered, get}
use Rattle.cap_tree.proofs.EntryLemmas.{sorted_nil}
use Rattle.cap_changes.specs.Entries.{AllFit}
use Rattle.cap_group.specs.KeyedChanges.{KeyedChanges, change_after, no_changes, with_change, with_changes}
use Rattle.cap_group.specs.Place.{IsPlace, Place, place_cmp, place_of}
use Rattle.cap_group.specs.Rows.{changes_of_row, together}
use Rattle.cap_group.proofs.GroupLemmas.{kept_names}
use Rattle.cap_group.proofs.RowLemmas.{row_alone, set_ordered}
use Rattle.cap_group.proofs.SameLemmas.{same_by_get}

module _ {A X : Type 0} (key : List Bool → X → Fields A) where
  abbrev changes_at : List (Place A X) → List X
  changes_at ys = map (λ p. p.change) ys

  -- the changes of a row, among places
  of_row : (flags : List Bool) (q : Fields A) (ys : List (Place A X)) → AllByRecursion (λ p. p.key ≡ key flags p.change) ys →
      changes_of_row key flags q (changes_at ys) ≡ changes_at (filter (λ (p : Place A X). fields_eq p.key q) ys)
  of_row flags q [] keyed = refl
  of_row flags q (y ∷ ys) keyed = rw (← keyed.0, of_row flags q ys keyed.1) (grind arith)

  -- places of changes that fit, in any order
  pub places_fit : (flags : List Bool) (fits : List Bool → X → Bool) (changes : List X) (places ys : List (Place A X)) → places ≡ map (place_of key flags) changes → IsPermutation places ys → AllFit fits flags changes →
      All (IsPlace key fits flags) ys
  places_fit flags fits changes places ys is perm fit =
      All-permutation (IsPlace key fits flags) _ ys (rw is at perm) (All-map (IsPlace key fits flags) (place_of key flags) changes (λ i d within. record { keyed = refl; fit = fit i d within }))

  places_back : (flags : List Bool) (changes : List X) → changes_at (map (place_of key flags) changes) ≡ changes
  places_back flags changes = rw (map-map, map-id) refl

  row_of : (p : Place A X) (zs : List (Place A X)) →
      filter (ties (λ a b. is_lt (place_cmp a b)) p) zs ≡ filter (λ (z : Place A X). fields_eq z.key p.key) zs
  row_of p zs = filter_agree _ _ (λ z. rw (fields_cmp_total.antisymm p.key z.key) (grind arith)) zs

  -- a sort keeps the changes of a row
  rows_kept : (flags : List Bool) (q : Fields A) (places ys : List (Place A X)) → IsPermutation places ys → IsStable place_cmp places ys → All (λ p. p.key ≡ key flags p.change) places →
      changes_of_row key flags q (changes_at ys) ≡ changes_of_row key flags q (changes_at places)
  rows_kept flags q [] ys perm stable keyed = rw (nil_from_length ys (length_permutation [] ys perm)) refl
  rows_kept flags q (z ∷ zs) ys perm stable keyed =
      let p : Place A X = record { key = q; change = z.change } in
      of_row flags q ys (recursion_from_All _ ys (All-permutation (λ (p : Place A X). p.key ≡ key flags p.change) (z ∷ zs) ys perm keyed))
      ∙ ap changes_at (sym (row_of p ys) ∙ stable p ∙ row_of p (z ∷ zs))
      ∙ sym (of_row flags q (z ∷ zs) (recursion_from_All _ (z ∷ zs) keyed))

  module _ (combine : List Bool → X → X → Option X) where
    pub all_ordered : (changes : List X) (keyed : KeyedChanges A X) → IsOrdered fields_cmp keyed.changes → IsOrdered fields_cmp (with_changes key combine keyed changes).changes
    all_ordered [] keyed s = s
    all_ordered (x ∷ xs) keyed s =
        all_ordered xs (with_change key combine keyed x) (set_ordered keyed.changes s (key keyed.schema x) (change_after combine keyed.schema (get fields_cmp keyed.changes (key keyed.schema x)) x))

    pub sorted_same : (table : List ℕ) (flags : List Bool) (changes : List X) (places ys : List (Place A X)) → places ≡ map (place_of key flags) changes → IsPermutation places ys → IsStable place_cmp places ys →
        with_changes key combine (no_changes table flags) (changes_at ys) ≡ with_changes key combine (no_changes table flags) changes
    sorted_same table flags changes places ys is perm stable =
        let none : KeyedChanges A X = no_changes table flags in
        let ordered = λ (xs : List X). all_ordered xs none (sorted_nil fields_cmp) in
        let keyed : All (λ (p : Place A X). p.key ≡ key flags p.change) places = rw is (All-map (λ (p : Place A X). p.key ≡ key flags p.change) (place_of key flags) changes (λ i d within. refl)) in
        let all : (with_changes key combine none (changes_at ys)).changes ≡ (with_changes key combine none changes).changes =
        same_by_get fields_cmp fields_cmp_total (λ a b. (fields_cmp-Equal a b).0) _ _ (ordered (changes_at ys)) (ordered changes)
        (λ q. row_alone key combine table flags (changes_at ys) q
        ∙ ap (together combine flags) (rows_kept flags q places ys perm stable keyed ∙ ap (changes_of_row key flags q) (ap changes_at is ∙ places_back flags changes))
        ∙ sym (row_alone key combine table flags changes q)) in
        kept_names key combine none (changes_at ys) ∙ (λ i. record { table = table; schema = flags; changes = all i }) ∙ sym (kept_names key combine none changes)
