-- How an item looks can be compared, and the first item that has changed be found.
use Rattle.std.proofs.Common.{◌≡◌, ℕ, zero, suc, ◌+◌, ◌<◌, ◌≤◌, drop, drop-cons, get_or, Bool, true, false, cond, ◌&&◌, Option, Some, None, List, [], ◌∷◌, ◌++◌, length, refl, sym, ap, subst, ◌∙◌, arith}
use Rattle.std.specs.Bool.{Decides, beq}
use Rattle.std.specs.Cmp.{booleans_Decides, unsigned_Decides}
use Rattle.std.specs.Cmp.Lexicographic.{pointwise}
use Rattle.std.specs.List.{AllByRecursion}
use Rattle.std.specs.Option.{option_eq}
use Rattle.std.proofs.lemmas.Slice.Eq.{slice_eq-Decides}
use Rattle.cap_row.specs.Fields.{Fields}
use Rattle.cap_row.specs.Key.{fields_eq, fields_eq_decides}
use Rattle.cap_txn.specs.Footprint.{IsFirstChanged, Appearance, Unchanged, first_changed, look, name_eq, one_later, row_eq, appearance_eq}
use Rattle.cap_txn.specs.Footprint.Appearance.{Absent, Columns, Found, Listed, Next}
use Rattle.cap_database.specs.Tables.{Tables}
use Rattle.cap_txn.specs.declared.item.Item.{Item}
use Rattle.cap_table.specs.declared.row_ref.RowRef.{RowRef}
use Rattle.cap_table.specs.declared.row_ref.RowRef.TheVariants.{Key, Loose}
use Rattle.cap_table.proofs.TableLemmas.{both, first, second}

option-decides : {X : Type 0} (E : X → X → Bool) → ((a b : X) → Decides (E a b) (a ≡ b)) → (x y : Option X) → Decides (option_eq E x y) (x ≡ y)
option-decides E d None None = (λ _. refl, λ _. refl)
option-decides E d None (Some y) = (λ e. absurd (cc), λ e. absurd (cc))
option-decides E d (Some x) None = (λ e. absurd (cc), λ e. absurd (cc))
option-decides E d (Some x) (Some y) = (λ e. ap Some ((d x y).0 e), λ e. let same : x ≡ y = cc in (d x y).1 same)

drop-all : {X : Type 0} (i : ℕ) (xs : List X) → length xs ≤ i → drop i xs ≡ []
drop-all zero [] few = refl
drop-all zero (x ∷ xs) few = absurd (omega arith)
drop-all (suc i) [] few = refl
drop-all (suc i) (x ∷ xs) few = drop-all i xs (omega arith)

-- so many later in the list
abbrev pub later_by : ℕ → Option ℕ → Option ℕ
later_by n None = None
later_by n (Some m) = Some (n + m)

later_by-none : (o : Option ℕ) → o ≡ later_by 0 o
later_by-none None = refl
later_by-none (Some m) = ap Some (omega arith)

later_by-one : (n : ℕ) (o : Option ℕ) → later_by n (one_later o) ≡ later_by (n + 1) o
later_by-one n None = refl
later_by-one n (Some m) = ap Some (omega arith)

list-decides : {X : Type 0} (E : X → X → Bool) → ((a b : X) → Decides (E a b) (a ≡ b)) → (xs ys : List X) → Decides (pointwise E xs ys) (xs ≡ ys)
list-decides E d xs ys = slice_eq-Decides {E = E} d xs ys (pointwise E xs ys) refl

module _ {A : Type 0} where
  name-decides : (a b : RowRef A) → Decides (name_eq a b) (a ≡ b)
  name-decides (Key a) (Key b) = (λ e. ap Key ((fields_eq_decides a b).0 e), λ e. let same : a ≡ b = cc in (fields_eq_decides a b).1 same)
  name-decides (Key a) (Loose n) = (λ e. absurd (cc), λ e. absurd (cc))
  name-decides (Loose m) (Key b) = (λ e. absurd (cc), λ e. absurd (cc))
  name-decides (Loose m) (Loose n) = (λ e. ap Loose ((unsigned_Decides m n).0 e), λ e. let same : m ≡ n = cc in (unsigned_Decides m n).1 same)

  row-decides : (a b : RowRef A × Fields A) → Decides (row_eq a b) (a ≡ b)
  row-decides a b = (
    λ e. ap (λ (name : RowRef A). (name, a.1)) ((name-decides a.0 b.0).0 (first (name_eq a.0 b.0) (fields_eq a.1 b.1) e))
        ∙ ap (λ (row : Fields A). (b.0, row)) ((fields_eq_decides a.1 b.1).0 (second (name_eq a.0 b.0) (fields_eq a.1 b.1) e)),
    λ e. both (name_eq a.0 b.0) (fields_eq a.1 b.1) ((name-decides a.0 b.0).1 (ap (λ (x : RowRef A × Fields A). x.0) e)) ((fields_eq_decides a.1 b.1).1 (ap (λ (x : RowRef A × Fields A). x.1) e)),
  )

  pub appearance-decides : (a b : Appearance A) → Decides (appearance_eq a b) (a ≡ b)
  appearance-decides Absent Absent = (λ _. refl, λ _. refl)
  appearance-decides (Columns a) (Columns b) = let d = list-decides beq booleans_Decides a b in (λ e. ap Columns (d.0 e), λ e. let same : a ≡ b = cc in d.1 same)
  appearance-decides (Found a) (Found b) = let d = option-decides fields_eq fields_eq_decides a b in (λ e. ap Found (d.0 e), λ e. let same : a ≡ b = cc in d.1 same)
  appearance-decides (Listed a) (Listed b) = let d = list-decides row_eq row-decides a b in (λ e. ap Listed (d.0 e), λ e. let same : a ≡ b = cc in d.1 same)
  appearance-decides (Next m) (Next n) = (λ e. ap Next ((unsigned_Decides m n).0 e), λ e. let same : m ≡ n = cc in (unsigned_Decides m n).1 same)
  appearance-decides a b = (λ e. absurd (cc), λ e. absurd (cc))

  module _ (base now : Tables A) where
    none_later : (o : Option ℕ) → one_later o ≡ None → o ≡ None
    none_later None e = refl
    none_later (Some n) e = absurd (cc)

    pub none-changed : (items : List (Item A)) → first_changed base now items ≡ None → Unchanged base now items
    none-changed [] e = tt
    none-changed (item ∷ items) e =
        elim (appearance_eq (look base item) (look now item)) as (λ b. appearance_eq (look base item) (look now item) ≡ b → cond b (one_later (first_changed base now items)) (Some 0) ≡ None → Unchanged base now (item ∷ items)) [
          | true ↦ λ t none. (sym ((appearance-decides (look base item) (look now item)).0 t), none-changed items (none_later (first_changed base now items) none))
          | false ↦ λ _ none. absurd (cc)
        ] refl e

    pub unchanged-none : (items : List (Item A)) → Unchanged base now items → first_changed base now items ≡ None
    unchanged-none [] all = refl
    unchanged-none (item ∷ items) all =
        ap (λ (b : Bool). cond b (one_later (first_changed base now items)) (Some 0)) ((appearance-decides (look base item) (look now item)).1 (sym all.0))
        ∙ ap one_later (unchanged-none items all.1)

    pub first-changed : (items : List (Item A)) (n : ℕ) → first_changed base now items ≡ Some n → IsFirstChanged base now items n
    first-changed [] n e = absurd (cc)
    first-changed (item ∷ items) n e =
        elim (appearance_eq (look base item) (look now item)) as (λ b. appearance_eq (look base item) (look now item) ≡ b → cond b (one_later (first_changed base now items)) (Some 0) ≡ Some n → IsFirstChanged base now (item ∷ items) n) [
          | true ↦ λ t found. later (first-changed items) (sym ((appearance-decides (look base item) (look now item)).0 t)) (first_changed base now items) refl found
          | false ↦ λ f found.
              let here : 0 ≡ n = cc in
              record {
                front = [];
                item = item;
                back = items;
                parts = refl;
                at = sym here;
                same = tt;
                differs = λ same. let clash : true ≡ false = sym ((appearance-decides (look base item) (look now item)).1 (sym same)) ∙ f in cc;
              }
        ] refl e
      where
        later : ((m : ℕ) → first_changed base now items ≡ Some m → IsFirstChanged base now items m) → look now item ≡ look base item → (o : Option ℕ) → first_changed base now items ≡ o → one_later o ≡ Some n → IsFirstChanged base now (item ∷ items) n
        later rest same None is found = absurd (cc)
        later rest same (Some m) is found =
            let more = rest m is in
            let next : m + 1 ≡ n = cc in
            let here : m ≡ length more.front = more.at in
            record {
              front = item ∷ more.front;
              item = more.item;
              back = more.back;
              parts = ap (λ (l : List (Item A)). item ∷ l) more.parts;
              at = omega (arith, next, here);
              same = (same, more.same);
              differs = more.differs;
            }

    -- ---- item by item

    pub changed-first : (items : List (Item A)) → first_changed base now items ≡ later_by 0 (first_changed base now items)
    changed-first items = later_by-none (first_changed base now items)

    module _ (items : List (Item A)) (i : ℕ) (item : Item A) (within : i < length items) (at : item ≡ get_or items i item) (so_far : first_changed base now items ≡ later_by i (first_changed base now (drop i items))) where
      cut : drop i items ≡ item ∷ drop (suc i) items
      cut = drop-cons items i item within ∙ ap (λ (x : Item A). x ∷ drop (suc i) items) (sym at)

      pub changed-here : appearance_eq (look base item) (look now item) ≡ false → first_changed base now items ≡ Some i
      changed-here differs =
          so_far ∙ ap (λ (l : List (Item A)). later_by i (first_changed base now l)) cut
          ∙ ap (λ (b : Bool). later_by i (cond b (one_later (first_changed base now (drop (suc i) items))) (Some 0))) differs ∙ ap Some (omega arith)

      pub changed-later : appearance_eq (look base item) (look now item) ≡ true → first_changed base now items ≡ later_by (i + 1) (first_changed base now (drop (i + 1) items))
      changed-later same =
          let next : suc i ≡ i + 1 = omega arith in
          so_far ∙ ap (λ (l : List (Item A)). later_by i (first_changed base now l)) cut
          ∙ ap (λ (b : Bool). later_by i (cond b (one_later (first_changed base now (drop (suc i) items))) (Some 0))) same
          ∙ later_by-one i (first_changed base now (drop (suc i) items)) ∙ ap (λ (n : ℕ). later_by (i + 1) (first_changed base now (drop n items))) next

    pub changed-nowhere : (items : List (Item A)) (i : ℕ) → length items ≤ i → first_changed base now items ≡ later_by i (first_changed base now (drop i items)) → first_changed base now items ≡ None
    changed-nowhere items i end so_far = so_far ∙ ap (λ (l : List (Item A)). later_by i (first_changed base now l)) (drop-all i items end)
