-- The order of values (Datatypes In SQLite, "Sort Order", at the BINARY collation).
use Rattle.std.specs.Prelude.{◌≡◌, ◌≤◌, ◌↔◌, ⊤, ℕ, ℤ, pos, Bool, true, false, List, [], Result, length}
use Rattle.std.specs.Prelude.{FitsSigned, IsUtf8}
use Rattle.std.specs.Int.{w64}
use Rattle.std.specs.declared.cmp.Ordering.{Ordering}
use Rattle.std.specs.declared.cmp.Ordering.TheVariants.{Less, Equal, Greater}
use Rattle.std.specs.Ordering.{nat_cmp, int_cmp, on, then_cmp, ordering_then, is_eq}
use Rattle.std.specs.Result.{result_map_both}
use Rattle.std.proofs.Common.{refl, ap, sym, subst}
use Rattle.std.specs.FinMap.{IsAntisymmetric, nat_cmp-IsAntisymmetric, int_cmp-IsAntisymmetric}
use Rattle.std.specs.FinMap.{slice_cmp-IsAntisymmetric}
use Rattle.std.specs.Bool.{Decides}
use Rattle.std.specs.Cmp.{IsTotalOrder, Equal-is, tied_itself}
use Rattle.std.proofs.lemmas.Cmp.{on_total, then_total, nat_cmp_total, int_cmp_total, nat_list_cmp_total}
use Rattle.cap_value.specs.Bytes.{AreBytes, bytes_cmp, within_limit}
use Rattle.cap_value.specs.declared.refusal.Refusal.{Refusal}
use Rattle.cap_value.specs.declared.value.Value.{Value}
use Rattle.cap_value.specs.declared.value.Value.TheVariants.{Null, Int, Text, Blob}

then-Equal : (o : Ordering) → o ≡ ordering_then o Equal
then-Equal Less = refl
then-Equal Equal = refl
then-Equal Greater = refl

module _ {A : Type 0} where
  -- NULL, then integers, then texts, then blobs
  abbrev pub storage_class : Value A → ℕ
  storage_class Null = 0
  storage_class (Int n) = 1
  storage_class (Text t) = 2
  storage_class (Blob b) = 3

  abbrev pub is_null : Value A → Bool
  is_null Null = true
  is_null (Int n) = false
  is_null (Text t) = false
  is_null (Blob b) = false

  -- what every value is: an integer of 64 bits, a text in UTF-8, or bytes, at most 1,000,000,000 of them
  abbrev pub IsValue : Value A → Type 0
  IsValue Null = ⊤
  IsValue (Int n) = FitsSigned w64 n
  IsValue (Text t) = IsUtf8 t × AreBytes t × (length t ≤ 1000000000)
  IsValue (Blob b) = AreBytes b × (length b ≤ 1000000000)

  -- integers by number, texts and blobs by their bytes, and others by storage class
  abbrev pub value_cmp : Value A → Value A → Ordering
  value_cmp (Int m) (Int n) = int_cmp m n
  value_cmp (Text s) (Text t) = bytes_cmp s t
  value_cmp (Blob s) (Blob t) = bytes_cmp s t
  value_cmp a b = nat_cmp (storage_class a) (storage_class b)

  -- two values that are equal in the order
  abbrev pub value_eq : Value A → Value A → Bool
  value_eq a b = is_eq (value_cmp a b)

  -- a text, refused where it is too long
  abbrev pub text_value : List ℕ → Result (Value A) Refusal
  text_value bytes = result_map_both Text (λ e. e) (within_limit bytes)

  -- a blob, refused where it is too long
  abbrev pub blob_value : List ℕ → Result (Value A) Refusal
  blob_value bytes = result_map_both Blob (λ e. e) (within_limit bytes)

  number_of : Value A → ℤ
  number_of Null = pos 0
  number_of (Int n) = n
  number_of (Text t) = pos 0
  number_of (Blob b) = pos 0

  bytes_of : Value A → List ℕ
  bytes_of Null = []
  bytes_of (Int n) = []
  bytes_of (Text t) = t
  bytes_of (Blob b) = b

  -- the same order, as one of three parts
  parts_cmp : Value A → Value A → Ordering
  parts_cmp = then_cmp (on storage_class nat_cmp) (then_cmp (on number_of int_cmp) (on bytes_of bytes_cmp))

  by_parts : (a b : Value A) → value_cmp a b ≡ parts_cmp a b
  unfolding parts_cmp number_of bytes_of
  by_parts Null Null = refl
  by_parts Null (Int n) = refl
  by_parts Null (Text t) = refl
  by_parts Null (Blob b) = refl
  by_parts (Int m) Null = refl
  by_parts (Int m) (Int n) = then-Equal (int_cmp m n)
  by_parts (Int m) (Text t) = refl
  by_parts (Int m) (Blob b) = refl
  by_parts (Text s) Null = refl
  by_parts (Text s) (Int n) = refl
  by_parts (Text s) (Text t) = refl
  by_parts (Text s) (Blob b) = refl
  by_parts (Blob s) Null = refl
  by_parts (Blob s) (Int n) = refl
  by_parts (Blob s) (Text t) = refl
  by_parts (Blob s) (Blob b) = refl

  parts_total : IsTotalOrder parts_cmp
  unfolding parts_cmp
  parts_total = then_total (on_total storage_class nat_cmp_total)
      (then_total (on_total number_of int_cmp_total) (on_total bytes_of nat_list_cmp_total))

  pub value_cmp_total : IsTotalOrder value_cmp
  value_cmp_total =
      subst (λ (R : Value A → Value A → Ordering). IsTotalOrder R) (λ i a b. sym (by_parts a b) i) parts_total

  -- two values that are equal in the order are the same
  pub value_cmp-IsAntisymmetric : IsAntisymmetric value_cmp
  value_cmp-IsAntisymmetric Null Null e = refl
  value_cmp-IsAntisymmetric Null (Int n) e = cc
  value_cmp-IsAntisymmetric Null (Text t) e = cc
  value_cmp-IsAntisymmetric Null (Blob b) e = cc
  value_cmp-IsAntisymmetric (Int m) Null e = cc
  value_cmp-IsAntisymmetric (Int m) (Int n) e = ap Int (int_cmp-IsAntisymmetric m n e)
  value_cmp-IsAntisymmetric (Int m) (Text t) e = cc
  value_cmp-IsAntisymmetric (Int m) (Blob b) e = cc
  value_cmp-IsAntisymmetric (Text s) Null e = cc
  value_cmp-IsAntisymmetric (Text s) (Int n) e = cc
  value_cmp-IsAntisymmetric (Text s) (Text t) e =
      ap Text (slice_cmp-IsAntisymmetric nat_cmp-IsAntisymmetric s t e)
  value_cmp-IsAntisymmetric (Text s) (Blob b) e = cc
  value_cmp-IsAntisymmetric (Blob s) Null e = cc
  value_cmp-IsAntisymmetric (Blob s) (Int n) e = cc
  value_cmp-IsAntisymmetric (Blob s) (Text t) e = cc
  value_cmp-IsAntisymmetric (Blob s) (Blob t) e =
      ap Blob (slice_cmp-IsAntisymmetric nat_cmp-IsAntisymmetric s t e)

  -- different values are unequal in the order
  pub value_cmp-Equal : (a b : Value A) → (value_cmp a b ≡ Equal) ↔ (a ≡ b)
  value_cmp-Equal a b = (
    value_cmp-IsAntisymmetric a b,
    λ e. subst (λ c. value_cmp a c ≡ Equal) e
        (tied_itself value_cmp_total a),
  )

  pub value_eq_decides : (a b : Value A) → Decides (value_eq a b) (a ≡ b)
  value_eq_decides a b = (
    λ e. (value_cmp-Equal a b).0 ((Equal-is (value_cmp a b)).0 e),
    λ e. (Equal-is (value_cmp a b)).1
        ((value_cmp-Equal a b).1 e),
  )
