-- What was read is spelled by the bytes that were read: numbers, texts and blobs.
use Rattle.std.proofs.Common.{◌≡◌, ℕ, ℤ, zero, suc, ◌+◌, ◌-◌, ◌*◌, ◌^◌, ◌/◌, ◌%◌, ◌<◌, ◌≤◌, inl, inr, false, nat_lt, ◌==◌, ◌&&◌, ◌||◌, List, [], ◌∷◌, ◌++◌, length, get_or, Ok, refl, sym, ap, subst, ◌∙◌, append_assoc, append-nil, add-one, pow-suc, arith, w64, take-append-drop, FitsSigned, IsUtf8}
use Rattle.std.specs.List.{AllByRecursion}
use Rattle.std.specs.Int.{from_be_bytes, cast_signed}
use Rattle.std.specs.Str.{is_utf8}
use Rattle.std.proofs.Math.Nat.{pow-le-pow_right}
use Rattle.std.proofs.lemmas.Bool.{ltb-true, ltb-false, eq-eqb, ne_eqb}
use Rattle.std.proofs.lemmas.Bool.Decides.{nat_tests}
use Rattle.std.proofs.lemmas.Int.{of_z-to_z}
use Rattle.std.proofs.lemmas.List.{length-take-le}
use Rattle.std.proofs.lemmas.Nat.{be_bytes_8}
use Rattle.std.proofs.lemmas.Str.{IsUtf8-from_is_utf8, is_utf8-from_IsUtf8}
use Rattle.byteorder.specs.Endian.{big_bytes}
use borrow.Author.Gap.{read_sfits}
use Rattle.cap_value.specs.Bytes.{AreBytes}
use Rattle.cap_field.specs.Reading.{place, bytes_at, varint_from, varint_at}
use Rattle.cap_field.specs.Varint.{group_bytes, varint_bytes}
use Rattle.cap_field.specs.Field.{number_bytes, sized_bytes}
use Rattle.cap_field.specs.FieldReading.{number_at, sized_at, text_at}
use Rattle.cap_field.proofs.Binds.{bind_ok, guard_ok, check_ok, chosen, ok_is}

-- ---- bytes

-- each is below 256
abbrev pub AreLow : List ℕ → Type 0
AreLow bytes = AllByRecursion (λ byte. byte < 256) bytes

pub low_rest : (front rest : List ℕ) → AreLow (front ++ rest) → AreLow rest
low_rest [] rest low = low
low_rest (byte ∷ front) rest low = low_rest front rest low.1

pub low_front : (front rest : List ℕ) → AreLow (front ++ rest) → AreLow front
low_front [] rest low = tt
low_front (byte ∷ front) rest low = (low.0, low_front front rest low.1)

-- the bytes behind what was read
pub low_behind : (bytes front rest : List ℕ) → bytes ≡ front ++ rest → AreLow bytes → AreLow rest
low_behind bytes front rest parts low = low_rest front rest (subst AreLow parts low)

pub low_at : (bytes : List ℕ) → AreLow bytes → (i : ℕ) → get_or bytes i 0 < 256
low_at [] low i = omega arith
low_at (byte ∷ bytes) low zero = low.0
low_at (byte ∷ bytes) low (suc i) = low_at bytes low.1 i

pub are_low : (bytes : List ℕ) → ((i : ℕ) → get_or bytes i 0 < 256) → AreLow bytes
are_low [] each = tt
are_low (byte ∷ bytes) each = (each 0, are_low bytes (λ i. each (suc i)))

are_bytes : (bytes : List ℕ) → AreLow bytes → AreBytes bytes
are_bytes bytes low = λ i lt. low_at bytes low i

-- ---- numbers

-- the groups but the last, and what follows them
abbrev pub groups : ℕ → List ℕ → List ℕ
groups high rest = group_bytes (high / 2097152) ++ (group_bytes (high / 16384) ++ (group_bytes (high / 128) ++ (group_bytes high ++ rest)))

-- one more group
pub groups_more : (n high byte : ℕ) (rest : List ℕ) → n ≡ high * 128 + (byte - 128) → high < 2097152 → 128 ≤ byte → byte < 256 → 0 < n → groups n rest ≡ groups high (byte ∷ rest)
groups_more n high byte rest is fits le lt some =
    let first : n / 2097152 ≡ high / 16384 = omega arith in
    let second : n / 16384 ≡ high / 128 = omega arith in
    let third : n / 128 ≡ high = omega arith in
    let last : 128 + n % 128 ≡ byte = omega arith in
    rw (first, second, third, last, ne_eqb n 0 (λ e. omega arith), eq-eqb (high / 2097152) 0 (omega arith)) refl

-- the last group
pub groups_last : (n high byte : ℕ) (rest : List ℕ) → n ≡ high * 128 + byte → byte < 128 → varint_bytes n ++ rest ≡ groups high (byte ∷ rest)
unfolding varint_bytes
groups_last n high byte rest is lt =
    let first : n / 268435456 ≡ high / 2097152 = omega arith in
    let second : n / 2097152 ≡ high / 16384 = omega arith in
    let third : n / 16384 ≡ high / 128 = omega arith in
    let fourth : n / 128 ≡ high = omega arith in
    let last : n % 128 ≡ byte = omega arith in
    rw (first, second, third, fourth, last) (simp append_assoc)

pub digits_1 : (b : ℕ) → b < 128 → varint_bytes b ≡ b ∷ []
digits_1 b lt = sym (append-nil (varint_bytes b)) ∙ groups_last b 0 b [] (omega arith) lt

-- a number and the bytes behind it
abbrev pub IsNumber : List ℕ → ℕ × List ℕ → Type 0
IsNumber bytes x = (x.0 < 2 ^ 35) × (bytes ≡ varint_bytes x.0 ++ x.1)

goes_on : (read high byte : ℕ) → ((read == 4) || (read == 0) && (byte == 128)) ≡ false → read ≤ 4 → (0 < read → 0 < high) → 128 ≤ byte → (read + 1 ≤ 4) × (0 < high * 128 + (byte - 128))
goes_on read high byte go within some le = grind (arith, nat_tests)

-- at most four groups of seven bits before one
pub below_groups : (read : ℕ) → read ≤ 4 → 128 ^ read ≤ 128 ^ 4
below_groups read within = pow-le-pow_right (omega arith) within

spelled_from : (total at read high : ℕ) (bytes : List ℕ) (x : ℕ × List ℕ) → read ≤ 4 → high < 128 ^ read → (0 < read → 0 < high) → AreLow bytes → varint_from total at read high bytes ≡ Ok x → IsNumber (groups high bytes) x
spelled_from total at read high [] x within fits some low e = absurd cc
spelled_from total at read high (byte ∷ rest) x within fits some low e =
    let most : 128 ^ read ≤ 128 ^ 4 = pow-le-pow_right (omega arith) within in
    elim (chosen (nat_lt byte 128) _ _ _ e) [
      | inl (last, is) ↦ subst (IsNumber (groups high (byte ∷ rest))) (ok_is (high * 128 + byte, rest) x is) (omega (arith, ltb-true byte 128 last), sym (groups_last (high * 128 + byte) high byte rest refl (ltb-true byte 128 last)))
      | inr (more, is) ↦
          let le : 128 ≤ byte = ltb-false byte 128 more in
          let on = guard_ok ((read == 4) || (read == 0) && (byte == 128)) _ _ x is in
          let go = goes_on read high byte on.0 within some le in
          let early : read ≤ 3 = omega arith in
          let most' : 128 ^ read ≤ 128 ^ 3 = pow-le-pow_right (omega arith) early in
          let fits' : high * 128 + (byte - 128) < 128 ^ (read + 1) = rw (add-one, pow-suc) (omega (arith, low.0)) in
          let number = spelled_from total at (read + 1) (high * 128 + (byte - 128)) rest x go.0 fits' (λ _. go.1) low.1 on.1 in
          (number.0, sym (groups_more (high * 128 + (byte - 128)) high byte rest refl (omega arith) le low.0 go.1) ∙ number.1)
    ]

pub varint_spelled : (total : ℕ) (bytes : List ℕ) (x : ℕ × List ℕ) → AreLow bytes → varint_at total bytes ≡ Ok x → IsNumber bytes x
unfolding varint_at
varint_spelled total bytes x low e = spelled_from total (place total bytes) 0 0 bytes x (omega arith) (omega arith) (λ some. some) low e

pub bytes_spelled : (total count : ℕ) (bytes : List ℕ) (x : List ℕ × List ℕ) → bytes_at total count bytes ≡ Ok x → (bytes ≡ x.0 ++ x.1) × (length x.0 ≡ count)
bytes_spelled total count bytes x e =
    let long = guard_ok (nat_lt (length bytes) count) _ _ x e in
    subst (λ (y : List ℕ × List ℕ). (bytes ≡ y.0 ++ y.1) × (length y.0 ≡ count)) (ok_is _ x long.1)
    (sym (take-append-drop count bytes), length-take-le count bytes (ltb-false (length bytes) count long.0))

number_is_of : (bytes : List ℕ) → length bytes ≡ 8 → AreLow bytes → number_bytes (cast_signed w64 (from_be_bytes w64 bytes)) ≡ bytes
number_is_of bytes len low =
    let at = low_at bytes low in
    let small : from_be_bytes w64 bytes < 2 ^ 64 = omega (arith, at 0, at 1, at 2, at 3, at 4, at 5, at 6, at 7) in
    ap (big_bytes 8) (of_z-to_z w64 (from_be_bytes w64 bytes) small) ∙ be_bytes_8 bytes (from_be_bytes w64 bytes) len at refl

pub number_spelled : (total : ℕ) (bytes : List ℕ) (x : ℤ × List ℕ) → AreLow bytes → number_at total bytes ≡ Ok x → FitsSigned w64 x.0 × (bytes ≡ number_bytes x.0 ++ x.1)
number_spelled total bytes x low e =
    let read = bind_ok (bytes_at total 8 bytes) (λ n. Ok (cast_signed w64 (from_be_bytes w64 n.0), n.1)) x e in
    let parts = bytes_spelled total 8 bytes read.0 read.1 in
    let low' = low_front read.0.0 read.0.1 (subst AreLow parts.0 low) in
    subst (λ (y : ℤ × List ℕ). FitsSigned w64 y.0 × (bytes ≡ number_bytes y.0 ++ y.1)) (ok_is _ x read.2)
    (read_sfits w64 (from_be_bytes w64 read.0.0), parts.0 ∙ ap (λ (r : List ℕ). r ++ read.0.1) (sym (number_is_of read.0.0 parts.1 low')))

-- ---- texts and blobs

pub ruleset utf8 = (IsUtf8-from_is_utf8, is_utf8-from_IsUtf8)

-- at most so many bytes, of a text or a blob
abbrev IsSized : List ℕ → List ℕ × List ℕ → Type 0
IsSized bytes x = (AreBytes x.0 × (length x.0 ≤ 1000000000)) × (bytes ≡ sized_bytes x.0 ++ x.1)

pub sized_spelled : (total at : ℕ) (bytes : List ℕ) (x : List ℕ × List ℕ) → AreLow bytes → sized_at total at bytes ≡ Ok x → IsSized bytes x
unfolding sized_at
sized_spelled total at bytes x low e =
    let count = bind_ok (varint_at total bytes) _ x e in
    let number = varint_spelled total bytes count.0 low count.1 in
    let small = guard_ok (nat_lt 1000000000 count.0.0) _ _ x count.2 in
    let parts = bytes_spelled total count.0.0 count.0.1 x small.1 in
    let low' = low_front x.0 x.1 (subst AreLow parts.0 (low_behind bytes (varint_bytes count.0.0) count.0.1 number.1 low)) in
    let limit : count.0.0 ≤ 1000000000 = ltb-false 1000000000 count.0.0 small.0 in (
      (are_bytes x.0 low', subst (λ (k : ℕ). k ≤ 1000000000) (sym parts.1) limit),
      number.1 ∙ ap (λ (r : List ℕ). varint_bytes count.0.0 ++ r) parts.0 ∙ sym (append_assoc (varint_bytes count.0.0) x.0 x.1) ∙ ap (λ (k : ℕ). (varint_bytes k ++ x.0) ++ x.1) (sym parts.1),
    )

pub text_spelled : (total at : ℕ) (bytes : List ℕ) (x : List ℕ × List ℕ) → AreLow bytes → text_at total at bytes ≡ Ok x → IsUtf8 x.0 × IsSized bytes x
unfolding text_at
text_spelled total at bytes x low e =
    let sized = bind_ok (sized_at total at bytes) _ x e in
    let utf8 = check_ok (is_utf8 sized.0.0) _ _ x sized.2 in
    subst (λ (y : List ℕ × List ℕ). IsUtf8 y.0 × IsSized bytes y) (ok_is sized.0 x utf8.1)
    (IsUtf8-from_is_utf8 sized.0.0 utf8.0, sized_spelled total at bytes sized.0 low sized.1)
