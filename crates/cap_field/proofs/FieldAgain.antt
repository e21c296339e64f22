-- What was written for a number and a value is read again, whatever follows it.
use Rattle.std.proofs.Common.{◌≡◌, ℕ, zero, suc, ℤ, pos, negsuc, ◌+◌, ◌*◌, ◌/◌, ◌%◌, ◌^◌, ◌<◌, ◌≤◌, false, ◌==◌, ◌&&◌, List, ◌∷◌, ◌++◌, length, Result, Ok, refl, ap, ◌∙◌, inl, inr, append_assoc, arith, w64, to_z-of_z, length-append, take_at, drop_at, lt-ltb, pow-suc, FitsSigned, IsUtf8}
use Rattle.std.specs.Int.{from_be_bytes, cast_signed, cast_unsigned}
use Rattle.std.proofs.Math.Nat.{pow-le-pow_right}
use Rattle.std.proofs.lemmas.Bool.{cases_lt}
use Rattle.std.proofs.lemmas.Bool.Decides.{nat_tests}
use Rattle.std.proofs.lemmas.Nat.{from_be_bytes-to_be_bytes_8}
use Rattle.std.proofs.lemmas.Str.{is_utf8-from_IsUtf8}
use Rattle.byteorder.specs.Numbers.{length-bytes_high_first}
use Rattle.cap_value.specs.declared.value.Value.{Value}
use Rattle.cap_value.specs.declared.value.Value.TheVariants.{Null, Int, Text, Blob}
use Rattle.cap_value.specs.Value.{IsValue}
use Rattle.cap_field.specs.declared.fault.BlobFault.{BlobFault}
use Rattle.cap_field.specs.Reading.{◌>>=◌, place, bytes_at, varint_from, varint_at}
use Rattle.cap_field.specs.Varint.{varint_bytes}
use Rattle.cap_field.specs.Field.{number_bytes, sized_bytes, value_bytes}
use Rattle.cap_field.specs.FieldReading.{number_at, sized_at, text_at, content_at, value_at}
use Rattle.cap_field.proofs.Spelled.{groups, groups_more, groups_last}

-- ---- numbers

-- a group of seven bits that is not the last
goes_on : (total at read high m : ℕ) (rest : List ℕ) → read < 4 → ((read == 0) && ((128 + m % 128) == 128)) ≡ false → high * 128 + m % 128 ≡ m
    → varint_from total at read high ((128 + m % 128) ∷ rest) ≡ varint_from total at (read + 1) m rest
goes_on total at read high m rest early shortest whole = grind (arith, nat_tests)

-- the last group
ends : (total at read high n : ℕ) (rest : List ℕ) → high * 128 + n % 128 ≡ n → varint_from total at read high (n % 128 ∷ rest) ≡ Ok (n, rest)
ends total at read high n rest whole = rw (lt-ltb (n % 128) 128 (omega arith), whole) refl

-- the first group is not zero
shortest : (read m : ℕ) → 0 < m → (0 < m / 128 → 0 < read) → ((read == 0) && ((128 + m % 128) == 128)) ≡ false
shortest read m some begun = grind (arith, nat_tests)

-- the groups but the last, at most so many
groups_again : (total at most high : ℕ) (rest : List ℕ) → most ≤ 4 → high < 128 ^ most
    → (read : ℕ) × (read ≤ most) × (0 < high → 0 < read) × (varint_from total at 0 0 (groups high rest) ≡ varint_from total at read high rest)
groups_again total at zero high rest within fits = let none : high ≡ 0 = omega arith in (0, omega arith, (λ some. omega arith), rw none refl)
groups_again total at (suc most) high rest within fits = elim (cases_lt 0 high) [
  | inl some ↦
      let less : most ≤ 3 = omega arith in
      let cap : 128 ^ most ≤ 128 ^ 3 = pow-le-pow_right (omega arith) less in
      let fits' = rw pow-suc at fits in
      let (read, few, begun, is) = groups_again total at most (high / 128) ((128 + high % 128) ∷ rest) (omega arith) (omega arith) in (
        read + 1,
        omega arith,
        (λ _. omega arith),
        ap (varint_from total at 0 0) (groups_more high (high / 128) (128 + high % 128) rest (omega arith) (omega arith) (omega arith) (omega arith) some)
            ∙ is ∙ goes_on total at read (high / 128) high rest (omega arith) (shortest read high some begun) (omega arith),
      )
  | inr none ↦ let none' : high ≡ 0 = omega arith in (0, omega arith, (λ some. omega arith), rw none' refl)
]

pub varint_again : (total n : ℕ) (rest : List ℕ) → n < 2 ^ 35 → varint_at total (varint_bytes n ++ rest) ≡ Ok (n, rest)
unfolding varint_at
varint_again total n rest lt =
    let at = place total (varint_bytes n ++ rest) in
    let (read, few, begun, is) = groups_again total at 4 (n / 128) (n % 128 ∷ rest) (omega arith) (omega arith) in
    ap (varint_from total at 0 0) (groups_last n (n / 128) (n % 128) rest (omega arith) (omega arith)) ∙ is ∙ ends total at read (n / 128) n rest (omega arith)

pub bytes_again : (total count : ℕ) (bytes rest : List ℕ) → length bytes ≡ count → bytes_at total count (bytes ++ rest) ≡ Ok (bytes, rest)
bytes_again total count bytes rest len = grind (arith, nat_tests, length-append, take_at, drop_at)

below_64 : (n : ℤ) → FitsSigned w64 n → cast_unsigned w64 n < 2 ^ 64
below_64 (pos n) fits = omega (arith, fits.sfits)
below_64 (negsuc n) fits = omega (arith, fits.sfits)

number_is : (n : ℤ) → FitsSigned w64 n → cast_signed w64 (from_be_bytes w64 (number_bytes n)) ≡ n
number_is n fits = ap (cast_signed w64) (from_be_bytes-to_be_bytes_8 (cast_unsigned w64 n) (below_64 n fits)) ∙ to_z-of_z fits

pub number_again : (total : ℕ) (n : ℤ) (rest : List ℕ) → FitsSigned w64 n → number_at total (number_bytes n ++ rest) ≡ Ok (n, rest)
number_again total n rest fits =
    ap (λ (read : Result (List ℕ × List ℕ) BlobFault). read >>= (λ x. Ok (cast_signed w64 (from_be_bytes w64 x.0), x.1))) (bytes_again total 8 (number_bytes n) rest (length-bytes_high_first 8 (cast_unsigned w64 n)))
    ∙ ap (λ (k : ℤ). Ok (k, rest)) (number_is n fits)

-- ---- texts and blobs

pub sized_again : (total at : ℕ) (bytes rest : List ℕ) → length bytes ≤ 1000000000 → sized_at total at (sized_bytes bytes ++ rest) ≡ Ok (bytes, rest)
unfolding sized_at
sized_again total at bytes rest fits = grind (arith, nat_tests, append_assoc, varint_again total (length bytes) (bytes ++ rest), bytes_again total (length bytes) bytes rest)

pub text_again : (total at : ℕ) (text rest : List ℕ) → IsUtf8 text → length text ≤ 1000000000 → text_at total at (sized_bytes text ++ rest) ≡ Ok (text, rest)
unfolding text_at
text_again total at text rest utf8 fits = rw (sized_again total at text rest fits, is_utf8-from_IsUtf8 text utf8) refl

-- ---- values

module _ {A : Type 0} where
  pub value_again : (total : ℕ) (value : Value A) (rest : List ℕ) → IsValue value → value_at total (value_bytes value ++ rest) ≡ Ok (value, rest)
  unfolding value_at content_at
  value_again total Null rest fits = refl
  value_again total (Int n) rest fits = rw (number_again total n rest fits) refl
  value_again total (Text t) rest fits = rw (text_again total (place total (3 ∷ (sized_bytes t ++ rest))) t rest fits.0 fits.2) refl
  value_again total (Blob b) rest fits = rw (sized_again total (place total (4 ∷ (sized_bytes b ++ rest))) b rest fits.1) refl
