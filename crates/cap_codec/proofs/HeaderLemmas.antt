-- The name and the flags of a header that was read.
use Rattle.cap_codec.proofs.Common.{◌≡◌, ℕ, zero, suc, ◌+◌, ◌<◌, ◌≤◌, true, false, nat_lt, ◌&&◌, List, [], ◌∷◌, ◌++◌, length, take, drop, map, position, Some, Ok, if◌then◌else◌, refl, sym, ap, ◌∙◌, arith, length-take, length-append, drop-drop, take_at, drop_at, list_any, position_or_len, is_utf8, nat_tests, get_or-take, length-take-le, list_any_none, is_name, has_key, BadName, fault, place, is_zero, name_at, is_set}
use Rattle.std.proofs.lemmas.List.Quantifiers.{position-Some}

-- ---- the first zero byte

-- the bytes before and behind it
pub zero_at : (most : ℕ) (bytes : List ℕ) → position_or_len is_zero (take most bytes) < length (take most bytes)
    → bytes ≡ take (position_or_len is_zero (take most bytes)) bytes ++ 0 ∷ drop (position_or_len is_zero (take most bytes) + 1) bytes
zero_at (suc most) (byte ∷ bytes) lt = let rest = zero_at most bytes in grind (arith, nat_tests, rest)
zero_at most bytes lt = absurd (omega arith)

-- no byte before it is zero
pub no_zero_before : (bytes : List ℕ) (len : ℕ) → position is_zero (take 256 bytes) ≡ Some len → list_any is_zero (take len bytes) ≡ false
no_zero_before bytes len e = list_any_none is_zero (take len bytes) (λ i d lt.
    let (within, is, before) = position-Some is_zero (take 256 bytes) len d e in
    let below : i < len = omega (arith, lt, length-take len bytes) in
    ap is_zero (get_or-take len bytes i d below ∙ sym (get_or-take 256 bytes i d (omega (arith, length-take 256 bytes)))) ∙ before i below)

-- the one behind a name
pub first_zero : (most : ℕ) (bytes rest : List ℕ) → length bytes < most → list_any is_zero bytes ≡ false → position_or_len is_zero (take most (bytes ++ 0 ∷ rest)) ≡ length bytes
first_zero zero bytes rest lt none = absurd (omega arith)
first_zero (suc most) [] rest lt none = refl
first_zero (suc most) (byte ∷ bytes) rest lt none = let others = first_zero most bytes rest in grind (arith, none, others)

-- ---- a name

-- what bytes with a zero byte behind them read as
pub name_is : (total : ℕ) (name rest : List ℕ) → length name < 256 → list_any is_zero name ≡ false
    → name_at total (name ++ 0 ∷ rest) ≡ (if nat_lt 0 (length name) && is_utf8 name then Ok (name, rest) else fault BadName (place total (name ++ 0 ∷ rest)))
unfolding name_at
name_is total name rest short none =
    let at = first_zero 256 name rest short none in
    let within = length-take 256 (name ++ 0 ∷ rest) in
    let long = length-append name (0 ∷ rest) in
    let front = take_at name (0 ∷ rest) (length name) refl in
    let behind = drop_at name (0 ∷ rest) (length name) refl in
    let after = drop-drop 1 (length name) (name ++ 0 ∷ rest) in
    grind (arith, nat_tests, at, within, long, front, behind, after)

-- the bytes before the first zero are a name
pub name_before : (bytes : List ℕ) (len : ℕ) → position is_zero (take 256 bytes) ≡ Some len → 0 < len → len < length bytes → len ≤ 255 → is_name (take len bytes) ≡ true
name_before bytes len first some within short =
    let long : length (take len bytes) ≡ len = length-take-le len bytes (omega arith) in
    let none = no_zero_before bytes len first in
    grind (arith, nat_tests, long, none)

-- ---- the flags

pub key_is_set : (flags : List ℕ) → has_key (map is_set flags) ≡ list_any is_set flags
key_is_set [] = refl
key_is_set (flag ∷ flags) = rw (key_is_set flags) refl
