-- What was read, and a fault other than `Truncated`, stay as they are where more bytes follow. What ends early
-- still does, while fewer bytes follow than it lacks.
use Rattle.cap_codec.proofs.Common.{◌≡◌, ℕ, ◌+◌, ◌-◌, ◌*◌, ◌<◌, ◌≤◌, Bool, true, false, cond, nat_lt, ◌==◌, List, [], ◌∷◌, ◌++◌, length, take, drop, Result, Ok, Err, refl, sym, ap, subst, ◌∙◌, arith, append_assoc, append-nil, length-append, length-take, take-append-drop, le-ltb, position_or_len, nat_tests, take-append-le, drop-append-le, FieldRequirement, BlobFault, sized_at, text_at, content_at, field_at, is_zero, count_at, flags_at, name_at, header_at, change_at, patch_at, content_len_at, skip_content, skip_at, Kind, is_cut, ends_early, one_as, ◌>>=◌, place, byte_at, bytes_at, varint_from, varint_at, record_at}
use Rattle.cap_changes.specs.declared.field_requirement.FieldRequirement.TheVariants as required
use Rattle.cap_changes.specs.Requirements.{requirements}
use Rattle.cap_codec.specs.declared.scan.Kind.TheVariants as kinds
use Rattle.cap_codec.proofs.HeaderLemmas.{no_zero_before, zero_at, name_is}

-- they are the last of the bytes
abbrev pub IsBehind : List ℕ → List ℕ → Type 0
IsBehind rest bytes = (front : List ℕ) × (front ++ rest ≡ bytes)

pub further : (a b c : List ℕ) → IsBehind a b → IsBehind b c → IsBehind a c
further a b c (x, p) (y, q) = (y ++ x, append_assoc y x a ∙ ap (λ (rest : List ℕ). y ++ rest) p ∙ q)

pub no_longer : (rest bytes : List ℕ) → IsBehind rest bytes → length rest ≤ length bytes
no_longer rest bytes (front, parts) = subst (λ (all : List ℕ). length rest ≤ length all) parts (omega (arith, length-append front rest))

pub same_place : (total : ℕ) (bytes more : List ℕ) → place (total + length more) (bytes ++ more) ≡ place total bytes
same_place total bytes more = omega (arith, length-append bytes more)

-- nothing follows
pub again : {X : Type 0} (read : ℕ → List ℕ → X) (total : ℕ) (bytes more : List ℕ) → length more < 1 → read (total + length more) (bytes ++ more) ≡ read total bytes
again read total bytes [] lt = rw (append-nil bytes) (ap (λ (n : ℕ). read n bytes) (omega arith))
again read total bytes (byte ∷ more) lt = absurd (omega arith)

-- What these bytes read as, and what they read as with more bytes behind them. `P` holds of the bytes behind what
-- was read, or of how many bytes it lacks.
abbrev pub Stays : {X : Type 0} → (Result (List ℕ) ℕ → Type 0) → List ℕ → List ℕ → Result (X × List ℕ) BlobFault → Result (X × List ℕ) BlobFault → Type 0
Stays P bytes more (Ok x) later = (later ≡ Ok (x.0, x.1 ++ more)) × IsBehind x.1 bytes × P (Ok x.1)
Stays P bytes more (Err f) later = (is_cut f.kind ≡ false → later ≡ Err f) × (is_cut f.kind ≡ true → (n : ℕ) × P (Err n) × (length more < n → ends_early later ≡ true))

module _ (P : Result (List ℕ) ℕ → Type 0) where
  -- the same, of a longer list of bytes
  pub wider : {X : Type 0} (some bytes more : List ℕ) (read later : Result (X × List ℕ) BlobFault) → IsBehind some bytes → Stays P some more read later → Stays P bytes more read later
  wider some bytes more (Ok x) later behind stays = (stays.0, further x.1 some bytes stays.1 behind, stays.2)
  wider some bytes more (Err f) later behind stays = stays

  pub stays_then : {X Y : Type 0} (bytes more : List ℕ) (read later : Result (X × List ℕ) BlobFault) (f g : X × List ℕ → Result (Y × List ℕ) BlobFault)
      → Stays P bytes more read later → ((x : X × List ℕ) → P (Ok x.1) → Stays P x.1 more (f x) (g (x.0, x.1 ++ more))) → Stays P bytes more (read >>= f) (later >>= g)
  stays_then {Y = Y} bytes more (Ok x) later f g stays others =
      subst (λ (all : Result (Y × List ℕ) BlobFault). Stays P bytes more (f x) all) (sym (ap (λ r. r >>= g) stays.0)) (wider x.1 bytes more (f x) (g (x.0, x.1 ++ more)) stays.1 (others x stays.2))
  stays_then bytes more (Err e) later f g stays others = grind (arith, stays)

  -- a test of what does not change
  pub either_stays : {X : Type 0} (bytes more : List ℕ) (test : Bool) (x y later_x later_y : Result (X × List ℕ) BlobFault) → (test ≡ true → Stays P bytes more x later_x) → (test ≡ false → Stays P bytes more y later_y)
      → Stays P bytes more (cond test x y) (cond test later_x later_y)
  either_stays bytes more test x y later_x later_y of_x of_y = grind (arith, of_x, of_y)

  ok_stays : {X : Type 0} (x : X) (rest more : List ℕ) → P (Ok rest) → Stays P rest more (Ok (x, rest)) (Ok (x, rest ++ more))
  ok_stays x rest more p = (refl, ([], refl), p)

  bytes_stay : (total later count : ℕ) (bytes more : List ℕ) → P (skip_content (Ok (count, bytes))) → Stays P bytes more (bytes_at total count bytes) (bytes_at later count (bytes ++ more))
  bytes_stay total later count bytes more p =
      let behind : IsBehind (drop count bytes) bytes = (take count bytes, take-append-drop count bytes) in
      let front = take-append-le count bytes more in
      let rest = drop-append-le count bytes more in
      let long = length-append bytes more in
      grind (arith, nat_tests, behind, front, rest, long, p)

-- nothing is asked
abbrev pub Any : Result (List ℕ) ℕ → Type 0
Any skipped = Unit {0}

varint_from_stays : (total later at read high : ℕ) (bytes more : List ℕ) → Stays Any bytes more (varint_from total at read high bytes) (varint_from later at read high (bytes ++ more))
varint_from_stays total later at read high [] more = (λ lasts. absurd cc, λ cut. (0, tt, λ lt. absurd (omega arith)))
varint_from_stays total later at read high (byte ∷ bytes) more =
    let here : IsBehind bytes (byte ∷ bytes) = (byte ∷ [], refl) in
    let rest = wider Any bytes (byte ∷ bytes) more _ _ here (varint_from_stays total later at (read + 1) (high * 128 + (byte - 128)) bytes more) in
    grind (arith, here, rest)

varint_stays : (total : ℕ) (bytes more : List ℕ) → Stays Any bytes more (varint_at total bytes) (varint_at (total + length more) (bytes ++ more))
unfolding varint_at
varint_stays total bytes more = rw (same_place total bytes more) (varint_from_stays total (total + length more) (place total bytes) 0 0 bytes more)

-- ---- a field, of which `P` holds when it is skipped

module _ (A : Type 0) (P : Result (List ℕ) ℕ → Type 0) where
  sized_stays : (total at : ℕ) (bytes more : List ℕ) → P (skip_content (varint_at total bytes)) → Stays P bytes more (sized_at total at bytes) (sized_at (total + length more) at (bytes ++ more))
  unfolding sized_at
  sized_stays total at bytes more p =
      let read = varint_stays total bytes more in
      let same = again varint_at total bytes more in
      let rest = λ (count : ℕ) (left : List ℕ) (behind : IsBehind left bytes) (q : P (skip_content (Ok (count, left)))). wider P left bytes more _ _ behind (bytes_stay P total (total + length more) count left more q) in
      grind (arith, read, same, rest, p)

  content_stays : (total at kind : ℕ) (bytes more : List ℕ) → P (skip_content (content_len_at total kind bytes)) → Stays P bytes more (content_at {A = A} total at kind bytes) (content_at (total + length more) at kind (bytes ++ more))
  unfolding content_at text_at
  content_stays total at kind bytes more p =
      let none : nat_lt (length bytes) 0 ≡ false = le-ltb (length bytes) 0 (omega arith) in
      either_stays P bytes more (kind == 0) _ _ _ _ (λ is. (refl, ([], refl), rw none at (rw is at p)))
      (λ no_0. either_stays P bytes more (kind == 1) _ _ _ _ (λ is. let number = bytes_stay P total (total + length more) 8 bytes more (rw (no_0, is) at p) in grind (arith, number))
      (λ no_1. either_stays P bytes more (kind == 3) _ _ _ _ (λ is. let text = sized_stays total at bytes more (rw (no_0, no_1, is) at p) in grind (arith, text))
      (λ no_3. either_stays P bytes more (kind == 4) _ _ _ _ (λ is. let blob = sized_stays total at bytes more (rw (no_0, no_1, no_3, is) at p) in grind (arith, blob))
      (λ no_4. (refl, ([], refl), rw none at (rw (no_0, no_1, no_3, no_4) at p))))))

-- the bytes behind the flag byte of a change, or that it lacks
abbrev pub skip_flag : List ℕ → Result (List ℕ) ℕ
skip_flag [] = Err 1
skip_flag (flag ∷ fields) = Ok fields

-- ---- a change, of whose fields it holds one after the other

module _ (A : Type 0) (P : Result (List ℕ) ℕ → Type 0) (total : ℕ) (next : (bytes : List ℕ) → P (Ok bytes) → P (skip_at total bytes)) where
  field_stays : (requirement : FieldRequirement) (bytes more : List ℕ) → P (Ok bytes) → Stays P bytes more (field_at {A = A} total requirement bytes) (field_at (total + length more) requirement (bytes ++ more))
  unfolding field_at
  field_stays required.Omitted bytes more p = (refl, ([], refl), p)
  field_stays requirement [] more p = (λ lasts. absurd cc, λ cut. (1, next [] p, λ lt. grind arith))
  field_stays requirement (kind ∷ bytes) more p =
      let content = content_stays A P total (place total (kind ∷ bytes)) kind bytes more (next (kind ∷ bytes) p) in
      rw (same_place total (kind ∷ bytes) more) (wider P bytes (kind ∷ bytes) more _ _ (kind ∷ [], refl) (grind (arith, content)))

  record_stays : (requirements : List FieldRequirement) (bytes more : List ℕ) → P (Ok bytes) → Stays P bytes more (record_at {A = A} total requirements bytes) (record_at (total + length more) requirements (bytes ++ more))
  unfolding record_at
  record_stays [] bytes more p = (refl, ([], refl), p)
  record_stays (requirement ∷ requirements) bytes more p =
      stays_then P bytes more _ _ _ _ (field_stays requirement bytes more p)
      (λ field q. stays_then P field.1 more _ _ _ _ (record_stays requirements field.1 more q) (λ others last. (refl, ([], refl), last)))

  flag_stays : (bytes more : List ℕ) → P (skip_flag bytes) → Stays P bytes more (byte_at total bytes) (byte_at (total + length more) (bytes ++ more))
  flag_stays [] more p = (λ lasts. absurd cc, λ cut. (1, p, λ lt. grind arith))
  flag_stays (flag ∷ bytes) more p = (refl, (flag ∷ [], refl), p)

  pub one_stays : (kind : Kind) (flags : List Bool) (op : ℕ) (bytes more : List ℕ) → P (skip_flag bytes) → Stays P bytes more (one_as A kind total flags op bytes) (one_as A kind (total + length more) flags op (bytes ++ more))
  unfolding change_at patch_at
  one_stays kinds.Changes flags op bytes more p = search (stays_then, either_stays, flag_stays, record_stays, ok_stays) depth 12
  one_stays kinds.Patches flags op bytes more p = search (stays_then, either_stays, flag_stays, record_stays, ok_stays) depth 12

-- ---- headers

count_stays : (total : ℕ) (bytes more : List ℕ) → Stays Any bytes more (count_at total bytes) (count_at (total + length more) (bytes ++ more))
unfolding count_at
count_stays total bytes more = let read = varint_stays total bytes more in let at = same_place total bytes more in grind (arith, read, at)

flags_stay : (total count : ℕ) (bytes more : List ℕ) → Stays Any bytes more (flags_at total count bytes) (flags_at (total + length more) count (bytes ++ more))
unfolding flags_at
flags_stay total count bytes more = let read = bytes_stay Any total (total + length more) count bytes more tt in let at = same_place total bytes more in grind (arith, read, at)

name_stays : (total : ℕ) (bytes more : List ℕ) → Stays Any bytes more (name_at total bytes) (name_at (total + length more) (bytes ++ more))
unfolding name_at
name_stays total bytes more =
    let len = position_or_len is_zero (take 256 bytes) in
    let behind : IsBehind (drop (len + 1) bytes) bytes = (take (len + 1) bytes, take-append-drop (len + 1) bytes) in
    let parts = zero_at 256 bytes in
    let none = no_zero_before bytes len in
    let now = name_is total (take len bytes) (drop (len + 1) bytes) in
    let later = name_is (total + length more) (take len bytes) (drop (len + 1) bytes ++ more) in
    let at = same_place total bytes more in
    let same = take-append-le 256 bytes more in
    let longer = length-append bytes more in
    let among = length-take 256 bytes in
    let long = length-take len bytes in
    grind (arith, nat_tests, append_assoc, behind, parts, none, now, later, at, same, longer, among, long)

pub header_stays : (total : ℕ) (bytes more : List ℕ) → Stays Any bytes more (header_at total bytes) (header_at (total + length more) (bytes ++ more))
unfolding header_at
header_stays total bytes more = search (stays_then, count_stays, flags_stay, name_stays, ok_stays) depth 12
