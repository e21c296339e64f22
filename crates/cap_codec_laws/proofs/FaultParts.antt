-- Readers of a part of the bytes: what they read, they read again whatever follows; where they stop at a fault, what is
-- before it can be completed.
use Rattle.cap_codec.proofs.Common.{◌≡◌, ℕ, inl, inr, Bool, true, false, cond, arith, List, [], ◌∷◌, ◌++◌, Result, Ok, Err, refl, sym, ap, subst, ◌∙◌, append_assoc, append-nil, length, take, drop, take-append-drop, lt-ltb, cases_lt, length-take-le, BlobFault, FaultKind, ◌>>=◌, fault, place, bytes_at, byte_at, bytes_again, AreLow, low_behind, low_front, is_cut}
use Rattle.cap_codec.proofs.Looking.{either}
use Rattle.cap_codec_laws.specs.FaultPlace.{IsFaultyPart}

-- what reads a part of the bytes, given the blob's length
abbrev pub Reader : Type 0 → Type 0
Reader X = ℕ → List ℕ → Result (X × List ℕ) BlobFault

-- these bytes are read as `x`, whatever follows
abbrev pub Reads : {X : Type 0} → Reader X → X → List ℕ → Type 0
Reads read x front = AreLow front × ((t : ℕ) (others : List ℕ) → read t (front ++ others) ≡ Ok (x, others))

abbrev pub IsWhole : {X : Type 0} → Reader X → List ℕ → Type 0
IsWhole {X} read bytes = (x : X) × Reads read x bytes

-- What was read is a whole part at the front. Or the reading stops at a part with a fault, whatever follows it, and the
-- bytes before it can be completed.
abbrev pub JudgedAs : {X : Type 0} → (List ℕ → Type 0) → Reader X → List ℕ → Result (X × List ℕ) BlobFault → Type 0
JudgedAs completes read bytes (Ok x) = (front : List ℕ) × (bytes ≡ front ++ x.1) × Reads read x.0 front
JudgedAs completes read bytes (Err f) = is_cut f.kind ≡ false
    → (front part rest : List ℕ) × (bytes ≡ front ++ (part ++ rest)) × IsFaultyPart f.kind part × ((more : List ℕ) × completes (front ++ more))
    × ((t : ℕ) (others : List ℕ) → read t (front ++ (part ++ others)) ≡ fault f.kind (place t (part ++ others)))

pub record Judged {X : Type 0} (completes : List ℕ → Type 0) (read : Reader X) (total : ℕ) (bytes : List ℕ) : Type 0 where
  pub answer : JudgedAs completes read bytes (read total bytes)

-- some bytes are such a part, and each reading of one is judged
pub record Part {X : Type 0} (read : Reader X) : Type 1 where
  pub whole : (front : List ℕ) × IsWhole read front
  pub judged : {completes : List ℕ → Type 0} → ((more : List ℕ) → IsWhole read more → completes more) → (total : ℕ) (bytes : List ℕ) → AreLow bytes → Judged completes read total bytes

module _ {X : Type 0} {completes : List ℕ → Type 0} {read : Reader X} (total : ℕ) where
  -- it is read
  pub is_read : (x : X) (front rest : List ℕ) → Reads read x front → Judged completes read total (front ++ rest)
  is_read x front rest reads = record { answer = rw (reads.1 total rest) (front, refl, reads) }

  -- it stops at the first byte
  pub at_first : (kind : FaultKind) (part rest : List ℕ) → (more : List ℕ) × completes more → IsFaultyPart kind part → ((t : ℕ) (others : List ℕ) → read t (part ++ others) ≡ fault kind (place t (part ++ others)))
      → Judged completes read total (part ++ rest)
  at_first kind part rest whole is stuck = record { answer = rw (stuck total rest) (λ lasts. ([], part, rest, refl, is, whole, stuck)) }

-- ---- one part after the other

pub low_both : (a b : List ℕ) → AreLow a → AreLow b → AreLow (a ++ b)
low_both [] b low low' = low'
low_both (byte ∷ a) b low low' = (low.0, low_both a b low.1 low')

-- behind what was read comes a part, and then what is judged behind it
pub judged_behind : {X Y : Type 0} {completes : List ℕ → Type 0} {read : Reader X} {all : Reader Y} {total : ℕ} (before behind : List ℕ) → AreLow behind → Judged (λ more. (others : List ℕ) × completes (before ++ (more ++ others))) read total behind
    → ((t : ℕ) (others : List ℕ) (f : BlobFault) → read t others ≡ Err f → all t (before ++ others) ≡ Err f)
    → ((x : X) (front rest : List ℕ) → Reads read x front → AreLow rest → Judged completes all total (before ++ (front ++ rest)))
    → Judged completes all total (before ++ behind)
judged_behind {read = read} {total = total} before behind low judged go next = elim (either (read total behind)) [
  | inl (x, first) ↦ let (front, parts, reads) = rw first at judged.answer in rw parts (next x.0 front x.1 reads (low_behind behind front x.1 parts low))
  | inr (f, first) ↦ record {
    answer = rw (go total behind f first) (λ lasts.
        let (front, part, rest, parts, is, (more, (others, completed)), stuck) = (rw first at judged.answer) lasts in (
          before ++ front,
          part,
          rest,
          ap (λ (b : List ℕ). before ++ b) parts ∙ sym (append_assoc before front (part ++ rest)),
          is,
          (more ++ others, simp append_assoc (simp append_assoc at completed)),
          λ t others. rw (append_assoc before front (part ++ others)) (go t (front ++ (part ++ others)) _ (stuck t others)),
        ));
  }
]

-- where some bytes are whole
pub part : {X : Type 0} {read : Reader X} → (whole : (more : List ℕ) × IsWhole read more) → ((completes : List ℕ → Type 0) → (more : List ℕ) × completes more → (total : ℕ) (bytes : List ℕ) → AreLow bytes → Judged completes read total bytes) → Part read
part whole judged = record { whole = whole; judged = λ complete. judged _ (whole.0, complete whole.0 whole.1) }

pub done : {X : Type 0} (x : X) → Part (λ t bytes. Ok (x, bytes))
done x = record { whole = ([], (x, (tt, λ t others. refl))); judged = λ complete total bytes low. is_read total x [] bytes (tt, λ t others. refl) }

module _ {X Y : Type 0} (read : Reader X) (next : ℕ → X × List ℕ → Result (Y × List ℕ) BlobFault) where
  both : (x : X) (y : Y) (a b : List ℕ) → Reads read x a → Reads (λ t rest. next t (x, rest)) y b → Reads (λ t bytes. read t bytes >>= next t) y (a ++ b)
  both x y a b (low, first) (low', second) = (low_both a b low low', λ t others. rw (append_assoc a b others, first t (b ++ others)) (second t others))

  pub bind : Part read → ((x : X) → (front : List ℕ) × Reads read x front → Part (λ t rest. next t (x, rest))) → Part (λ t bytes. read t bytes >>= next t)
  bind p q =
      let on : (a : List ℕ) → IsWhole read a → (b : List ℕ) × IsWhole (λ t bytes. read t bytes >>= next t) (a ++ b) = λ a (x, reads). let (b, (y, reads')) = (q x (a, reads)).whole in (b, (y, both x y a b reads reads')) in
      record {
        whole = let (a, is) = p.whole in let (b, whole) = on a is in (a ++ b, whole);
        judged = λ complete total bytes low. judged_behind [] bytes low (p.judged (λ a is. let (b, whole) = on a is in (b, complete (a ++ b) whole)) total bytes low) (λ t others f failed. rw failed refl) (λ x a rest reads low'.
            judged_behind a rest low' ((q x (a, reads)).judged (λ b (y, reads'). ([], complete (a ++ (b ++ [])) (y, rw (append-nil b) (both x y a b reads reads')))) total rest low')
            (λ t others f failed. rw (reads.1 t others) failed)
            (λ y b rest' reads' low''. rw (sym (append_assoc a b rest')) (is_read total y (a ++ b) rest' (both x y a b reads reads'))));
      }

pub choice : {X : Type 0} {read other : Reader X} (b : Bool) → (b ≡ true → Part read) → (b ≡ false → Part other) → Part (λ t bytes. cond b (read t bytes) (other t bytes))
choice true p q = p refl
choice false p q = q refl

-- ---- bytes

byte_judged : {completes : List ℕ → Type 0} (total : ℕ) (bytes : List ℕ) → AreLow bytes → Judged completes byte_at total bytes
byte_judged total [] low = record { answer = λ lasts. absurd cc }
byte_judged total (byte ∷ bytes) low = is_read total byte (byte ∷ []) bytes ((low.0, tt), λ t others. refl)

pub byte_part : Part byte_at
byte_part = record { whole = (0 ∷ [], (0, ((omega arith, tt), λ t others. refl))); judged = λ complete. byte_judged }

pub bytes_judged : {completes : List ℕ → Type 0} (count total : ℕ) (bytes : List ℕ) → AreLow bytes → Judged completes (λ t b. bytes_at t count b) total bytes
bytes_judged count total bytes low = elim (cases_lt (length bytes) count) [
  | inl short ↦ record { answer = rw (lt-ltb _ _ short) (λ lasts. absurd cc) }
  | inr long ↦
      let front = subst AreLow (sym (take-append-drop count bytes)) low in
      rw (sym (take-append-drop count bytes)) (is_read total (take count bytes) (take count bytes) (drop count bytes) (low_front (take count bytes) (drop count bytes) front, λ t others. bytes_again t count (take count bytes) others (length-take-le count bytes long)))
]
