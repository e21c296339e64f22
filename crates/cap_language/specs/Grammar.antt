-- Grammars: what is read from left to right, and what is made of it.
use Rattle.std.specs.Prelude.{◌≡◌, ⊤, ◌⊎◌, ℕ, zero, suc, List, [], ◌∷◌, ◌++◌, length, Bool, true, false, ◌==◌}
use Rattle.std.specs.Prelude.{if◌then◌else◌, Option, Some, None, Result, Ok, Err, Vec}
use Rattle.cap_value.specs.declared.refusal.Refusal.{Refusal}
use Rattle.cap_field.specs.declared.fault.BlobFault.{BlobFault}
use Rattle.cap_language.specs.Scanning.{Scanned, token_at}
use Rattle.cap_language.specs.Tokens.{Begins, Token, begins, behind_blanks}
use Rattle.cap_language.specs.declared.fault.LineFault.{LineFault}
use Rattle.cap_language.specs.declared.fault.LineFault.TheVariants.{BadBlob, Limit, OutOfMemory, Syntax}

-- which tokens fit, and what is taken of them
abbrev pub Wanted : Type 0 → Type 0
Wanted T = Token → Option T

pub data Grammar : Type 0 → Type 1 where
  -- nothing is read, and this is made
  done : {X : Type 0} → X → Grammar X
  -- the token before does not fit
  unfit : {X : Type 0} → Grammar X
  -- the token before exceeds a limit; without the limits this is read
  exceeds : {X : Type 0} → Refusal → Grammar X → Grammar X
  -- the bytes of the token before are no blob
  no_blob : {X : Type 0} → BlobFault → Grammar X
  -- spaces, and then this
  spaced : {X : Type 0} → Grammar X → Grammar X
  -- a token that begins right here, and what is read behind it
  takes : {T X : Type 0} → Wanted T → (T → Grammar X) → Grammar X
  -- the first behind this sign, where it is right here, and else the second
  on_sign : {X : Type 0} → ℕ → Grammar X → Grammar X → Grammar X
  -- the first, where the line ends right here, and else the second
  on_end : {X : Type 0} → Grammar X → Grammar X → Grammar X
  -- the first, and what is read behind it
  follows : {X Y : Type 0} → Grammar X → (X → Grammar Y) → Grammar Y
  -- one behind each of these signs, as many as there are, each read by its number, from this number on
  each : {X : Type 0} → ℕ → ℕ → (ℕ → Grammar X) → Grammar (List X)

infixl 10 ◌>>=◌
abbrev pub ◌>>=◌ : {X Y : Type 0} → Grammar X → (X → Grammar Y) → Grammar Y
first >>= go = follows first go

-- the next token, after any spaces
abbrev pub next : {T X : Type 0} → Wanted T → (T → Grammar X) → Grammar X
next wanted go = spaced (takes wanted go)

abbrev pub where_sign : {X : Type 0} → ℕ → Grammar X → Grammar X → Grammar X
where_sign s first second = spaced (on_sign s first second)

abbrev pub where_end : {X : Type 0} → Grammar X → Grammar X → Grammar X
where_end first second = spaced (on_end first second)

-- ---- what reading makes of a line

-- what is made, and the rest of the line; or the fault
abbrev pub Read : Type 0 → Type 0
Read X = Result (X × List ℕ) LineFault

-- a token that does not fit begins here, or the line ends here too early
abbrev pub misfit : List ℕ → LineFault
misfit here = Syntax (length here)

abbrev pub and_then : {X Y : Type 0} → Read X → (X → List ℕ → Read Y) → Read Y
and_then (Ok (x, rest)) go = go x rest
and_then (Err fault) go = Err fault

abbrev pub taken : {T : Type 0} → Option T → List ℕ → Option (T × List ℕ)
taken None rest = None
taken (Some t) rest = Some (t, rest)

-- what is taken of a token that fits, and the rest behind it
abbrev pub wanted_in : {T : Type 0} → Wanted T → Scanned → Option (T × List ℕ)
wanted_in wanted None = None
wanted_in wanted (Some (token, rest)) = taken (wanted token) rest

-- the next token, where it fits
abbrev pub next_at : {T : Type 0} → Wanted T → List ℕ → Option (T × List ℕ)
next_at wanted line = wanted_in wanted (token_at (behind_blanks line))

abbrev pub token_then : {T Y : Type 0} → List ℕ → Option (T × List ℕ) → (T → List ℕ → Read Y) → Read Y
token_then here None go = Err (misfit here)
token_then here (Some (t, rest)) go = go t rest

-- the rest behind this sign, where the line begins with it
abbrev pub sign_at : ℕ → List ℕ → Option (List ℕ)
sign_at s [] = None
sign_at s (byte ∷ rest) = if byte == s then Some rest else None

abbrev pub behind_or : {Y : Type 0} → Option (List ℕ) → (List ℕ → Read Y) → Read Y → Read Y
behind_or None go other = other
behind_or (Some rest) go other = go rest

abbrev pub by_sign : {Y : Type 0} → ℕ → (List ℕ → Read Y) → (List ℕ → Read Y) → List ℕ → Read Y
by_sign s go other here = behind_or (sign_at s here) go (other here)

abbrev pub by_end : {Y : Type 0} → Read Y → (List ℕ → Read Y) → List ℕ → Read Y
by_end ended other [] = ended
by_end ended other (byte ∷ rest) = other (byte ∷ rest)

abbrev pub with_item : {X : Type 0} → X → List X → List ℕ → Read (List X)
with_item x xs rest = Ok (x ∷ xs, rest)

-- an item behind each of these signs, at most so many
abbrev pub at_most : {X : Type 0} → ℕ → ℕ → ℕ → (ℕ → List ℕ → Read X) → List ℕ → Read (List X)
at_most zero s i item line = Ok ([], behind_blanks line)
at_most (suc n) s i item line =
    by_sign s
    (λ rest. and_then (item i rest) (λ x behind. and_then (at_most n s (suc i) item behind) (with_item x)))
    (λ here. Ok ([], here)) (behind_blanks line)

-- the line read, with the limits or without them, where the token before began at a place
abbrev pub read_at : {X : Type 0} → Bool → Grammar X → List ℕ → List ℕ → Read X
read_at limits (done x) before line = Ok (x, line)
read_at limits unfit before line = Err (misfit before)
read_at limits (exceeds why free) before line =
    if limits then Err (Limit why) else read_at limits free before line
read_at limits (no_blob why) before line = Err (BadBlob why)
read_at limits (spaced grammar) before line = read_at limits grammar before (behind_blanks line)
read_at limits (takes wanted go) before line =
    token_then line (wanted_in wanted (token_at line)) (λ t rest. read_at limits (go t) line rest)
read_at limits (on_sign s first second) before line =
    by_sign s (λ rest. read_at limits first rest rest) (λ here. read_at limits second here here) line
read_at limits (on_end first second) before line =
    by_end (read_at limits first [] []) (λ here. read_at limits second here here) line
read_at limits (follows first go) before line =
    and_then (read_at limits first before line) (λ x rest. read_at limits (go x) rest rest)
read_at limits (each s i item) before line =
    at_most (length line) s i (λ i rest. read_at limits (item i) rest rest) line

-- the line read within the limits
abbrev pub read : {X : Type 0} → Grammar X → List ℕ → Read X
read grammar line = read_at true grammar line line

-- this reading has the fault of the call, unless memory ran out
abbrev pub Fails : {X : Type 0} → LineFault → Read X → Type 0
Fails OutOfMemory answer = ⊤
Fails fault answer = answer ≡ Err fault

-- this reading makes what the call makes, and leaves the rest that it leaves, or has its fault, unless memory
-- ran out
abbrev pub Reads : {X : Type 0} → Result X LineFault → List ℕ → Read X → Type 0
Reads (Ok x) rest answer = answer ≡ Ok (x, rest)
Reads (Err fault) rest answer = Fails fault answer

-- what a call makes, seen as the list of its items
abbrev pub seen_items : {X A : Type 0} → Result (Vec X A) LineFault → Result (List X) LineFault
seen_items (Ok made) = Ok made.items
seen_items (Err fault) = Err fault

-- items before those that are read
abbrev pub onto : {X : Type 0} → List X → Read (List X) → Read (List X)
onto front answer = and_then answer (λ xs rest. Ok (front ++ xs, rest))

-- ---- what a line spells

-- a form at the beginning of a line, and the rest behind it
abbrev pub Form : Type 1
Form = List ℕ → List ℕ → Type 0

-- this sign and an item, for each of the items, and then another sign or none
abbrev pub More : {X : Type 0} → ℕ → ℕ → (ℕ → X → Form) → List X → Form
More s i Item [] line rest = (rest ≡ behind_blanks line) × (begins (λ byte. byte == s) rest ≡ false)
More s i Item (x ∷ xs) line rest =
    (inner : List ℕ) × (between : List ℕ) × (behind_blanks line ≡ s ∷ inner) × Item i x inner between
    × More s (suc i) Item xs between rest

-- The line begins with a text of the grammar, which spells this value, with the limits or without them, and
-- the rest is behind it.
abbrev pub Spells : {X : Type 0} → Bool → Grammar X → X → Form
Spells limits (done x) y line rest = (y ≡ x) × (rest ≡ line)
Spells limits unfit y line rest = ⊥
Spells limits (exceeds why free) y line rest = (limits ≡ false) × Spells limits free y line rest
Spells limits (no_blob why) y line rest = ⊥
Spells limits (spaced grammar) y line rest = Spells limits grammar y (behind_blanks line) rest
Spells limits (takes {T} wanted go) y line rest =
    (token : Token) × (t : T) × (between : List ℕ) × Begins token line between
    × (wanted token ≡ Some t) × Spells limits (go t) y between rest
Spells limits (on_sign s first second) y line rest =
    ((inner : List ℕ) × (line ≡ s ∷ inner) × Spells limits first y inner rest)
    ⊎ ((begins (λ byte. byte == s) line ≡ false) × Spells limits second y line rest)
Spells limits (on_end first second) y line rest =
    ((line ≡ []) × Spells limits first y [] rest) ⊎ ((line ≡ [] → ⊥) × Spells limits second y line rest)
Spells limits (follows first go) y line rest =
    (x : _) × (between : List ℕ) × Spells limits first x line between × Spells limits (go x) y between rest
Spells limits (each s i item) y line rest = More s i (λ i. Spells limits (item i)) y line rest
