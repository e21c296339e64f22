-- What a write of all bytes leaves, and where its failure is reported.
use Rattle.std.specs.Prelude.{◌≡◌, ◌⊎◌, ◌≤◌, ℕ, List, ◌++◌, length, Option, Result, Ok, Err}
use Rattle.std.specs.Io.KnownBytes.{Appends}
use Rattle.cap_stream.specs.StreamCalls.{AllWent, Calls, LastFailed}

-- a prefix of the bytes was written
abbrev pub AppendsFront : Option (List ℕ) → Option (List ℕ) → List ℕ → Type 0
AppendsFront old new bytes = (front rest : List ℕ) × (bytes ≡ front ++ rest) × Appends old new front

-- a proper prefix of the bytes was written
abbrev pub AppendsSome : Option (List ℕ) → Option (List ℕ) → List ℕ → Type 0
AppendsSome old new bytes =
    (front rest : List ℕ) × (bytes ≡ front ++ rest) × (1 ≤ length rest) × Appends old new front

module _ {W : Type 0} (went failed : W → W → Type 0) where
  -- 2^40 writes, or more, left some of the bytes
  abbrev pub WriteLimitReached : W → W → Type 0
  WriteLimitReached old new = (n : ℕ) × (1099511627776 ≤ n) × Calls went n old new

  -- the last write or flush failed and no other, or the limit of writes was reached
  abbrev pub HasFailed : W → W → Type 0
  HasFailed old new = LastFailed went failed old new ⊎ WriteLimitReached old new

  -- a fault is answered where a call failed or the limit was reached; elsewhere none failed
  abbrev pub IsReported : {X E : Type 0} → Result X E → W → W → Type 0
  IsReported (Ok x) old new = AllWent went old new
  IsReported (Err fault) old new = HasFailed old new
