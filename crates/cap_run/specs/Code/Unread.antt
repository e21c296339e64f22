-- What is read of an input that is read line by line, for private contracts. No rule is defined here.
use Rattle.std.specs.Prelude.{◌≡◌, ◌⊎◌, ℕ, ◌+◌, ◌≤◌, Bool, true, false, List, [], ◌∷◌, ◌++◌}
use Rattle.std.specs.Prelude.{None, Some, length}
use Rattle.std.specs.Io.KnownBytes.{Consumes, IsAtEnd, Keeps, prepend_known}
use Rattle.cap_stream.specs.StreamCalls.{Calls, LastFailed}
use Rattle.cap_replies.specs.TextLines.{split_lines}
use Rattle.cap_run.specs.Run.{Known}
use Rattle.cap_run.specs.declared.unread.ReadFault.{ReadFault}
use Rattle.cap_run.specs.declared.unread.ReadFault.TheVariants.{Failed as ReadFailed, OutOfMemory}
use Rattle.cap_script.specs.Script.{has_line_feed}

-- the first line of what is left, and what is left behind it
abbrev pub CutsLine : List ℕ → Known → Known → Type 0
CutsLine line None new = Unit {0}
CutsLine line (Some given) None = ⊥
CutsLine line (Some given) (Some rest) = split_lines given ≡ line ∷ split_lines rest

-- the first where memory ran out, the second where a read failed
abbrev pub MatchRead : ReadFault → Type 0 → Type 0 → Type 0
MatchRead OutOfMemory memory failed = memory
MatchRead ReadFailed memory failed = failed

-- there is a line
abbrev pub HasLine : Known → Type 0
HasLine None = Unit {0}
HasLine (Some given) = 1 ≤ length given

module _ {R : Type 0} (gave : R → R → Type 0) where
  -- each read gave something, and they were counted down
  abbrev pub Counted : ℕ → ℕ → R → R → Type 0
  Counted before after old new = (n : ℕ) × Calls gave n old new × (before ≡ after + n)

  -- the last read failed, or so many were made
  abbrev pub Failed : (R → R → Type 0) → ℕ → R → R → Type 0
  Failed failed reads old new = LastFailed gave failed old new ⊎ Calls gave reads old new

-- what a read gave: some bytes, none where it was interrupted, or none at the end
abbrev pub IsGiven : Bool → List ℕ → Known → Known → Type 0
IsGiven true piece old new = Consumes old new piece × (length piece ≤ 8192)
IsGiven false piece old new = Consumes old new [] × (piece ≡ []) × IsAtEnd new

-- what was taken of the bytes: those before the first line feed, or all
abbrev pub IsTaken : Bool → List ℕ → List ℕ → List ℕ → Type 0
IsTaken true front old new = (old ≡ front ++ 10 ∷ new) × (has_line_feed front ≡ false)
IsTaken false front old new = (old ≡ front) × (new ≡ []) × (has_line_feed front ≡ false)

-- the input begins with a part of a line
abbrev pub HasPart : Known → Known → Type 0
HasPart old left =
    (partial : List ℕ) × (has_line_feed partial ≡ false) × Keeps old (prepend_known partial left)
