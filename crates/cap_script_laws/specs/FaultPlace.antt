-- At which token a line stops being that of a command.
use Rattle.std.specs.Prelude.{◌≡◌, ◌⊎◌, ℕ, List, ◌++◌, length, Option, Some, None, Ok}
use Rattle.cap_value.specs.declared.refusal.Refusal.TheVariants.{TooMany}
use Rattle.cap_language.specs.Grammar.{read}
use Rattle.cap_language.specs.Places.{BeginAlike}
use Rattle.cap_language.specs.declared.fault.LineFault.TheVariants.{Limit, Syntax}
use Rattle.cap_script.specs.Language.{Filtered, opening}
use Rattle.cap_script.specs.LineFaults.{line_fault}
use Rattle.cap_script.specs.declared.command.Filtering.{Filtering}

-- The line's filter is reached: its command is `filter`, and the session's number is read, or it is that of an
-- application, and the word `filter` is read.
abbrev pub ReachesFilter : Type 0 → List ℕ → Type 0
ReachesFilter A line =
    (worker : Option ℕ) × (what : Filtering A) × (rest : List ℕ)
    × (read (opening {A = A}) line ≡ Ok (Filtered worker what, rest))

-- the line has a fault of syntax, from whose token on it has this many bytes
abbrev pub HasSyntaxFault : Type 0 → List ℕ → ℕ → Type 0
HasSyntaxFault A line left = line_fault A line ≡ Some (Syntax left)

-- Each line that has the bytes before that token, and goes on with the same token, has the fault there.
unfoldable pub KeepsSyntaxFault : Type 0 → List ℕ → ℕ → Type 0
KeepsSyntaxFault A line left =
    (front : List ℕ) × (behind : List ℕ) × (line ≡ front ++ behind) × (left ≡ length behind)
    × ((more : List ℕ) → BeginAlike behind more → HasSyntaxFault A (front ++ more) (length more))

-- What stands before that token begins a line that is read, or one with a 10,001st operation.
unfoldable pub BeginsLine : Type 0 → List ℕ → ℕ → Type 0
BeginsLine A line left =
    (front : List ℕ) × (behind : List ℕ) × (line ≡ front ++ behind) × (left ≡ length behind)
    × (more : List ℕ)
    × ((line_fault A (front ++ more) ≡ None) ⊎ (line_fault A (front ++ more) ≡ Some (Limit TooMany)))
