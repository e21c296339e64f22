use Rattle.std.proofs.Common.{◌≡◌, ℕ, List, ◌++◌, length}
use denote.Text.{Utf8}
use denote.Shadow.{shadow}
use Rattle.std.specs.Fmt.{HasWritten, IsPlainFormatter}
use Rattle.cap_show.specs.ShowText.{doubled}
use Rattle.cap_show.proofs.text.write_doubled.Given as goal

-- what is written, and what is left to write
abbrev pub invariant-loop-piece : goal.invariant-loop-piece
invariant-loop-piece g l =
    shadow (Utf8 l.rest)
    × (IsPlainFormatter l.initial.f → (done : List ℕ) × HasWritten g.W.Write.write_str_gives l.initial.f done l.f
    × (done ++ doubled l.quote l.rest ≡ doubled l.quote l.text))

abbrev pub decreases-loop-piece : goal.decreases-loop-piece
decreases-loop-piece g l = length l.rest
