use Rattle.std.proofs.Common.{◌≡◌, ◌++◌, length, string_bytes}
use mathlib.Core.List.{IsPrefix}
use denote.Text.{Utf8}
use denote.Shadow.{shadow}
use Rattle.cap_filter.specs.Printed.{double_quotes}
use Rattle.cap_filter.proofs.filter.write_doubled.Given as goal

-- what is written, and what is left to write
abbrev pub invariant-loop-piece : goal.invariant-loop-piece
invariant-loop-piece g l =
    shadow (Utf8 l.rest) × (string_bytes l.out ++ double_quotes l.rest ≡ string_bytes l.fn.out ++ double_quotes l.word)
    × IsPrefix (string_bytes l.fn.out) (string_bytes l.out)

abbrev pub decreases-loop-piece : goal.decreases-loop-piece
decreases-loop-piece g l = length l.rest
