use Rattle.std.proofs.Common.{◌≡◌, length, string_bytes}
use denote.Text.{Utf8}
use denote.Shadow.{shadow}
use Rattle.cap_language.specs.Scanning.{quoted_of, with_bytes}
use Rattle.cap_language.proofs.token.split_quoted.Given as goal

abbrev pub invariant-loop-piece : goal.invariant-loop-piece
invariant-loop-piece g l =
    shadow (Utf8 l.rest) × (quoted_of l.text ≡ with_bytes (string_bytes l.word) (quoted_of l.rest))

abbrev pub decreases-loop-piece : goal.decreases-loop-piece
decreases-loop-piece g l = length l.rest
