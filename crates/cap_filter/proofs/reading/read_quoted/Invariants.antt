use Rattle.std.proofs.Common.{◌≡◌, [], length, string_bytes}
use denote.Text.{Utf8}
use denote.Shadow.{shadow}
use Rattle.cap_filter.specs.Tokens.{inside, tokens_from}
use Rattle.cap_filter.proofs.reading.read_quoted.Given as goal

abbrev pub invariant-loop-piece : goal.invariant-loop-piece
invariant-loop-piece g l =
    shadow (Utf8 l.rest) × (tokens_from (inside l.left (string_bytes l.word)) l.rest ≡ tokens_from (inside l.left []) l.text)

abbrev pub decreases-loop-piece : goal.decreases-loop-piece
decreases-loop-piece g l = length l.rest
