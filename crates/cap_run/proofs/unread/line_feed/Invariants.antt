use Rattle.std.proofs.Common.{◌≡◌, false, take}
use Rattle.cap_replies.proofs.TextLineLemmas.{has_line_feed}
use Rattle.cap_run.proofs.unread.line_feed.Given as goal

-- no line feed so far
abbrev pub invariant-loop-at : goal.invariant-loop-at
invariant-loop-at l = has_line_feed (take l.at l.bytes) ≡ false
