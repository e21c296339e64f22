use Rattle.std.proofs.Common.{◌≡◌, ◌*◌, ◌+◌, ◌≤◌, ◌++◌, false, length}
use Rattle.std.specs.Io.KnownBytes.{Keeps, prepend_known}
use Rattle.cap_run.specs.Code.Unread.{Counted}
use Rattle.cap_replies.proofs.TextLineLemmas.{has_line_feed}
use Rattle.cap_run.proofs.unread.next_line.Given as goal

abbrev pub invariant-loop-line : goal.invariant-loop-line
invariant-loop-line g l = record {
  kept : Keeps (prepend_known l.initial.unread (g.R.Source.remaining l.initial.reader)) (prepend_known (l.line.items ++ l.unread) (g.R.Source.remaining l.reader));
  clear : has_line_feed l.line.items ≡ false;
  counted : Counted g.R.Source.gave l.initial.reads l.reads l.initial.reader l.reader;
  few : l.reads * 8192 + length l.line.items + length l.unread ≤ l.initial.reads * 8192 + length l.initial.unread;
}

abbrev pub decreases-loop-line : goal.decreases-loop-line
decreases-loop-line g l = l.reads
