use Rattle.std.proofs.Common.{◌*◌, ◌+◌, ◌≤◌, length}
use Rattle.std.specs.Io.KnownBytes.{prepend_known}
use Rattle.cap_stream.specs.StreamCalls.{AllWent}
use Rattle.cap_run.specs.Code.Unread.{Counted}
use Rattle.cap_run.specs.Shell.{outputs}
use Rattle.cap_run.proofs.ShellLemmas.{IsAt}
use Rattle.cap_run.proofs.shell.run_shell.Given as goal

abbrev pub invariant-loop-found : goal.invariant-loop-found
invariant-loop-found g l = record {
  run : IsAt (g.R.Source.remaining l.initial.reader) (prepend_known l.unread (g.R.Source.remaining l.reader)) l.interpreter l.number
      (outputs (g.W.Sink.contents l.initial.replies) (g.E.Sink.contents l.initial.faults)) (outputs (g.W.Sink.contents l.replies) (g.E.Sink.contents l.faults));
  went : AllWent g.W.Sink.went l.initial.replies l.replies;
  reported : AllWent g.E.Sink.went l.initial.faults l.faults;
  counted : Counted g.R.Source.gave 1099511627776 l.reads l.initial.reader l.reader;
  few : l.number + (l.reads * 8192 + length l.unread) ≤ 9007199254740992;
}

abbrev pub decreases-loop-found : goal.decreases-loop-found
decreases-loop-found g l = l.reads * 8192 + length l.unread
