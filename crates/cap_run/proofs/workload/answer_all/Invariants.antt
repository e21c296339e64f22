use Rattle.std.proofs.Common.{◌≡◌, List, length, map, string_bytes, vec_len}
use Rattle.cap_stream.specs.StreamCalls.{AllWent}
use Rattle.cap_run.specs.Code.Calls.{AreSeats, AreUnder}
use Rattle.cap_replies.specs.Lines.{SpellsRun}
use Rattle.cap_replies.specs.declared.run_line.RunLine.{RunLine}
use Rattle.cap_run.proofs.workload.answer_all.Given as goal

abbrev pub invariant-loop-line : goal.invariant-loop-line
invariant-loop-line g l = record {
  seats : AreSeats l.shared.threads (map (λ w. w.seat) l.workers.items);
  len : vec_len l.workers ≡ vec_len l.fn.workers;
  called : (spelled : List (RunLine g.row.A.Denot)) → SpellsRun spelled l.initial.lines → AreUnder l.shared.threads spelled l.lines (string_bytes l.pending)
      (map (λ w. w.seat) l.fn.workers.items) (map (λ w. w.seat) l.workers.items) (g.W.Sink.contents l.initial.writer) (g.W.Sink.contents l.writer);
  went : AllWent g.W.Sink.went l.initial.writer l.writer;
}

-- bytes of the lines that are still to be called
abbrev pub decreases-loop-line : goal.decreases-loop-line
decreases-loop-line g l = length l.lines.text
