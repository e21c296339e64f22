use Rattle.std.proofs.Common.{List, length, string_bytes}
use Rattle.cap_stream.specs.StreamCalls.{AllWent}
use Rattle.cap_replies.specs.Lines.{SpellsRun}
use Rattle.cap_replies.specs.declared.run_line.RunLine.{RunLine}
use Rattle.cap_run.proofs.RunLemmas.{IsAt}
use Rattle.cap_run.proofs.run.write_replies.Given as goal

abbrev pub invariant-loop-made : goal.invariant-loop-made
invariant-loop-made g l = record {
  run : (spelled : List (RunLine g.row.A.Denot)) → SpellsRun spelled l.initial.lines
      → IsAt spelled l.lines l.interpreter (string_bytes l.pending) (g.W.Sink.contents l.initial.writer) (g.W.Sink.contents l.writer);
  went : AllWent g.W.Sink.went l.initial.writer l.writer;
}

abbrev pub decreases-loop-made : goal.decreases-loop-made
decreases-loop-made g l = length l.lines.text
