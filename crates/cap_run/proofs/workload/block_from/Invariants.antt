use Rattle.std.proofs.Common.{◌≤◌, List, length}
use Rattle.cap_run.specs.Code.Calls.{IsBlock}
use Rattle.cap_replies.specs.Lines.{SpellsRun}
use Rattle.cap_replies.specs.declared.run_line.RunLine.{RunLine}
use Rattle.cap_run.proofs.workload.block_from.Given as goal

abbrev pub invariant-loop-lines : goal.invariant-loop-lines
invariant-loop-lines g l = record {
  left : length l.lines.text ≤ length l.initial.lines.text;
  block : (rest : List (RunLine g.row.A.Denot)) → SpellsRun rest l.initial.lines → IsBlock l.fn.first rest l.block.items l.lines;
}

-- bytes of the lines behind the block so far
abbrev pub decreases-loop-lines : goal.decreases-loop-lines
decreases-loop-lines g l = length l.lines.text
