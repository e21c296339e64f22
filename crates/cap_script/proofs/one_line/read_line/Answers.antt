use Rattle.std.proofs.Common.{rules}
use Rattle.cap_script.specs.LineLimits.{LineWithin}
use Rattle.cap_script.proofs.NoLines.{in_line_leaves}
use Rattle.cap_script.proofs.OneLine.{numbered, fault_in_line}
use Rattle.cap_script.proofs.one_line.read_line.Goals as goal

pub returns-in-Err-clause-refused : goal.returns-in-Err-clause-refused
returns-in-Err-clause-refused g c = record {
  not_ignored = search rules;
  numbered = rw c.in_line.ensures (numbered c.in-Err.fault c.args.number c.args.text.now);
  none = λ line spells. rw c.in_line.ensures (in_line_leaves c.in-Err.fault c.args.number c.args.text.now (LineWithin line c.args.text.now) (c.in-Err.ensures.none line spells));
  why = rw c.in_line.ensures (fault_in_line g.row.A.Denot c.in-Err.fault c.args.number c.args.text.now c.in-Err.ensures.fault);
}
