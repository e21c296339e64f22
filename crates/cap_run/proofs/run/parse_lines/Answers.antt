use Rattle.std.proofs.Common.{subst}
use Rattle.cap_value.specs.declared.memory.Fault.{Fault}
use Rattle.cap_run.proofs.InputLemmas.{refused_within}
use Rattle.cap_script.specs.RefusedLines.{NoLines}
use Rattle.cap_script.specs.declared.fault.ScriptFault.{ScriptFault}
use Rattle.cap_run.proofs.run.parse_lines.Goals as goal

pub returns-in-Err-Refused-clause-accepted : goal.returns-in-Err-Refused-clause-accepted
returns-in-Err-Refused-clause-accepted g c = λ within. absurd (refused_within g.row.A.Denot c.in-Err-Refused.fault c.args.text.now
    (subst (λ (fault : Fault ScriptFault). NoLines g.row.A.Denot fault c.args.text.now) c.in-Err-Refused.field-0-is c.in-Err-Refused.ensures.none) within)
