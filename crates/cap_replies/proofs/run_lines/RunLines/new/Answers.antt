use Rattle.std.proofs.Common.{refl}
use Rattle.cap_replies.specs.Lines.{numbered}
use Rattle.cap_replies.specs.Numbers.{line_numbers}
use Rattle.cap_replies.proofs.run_lines.RunLines.new.Goals as goal

-- the lines that the text spells, with their numbers
pub returns-clause-spelled : goal.returns-clause-spelled
returns-clause-spelled g c =
    let spelled = c.in_ok-lines.ensures.spelled in
    (numbered c.args.form (line_numbers 1 c.args.text.now) spelled.0, (spelled.0, spelled.1, refl))
