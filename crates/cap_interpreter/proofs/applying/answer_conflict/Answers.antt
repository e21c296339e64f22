use Rattle.std.proofs.Common.{◌∙◌, sym}
use Rattle.std.specs.Prelude.{string_bytes}
use Rattle.cap_interpreter.proofs.ApplyingLemmas.{answer_kept}
use Rattle.cap_interpreter.proofs.applying.answer_conflict.Goals as goal

pub returns : goal.returns
returns g c =
    let run = c.keep.ensures in
    answer_kept c.args.line.now c.args.app c.args.answer c.keep.result (string_bytes c.args.output.now) (string_bytes c.keep.new.output) (sym c.is_at_conflict.ensures ∙ c.if-is_at_conflict.false) (run.left, run.text, run.memory, run.same)
