use Rattle.std.proofs.Common.{◌∙◌, sym}
use Rattle.std.specs.Prelude.{string_bytes}
use Rattle.cap_interpreter.proofs.ApplyingLemmas.{put_kept, put_led, put_memory}
use Rattle.cap_interpreter.proofs.applying.put_row.Goals as goal

pub returns-in-None : goal.returns-in-None
returns-in-None g c =
    put_led c.args.line.now c.args.app c.args.row.now c.put_fitting.result (string_bytes c.args.output.now) (string_bytes c.put_fitting.new.output) (sym c.in-None.is ∙ c.in-Ok.ensures) c.put_fitting.ensures

pub returns-in-Some : goal.returns-in-Some
returns-in-Some g c =
    let run = c.keep.ensures in
    put_kept c.args.line.now c.args.app c.args.row.now c.in-Some.why c.keep.result (string_bytes c.args.output.now) (string_bytes c.keep.new.output) (sym c.in-Some.is ∙ c.in-Ok.ensures) (run.left, rw c.outcome_of.ensures at run.text, run.memory, run.same)

pub returns-in_default : goal.returns-in_default
returns-in_default g c = put_memory c.args.line.now c.args.app c.args.row.now (string_bytes c.args.output.now)
