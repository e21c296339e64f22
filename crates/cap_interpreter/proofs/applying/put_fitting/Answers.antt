use Rattle.std.proofs.Common.{◌∙◌, ap, subst}
use Rattle.std.specs.Prelude.{string_bytes}
use Rattle.cap_row.specs.Fields.{Fields}
use Rattle.cap_interpreter.specs.Application.{ApplicationState, put_in}
use Rattle.cap_interpreter.specs.Code.Runs.{Did}
use Rattle.cap_interpreter.specs.Lines.Deed.{Stand}
use Rattle.cap_interpreter.specs.declared.held.Open.TheVariants.{Application}
use Rattle.std.proofs.Common.{Some}
use Rattle.cap_interpreter.proofs.ApplyingLemmas.{put_stands}
use Rattle.cap_interpreter.proofs.applying.put_fitting.Goals as goal

pub returns-in-Ok-put : goal.returns-in-Ok-put
returns-in-Ok-put g c =
    let line = c.args.line.now in
    let app = c.args.app in
    let run = c.stand.ensures in
    let is = c.in-Ok-put.ensures ∙ ap (λ (r : Fields g.row.A.Denot). put_in r app) c.in-Ok.ensures in
    subst (λ (n : ApplicationState g.row.A.Denot). Did line (Stand n) (Some (Application app)) c.stand.result (string_bytes c.args.output.now) (string_bytes c.stand.new.output)) is
    (put_stands line app c.in-Ok-put.app c.stand.result (string_bytes c.args.output.now) (string_bytes c.stand.new.output) (run.left, run.text, run.memory, run.same))
