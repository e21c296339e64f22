use Rattle.std.proofs.Common.{◌∙◌, ap}
use Rattle.cap_filter.specs.Rule.{Rule}
use Rattle.cap_applier.specs.Chosen.{accepted_in}
use Rattle.cap_interpreter.proofs.StopLemmas.{whole}
use Rattle.cap_interpreter.proofs.application.copy_of_blob.Goals as goal

pub returns : goal.returns
returns g c = c.in_ok-chosen.ensures.contents ∙ ap (λ (r : Rule). accepted_in r c.args.blob.now) c.every_table-every.ensures ∙ whole c.args.blob.now
