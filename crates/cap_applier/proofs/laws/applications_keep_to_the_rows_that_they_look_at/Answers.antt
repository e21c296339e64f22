use Rattle.std.proofs.Common.{refl}
use Rattle.cap_applier.proofs.LookedLemmas.{merged-keeps, reached-keeps, step-keeps}
use Rattle.cap_applier.proofs.laws.applications_keep_to_the_rows_that_they_look_at.Goals as goal

pub returns : goal.returns
returns g c = record {
  first = λ tables blob filter. record { stays = λ name key none. refl; others = λ name. refl };
  step = step-keeps;
  merged = merged-keeps;
  between = reached-keeps;
}
