use Rattle.std.proofs.Common.{refl}
use Rattle.cap_core.specs.Answer.{IsLegal, state}
use Rattle.cap_core.proofs.LawLemmas.{answered, grown, grown-state}
use Rattle.cap_core.proofs.NextLemmas.{events-state}
use Rattle.cap_core.proofs.laws.legal_histories_grow.Goals as goal

pub returns : goal.returns
unfolding IsLegal state
returns g c = record { none = tt; more = grown; next = grown-state; count = events-state; reply = answered; past = λ h. refl }
