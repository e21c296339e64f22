use Rattle.cap_core.proofs.CommitLemmas.{was-answered, was-legal}
use Rattle.cap_core.proofs.laws.legal_histories_were_legal.Goals as goal

pub returns : goal.returns
returns g c = record { legal = was-legal; reply = was-answered }
