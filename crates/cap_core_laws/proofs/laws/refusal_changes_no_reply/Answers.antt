use Rattle.cap_core.proofs.LawLemmas.{refusal_leaves}
use Rattle.cap_core_laws.proofs.laws.refusal_changes_no_reply.Goals as goal

pub returns : goal.returns
returns g c = refusal_leaves
