use Rattle.std.proofs.Common.{◌∙◌}
use Rattle.cap_session.proofs.RecordLemmas.{latest_some}
use Rattle.cap_session.proofs.records.Records.is_empty.Goals as goal

pub returns-in-Some : goal.returns-in-Some
returns-in-Some g c = (λ t. cc, λ e. absurd (latest_some c.self.inside.tree c.self.inside.latest _ c.in-Some.is (c.self.view_is ∙ e)))
