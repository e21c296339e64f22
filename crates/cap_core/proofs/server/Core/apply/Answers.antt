use Rattle.std.proofs.Common.{List, sym, subst, ◌∙◌}
use Rattle.cap_database.specs.Carried.{CarryFirstRows}
use Rattle.cap_database.specs.declared.change.Change.{Change}
use Rattle.cap_apply.specs.Applied.{AppliedState}
use Rattle.cap_core.specs.Answer.{State}
use Rattle.cap_apply.proofs.StayLemmas.{apply-carries}
use Rattle.cap_core.proofs.server.Core.apply.Goals as goal

pub reserve_and_publish-requires-clause-carried : goal.reserve_and_publish-requires-clause-carried
reserve_and_publish-requires-clause-carried g c =
    let left : AppliedState g.row.A.Denot = c.in-Ok.applied in
    subst (λ (changes : List (Change g.row.A.Denot)). CarryFirstRows c.args.self.now.main changes) (sym (c.as_slice.ensures.value ∙ c.into_parts-database.ensures.changes))
    (subst (λ (s : State g.row.A.Denot). CarryFirstRows s.main left.changes) c.self.view_is (rw c.in-Ok.ensures at (apply-carries c.self.inside.main c.args.blob.now c.args.policy)))
