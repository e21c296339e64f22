use Rattle.std.proofs.Common.{sym, subst, ◌∙◌}
use Rattle.cap_row.specs.Key.{fields_cmp}
use Rattle.cap_tree.specs.Shape.{EachBelow}
use Rattle.cap_session.specs.Records.{Records}
use Rattle.cap_session.proofs.RecordLemmas.{above_both, above_last}
use Rattle.cap_session.proofs.records.Records.is_above.Goals as goal

pub returns-then-self : goal.returns-then-self
returns-then-self g c is =
    subst (λ (all : Records g.row.A.Denot). EachBelow fields_cmp c.args.key.now all) c.self.view_is
    (above_last c.self.inside.tree c.self.inside.latest _ c.in-Some.is c.args.key.now (sym c.order.ensures.order ∙ c.in-Greater.is) (c.self.invariant.1 is))

pub returns-else-self : goal.returns-else-self
returns-else-self g c is =
    subst (λ (all : Records g.row.A.Denot). EachBelow fields_cmp c.args.key.now all) c.self.view_is
    (above_both c.self.inside.tree c.self.inside.latest _ c.in-Some.is c.args.key.now (sym c.order.ensures.order ∙ c.in-Greater.is) (c.is_above_tree-else-self.ensures is))
