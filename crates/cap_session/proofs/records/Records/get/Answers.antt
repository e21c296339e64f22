use Rattle.std.proofs.Common.{◌∙◌, ap, sym}
use Rattle.cap_row.specs.Key.{fields_cmp}
use Rattle.cap_tree.specs.Tree.{get}
use Rattle.cap_session.proofs.RecordLemmas.{get_above, get_below, get_latest, get_past}
use Rattle.cap_session.proofs.records.Records.get.Goals as goal

pub returns-in-Equal-clause-found : goal.returns-in-Equal-clause-found
returns-in-Equal-clause-found g c =
    get_latest c.self.inside.tree c.self.inside.latest _ c.in-Some.is c.args.key.now (sym c.order.ensures.order ∙ c.in-Equal.is)
    ∙ ap (λ records. get fields_cmp records c.args.key.now) c.self.view_is

pub returns-in-Less-clause-found : goal.returns-in-Less-clause-found
returns-in-Less-clause-found g c =
    c.get-in-Less.ensures
    ∙ get_below c.self.inside.tree c.self.inside.latest _ c.in-Some.is c.args.key.now (sym c.order.ensures.order ∙ c.in-Less.is)
    ∙ ap (λ records. get fields_cmp records c.args.key.now) c.self.view_is

pub returns-then-self-clause-found : goal.returns-then-self-clause-found
returns-then-self-clause-found g c =
    get_past c.self.inside.tree c.self.inside.latest _ c.in-Some.is c.args.key.now (sym c.order.ensures.order ∙ c.in-Greater.is) (c.self.invariant.1 c.if-self.true)
    ∙ ap (λ records. get fields_cmp records c.args.key.now) c.self.view_is

pub returns-else-self-clause-found : goal.returns-else-self-clause-found
returns-else-self-clause-found g c =
    c.get-else-self.ensures
    ∙ get_above c.self.inside.tree c.self.inside.latest _ c.in-Some.is c.args.key.now (sym c.order.ensures.order ∙ c.in-Greater.is)
    ∙ ap (λ records. get fields_cmp records c.args.key.now) c.self.view_is
