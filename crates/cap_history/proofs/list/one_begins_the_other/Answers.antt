use Rattle.std.proofs.Common.{ap, subst, List}
use mathlib.Core.List.{IsPrefix}
use Rattle.cap_core.specs.declared.event.Event.{Event}
use Rattle.cap_history.specs.Beginnings.{prefix-either}
use Rattle.cap_history.proofs.list.one_begins_the_other.Goals as goal

pub returns : goal.returns
returns g c =
    let both = c.learn.new.self.log in
    let first : IsPrefix c.first.inside.seen.log both = subst (λ (l : List (Event g.row.A.Denot)). IsPrefix l both) (ap (λ s. s.log) c.again-both.ensures) c.learn.ensures.2 in
    rw (← c.first.view_is, ← c.second.view_is) (prefix-either c.first.inside.seen.log c.second.inside.seen.log both first c.learn.ensures.3)
