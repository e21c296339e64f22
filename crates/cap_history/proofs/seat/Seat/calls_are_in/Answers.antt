use Rattle.cap_history.specs.Own.{answered-in}
use Rattle.cap_history.proofs.seat.Seat.calls_are_in.Goals as goal

pub returns : goal.returns
returns g c =
    rw (← c.self.view_is) (λ same. answered-in c.self.inside.number c.self.inside.answered.log c.args.list.now.log c.self.invariant.2 c.one_begins_the_other.ensures same)
