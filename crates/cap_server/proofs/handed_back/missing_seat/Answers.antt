use Rattle.cap_server.proofs.Places.{has-more}
use Rattle.cap_server.proofs.handed_back.missing_seat.Goals as goal

pub loop-number-preserved : goal.loop-number-preserved
loop-number-preserved g c = has-more c.args.seats.now c.loop-number.number c.in-Some._place c.loop-number.invariant c.in-Some.ensures.0
