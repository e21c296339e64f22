use Rattle.std.proofs.Common.{◌∙◌}
use Rattle.cap_server.proofs.Places.{not-among-all, not-among-more, not-there}
use Rattle.cap_server.proofs.handed_back.place_of.Goals as goal

pub loop-place-preserved : goal.loop-place-preserved
loop-place-preserved g c =
    not-among-more c.args.seats.now c.args.number c.loop-place.place c.loop-place.invariant
    (not-there c.args.seats.now c.args.number c.loop-place.place c.index-seats-place.result c.loop-place-test.true c.index-seats-place.is
    (λ same. c.if-number.false (c.number.ensures.number ∙ same)))

pub returns : goal.returns
returns g c = not-among-all c.args.seats.now c.args.number c.loop-place.place c.loop-place.invariant c.loop-place-test.false
