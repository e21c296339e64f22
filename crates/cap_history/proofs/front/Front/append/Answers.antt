use Rattle.std.proofs.Common.{ap, sym, ◌∙◌, length, arith}
use Rattle.cap_history.specs.History.{own}
use Rattle.cap_history.specs.Own.{own-few}
use Rattle.cap_history.specs.Seen.{Seated}
use Rattle.cap_history.proofs.Calling.{called}
use Rattle.cap_history.proofs.front.Front.append.Goals as goal

pub overflow_add-seat : goal.overflow_add-seat
overflow_add-seat g c =
    let few = own-few c.args.seat.now.state.number c.args.at.now.log in
    let calls = c.seat.invariant.0 ∙ ap (λ (s : Seated g.row.A.Denot). length (own s.state.number s.state.answered)) c.seat.view_is ∙ sym c.requires.calls in
    omega (arith, c.requires.room, few, calls)

pub returns-in-Ok-clause-called : goal.returns-in-Ok-clause-called
returns-in-Ok-clause-called g c =
    let at = c.args.at.now.log in
    let calls = ap (λ (s : Seated g.row.A.Denot). length (own s.state.number at)) c.seat.view_is ∙ c.requires.calls
    ∙ sym (ap (λ (s : Seated g.row.A.Denot). length (own s.state.number s.state.answered)) c.seat.view_is) in
    rw (c.again.ensures, ← c.seat.view_is)
    (called c.seat.inside.number c.seat.inside.seen.log c.seat.inside.answered.log at c.exchange.new.self.log c.args.command.now c.args.reply.now c.seat.invariant.1
    c.in-Ok.ensures.at calls c.in-Ok.ensures.added c.in-Ok.ensures.history.legal c.in-Ok.ensures.history.blobs)
