use Rattle.std.proofs.Common.{sym}
use Rattle.cap_captures.proofs.PartLemmas.{has-room, no-room}
use Rattle.cap_captures.proofs.parts.answered_by.Goals as goal

pub returns-then-events-ge-EVENTS_MAX : goal.returns-then-events-ge-EVENTS_MAX
returns-then-events-ge-EVENTS_MAX g c = λ h stands. no-room h c.args.core.now stands c.events.result c.events.ensures c.if-events-ge-EVENTS_MAX.true

pub returns : goal.returns
returns g c =
    let made = c.in_ok-core.ensures in
    λ h stands. (
      has-room h c.args.core.now stands c.events.result c.events.ensures c.if-events-ge-EVENTS_MAX.false,
      record {
        legal = made.legal h 0 stands.legal stands.is;
        fits = made.fits h 0 stands.fits;
        is = sym (made.history h 0 stands.legal stands.is).1;
      },
    )
