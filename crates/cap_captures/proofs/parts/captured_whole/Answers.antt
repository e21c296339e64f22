use Rattle.std.proofs.Common.{[], ◌∷◌, ◌++◌, inl, refl}
use Rattle.cap_core.specs.declared.reply.Reply.TheVariants as reply
use Rattle.cap_core.specs.Answer.{event_by}
use Rattle.cap_captures.specs.Parts.{capturing}
use Rattle.cap_captures.proofs.AcceptedLemmas.{after-two, two-of, with-two}
use Rattle.cap_captures.proofs.parts.captured_whole.Goals as goal

pub returns-in-Some-3 : goal.returns-in-Some-3
returns-in-Some-3 g c =
    λ h stands.
    let capture = capturing c.args.session in
    let first = c.args.first.now in
    let second = c.args.second.now in
    let one = rw c.in-Some.is at c.in_ok-one.ensures h stands in
    let middle = (h ++ event_by 0 first (reply.Written one.1.0) ∷ []) ++ event_by 0 capture (reply.Capture c.in-Some.one.capture) ∷ [] in
    let two = rw c.in-Some-2.is at c.in_ok-two.ensures middle one.1.1 in
    let end = (middle ++ event_by 0 second (reply.Written two.1.0) ∷ []) ++ event_by 0 capture (reply.Capture c.in-Some-2.two.capture) ∷ [] in
    let last = rw c.in-Some-3.is at c.in_ok-capture.ensures (c.args.session, inl refl) end two.1.1 in (
      (
        (one.0.0, two.0.0),
        with-two h first capture (reply.Written one.1.0) (reply.Capture c.in-Some.one.capture) (second ∷ capture ∷ capture ∷ []) one.1.1.legal one.0.1
            (with-two middle second capture (reply.Written two.1.0) (reply.Capture c.in-Some-2.two.capture) (capture ∷ []) two.1.1.legal two.0.1 last.0),
      ),
      (c.in-Some.one.capture, c.in-Some-2.two.capture, (one.1.0, two.1.0, c.in-Some-3.field-0.core, last.1)),
    )

pub returns-in_default : goal.returns-in_default
returns-in_default g c =
    λ h stands all.
    let capture = capturing c.args.session in
    let none = rw c.in_default.is at c.in_ok-one.ensures h stands in
    none (all.0.0, two-of h c.args.first.now capture (c.args.second.now ∷ capture ∷ capture ∷ []) all.1)

pub returns-in_default-2 : goal.returns-in_default-2
returns-in_default-2 g c =
    λ h stands all.
    let capture = capturing c.args.session in
    let first = c.args.first.now in
    let second = c.args.second.now in
    let one = rw c.in-Some.is at c.in_ok-one.ensures h stands in
    let middle = (h ++ event_by 0 first (reply.Written one.1.0) ∷ []) ++ event_by 0 capture (reply.Capture c.in-Some.one.capture) ∷ [] in
    let none = rw c.in_default-2.is at c.in_ok-two.ensures middle one.1.1 in
    none (all.0.1, two-of middle second capture (capture ∷ []) (after-two h first capture (reply.Written one.1.0) (reply.Capture c.in-Some.one.capture) (second ∷ capture ∷ capture ∷ []) one.1.1.legal all.1))

pub returns : goal.returns
returns g c =
    λ h stands all.
    let capture = capturing c.args.session in
    let first = c.args.first.now in
    let second = c.args.second.now in
    let one = rw c.in-Some.is at c.in_ok-one.ensures h stands in
    let middle = (h ++ event_by 0 first (reply.Written one.1.0) ∷ []) ++ event_by 0 capture (reply.Capture c.in-Some.one.capture) ∷ [] in
    let two = rw c.in-Some-2.is at c.in_ok-two.ensures middle one.1.1 in
    let end = (middle ++ event_by 0 second (reply.Written two.1.0) ∷ []) ++ event_by 0 capture (reply.Capture c.in-Some-2.two.capture) ∷ [] in
    let none = rw c.in-None.is at c.in_ok-capture.ensures (c.args.session, inl refl) end two.1.1 in
    none (after-two middle second capture (reply.Written two.1.0) (reply.Capture c.in-Some-2.two.capture) (capture ∷ []) two.1.1.legal
    (after-two h first capture (reply.Written one.1.0) (reply.Capture c.in-Some.one.capture) (second ∷ capture ∷ capture ∷ []) one.1.1.legal all.1))
