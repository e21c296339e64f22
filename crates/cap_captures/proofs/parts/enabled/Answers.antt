use Rattle.std.proofs.Common.{[], ◌∷◌, ◌++◌, inr, refl}
use Rattle.cap_core.specs.declared.reply.Reply.TheVariants as reply
use Rattle.cap_core.specs.Answer.{event_by}
use Rattle.cap_captures.specs.Parts.{enabling, restarting}
use Rattle.cap_captures.proofs.AcceptedLemmas.{first-accepted, later-accepted, one-of}
use Rattle.cap_captures.proofs.parts.enabled.Goals as goal

pub returns-in-Some-2 : goal.returns-in-Some-2
returns-in-Some-2 g c =
    λ h stands.
    let on = rw c.in-Some.is at c.in_ok-core.ensures h stands in
    let enable = enabling c.args.session in
    let old = rw c.in-Some-2.is at c.in_ok-core-2.ensures (c.args.session, inr refl) (h ++ event_by 0 enable (reply.Flag on.1.0) ∷ []) on.1.1 in (
      first-accepted h enable (reply.Flag on.1.0) (restarting c.args.session ∷ []) on.1.1.legal on.0 old.0,
      (on.1.0, c.in-Some-2.field-0.capture, old.1),
    )

pub returns : goal.returns
returns g c =
    λ h stands all.
    let on = rw c.in-Some.is at c.in_ok-core.ensures h stands in
    let enable = enabling c.args.session in
    let none = rw c.in-None.is at c.in_ok-core-2.ensures (c.args.session, inr refl) (h ++ event_by 0 enable (reply.Flag on.1.0) ∷ []) on.1.1 in
    none (later-accepted h enable (reply.Flag on.1.0) (restarting c.args.session ∷ []) on.1.1.legal all)

pub returns-in_default : goal.returns-in_default
returns-in_default g c =
    λ h stands all.
    let none = rw c.in_default.is at c.in_ok-core.ensures h stands in
    none (one-of h (enabling c.args.session) (restarting c.args.session ∷ []) all)
