use Rattle.std.proofs.Common.{[], ◌∷◌, ◌++◌, inr, refl}
use Rattle.cap_core.specs.declared.reply.Reply.TheVariants as reply
use Rattle.cap_core.specs.Answer.{event_by}
use Rattle.cap_captures.specs.Parts.{IsLeftBy, restarting}
use Rattle.cap_captures.specs.declared.parts.Part.{Part}
use Rattle.cap_captures.proofs.AcceptedLemmas.{one-of}
use Rattle.cap_captures.proofs.PartLemmas.{if-capture, with-commit}
use Rattle.cap_captures.proofs.parts.restarted_part.Goals as goal

pub returns-in-Some : goal.returns-in-Some
returns-in-Some g c =
    with-commit c.args.core.now c.in-Some.core c.args.commit.now (restarting c.args.session)
    (λ h (p : Part g.row.A.Denot). IsLeftBy (h ++ event_by 0 (restarting c.args.session) (reply.Capture p.capture) ∷ []) p.core) c.captured_by.result
    (λ h stands. rw c.in-Some.is at c.in_ok-core.ensures h stands) (if-capture (restarting c.args.session) _ c.captured_by.result c.captured_by.ensures (c.args.session, inr refl))

pub returns-in-None : goal.returns-in-None
returns-in-None g c =
    λ h stands all.
    let none = rw c.in-None.is at c.in_ok-core.ensures h stands in
    none (all.0, one-of h c.args.commit.now (restarting c.args.session ∷ []) all.1)
