use Rattle.std.proofs.Common.{true, [], refl, ◌∙◌}
use Rattle.cap_core.specs.declared.reply.Reply.TheVariants as reply
use Rattle.cap_core.proofs.CommitLemmas.{was-answered}
use Rattle.cap_captures.specs.Parts.{enabling}
use Rattle.cap_captures.proofs.AcceptedLemmas.{a-flag, alone-accepted, is-accepted, room-for}
use Rattle.cap_captures.proofs.parts.switched_on.Goals as goal

pub returns-in-Flag : goal.returns-in-Flag
returns-in-Flag g c =
    λ h stands.
    let made = rw c.in-Flag.is at rw c.in-Some.is at c.in_ok-core.ensures h stands in
    (alone-accepted h (enabling c.args.session) (reply.Flag c.in-Flag.field-0) made.1.legal made.0 refl, (c.in-Flag.field-0, made.1))

pub returns-in_default-reply : goal.returns-in_default-reply
returns-in_default-reply g c =
    λ h stands all.
    let made = rw c.in-Some.is at c.in_ok-core.ensures h stands in
    c.in_default-reply.not-Flag true (was-answered h 0 (enabling c.args.session) c.in-Some.field-0.reply made.1.legal ∙ a-flag h c.args.session (is-accepted h (enabling c.args.session) [] all))

pub returns-in_default : goal.returns-in_default
returns-in_default g c = λ h stands all. (rw c.in_default.is at c.in_ok-core.ensures h stands) (room-for h (enabling c.args.session) [] all)
