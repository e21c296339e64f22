use Rattle.std.proofs.Common.{[], refl, ◌∙◌}
use Rattle.cap_core.specs.declared.reply.Reply.TheVariants as reply
use Rattle.cap_core.proofs.CommitLemmas.{was-answered}
use Rattle.cap_captures.proofs.AcceptedLemmas.{a-commit, alone-accepted, is-accepted, room-for}
use Rattle.cap_captures.proofs.parts.committed.Goals as goal

pub returns-in-Written : goal.returns-in-Written
returns-in-Written g c =
    λ h stands.
    let made = rw c.in-Written.is at rw c.in-Some.is at c.in_ok-core.ensures h stands in
    (((c.in-Commit.field-0, c.in-Commit.is), alone-accepted h c.args.commit.now (reply.Written c.in-Written.version) made.1.legal made.0 refl), (c.in-Written.version, made.1))

pub returns-in_default-reply : goal.returns-in_default-reply
returns-in_default-reply g c =
    λ h stands all.
    let made = rw c.in-Some.is at c.in_ok-core.ensures h stands in
    let version = a-commit h c.args.commit.now all.0 (is-accepted h c.args.commit.now [] all.1) in
    c.in_default-reply.not-Written version.0 (was-answered h 0 c.args.commit.now c.in-Some.field-0.reply made.1.legal ∙ version.1)

pub returns-in_default-2 : goal.returns-in_default-2
returns-in_default-2 g c = λ h stands all. (rw c.in_default-2.is at c.in_ok-core.ensures h stands) (room-for h c.args.commit.now [] all.1)
