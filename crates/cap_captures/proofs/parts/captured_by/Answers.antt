use Rattle.std.proofs.Common.{[], refl, ◌∙◌}
use Rattle.cap_core.specs.declared.reply.Reply.TheVariants as reply
use Rattle.cap_core.proofs.CommitLemmas.{was-answered}
use Rattle.cap_captures.proofs.AcceptedLemmas.{a-capture, alone-accepted, is-accepted, room-for}
use Rattle.cap_captures.proofs.parts.captured_by.Goals as goal

pub returns-in-Capture : goal.returns-in-Capture
returns-in-Capture g c =
    λ is h left.
    let made = rw c.in-Capture.is at rw c.in-Some.is at c.in_ok-core.ensures h left in
    (alone-accepted h c.args.command (reply.Capture c.in-Capture.capture) made.1.legal made.0 refl, made.1)

pub returns-in_default-reply : goal.returns-in_default-reply
returns-in_default-reply g c =
    λ is h left all.
    let made = rw c.in-Some.is at c.in_ok-core.ensures h left in
    let capture = a-capture h c.args.command is (is-accepted h c.args.command [] all) in
    c.in_default-reply.not-Capture capture.0 (was-answered h 0 c.args.command c.in-Some.field-0.reply made.1.legal ∙ capture.1)

pub returns-in_default : goal.returns-in_default
returns-in_default g c = λ is h left all. (rw c.in_default.is at c.in_ok-core.ensures h left) (room-for h c.args.command [] all)
