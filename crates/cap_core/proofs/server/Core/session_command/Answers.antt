use Rattle.std.proofs.Common.{◌≡◌, Some, sym, subst}
use Rattle.cap_session.specs.Sessions.{session_numbered}
use Rattle.cap_core.specs.Answer.{State}
use Rattle.cap_core.proofs.SoundLemmas.{numbered-stands}
use Rattle.cap_core.proofs.server.Core.session_command.Goals as goal

pub capture_reply-requires : goal.capture_reply-requires
capture_reply-requires g c = numbered-stands c.self.inside.main c.self.inside.sessions c.args.number c.in-Some.session.now c.self.invariant.2 (sym c.in-Some.ensures)

pub change_reply-requires : goal.change_reply-requires
change_reply-requires g c = numbered-stands c.self.inside.main c.self.inside.sessions c.args.number c.in-Some.session.now c.self.invariant.2 (sym c.in-Some.ensures)

pub returns-in-Diff : goal.returns-in-Diff
returns-in-Diff g c =
    let numbered = subst (λ (s : State g.row.A.Denot). session_numbered s.sessions c.args.number ≡ Some c.in-Some.session.now) c.self.view_is (sym c.in-Some.ensures) in
    rw (numbered, c.in-Diff.is) (rw numbered at c.diff.ensures)
