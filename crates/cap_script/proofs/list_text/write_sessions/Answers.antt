use Rattle.std.proofs.Common.{◌++◌, ap, ◌∙◌, string_bytes}
use Rattle.cap_core.specs.declared.listed_session.ListedSession.{ListedSession}
use Rattle.cap_script.specs.ListText.{session_line}
use Rattle.cap_script.proofs.RowLemmas.{one_more_at}
use Rattle.cap_script.proofs.list_text.write_sessions.Goals as goal

pub loop-session-preserved : goal.loop-session-preserved
loop-session-preserved g c =
    one_more_at session_line c.args.sessions.now c.loop-session.session-index c.session-item.result (string_bytes c.loop-session.out) (string_bytes c.write_session.new.out) _ c.loop-session-test.true
    (c.in_ok-write_session.ensures ∙ ap (λ (x : ListedSession g.row.A.Denot). string_bytes c.loop-session.out ++ session_line x) c.session-item.is) c.loop-session.invariant
