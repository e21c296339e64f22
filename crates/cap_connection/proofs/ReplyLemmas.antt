-- The reply to a call is of its command's kind.
use Rattle.std.proofs.Common.{◌≡◌, inl, inr, [], ◌∷◌, ◌++◌, Option, Some, None, ap, refl, subst, sym, ◌∙◌}
use mathlib.Core.Bool.{true≢false}
use Rattle.std.specs.Prelude.{Ok, is_some}
use Rattle.std.specs.Global.{Global}
use Rattle.cap_database.specs.Snapshot.{SnapshotState}
use Rattle.cap_session.specs.Session.{SessionState}
use Rattle.cap_session.specs.Sessions.{session_numbered}
use Rattle.cap_session.specs.declared.session_change.SessionChange.TheVariants.{Restart}
use Rattle.cap_core.specs.Capture.{CaptureState, session_changes}
use Rattle.cap_core.specs.Answer.{IsLegal, State, answer, capture_reply, event_by, session_answer, session_reply, snapshot_of, state}
use Rattle.cap_core.specs.RefusedFirst.{refusal_in}
use Rattle.cap_core.specs.declared.command.Command.{Command}
use Rattle.cap_core.specs.declared.command.Command.TheVariants.{Read, Session}
use Rattle.cap_core.specs.declared.session_command.SessionCommand.TheVariants.{Capture, Change}
use Rattle.cap_core.specs.declared.event.Event.{Event}
use Rattle.cap_core.specs.declared.reply.Reply.{Reply}
use Rattle.cap_core.specs.declared.reply.Reply.TheVariants as reply
use Rattle.cap_core.proofs.CommitLemmas.{was-answered}
use Rattle.cap_core.proofs.LawLemmas.{answered}
use Rattle.cap_history.specs.Seat.{HasCalled, SeatState}
use Rattle.cap_connection.specs.Commands.{IsCapture}
use Rattle.cap_connection.specs.Connection.{ConnectionState}
use Rattle.cap_connection.specs.Runs.{Runs}

-- the reply is that of the sequential server in some state
answered_in : (old new : SeatState Global) (asked : Command Global) (told : Reply Global) → HasCalled old new asked told
    → (now : State Global) × (told ≡ answer now asked)
answered_in old new asked told called =
    let before = old.seen ++ called.seen.0 in
    let event : Event Global = event_by old.number asked told in
    let is : new.seen ≡ before ++ event ∷ [] = called.seen.1 in
    let legal : IsLegal (before ++ event ∷ []) = subst IsLegal is called.legal in
    (state before, was-answered before old.number asked told legal ∙ answered before asked)

-- a reply with the tables
reads : (old new : SeatState Global) (told : Reply Global) → HasCalled old new Read told
    → (snapshot : SnapshotState Global) × (told ≡ reply.Snapshot snapshot)
reads old new told called = let found = answered_in old new Read told called in (snapshot_of found.0, found.1)

captured_of : (found : Option (SessionState Global)) (now : State Global) (told : SessionState Global → Reply Global) → ((session : SessionState Global) → told session ≡ capture_reply now.version now.main session)
    → refusal_in (session_answer found told) ≡ None → (capture : CaptureState Global) × (session_answer found told ≡ reply.Capture capture)
captured_of None now told captured accepted = absurd (true≢false (ap is_some accepted))
captured_of (Some session) now told captured accepted =
    let capture : CaptureState Global = record { version = now.version; changes = session_changes now.main session } in
    (capture, captured session)

-- a reply with the session's changes, where it is no refusal
captures : (old new : SeatState Global) (asked : Command Global) (told : Reply Global) → IsCapture asked → HasCalled old new asked told
    → refusal_in told ≡ None → (capture : CaptureState Global) × (told ≡ reply.Capture capture)
captures old new asked told (session, inl is) called accepted =
    let found = answered_in old new asked told called in
    let same : told ≡ answer found.0 (Session session Capture) = found.1 ∙ ap (answer found.0) is in
    let made = captured_of (session_numbered found.0.sessions session) found.0 (session_reply found.0 Capture) (λ s. refl) (subst (λ (r : Reply Global). refusal_in r ≡ None) same accepted) in
    (made.0, same ∙ made.1)
captures old new asked told (session, inr is) called accepted =
    let found = answered_in old new asked told called in
    let same : told ≡ answer found.0 (Session session (Change Restart)) = found.1 ∙ ap (answer found.0) is in
    let made = captured_of (session_numbered found.0.sessions session) found.0 (session_reply found.0 (Change Restart)) (λ s. refl) (subst (λ (r : Reply Global). refusal_in r ≡ None) same accepted) in
    (made.0, same ∙ made.1)

-- ---- the same of what a call has taken

pub snapshot_taken : (old new : ConnectionState) (told : Reply Global) → Runs (λ reply. reply) Read old new (Ok told)
    → (snapshot : SnapshotState Global) × (told ≡ reply.Snapshot snapshot)
snapshot_taken old new told (answer, took, accepted, is) =
    let found = reads old.client.state new.client.state answer took.called.called in (found.0, sym is ∙ found.1)

pub capture_taken : (old new : ConnectionState) (asked : Command Global) (told : Reply Global) → IsCapture asked → Runs (λ reply. reply) asked old new (Ok told)
    → (changes : CaptureState Global) × (told ≡ reply.Capture changes)
capture_taken old new asked told capture (answer, took, accepted, is) =
    let found = captures old.client.state new.client.state asked answer capture took.called.called accepted in (found.0, sym is ∙ found.1)
