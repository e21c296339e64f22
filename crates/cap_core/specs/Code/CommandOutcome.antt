-- The outcome of a command that asks a commit hook.
use Rattle.std.specs.Prelude.{◌≡◌, ℕ, Option, Some, None, Result, Ok, Err, List, []}
use Rattle.std.specs.Option.{option_map}
use Rattle.cap_value.specs.Memory.{MatchFault}
use Rattle.cap_value.specs.declared.memory.Fault.{Fault}
use Rattle.cap_database.specs.Outcome.{OutcomeState}
use Rattle.cap_database.specs.Tables.{Tables}
use Rattle.cap_database.specs.Write.{AreShown}
use Rattle.cap_database.specs.declared.change.Change.{Change}
use Rattle.cap_database.specs.declared.refused_at.RefusedAt.{RefusedAt}
use Rattle.cap_session.specs.declared.delta.Delta.{Delta}
use Rattle.cap_session.specs.Delta.{published}
use Rattle.cap_session.specs.Session.{SessionState}
use Rattle.cap_session.specs.Sessions.{NumberedSessions, record_commit_each, session_numbered, with_session_if}
use Rattle.cap_core.specs.declared.reply.Reply.{Reply}
use Rattle.cap_core.specs.Answer.{State, write_reply}
use Rattle.cap_core.specs.Outcome.{Effect, Refused}
use Rattle.cap_core.specs.Transition.{after_write, with_sessions}

module _ {A : Type 0} where
  -- the session with the number is changed, where there is one
  abbrev pub changed_session : State A → ℕ → (SessionState A → SessionState A) → State A
  changed_session state number change =
      with_sessions state
      (with_session_if state.sessions number (option_map change (session_numbered state.sessions number)))

module _ {A S E : Type 0} (gives : S → Reply A → Result Unit E → S → Type 0) where
  -- The hook allowed this reply, and this is the next state; or the hook refused, or memory ran out, and
  -- nothing changed.
  abbrev pub Reports : Reply A → State A → State A → State A → S → S → Result (Reply A) (Fault E) → Type 0
  Reports reply next old new before after (Ok answered) =
      (answered ≡ reply) × (new ≡ next) × gives before reply (Ok tt) after
  Reports reply next old new before after (Err fault) =
      (new ≡ old) × MatchFault fault (after ≡ before) (λ why. gives before reply (Err why) after)

  -- The same of a command that writes, with its effect, unless it is refused, and the sessions that it leaves.
  abbrev pub ReportsWrite : Result (Effect A) Refused → List ℕ → State A → State A → S → S
      → Result (Reply A) (Fault E) → Type 0
  ReportsWrite effect quiet old = Reports (write_reply old effect) (after_write old quiet effect) old

  -- What is added to the sessions is reserved, and the hook allowed the reply; or it refused it.
  abbrev pub GivesRecorded : Reply A → NumberedSessions A → NumberedSessions A → Option (Delta A) → S → S
      → Result Unit E → Type 0
  GivesRecorded reply sessions recorded delta before after (Ok done) =
      (option_map (λ own. published own sessions) delta ≡ Some recorded) × gives before reply (Ok tt) after
  GivesRecorded reply sessions recorded delta before after (Err why) = gives before reply (Err why) after

  -- The operations were made, this is what their changes add to the sessions, and the hook allowed the reply.
  abbrev pub IsReserved : Reply A → Result (OutcomeState A) RefusedAt → Tables A → NumberedSessions A
      → Option (Delta A) → S → S → Type 0
  IsReserved reply ran new live delta before after = (changes shown : List (Change A))
      × (ran ≡ Ok (record { database = new; changes = changes })) × AreShown shown changes
      × (option_map (λ own. published own live) delta ≡ Some (record_commit_each shown [] live))
      × gives before reply (Ok tt) after

  -- That; or the rules refuse one, and the hook was not asked; or the hook refused the reply; or memory ran out.
  abbrev pub RecordingWrites : Reply A → Result (OutcomeState A) RefusedAt → Tables A → Tables A
      → NumberedSessions A → Option (Delta A) → S → S → Result (Result Unit RefusedAt) (Fault E) → Type 0
  RecordingWrites reply ran old new live delta before after (Ok (Ok done)) =
      IsReserved reply ran new live delta before after
  RecordingWrites reply ran old new live delta before after (Ok (Err refused)) =
      (ran ≡ Err refused) × (new ≡ old) × (after ≡ before)
  RecordingWrites reply ran old new live delta before after (Err fault) =
      (new ≡ old) × MatchFault fault (after ≡ before)
      (λ why. (left : OutcomeState A) × (ran ≡ Ok left) × gives before reply (Err why) after)

  abbrev pub ReservesWrite : Reply A → Result (OutcomeState A) RefusedAt → Tables A → Tables A
      → NumberedSessions A → S → S → Result (Result (Option (Delta A)) RefusedAt) (Fault E) → Type 0
  ReservesWrite reply ran old new live before after (Ok (Ok delta)) =
      IsReserved reply ran new live delta before after
  ReservesWrite reply ran old new live before after (Ok (Err refused)) =
      RecordingWrites reply ran old new live None before after (Ok (Err refused))
  ReservesWrite reply ran old new live before after (Err fault) =
      RecordingWrites reply ran old new live None before after (Err fault)

  -- The operations were made, their changes are recorded, and the hook allowed the reply; or the rules refuse
  -- one, and the hook was not asked; or the hook refused the reply; or memory ran out.
  abbrev pub RecordsWrite : Reply A → Result (OutcomeState A) RefusedAt → Tables A → Tables A
      → NumberedSessions A → NumberedSessions A → S → S → Result (Result Unit RefusedAt) (Fault E) → Type 0
  RecordsWrite reply ran old new live recorded before after (Ok (Ok done)) = (changes : List (Change A))
      × (ran ≡ Ok (record { database = new; changes = changes }))
      × (recorded ≡ record_commit_each changes [] live) × gives before reply (Ok tt) after
  RecordsWrite reply ran old new live recorded before after (Ok (Err refused)) =
      (ran ≡ Err refused) × (new ≡ old) × (recorded ≡ live) × (after ≡ before)
  RecordsWrite reply ran old new live recorded before after (Err fault) = (new ≡ old) × (recorded ≡ live)
      × MatchFault fault (after ≡ before)
      (λ why. (left : OutcomeState A) × (ran ≡ Ok left) × gives before reply (Err why) after)
