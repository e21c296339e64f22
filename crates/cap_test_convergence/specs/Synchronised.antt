-- A client and a hub that synchronise (The Session Extension, "Rebasing changesets").
use Rattle.std.specs.Prelude.{◌≡◌, ℕ, ◌+◌, ◌<◌, ◌^◌, List, [], ◌∷◌, ◌++◌, Option, Ok, Err, reverse}
use Rattle.std.specs.Option.{unwrap_or}
use Rattle.cap_row.specs.Fields.{Fields}
use Rattle.cap_database.specs.Read.{row_at}
use Rattle.cap_database.specs.Tables.{schema_of}
use Rattle.cap_changes.specs.Group.{TableChanges}
use Rattle.cap_codec.specs.Changeset.{list_bytes}
use Rattle.cap_codec.specs.declared.read.Contents.TheVariants.{Changes}
use Rattle.cap_apply.specs.Apply.{apply}
use Rattle.cap_apply.specs.Report.{ReportState}
use Rattle.cap_apply.specs.declared.policy.Policy.{Policy}
use Rattle.cap_rebase.specs.Buffer.{buffer_of}
use Rattle.cap_rebase.specs.Rebaser.{rebase}
use Rattle.cap_core.specs.declared.command.Command.TheVariants.{Apply}
use Rattle.cap_core.specs.declared.event.Event.{Event}
use Rattle.cap_core.specs.declared.reply.Reply.TheVariants as reply
use Rattle.cap_core.specs.Answer.{State, answer, event_by}
use Rattle.cap_core.specs.Capture.{CaptureState}
use Rattle.cap_core.specs.History.{main}
use Rattle.cap_core.specs.Past.{Past}
use Rattle.cap_core_laws.specs.Restarts.{first_touched}
use Rattle.cap_core.specs.Touch.{touches}
use Rattle.cap_captures.specs.Parts.{IsLeftBy, capturing, restarting}
use Rattle.cap_test_convergence.specs.Steps.{IsNoCapture}
use Rattle.cap_test_convergence.specs.declared.synchronisation.NotSynchronised.{NotSynchronised}
use Rattle.cap_test_convergence.specs.declared.synchronisation.NotSynchronised.TheVariants as why
use Rattle.cap_test_convergence.specs.declared.synchronisation.Synchronised.{Synchronised}

-- What one side does: it captures its session, applies changes of the other side, and restarts the session.
pub record Exchange (A : Type 0) : Type 0 where
  pub captured : CaptureState A
  pub changes : List (TableChanges A)
  pub policy : Policy
  pub version : ℕ
  pub report : ReportState
  pub echo : CaptureState A

module _ {A : Type 0} where
  -- the row before the session's first touch of its key, or the row now where it has none
  abbrev pub base_row : ℕ → Past A → List ℕ → Fields A → Option (Fields A)
  base_row session past name key =
      unwrap_or (first_touched (touches session past) name key) (row_at (main past) name key)

  -- The tables have the same columns on both sides, and the sessions begin from the same rows.
  pub record HaveOneBase (client_session : ℕ) (client : Past A) (hub_session : ℕ) (hub : Past A)
      : Type 0 where
    pub columns : (name : List ℕ) → schema_of (main client) name ≡ schema_of (main hub) name
    pub rows : (name : List ℕ) (key : Fields A)
        → base_row client_session client name key ≡ base_row hub_session hub name key

  -- its events, the first one first
  abbrev pub events_of : ℕ → Exchange A → List (Event A)
  events_of session exchange =
      event_by 0 (capturing session) (reply.Capture exchange.captured)
      ∷ event_by 0 (Apply (Changes exchange.changes) exchange.policy [])
      (reply.Applied exchange.version exchange.report)
      ∷ event_by 0 (restarting session) (reply.Capture exchange.echo) ∷ []

  -- After their histories both sides exchange the changes of their sessions. The client applies those of the
  -- hub under the policy, and the hub those of the client, rebased over the ones that met a conflict. At the
  -- hub there is no conflict. Then both have the same rows, and the sessions begin from them.
  pub record IsSynchronised (client_history : List (Event A)) (client_session : ℕ)
      (hub_history : List (Event A)) (hub_session : ℕ) (policy : Policy) (client hub : State A)
      (made : Synchronised A) : Type 0 where
    pub at_client : Exchange A
    pub at_hub : Exchange A
    pub client_left : IsLeftBy (client_history ++ events_of client_session at_client) client
    pub hub_left : IsLeftBy (hub_history ++ events_of hub_session at_hub) hub
    pub received : at_client.changes ≡ at_hub.captured.changes
    pub by_policy : at_client.policy ≡ policy
    pub reported : at_client.report ≡ made.report
    pub rebased : rebase (buffer_of at_hub.captured.changes made.report.conflicts ∷ [])
        at_client.captured.changes ≡ Ok at_hub.changes
    pub written : made.rebased.items ≡ list_bytes at_hub.changes
    pub without_conflict : at_hub.report.conflicts ≡ []
    pub rows : (name : List ℕ) (key : Fields A)
        → row_at client.main name key ≡ row_at hub.main name key
    pub base : HaveOneBase client_session (reverse (client_history ++ events_of client_session at_client))
        hub_session (reverse (hub_history ++ events_of hub_session at_hub))

  -- Why a client and a hub with one base are not synchronised: one of them has no capture of its session, the
  -- client refuses the hub's captured changes, or a history has no room for three more events. That the bases
  -- differ is never the answer.
  abbrev pub Explains : NotSynchronised → State A → ℕ → State A → ℕ → Policy → Type 0
  Explains why.NoClientSession client client_session hub hub_session policy =
      IsNoCapture client (capturing client_session)
  Explains why.NoHubSession client client_session hub hub_session policy =
      IsNoCapture hub (capturing hub_session)
  Explains (why.NotApplied reason) client client_session hub hub_session policy =
      (capture : CaptureState A) × (answer hub (capturing hub_session) ≡ reply.Capture capture)
      × (apply client.main (Changes capture.changes) policy ≡ Err reason)
  Explains why.OtherBase client client_session hub hub_session policy = ⊥
  Explains why.Full client client_session hub hub_session policy =
      client.events + 3 < 2 ^ 63 → hub.events + 3 < 2 ^ 63 → ⊥
  Explains why.OutOfMemory client client_session hub hub_session policy = Unit {0}
