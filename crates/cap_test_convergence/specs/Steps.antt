-- The steps of a synchronisation, each on one side.
use Rattle.std.specs.Prelude.{◌≡◌, ℕ, List, [], ◌∷◌, Ok}
use Rattle.cap_value.specs.declared.refusal.Refusal.{Refusal}
use Rattle.cap_changes.specs.Group.{TableChanges}
use Rattle.cap_codec.specs.BlobReading.{blob_at}
use Rattle.cap_codec.specs.Changeset.{list_bytes}
use Rattle.cap_codec.specs.Writable.{IsWritable, with_some}
use Rattle.cap_codec.specs.declared.read.Contents.TheVariants.{Changes}
use Rattle.cap_apply.specs.Report.{ReportState}
use Rattle.cap_apply.specs.declared.conflict.Conflict.{Conflict}
use Rattle.cap_apply.specs.declared.policy.Policy.{Policy}
use Rattle.cap_rebase.specs.Buffer.{buffer_of}
use Rattle.cap_rebase.specs.Rebaser.{Buffers, configured, rebase}
use Rattle.cap_core.specs.declared.command.Command.{Command}
use Rattle.cap_core.specs.declared.command.Command.TheVariants as command
use Rattle.cap_core.specs.declared.reply.Reply.{Reply}
use Rattle.cap_core.specs.declared.reply.Reply.TheVariants as reply
use Rattle.cap_core.specs.Answer.{State, answer}
use Rattle.cap_core.specs.Capture.{CaptureState}
use Rattle.cap_core.specs.Table.{BlobFits}
use Rattle.cap_core.specs.Transition.{next}
use Rattle.cap_captures.specs.Parts.{capturing, restarting}
use Rattle.cap_test_convergence.specs.declared.synchronisation.NotSynchronised.{NotSynchronised}
use Rattle.cap_test_convergence.specs.declared.synchronisation.NotSynchronised.TheVariants as why
use Rattle.cap_test_convergence.specs.declared.synchronisation.Synchronised.{Synchronised}

-- Why a step is not made: what holds where the history is full, where changes are refused, and where the bases
-- differ. Want of memory shows nothing, and a step does not err for a session.
abbrev pub Hinders : Type 0 → (Refusal → Type 0) → Type 0 → NotSynchronised → Type 0
Hinders full refused other why.NoClientSession = ⊥
Hinders full refused other why.NoHubSession = ⊥
Hinders full refused other (why.NotApplied reason) = refused reason
Hinders full refused other why.OtherBase = other
Hinders full refused other why.Full = full
Hinders full refused other why.OutOfMemory = Unit {0}

-- the bytes are no changeset
abbrev pub IsUnreadable : Type 0 → List ℕ → Type 0
IsUnreadable A bytes = (changes : List (TableChanges A)) → blob_at bytes ≡ Ok (Changes changes) → ⊥

module _ {A : Type 0} where
  -- A command that the sequential server has carried out: its reply, and the state that it leaves.
  pub record IsCarriedOut (before : State A) (command : Command A) (reply : Reply A) (after : State A)
      : Type 0 where
    pub replied : reply ≡ answer before command
    pub left : after ≡ next before command
    pub fits : BlobFits command

  -- the reply to the command is no capture
  abbrev pub IsNoCapture : State A → Command A → Type 0
  IsNoCapture before command =
      (capture : CaptureState A) → answer before command ≡ reply.Capture capture → ⊥

  -- The bytes of a local changeset over those changes of the remote one, which has these bytes, that met a
  -- conflict.
  pub record IsRebased (remote : List ℕ) (conflicts : List Conflict) (local : List (TableChanges A))
      (bytes : List ℕ) : Type 0 where
    pub changes : List (TableChanges A)
    pub read : blob_at remote ≡ Ok (Changes changes)
    pub buffers : Buffers A
    pub buffered : configured [] (buffer_of changes conflicts) ≡ Ok buffers
    pub rebased : List (TableChanges A)
    pub is : rebase buffers local ≡ Ok rebased
    pub local_writable : IsWritable (Changes local)
    pub written : bytes ≡ list_bytes rebased
    pub again : blob_at bytes ≡ Ok (with_some (Changes rebased))

  -- The remote bytes are no changeset, or the local changeset is refused over it.
  pub record IsNotRebased (remote : List ℕ) (conflicts : List Conflict) (local : List (TableChanges A))
      : Type 0 where
    pub local_writable : IsWritable (Changes local)
    pub none : (changes rebased : List (TableChanges A)) → blob_at remote ≡ Ok (Changes changes)
        → rebase (buffer_of changes conflicts ∷ []) local ≡ Ok rebased → ⊥

  -- Both sides capture their sessions. The client applies what it reads of the hub's bytes under the policy,
  -- and the hub what it reads of the rebased bytes. Then both restart their sessions.
  pub record IsExchanged (client : State A) (client_session : ℕ) (hub : State A) (hub_session : ℕ)
      (policy : Policy) (client_left hub_left : State A) (made : Synchronised A) : Type 0 where
    pub local : CaptureState A
    pub client_told : State A
    pub client_captures :
        IsCarriedOut client (capturing client_session) (reply.Capture local) client_told
    pub remote : CaptureState A
    pub hub_told : State A
    pub hub_captures : IsCarriedOut hub (capturing hub_session) (reply.Capture remote) hub_told
    pub writable : IsWritable (Changes remote.changes)
    pub received : List (TableChanges A)
    pub read : blob_at (list_bytes remote.changes) ≡ Ok (Changes received)
    pub version : ℕ
    pub client_middle : State A
    pub client_applies : IsCarriedOut client_told (command.Apply (Changes received) policy [])
        (reply.Applied version made.report) client_middle
    pub rebased :
        IsRebased (list_bytes remote.changes) made.report.conflicts local.changes made.rebased.items
    pub sent : List (TableChanges A)
    pub sent_read : blob_at made.rebased.items ≡ Ok (Changes sent)
    pub hub_policy : Policy
    pub hub_version : ℕ
    pub hub_report : ReportState
    pub hub_middle : State A
    pub hub_applies : IsCarriedOut hub_told (command.Apply (Changes sent) hub_policy [])
        (reply.Applied hub_version hub_report) hub_middle
    pub client_echo : CaptureState A
    pub client_restarts : IsCarriedOut client_middle (restarting client_session)
        (reply.Capture client_echo) client_left
    pub hub_echo : CaptureState A
    pub hub_restarts :
        IsCarriedOut hub_middle (restarting hub_session) (reply.Capture hub_echo) hub_left
