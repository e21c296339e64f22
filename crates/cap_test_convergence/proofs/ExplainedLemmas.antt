-- Why a client and a hub are not synchronised.
use Rattle.std.proofs.Common.{◌≡◌, ℕ, ◌+◌, ◌<◌, ◌≤◌, ◌^◌, Bool, true, false, cond, Option, Some, None, Result, Ok, Err, List, [], ◌∷◌, refl, sym, ap, subst, ◌∙◌, nat_eq, arith}
use Rattle.std.specs.Prelude.{is_some, reverse}
use Rattle.cap_value.specs.Memory.{LeavesUnlessMemory, RefusesUnlessMemory}
use Rattle.cap_value.specs.declared.memory.Fault.{Fault}
use Rattle.cap_value.specs.declared.memory.Fault.TheVariants as stop
use Rattle.cap_value.specs.declared.refusal.Refusal.{Refusal}
use Rattle.cap_database.specs.Tables.{AreRising}
use Rattle.cap_database.specs.declared.change.Change.{Change}
use Rattle.cap_changes.specs.Group.{TableChanges}
use Rattle.cap_codec.specs.BlobReading.{blob_at}
use Rattle.cap_codec.specs.Changeset.{list_bytes}
use Rattle.cap_codec.specs.Writable.{IsWritable, with_some}
use Rattle.cap_codec.specs.declared.read.Contents.{Contents}
use Rattle.cap_codec.specs.declared.read.Contents.TheVariants.{Changes}
use Rattle.cap_apply.specs.Applied.{AppliedState}
use Rattle.cap_apply.specs.Apply.{apply}
use Rattle.cap_apply.specs.Report.{ReportState}
use Rattle.cap_apply.specs.declared.conflict.Conflict.{Conflict}
use Rattle.cap_apply.specs.declared.policy.Policy.{Policy}
use Rattle.cap_rebase.specs.Buffer.{buffer_of}
use Rattle.cap_rebase.specs.Rebaser.{Buffers, configured, rebase, refused_from, unless}
use Rattle.cap_rebase.specs.declared.refusal.RebaseRefusal.{RebaseRefusal}
use Rattle.cap_session.specs.Session.{SessionState}
use Rattle.cap_session.specs.Sessions.{NumberedSessions, record_commit_each, session_numbered, with_session}
use Rattle.cap_session.specs.Recording.{record_commit}
use Rattle.cap_core.specs.declared.command.Command.TheVariants as command
use Rattle.cap_core.specs.declared.session_command.SessionCommand.TheVariants as to_session
use Rattle.cap_core.specs.declared.event.Event.{Event}
use Rattle.cap_core.specs.declared.reply.Reply.{Reply}
use Rattle.cap_core.specs.declared.reply.Reply.TheVariants as reply
use Rattle.cap_core.specs.Answer.{State, answer, write_reply}
use Rattle.cap_core.specs.Capture.{CaptureState, session_changes}
use Rattle.cap_core.specs.History.{main}
use Rattle.cap_core.specs.Outcome.{applied, change_refused}
use Rattle.cap_core.specs.Past.{HasRoom, Past, is_accepted}
use Rattle.cap_core.specs.Session.{session_of}
use Rattle.cap_core.specs.Table.{BlobsFitPast}
use Rattle.cap_core.specs.Transition.{after_session, after_write, next, session_left}
use Rattle.cap_core_laws.proofs.AppliedCaptureLemmas.{captured}
use Rattle.cap_captures.specs.Parts.{IsLeftBy, capturing, restarting}
use Rattle.cap_captures.proofs.AcceptedLemmas.{restarts, there-captured}
use Rattle.cap_test_convergence.specs.declared.synchronisation.NotSynchronised.{NotSynchronised}
use Rattle.cap_test_convergence.specs.declared.synchronisation.NotSynchronised.TheVariants as why
use Rattle.cap_test_convergence.specs.Steps.{Hinders, IsCarriedOut, IsNoCapture, IsNotRebased, IsRebased, IsUnreadable}
use Rattle.cap_test_convergence.specs.Synchronised.{Explains, HaveOneBase}
use Rattle.cap_test_convergence.proofs.ConvergenceLemmas.{AppliesKeep, Converges, CreatesKeep, Reads, RunsKeep, converged}
use Rattle.cap_test_convergence.proofs.StepLemmas.{Leaves, leaves-of, main-captured, one-buffer, rebased-some, same_changes, same_rebased, was-applied, with_changes}

-- ---- the errors of a step

pub hindered : {F G O P : Type 0} {R S : Refusal → Type 0} → (F → G) → ((reason : Refusal) → R reason → S reason) → (O → P) → (e : NotSynchronised) → Hinders F R O e → Hinders G S P e
hindered full refused other why.NoClientSession is = is
hindered full refused other why.NoHubSession is = is
hindered full refused other (why.NotApplied reason) is = refused reason is
hindered full refused other why.OtherBase is = other is
hindered full refused other why.Full is = full is
hindered full refused other why.OutOfMemory is = tt

pub full-at : (n : ℕ) → (HasRoom n → ⊥) → n + 3 < 2 ^ 63 → ⊥
full-at n none room = none (omega arith)

module _ {A : Type 0} where
  module _ {F O : Type 0} {R : Refusal → Type 0} (client : State A) (client_session : ℕ) (hub : State A) (hub_session : ℕ) (policy : Policy) where
    -- the errors of a step, told of the whole
    pub explained : (F → client.events + 3 < 2 ^ 63 → hub.events + 3 < 2 ^ 63 → ⊥) → ((reason : Refusal) → R reason → Explains (why.NotApplied reason) client client_session hub hub_session policy) → (O → ⊥)
        → (e : NotSynchronised) → Hinders F R O e → Explains e client client_session hub hub_session policy
    explained full refused other why.NoClientSession is = absurd is
    explained full refused other why.NoHubSession is = absurd is
    explained full refused other (why.NotApplied reason) is = refused reason is
    explained full refused other why.OtherBase is = other is
    explained full refused other why.Full is = full is
    explained full refused other why.OutOfMemory is = tt

  -- ---- the reply to an application

  refused-as : (s : State A) (at : Option ℕ) (reason : Refusal) (result : Result (AppliedState A) Refusal) → (let told : Reply A = reply.Refused at reason in told) ≡ write_reply s (applied result) → result ≡ Err reason
  refused-as s at reason (Ok left) e = cc
  refused-as s at reason (Err other) e = cc

  pub is-refused : (s : State A) (blob : Contents A) (policy : Policy) (at : Option ℕ) (reason : Refusal) → (let told : Reply A = reply.Refused at reason in told) ≡ answer s (command.Apply blob policy []) → apply s.main blob policy ≡ Err reason
  is-refused s blob policy at reason e = refused-as s at reason (apply s.main blob policy) e

  abbrev pub IsNeither : Reply A → Type 0
  IsNeither told = ((version : ℕ) (report : ReportState) → told ≡ reply.Applied version report → ⊥) × ((at : Option ℕ) (reason : Refusal) → told ≡ reply.Refused at reason → ⊥)

  one-of-both : (s : State A) (result : Result (AppliedState A) Refusal) → IsNeither (write_reply s (applied result)) → ⊥
  one-of-both s (Ok left) neither = neither.0 (s.version + 1) left.report refl
  one-of-both s (Err reason) neither = neither.1 (change_refused reason) reason refl

  pub is-either : (s : State A) (blob : Contents A) (policy : Policy) (told : Reply A) → told ≡ answer s (command.Apply blob policy []) → IsNeither told → ⊥
  is-either s blob policy told is neither = one-of-both s (apply s.main blob policy) (subst IsNeither is neither)

  -- ---- a first buffer

  never-refuses : (place : ℕ) (groups : List (TableChanges A)) → refused_from place [] groups ≡ None
  never-refuses place [] = refl
  never-refuses place (group ∷ groups) = never-refuses (place + 1) groups

  pub first-buffer : (buffer : List (TableChanges A)) → configured [] buffer ≡ Ok (buffer ∷ [])
  first-buffer buffer = ap (λ o. unless o (buffer ∷ [])) (never-refuses 0 buffer)

  clash : (list : List (TableChanges A)) (reason : RebaseRefusal) → (let made : Result (List (TableChanges A)) RebaseRefusal = Ok list in made) ≡ Err reason → ⊥
  clash list reason e = cc

  buffers-clash : (buffers : Buffers A) (reason : RebaseRefusal) → (let made : Result (Buffers A) RebaseRefusal = Ok buffers in made) ≡ Err reason → ⊥
  buffers-clash buffers reason e = cc

  -- a rebaser without buffers takes one
  pub never-refused-first : (empty : Buffers A) (buffer : List (TableChanges A)) (reason : RebaseRefusal) → empty ≡ [] → configured empty buffer ≡ Err reason → ⊥
  never-refused-first empty buffer reason none refused =
      buffers-clash (buffer ∷ []) reason (sym (first-buffer buffer) ∙ ap (λ (b : Buffers A). configured b buffer) (sym none) ∙ refused)

  pub refused-first : (X : Type 0) (empty left : Buffers A) (buffer : List (TableChanges A)) (fault : Fault RebaseRefusal) (reason : RebaseRefusal) → fault ≡ stop.Refused reason → empty ≡ []
      → LeavesUnlessMemory {X = X} (Err fault) (configured empty buffer) left → ⊥
  refused-first X empty left buffer fault reason is none content =
      never-refused-first empty buffer reason none (subst (λ (f : Fault RebaseRefusal). LeavesUnlessMemory {X = X} (Err f) (configured empty buffer) left) is content)

  pub refused-as-told : (answer : Result (List (TableChanges A)) RebaseRefusal) (fault : Fault RebaseRefusal) (reason : RebaseRefusal) → fault ≡ stop.Refused reason
      → RefusesUnlessMemory fault answer → answer ≡ Err reason
  refused-as-told answer fault reason is told = subst (λ (f : Fault RebaseRefusal). RefusesUnlessMemory f answer) is told

  module _ (remote : List ℕ) (conflicts : List Conflict) (captured_changes local received buffer : List (TableChanges A)) (empty buffers : Buffers A)
      (is_local : local ≡ captured_changes) (writable : IsWritable (Changes local)) (read : blob_at remote ≡ Ok (Changes received)) (is_buffer : buffer ≡ buffer_of received conflicts)
      (none : empty ≡ []) (taken : configured empty buffer ≡ Ok buffers) where
    captured_writable : IsWritable (Changes captured_changes)
    captured_writable = subst (λ (l : List (TableChanges A)). IsWritable (Changes l)) is_local writable

    taken_first : configured [] (buffer_of received conflicts) ≡ Ok buffers
    taken_first = (λ i. configured (sym none i) (sym is_buffer i)) ∙ taken

    -- the local changes are refused over the buffer
    pub not-rebased : (reason : RebaseRefusal) → rebase buffers local ≡ Err reason → IsNotRebased remote conflicts captured_changes
    not-rebased reason refused = record {
      local_writable = captured_writable;
      none = λ changes rebased read_changes is.
          let same : changes ≡ received = same_changes changes received (sym read_changes ∙ read) in
          let one : buffers ≡ buffer_of received conflicts ∷ [] = one-buffer (buffer_of received conflicts) buffers taken_first in
          let there : rebase (buffer_of changes conflicts ∷ []) captured_changes ≡ rebase buffers local = ap (λ (l : List (TableChanges A)). rebase (buffer_of l conflicts ∷ []) captured_changes) same ∙ (λ i. rebase (sym one i) (sym is_local i)) in
          clash rebased reason (sym is ∙ there ∙ refused);
    }

    -- they are rebased, written, and read again
    pub is-rebased : (rebased : List (TableChanges A)) (bytes : List ℕ) → rebase buffers local ≡ Ok rebased → bytes ≡ list_bytes rebased
        → blob_at (list_bytes rebased) ≡ Ok (with_some (Changes rebased)) → IsRebased remote conflicts captured_changes bytes
    is-rebased rebased bytes is written again = record {
      changes = received;
      read = read;
      buffers = buffers;
      buffered = taken_first;
      rebased = rebased;
      is = ap (rebase buffers) (sym is_local) ∙ is;
      local_writable = captured_writable;
      written = written;
      again = ap (blob_at {A = A}) written ∙ again;
    }

  -- ---- the session stays live

  numbered-with : (sessions : NumberedSessions A) (number : ℕ) (new : SessionState A) → is_some (session_numbered (with_session sessions number new) number) ≡ is_some (session_numbered sessions number)
  numbered-with [] number new = refl
  numbered-with (session ∷ sessions) number new =
      elim (nat_eq number session.0) as (λ b. nat_eq number session.0 ≡ b
      → is_some (session_numbered (cond b ((session.0, new) ∷ sessions) (session ∷ with_session sessions number new)) number) ≡ is_some (cond b (Some session.1) (session_numbered sessions number))) [
        | true ↦ λ e. ap (λ b. is_some (cond b (Some new) (session_numbered sessions number))) e
        | false ↦ λ e. ap (λ b. is_some (cond b (Some session.1) (session_numbered (with_session sessions number new) number))) e ∙ numbered-with sessions number new
      ] refl

  numbered-recorded : (changes : List (Change A)) (sessions : NumberedSessions A) (number : ℕ)
      → is_some (session_numbered (record_commit_each changes [] sessions) number) ≡ is_some (session_numbered sessions number)
  numbered-recorded changes [] number = refl
  numbered-recorded changes (session ∷ sessions) number =
      elim (nat_eq number session.0) as (λ b. is_some (cond b (Some (record_commit changes session.1)) (session_numbered (record_commit_each changes [] sessions) number)) ≡ is_some (cond b (Some session.1) (session_numbered sessions number))) [
        | true ↦ refl
        | false ↦ numbered-recorded changes sessions number
      ]

  abbrev is_live : State A → ℕ → Bool
  is_live s number = is_some (session_numbered s.sessions number)

  live-captured : (s : State A) (number : ℕ) → is_live s number ≡ true → is_live (next s (capturing number)) number ≡ true
  live-captured s number there =
      elim (session_numbered s.sessions number) as (λ o. is_live (after_session s number o (session_left s.main s.saved to_session.Capture)) number ≡ true) [
        | None ↦ there
        | Some session ↦ numbered-with s.sessions number session ∙ there
      ]

  live-applied : (s : State A) (blob : Contents A) (policy : Policy) (number : ℕ) → is_live s number ≡ true → is_live (next s (command.Apply blob policy [])) number ≡ true
  live-applied s blob policy number there =
      elim (apply s.main blob policy) as (λ r. is_live (after_write s [] (applied r)) number ≡ true) [
        | Ok left ↦ numbered-recorded left.changes s.sessions number ∙ there
        | Err reason ↦ there
      ]

  -- ---- the number of events

  events-captured : (s : State A) (number : ℕ) → (next s (capturing number)).events ≡ s.events + 1
  events-captured s number =
      elim (session_numbered s.sessions number) as (λ o. (after_session s number o (session_left s.main s.saved to_session.Capture)).events ≡ s.events + 1) [ None ↦ refl | Some session ↦ refl ]

  events-applied : (s : State A) (blob : Contents A) (policy : Policy) → (next s (command.Apply blob policy [])).events ≡ s.events + 1
  events-applied s blob policy =
      elim (apply s.main blob policy) as (λ r. (after_write s [] (applied r)).events ≡ s.events + 1) [ Ok left ↦ refl | Err reason ↦ refl ]

  module _ (before told : State A) (session : ℕ) (capture : CaptureState A) (captures : IsCarriedOut before (capturing session) (reply.Capture capture) told) where
    told-events : told.events ≡ before.events + 1
    told-events = ap (λ (s : State A). s.events) captures.left ∙ events-captured before session

    pub full-told : (HasRoom told.events → ⊥) → before.events + 3 < 2 ^ 63 → ⊥
    full-told none room = none (let same = told-events in omega arith)

    module _ (middle : State A) (blob : Contents A) (policy : Policy) (answered : Reply A) (applies : IsCarriedOut told (command.Apply blob policy []) answered middle) where
      pub full-middle : (HasRoom middle.events → ⊥) → before.events + 3 < 2 ^ 63 → ⊥
      full-middle none room =
          let same = told-events in
          let more : middle.events ≡ told.events + 1 = ap (λ (s : State A). s.events) applies.left ∙ events-applied told blob policy in
          none (omega arith)

      pub still-live : IsNoCapture middle (restarting session) → ⊥
      still-live none =
          let there : is_live before session ≡ true = there-captured before session (ap is_accepted (sym captures.replied)) in
          let told_live : is_live told session ≡ true = subst (λ (s : State A). is_live s session ≡ true) (sym captures.left) (live-captured before session there) in
          let middle_live : is_live middle session ≡ true = subst (λ (s : State A). is_live s session ≡ true) (sym applies.left) (live-applied told blob policy session told_live) in
          let left = restarts middle session middle_live in
          none left.0 left.1

  -- ---- with one base

  -- what both have captured, and what the client has read of the hub's bytes
  pub record HaveCaptured (client : State A) (client_session : ℕ) (hub : State A) (hub_session : ℕ) : Type 0 where
    pub local : CaptureState A
    pub client_told : State A
    pub client_captures : IsCarriedOut client (capturing client_session) (reply.Capture local) client_told
    pub remote : CaptureState A
    pub hub_told : State A
    pub hub_captures : IsCarriedOut hub (capturing hub_session) (reply.Capture remote) hub_told
    pub writable : IsWritable (Changes remote.changes)

  not-both : (left : AppliedState A) (reason : Refusal) → (let made : Result (AppliedState A) Refusal = Ok left in made) ≡ Err reason → ⊥
  not-both left reason e = cc

  module _ (runs_keep : RunsKeep A) (creates_keep : CreatesKeep A) (applies_keep : AppliesKeep A) (converges : Converges A) (rises : (past : Past A) → BlobsFitPast past → AreRising (main past)) (reads : Reads A)
      (c h : List (Event A)) (client hub : State A) (client_session hub_session : ℕ) (policy : Policy) (c_left : IsLeftBy c client) (h_left : IsLeftBy h hub)
      (one : HaveOneBase client_session (reverse c) hub_session (reverse h)) (both : HaveCaptured client client_session hub hub_session) where
    abbrev p : Past A
    p = reverse c

    abbrev q : Past A
    q = reverse h

    abbrev local : List (TableChanges A)
    local = both.local.changes

    abbrev remote : List (TableChanges A)
    remote = both.remote.changes

    p_at : Leaves p client
    p_at = leaves-of c client c_left

    q_at : Leaves q hub
    q_at = leaves-of h hub h_left

    is_read : blob_at (list_bytes remote) ≡ Ok (Changes remote)
    is_read = reads q hub_session both.remote (ap (λ s. answer s (capturing hub_session)) q_at.is ∙ sym both.hub_captures.replied) both.writable

    -- the hub's bytes are read
    pub remote-read : IsUnreadable A (list_bytes remote) → ⊥
    remote-read none = none remote is_read

    local_is : local ≡ session_changes (main p) (session_of p client_session)
    local_is = captured p client_session both.local (ap (λ s. answer s (capturing client_session)) p_at.is ∙ sym both.client_captures.replied)

    remote_is : remote ≡ session_changes (main q) (session_of q hub_session)
    remote_is = captured q hub_session both.remote (ap (λ s. answer s (capturing hub_session)) q_at.is ∙ sym both.hub_captures.replied)

    client_main : both.client_told.main ≡ client.main
    client_main = ap (λ (s : State A). s.main) both.client_captures.left ∙ main-captured client client_session

    hub_main : both.hub_told.main ≡ main q
    hub_main = ap (λ (s : State A). s.main) both.hub_captures.left ∙ main-captured hub hub_session ∙ ap (λ (s : State A). s.main) (sym q_at.is)

    -- the client's refusal is of the hub's captured changes
    pub not-applied : (received : List (TableChanges A)) → blob_at (list_bytes remote) ≡ Ok (Changes received) → (reason : Refusal) → apply both.client_told.main (Changes received) policy ≡ Err reason
        → Explains (why.NotApplied reason) client client_session hub hub_session policy
    not-applied received read reason refused =
        let same = same_changes received remote (sym read ∙ is_read) in
        (both.remote, sym both.hub_captures.replied, (λ i. apply (sym client_main i) (Changes (sym same i)) policy) ∙ refused)

    module _ (received : List (TableChanges A)) (read : blob_at (list_bytes remote) ≡ Ok (Changes received)) (version : ℕ) (report : ReportState) (middle : State A)
        (applies : IsCarriedOut both.client_told (command.Apply (Changes received) policy []) (reply.Applied version report) middle) (local_writable : IsWritable (Changes local)) where
      received_same : received ≡ remote
      received_same = same_changes received remote (sym read ∙ is_read)

      record Rebased (by : Policy) : Type 0 where
        pub rebased : List (TableChanges A)
        pub is : rebase (buffer_of remote report.conflicts ∷ []) local ≡ Ok rebased
        pub left : AppliedState A
        pub applied_whole : apply (main q) (Changes rebased) by ≡ Ok left

      meets : (by : Policy) → Rebased by
      meets by =
          let was = was-applied both.client_told middle (Changes received) policy version report applies in
          let main_is : main p ≡ both.client_told.main = ap (λ (s : State A). s.main) p_at.is ∙ sym client_main in
          let left_is : apply (main p) (Changes remote) policy ≡ Ok was.left = (λ i. apply (main_is i) (Changes (sym received_same i)) policy) ∙ was.is in
          let made = converged runs_keep creates_keep applies_keep converges rises p q client_session hub_session policy one p_at.fits q_at.fits local remote local_is remote_is local_writable both.writable was.left left_is by in
          record {
            rebased = made.0;
            is = ap (λ (r : ReportState). rebase (buffer_of remote r.conflicts ∷ []) local) was.reported ∙ made.1;
            left = made.2.0;
            applied_whole = made.2.1;
          }

      pub never-refused : Policy → ((changes rebased : List (TableChanges A)) → blob_at (list_bytes remote) ≡ Ok (Changes changes) → rebase (buffer_of changes report.conflicts ∷ []) local ≡ Ok rebased → ⊥) → ⊥
      never-refused by none = let made = meets by in none remote made.rebased is_read made.is

      -- the rebased bytes are read, and the hub applies them
      module _ (bytes : List ℕ) (rebased : IsRebased (list_bytes remote) report.conflicts local bytes) where
        sent_is : with_changes rebased.rebased ≡ rebased.rebased
        sent_is = rebased-some rebased.buffers local rebased.rebased rebased.is

        pub rebased-read : IsUnreadable A bytes → ⊥
        rebased-read none = none (with_changes rebased.rebased) rebased.again

        buffers_are : rebased.buffers ≡ buffer_of remote report.conflicts ∷ []
        buffers_are =
            one-buffer (buffer_of rebased.changes report.conflicts) rebased.buffers rebased.buffered
            ∙ ap (λ l. buffer_of l report.conflicts ∷ []) (same_changes rebased.changes remote (sym rebased.read ∙ is_read))

        pub hub-applies : (sent : List (TableChanges A)) → blob_at bytes ≡ Ok (Changes sent) → (by : Policy) (reason : Refusal) → apply both.hub_told.main (Changes sent) by ≡ Err reason → ⊥
        hub-applies sent read_sent by reason refused =
            let made = meets by in
            let sent_same : sent ≡ rebased.rebased = same_changes sent (with_changes rebased.rebased) (sym read_sent ∙ rebased.again) ∙ sent_is in
            let same : rebased.rebased ≡ made.rebased = same_rebased rebased.rebased made.rebased (sym rebased.is ∙ ap (λ buffers. rebase buffers local) buffers_are ∙ made.is) in
            not-both made.left reason (sym made.applied_whole ∙ (λ i. apply (sym hub_main i) (Changes ((sym same ∙ sym sent_same) i)) by) ∙ refused)
