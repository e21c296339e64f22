-- A client and a hub have the same rows after the steps of a synchronisation.
use Rattle.std.proofs.Common.{◌≡◌, ℕ, Bool, cond, Some, None, Result, Ok, IfOk, List, [], ◌∷◌, ◌++◌, refl, sym, ap, subst, ◌∙◌}
use Rattle.std.specs.Prelude.{reverse}
use Rattle.std.specs.Option.{unwrap_or}
use Rattle.std.proofs.lemmas.List.{reverse-append}
use Rattle.cap_value.specs.declared.refusal.Refusal.{Refusal}
use Rattle.cap_row.specs.Fields.{Fields}
use Rattle.cap_database.specs.Operation.{run}
use Rattle.cap_database.specs.Read.{row_at}
use Rattle.cap_database.specs.Tables.{AreRising, Tables, create, schema_of}
use Rattle.cap_database.specs.declared.op.Op.{Op}
use Rattle.cap_changes.specs.Group.{TableChanges}
use Rattle.cap_codec.specs.BlobReading.{blob_at}
use Rattle.cap_codec.specs.Changeset.{list_bytes}
use Rattle.cap_codec.specs.Writable.{IsWritable}
use Rattle.cap_codec.specs.declared.read.Contents.{Contents}
use Rattle.cap_codec.specs.declared.read.Contents.TheVariants.{Changes}
use Rattle.cap_apply.specs.Applied.{AppliedState}
use Rattle.cap_apply.specs.Apply.{apply}
use Rattle.cap_apply.specs.Report.{ReportState}
use Rattle.cap_apply.specs.declared.policy.Policy.{Policy}
use Rattle.cap_rebase.specs.Buffer.{buffer_of}
use Rattle.cap_rebase.specs.Rebaser.{Buffers, rebase}
use Rattle.cap_session.specs.declared.session_change.SessionChange.TheVariants.{Restart}
use Rattle.cap_core.specs.declared.command.Command.TheVariants as command
use Rattle.cap_core.specs.declared.session_command.SessionCommand.TheVariants.{Change}
use Rattle.cap_core.specs.declared.event.Event.{Event}
use Rattle.cap_core.specs.declared.reply.Reply.TheVariants as reply
use Rattle.cap_core.specs.Answer.{State, answer, event_by, state_after}
use Rattle.cap_core.specs.Capture.{CaptureState, session_changes}
use Rattle.cap_core.specs.History.{main}
use Rattle.cap_core.specs.Past.{Past}
use Rattle.cap_core_laws.specs.Restarts.{first_touched}
use Rattle.cap_core.specs.Session.{session_of}
use Rattle.cap_core.specs.Table.{BlobsFitPast}
use Rattle.cap_core.specs.Touch.{event_touches, restarts, touches}
use Rattle.cap_core_laws.proofs.AppliedCaptureLemmas.{captured}
use Rattle.cap_core.proofs.ToldLemmas.{to_itself}
use Rattle.cap_captures.specs.Parts.{IsLeftBy, capturing, restarting}
use Rattle.cap_captures.specs.Rows.{AreInARow}
use Rattle.cap_convergence.specs.Convergence.{AreAppliedInTurn, Columns, HasOneChangeEach, HasTables, HaveSameRows, IsAppliedWhole, LeadsFrom, RemoteChangeset, Rows}
use Rattle.cap_test_convergence.specs.declared.synchronisation.Synchronised.{Synchronised}
use Rattle.cap_test_convergence.specs.Steps.{IsCarriedOut, IsExchanged}
use Rattle.cap_test_convergence.specs.Synchronised.{Exchange, HaveOneBase, IsSynchronised, base_row, events_of}
use Rattle.cap_test_convergence.proofs.ImageLemmas.{no-row}
use Rattle.cap_test_convergence.proofs.LeadLemmas.{capture-leads, capture-once, written-fits}
use Rattle.cap_test_convergence.proofs.StepLemmas.{Leaves, leaves-more, leaves-of, left-by, main-captured, main-restarted, one-buffer, rebased-some, same_changes, same_rebased, was-applied, with_changes}

-- ---- the laws that it stands on

abbrev pub RunsKeep : Type 0 → Type 0
RunsKeep A = (tables : Tables A) (ops : List (Op A)) → IfOk (run tables ops) (λ left. (other : List ℕ) → schema_of left.database other ≡ schema_of tables other)

abbrev pub CreatesKeep : Type 0 → Type 0
CreatesKeep A = (tables : Tables A) (other : List ℕ) (schema : List Bool) → IfOk (create tables other schema) (λ after. (table : List ℕ) (columns : List Bool) → schema_of tables table ≡ Some columns → schema_of after table ≡ Some columns)

abbrev pub AppliesKeep : Type 0 → Type 0
AppliesKeep A = (tables : Tables A) (blob : Contents A) (policy : Policy) → IfOk (apply tables blob policy) (λ left. (name : List ℕ) → schema_of left.database name ≡ schema_of tables name)

-- a rebased changeset is applied at the hub
abbrev pub Converges : Type 0 → Type 0
Converges A = (columns : Columns) (base hub : Rows A) (client last tables : Tables A) (local : List (TableChanges A)) (remotes : List (RemoteChangeset A)) (buffers : Buffers A) (policy : Policy)
    → AreRising client → HasTables columns client → LeadsFrom columns base (row_at client) local → HasOneChangeEach local → AreAppliedInTurn columns base client remotes buffers hub last
    → AreRising tables → HasTables columns tables → HaveSameRows columns (row_at tables) hub
    → (rebased : List (TableChanges A)) × (rebase buffers local ≡ Ok rebased) × IsAppliedWhole columns (row_at last) tables rebased policy

-- the bytes of a capture are read as its changes
abbrev pub Reads : Type 0 → Type 0
Reads A = (past : Past A) (session : ℕ) (capture : CaptureState A) → answer (state_after past) (capturing session) ≡ reply.Capture capture → IsWritable (Changes capture.changes)
    → blob_at (list_bytes capture.changes) ≡ Ok (Changes capture.changes)

module _ {A : Type 0} where
  -- ---- one side

  -- what a side has done
  pub record IsDone (session : ℕ) (side : Exchange A) (before after : State A) : Type 0 where
    pub told : State A
    pub middle : State A
    pub capture : IsCarriedOut before (capturing session) (reply.Capture side.captured) told
    pub application : IsCarriedOut told (command.Apply (Changes side.changes) side.policy []) (reply.Applied side.version side.report) middle
    pub restart : IsCarriedOut middle (restarting session) (reply.Capture side.echo) after

  -- its events, the newest one first
  abbrev pub later : Past A → ℕ → Exchange A → Past A
  later past session side =
      event_by 0 (restarting session) (reply.Capture side.echo)
      ∷ event_by 0 (command.Apply (Changes side.changes) side.policy []) (reply.Applied side.version side.report)
      ∷ event_by 0 (capturing session) (reply.Capture side.captured) ∷ past

  module _ (past : Past A) (session : ℕ) (side : Exchange A) (before after : State A) (at : Leaves past before) (done : IsDone session side before after) where
    pub done-leaves : Leaves (later past session side) after
    done-leaves =
        let one = leaves-more past before done.told (capturing session) (reply.Capture side.captured) at done.capture in
        let two = leaves-more _ done.told done.middle (command.Apply (Changes side.changes) side.policy []) (reply.Applied side.version side.report) one done.application in
        leaves-more _ done.middle after (restarting session) (reply.Capture side.echo) two done.restart

    -- the application, to the tables of before
    pub record Application : Type 0 where
      pub left : AppliedState A
      pub is : apply (main past) (Changes side.changes) side.policy ≡ Ok left
      pub reported : side.report ≡ left.report
      pub tables : after.main ≡ left.database

    pub done-applied : Application
    done-applied =
        let was = was-applied done.told done.middle (Changes side.changes) side.policy side.version side.report done.application in
        let before_is : main past ≡ before.main = ap (λ (s : State A). s.main) at.is in
        let told_is : done.told.main ≡ before.main = ap (λ (s : State A). s.main) done.capture.left ∙ main-captured before session in
        record {
          left = was.left;
          is = ap (λ tables. apply tables (Changes side.changes) side.policy) (before_is ∙ sym told_is) ∙ was.is;
          reported = was.reported;
          tables = ap (λ (s : State A). s.main) done.restart.left ∙ main-restarted done.middle session ∙ was.tables;
        }

    -- the session has no touches, so that it begins from the rows now
    pub done-base : (name : List ℕ) (key : Fields A) → base_row session (later past session side) name key ≡ row_at after.main name key
    done-base name key =
        let tables : main (later past session side) ≡ after.main = ap (λ (s : State A). s.main) done-leaves.is in
        ap (λ t. unwrap_or (first_touched (cond (restarts t) [] (touches session (earlier) ++ event_touches session (newest) (earlier))) name key) (row_at (main (later past session side)) name key)) (to_itself session (Change Restart))
        ∙ ap (λ tables. row_at tables name key) tables
      where
        newest : Event A
        newest = event_by 0 (restarting session) (reply.Capture side.echo)

        earlier : Past A
        earlier =
            event_by 0 (command.Apply (Changes side.changes) side.policy []) (reply.Applied side.version side.report)
            ∷ event_by 0 (capturing session) (reply.Capture side.captured) ∷ past

    -- the columns stay
    pub done-columns : AppliesKeep A → (name : List ℕ) → schema_of after.main name ≡ schema_of (main past) name
    done-columns keep name =
        let how = done-applied in
        ap (λ tables. schema_of tables name) how.tables
        ∙ subst (λ r. IfOk r (λ left. (name : List ℕ) → schema_of left.database name ≡ schema_of (main past) name)) how.is (keep (main past) (Changes side.changes) side.policy) name

    pub done-captured : side.captured.changes ≡ session_changes (main past) (session_of past session)
    done-captured = captured past session side.captured (ap (λ s. answer s (capturing session)) at.is ∙ sym done.capture.replied)

  -- ---- both sides

  module _ (runs_keep : RunsKeep A) (creates_keep : CreatesKeep A) (applies_keep : AppliesKeep A) (converges : Converges A) (rises : (past : Past A) → BlobsFitPast past → AreRising (main past)) where
    leads : (past : Past A) (fits : BlobsFitPast past) (session : ℕ) (list : List (TableChanges A)) → list ≡ session_changes (main past) (session_of past session) → IsWritable (Changes list)
        → LeadsFrom (schema_of (main past)) (base_row session past) (row_at (main past)) list
    leads past fits session list is writable = record {
      fits = written-fits list writable;
      rows = subst (λ l. AreInARow (schema_of (main past)) (base_row session past) (row_at (main past)) (l ∷ [])) (sym is) (capture-leads runs_keep creates_keep rises session past fits);
    }

    module _ (p q : Past A) (client_session hub_session : ℕ) (policy : Policy) (one : HaveOneBase client_session p hub_session q) (p_fits : BlobsFitPast p) (q_fits : BlobsFitPast q)
        (local remote : List (TableChanges A)) (local_is : local ≡ session_changes (main p) (session_of p client_session)) (remote_is : remote ≡ session_changes (main q) (session_of q hub_session))
        (local_writable : IsWritable (Changes local)) (remote_writable : IsWritable (Changes remote))
        (left : AppliedState A) (left_is : apply (main p) (Changes remote) policy ≡ Ok left) where
      abbrev columns : Columns
      columns = schema_of (main p)

      local-leads : LeadsFrom columns (base_row client_session p) (row_at (main p)) local
      local-leads = leads p p_fits client_session local local_is local_writable

      remote-leads : LeadsFrom columns (base_row client_session p) (row_at (main q)) remote
      remote-leads =
          subst (λ (c : Columns). LeadsFrom c (base_row client_session p) (row_at (main q)) remote) (λ i name. sym (one.columns name) i)
          (subst (λ (b : Rows A). LeadsFrom (schema_of (main q)) b (row_at (main q)) remote) (λ i name key. sym (one.rows name key) i) (leads q q_fits hub_session remote remote_is remote_writable))

      local-once : HasOneChangeEach local
      local-once = subst HasOneChangeEach (sym local_is) (capture-once runs_keep creates_keep rises client_session p p_fits)

      pub converged : (by : Policy) → (rebased : List (TableChanges A)) × (rebase (buffer_of remote left.report.conflicts ∷ []) local ≡ Ok rebased) × IsAppliedWhole columns (row_at left.database) (main q) rebased by
      converged by =
          converges columns (base_row client_session p) (row_at (main q)) (main p) left.database (main q) local (record { changes = remote; policy = policy } ∷ []) (buffer_of remote left.report.conflicts ∷ []) by
          (rises p p_fits) (λ name flags known. known) local-leads local-once
          (base_row client_session p, row_at (main q), (λ name flags key known. refl), remote-leads, (left, left_is, refl, ((λ name flags key known. refl), refl)))
          (rises q q_fits) (λ name flags known. sym (one.columns name) ∙ known) (λ name flags key known. refl)

  same_applied : (a b : AppliedState A) → (let made : Result (AppliedState A) Refusal = Ok a in made) ≡ Ok b → a ≡ b
  same_applied a b e = cc

  -- the steps of both sides
  pub record AreDone (client_session hub_session : ℕ) (policy : Policy) (at_client at_hub : Exchange A) (client hub client_left hub_left : State A) (made : Synchronised A) : Type 0 where
    pub client_steps : IsDone client_session at_client client client_left
    pub hub_steps : IsDone hub_session at_hub hub hub_left
    pub received : at_client.changes ≡ at_hub.captured.changes
    pub by_policy : at_client.policy ≡ policy
    pub reported : at_client.report ≡ made.report
    pub rebased : rebase (buffer_of at_hub.captured.changes made.report.conflicts ∷ []) at_client.captured.changes ≡ Ok at_hub.changes
    pub written : made.rebased.items ≡ list_bytes at_hub.changes
    pub client_writable : IsWritable (Changes at_client.captured.changes)
    pub hub_writable : IsWritable (Changes at_hub.captured.changes)

  module _ (runs_keep : RunsKeep A) (creates_keep : CreatesKeep A) (applies_keep : AppliesKeep A) (converges : Converges A) (rises : (past : Past A) → BlobsFitPast past → AreRising (main past))
      (c h : List (Event A)) (client_session hub_session : ℕ) (policy : Policy) (at_client at_hub : Exchange A) (client hub client_left hub_left : State A) (made : Synchronised A)
      (c_left : IsLeftBy c client) (h_left : IsLeftBy h hub) (one : HaveOneBase client_session (reverse c) hub_session (reverse h))
      (done : AreDone client_session hub_session policy at_client at_hub client hub client_left hub_left made) where
    abbrev p : Past A
    p = reverse c

    abbrev q : Past A
    q = reverse h

    p_at : Leaves p client
    p_at = leaves-of c client c_left

    q_at : Leaves q hub
    q_at = leaves-of h hub h_left

    client_how : Application p client_session at_client client client_left p_at done.client_steps
    client_how = done-applied p client_session at_client client client_left p_at done.client_steps

    hub_how : Application q hub_session at_hub hub hub_left q_at done.hub_steps
    hub_how = done-applied q hub_session at_hub hub hub_left q_at done.hub_steps

    abbrev remote : List (TableChanges A)
    remote = at_hub.captured.changes

    abbrev local : List (TableChanges A)
    local = at_client.captured.changes

    client_is : apply (main p) (Changes remote) policy ≡ Ok client_how.left
    client_is = (λ i. apply (main p) (Changes (sym done.received i)) (sym done.by_policy i)) ∙ client_how.is

    report_is : made.report ≡ client_how.left.report
    report_is = sym done.reported ∙ client_how.reported

    meets : (rebased : List (TableChanges A)) × (rebase (buffer_of remote client_how.left.report.conflicts ∷ []) local ≡ Ok rebased) × IsAppliedWhole (schema_of (main p)) (row_at client_how.left.database) (main q) rebased at_hub.policy
    meets =
        converged runs_keep creates_keep applies_keep converges rises p q client_session hub_session policy one p_at.fits q_at.fits local remote
        (done-captured p client_session at_client client client_left p_at done.client_steps) (done-captured q hub_session at_hub hub hub_left q_at done.hub_steps)
        done.client_writable done.hub_writable client_how.left client_is at_hub.policy

    same_list : meets.0 ≡ at_hub.changes
    same_list = same_rebased meets.0 at_hub.changes (sym meets.1 ∙ ap (λ (r : ReportState). rebase (buffer_of remote r.conflicts ∷ []) local) (sym report_is) ∙ done.rebased)

    whole : IsAppliedWhole (schema_of (main p)) (row_at client_how.left.database) (main q) at_hub.changes at_hub.policy
    whole = subst (λ l. IsAppliedWhole (schema_of (main p)) (row_at client_how.left.database) (main q) l at_hub.policy) same_list meets.2

    same_left : whole.0 ≡ hub_how.left
    same_left = same_applied whole.0 hub_how.left (sym whole.1 ∙ hub_how.is)

    client_columns : (name : List ℕ) → schema_of client_left.main name ≡ schema_of (main p) name
    client_columns = done-columns p client_session at_client client client_left p_at done.client_steps applies_keep

    hub_columns : (name : List ℕ) → schema_of hub_left.main name ≡ schema_of (main q) name
    hub_columns = done-columns q hub_session at_hub hub hub_left q_at done.hub_steps applies_keep

    rows_are : (name : List ℕ) (key : Fields A) → row_at client_left.main name key ≡ row_at hub_left.main name key
    rows_are name key =
        elim (schema_of (main p) name) as (λ o. schema_of (main p) name ≡ o → row_at client_left.main name key ≡ row_at hub_left.main name key) [
          | Some flags ↦ λ known.
              ap (λ tables. row_at tables name key) client_how.tables
              ∙ sym (whole.3 name flags key known)
              ∙ ap (λ (left : AppliedState A). row_at left.database name key) same_left
              ∙ ap (λ tables. row_at tables name key) (sym hub_how.tables)
          | None ↦ λ none.
              no-row client_left.main name key (client_columns name ∙ none)
              ∙ sym (no-row hub_left.main name key (hub_columns name ∙ sym (one.columns name) ∙ none))
        ] refl

    client_past : reverse (c ++ events_of client_session at_client) ≡ later p client_session at_client
    client_past = reverse-append c (events_of client_session at_client)

    hub_past : reverse (h ++ events_of hub_session at_hub) ≡ later q hub_session at_hub
    hub_past = reverse-append h (events_of hub_session at_hub)

    client_done : Leaves (later p client_session at_client) client_left
    client_done = done-leaves p client_session at_client client client_left p_at done.client_steps

    hub_done : Leaves (later q hub_session at_hub) hub_left
    hub_done = done-leaves q hub_session at_hub hub hub_left q_at done.hub_steps

    base_later : HaveOneBase client_session (later p client_session at_client) hub_session (later q hub_session at_hub)
    base_later = record {
      columns = λ name.
          ap (λ (s : State A). schema_of s.main name) client_done.is ∙ client_columns name ∙ one.columns name
          ∙ sym (ap (λ (s : State A). schema_of s.main name) hub_done.is ∙ hub_columns name);
      rows = λ name key.
          done-base p client_session at_client client client_left p_at done.client_steps name key ∙ rows_are name key
          ∙ sym (done-base q hub_session at_hub hub hub_left q_at done.hub_steps name key);
    }

    pub synchronised : IsSynchronised c client_session h hub_session policy client_left hub_left made
    synchronised = record {
      at_client = at_client;
      at_hub = at_hub;
      client_left = left-by c (events_of client_session at_client) client_left client_done;
      hub_left = left-by h (events_of hub_session at_hub) hub_left hub_done;
      received = done.received;
      by_policy = done.by_policy;
      reported = done.reported;
      rebased = done.rebased;
      written = done.written;
      without_conflict = ap (λ (r : ReportState). r.conflicts) (hub_how.reported ∙ ap (λ (left : AppliedState A). left.report) (sym same_left) ∙ whole.2);
      rows = rows_are;
      base = subst (λ past. HaveOneBase client_session past hub_session (reverse (h ++ events_of hub_session at_hub))) (sym client_past)
          (subst (λ past. HaveOneBase client_session (later p client_session at_client) hub_session past) (sym hub_past) base_later);
    }

  -- the steps, as they were made from bytes
  module _ (client hub client_left hub_left : State A) (client_session hub_session : ℕ) (policy : Policy) (made : Synchronised A)
      (steps : IsExchanged client client_session hub hub_session policy client_left hub_left made)
      (is_read : blob_at (list_bytes steps.remote.changes) ≡ Ok (Changes steps.remote.changes)) where
    pub at_client : Exchange A
    at_client = record {
      captured = steps.local;
      changes = steps.remote.changes;
      policy = policy;
      version = steps.version;
      report = made.report;
      echo = steps.client_echo;
    }

    pub at_hub : Exchange A
    at_hub = record {
      captured = steps.remote;
      changes = steps.rebased.rebased;
      policy = steps.hub_policy;
      version = steps.hub_version;
      report = steps.hub_report;
      echo = steps.hub_echo;
    }

    received_same : steps.received ≡ steps.remote.changes
    received_same = same_changes steps.received steps.remote.changes (sym steps.read ∙ is_read)

    buffered_same : steps.rebased.changes ≡ steps.remote.changes
    buffered_same = same_changes steps.rebased.changes steps.remote.changes (sym steps.rebased.read ∙ is_read)

    buffers_are : steps.rebased.buffers ≡ buffer_of steps.remote.changes made.report.conflicts ∷ []
    buffers_are = one-buffer (buffer_of steps.rebased.changes made.report.conflicts) steps.rebased.buffers steps.rebased.buffered ∙ ap (λ l. buffer_of l made.report.conflicts ∷ []) buffered_same

    sent_same : steps.sent ≡ steps.rebased.rebased
    sent_same =
        same_changes steps.sent (with_changes steps.rebased.rebased) (sym steps.sent_read ∙ steps.rebased.again)
        ∙ rebased-some steps.rebased.buffers steps.local.changes steps.rebased.rebased steps.rebased.is

    pub are-done : AreDone client_session hub_session policy at_client at_hub client hub client_left hub_left made
    unfolding at_client at_hub
    are-done = record {
      client_steps = record {
        told = steps.client_told;
        middle = steps.client_middle;
        capture = steps.client_captures;
        application = subst (λ l. IsCarriedOut steps.client_told (command.Apply (Changes l) policy []) (reply.Applied steps.version made.report) steps.client_middle) received_same steps.client_applies;
        restart = steps.client_restarts;
      };
      hub_steps = record {
        told = steps.hub_told;
        middle = steps.hub_middle;
        capture = steps.hub_captures;
        application = subst (λ l. IsCarriedOut steps.hub_told (command.Apply (Changes l) steps.hub_policy []) (reply.Applied steps.hub_version steps.hub_report) steps.hub_middle) sent_same steps.hub_applies;
        restart = steps.hub_restarts;
      };
      received = refl;
      by_policy = refl;
      reported = refl;
      rebased = ap (λ buffers. rebase buffers steps.local.changes) (sym buffers_are) ∙ steps.rebased.is;
      written = steps.rebased.written;
      client_writable = steps.rebased.local_writable;
      hub_writable = steps.writable;
    }

  pub synchronises : RunsKeep A → CreatesKeep A → AppliesKeep A → Converges A → ((past : Past A) → BlobsFitPast past → AreRising (main past)) → Reads A
      → (c h : List (Event A)) (client hub client_left hub_left : State A) (client_session hub_session : ℕ) (policy : Policy) (made : Synchronised A)
      → IsExchanged client client_session hub hub_session policy client_left hub_left made → IsLeftBy c client → IsLeftBy h hub
      → HaveOneBase client_session (reverse c) hub_session (reverse h) → IsSynchronised c client_session h hub_session policy client_left hub_left made
  synchronises runs_keep creates_keep applies_keep converges rises reads c h client hub client_left hub_left client_session hub_session policy made steps c_left h_left one =
      let q_at = leaves-of h hub h_left in
      let is_read = reads (reverse h) hub_session steps.remote (ap (λ s. answer s (capturing hub_session)) q_at.is ∙ sym steps.hub_captures.replied) steps.writable in
      synchronised runs_keep creates_keep applies_keep converges rises c h client_session hub_session policy
      (at_client client hub client_left hub_left client_session hub_session policy made steps is_read) (at_hub client hub client_left hub_left client_session hub_session policy made steps is_read)
      client hub client_left hub_left made c_left h_left one
      (are-done client hub client_left hub_left client_session hub_session policy made steps is_read)
