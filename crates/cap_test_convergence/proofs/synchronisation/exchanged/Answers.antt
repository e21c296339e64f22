use Rattle.std.proofs.Common.{◌≡◌, Ok, ap, subst, sym, ◌∙◌}
use Rattle.std.proofs.lemmas.Result.{err_from_is_err_and}
use Rattle.cap_codec.specs.BlobReading.{blob_at}
use Rattle.cap_codec.specs.Changeset.{list_bytes}
use Rattle.cap_codec.specs.declared.key_flags.KeyFlags.TheVariants.{Ones}
use Rattle.cap_codec.specs.declared.read.Contents.TheVariants.{Changes}
use Rattle.cap_core.specs.declared.reply.Reply.TheVariants as reply
use Rattle.cap_core.proofs.KeyedLemmas.{main-rises}
use Rattle.cap_test_convergence.specs.Steps.{IsNotRebased, IsRebased, IsUnreadable}
use Rattle.cap_test_convergence.proofs.ConvergenceLemmas.{Reads}
use Rattle.cap_test_convergence.proofs.ExplainedLemmas.{HaveCaptured, explained, full-at, full-middle, full-told, hub-applies, never-refused, not-applied, rebased-read, remote-read, still-live}
use Rattle.cap_test_convergence.proofs.synchronisation.exchanged.Goals as goal

pub returns-clause-exchanged : goal.returns-clause-exchanged
returns-clause-exchanged g c =
    let local = c.in-Some.local.capture in
    let remote = c.in-Some-2.remote.capture in
    let report = c.in_ok-received.received.report in
    let bytes = c.in_ok-rebased.rebased.items in
    let written = c.in_ok-sent.ensures.bytes in
    let seen = c.as_slice.ensures.value in
    let read = c.in_ok-changes.ensures.read in
    let seen_again = c.as_slice-2.ensures.value in
    let same : c.as_slice-2.result.now ≡ list_bytes remote.changes = cc in
    let seen_rebased = c.as_slice-3.ensures.value in
    let shown : c.as_slice-3.result.now ≡ bytes = cc in
    let read_rebased = c.in_ok-read_changes.ensures.read in
    record {
      local = local;
      client_told = c.in-Some.local.core;
      client_captures = rw c.in-Some.is at c.in_ok-local.ensures.step;
      remote = remote;
      hub_told = c.in-Some-2.remote.core;
      hub_captures = rw c.in-Some-2.is at c.in_ok-remote.ensures.step;
      writable = c.in_ok-sent.ensures.writable;
      received = c.in_ok-changes.changes;
      read = cc;
      version = c.in_ok-received.ensures.step.0;
      client_middle = c.in_ok-received.received.core;
      client_applies = c.in_ok-received.ensures.step.1;
      rebased = subst (λ sent. IsRebased sent report.conflicts local.changes bytes) same c.in_ok-rebased.ensures.rebased;
      sent = c.in_ok-read_changes.field-0;
      sent_read = ap blob_at (sym shown) ∙ read_rebased;
      hub_policy = c.in_ok-made.ensures.step.0;
      hub_version = c.in_ok-made.ensures.step.1;
      hub_report = c.in_ok-made.made.report;
      hub_middle = c.in_ok-made.made.core;
      hub_applies = c.in_ok-made.ensures.step.2;
      client_echo = c.in_ok-client_left.client_left.capture;
      client_restarts = c.in_ok-client_left.ensures.step;
      hub_echo = c.in_ok-hub_left.hub_left.capture;
      hub_restarts = c.in_ok-hub_left.ensures.step;
    }

pub returns-in_err-local-clause-explained : goal.returns-in_err-local-clause-explained
returns-in_err-local-clause-explained g c =
    let failed = err_from_is_err_and c.from_residual.result c.from_residual.ensures.1 in
    rw (failed.1, failed.2) (λ p q p_left q_left one.
    explained c.args.client.now c.args.client_session c.args.hub.now c.args.hub_session c.args.policy
    (λ none room other. full-at c.args.client.now.events none room) (λ reason no. absurd no) (λ no. no)
    c.in_err-local.field-0.0 c.in_err-local.ensures.hindered)

pub returns-in_default-clause-explained : goal.returns-in_default-clause-explained
returns-in_default-clause-explained g c = λ p q p_left q_left one. rw c.in_default.is at c.in_ok-local.ensures.step

pub returns-in_err-remote-clause-explained : goal.returns-in_err-remote-clause-explained
returns-in_err-remote-clause-explained g c =
    let failed = err_from_is_err_and c.from_residual-in_err-remote.result c.from_residual-in_err-remote.ensures.1 in
    rw (failed.1, failed.2) (λ p q p_left q_left one.
    explained c.args.client.now c.args.client_session c.args.hub.now c.args.hub_session c.args.policy
    (λ none room other. full-at c.args.hub.now.events none other) (λ reason no. absurd no) (λ no. no)
    c.in_err-remote.field-0.0 c.in_err-remote.ensures.hindered)

pub returns-in_default-2-clause-explained : goal.returns-in_default-2-clause-explained
returns-in_default-2-clause-explained g c = λ p q p_left q_left one. rw c.in_default-2.is at c.in_ok-remote.ensures.step

pub returns-in_err-sent-clause-explained : goal.returns-in_err-sent-clause-explained
returns-in_err-sent-clause-explained g c =
    let failed = err_from_is_err_and c.from_residual-in_err-sent.result c.from_residual-in_err-sent.ensures.1 in
    rw (failed.1, failed.2) (λ p q p_left q_left one.
    explained c.args.client.now c.args.client_session c.args.hub.now c.args.hub_session c.args.policy
    (λ no. absurd no) (λ reason no. absurd no) (λ no. no)
    c.in_err-sent.field-0.0 c.in_err-sent.ensures.hindered)

pub returns-in_err-changes-clause-explained : goal.returns-in_err-changes-clause-explained
returns-in_err-changes-clause-explained g c =
    let failed = err_from_is_err_and c.from_residual-in_err-changes.result c.from_residual-in_err-changes.ensures.1 in
    rw (failed.1, failed.2) (λ p q p_left q_left one.
    let order = c.tables_keep_order.ensures in
    let keep = c.tables_keep_columns.ensures in
    let rises = main-rises order.empty order.run order.create c.applied_blobs_keep_order.ensures in
    let hub_law = c.a_rebased_changeset_leads_from_the_hub_to_the_client.ensures.hub in
    let reads : Reads g.row.A.Denot = λ past session capture is writable. c.bytes_of_a_capture_give_the_rows_now.ensures.changeset_read past session capture Ones is writable in
    let both : HaveCaptured c.args.client.now c.args.client_session c.args.hub.now c.args.hub_session = record {
      local = c.in-Some.local.capture;
      client_told = c.in-Some.local.core;
      client_captures = rw c.in-Some.is at c.in_ok-local.ensures.step;
      remote = c.in-Some-2.remote.capture;
      hub_told = c.in-Some-2.remote.core;
      hub_captures = rw c.in-Some-2.is at c.in_ok-remote.ensures.step;
      writable = c.in_ok-sent.ensures.writable;
    } in
    let written = c.in_ok-sent.ensures.bytes in
    let seen = c.as_slice.ensures.value in
    let same : c.as_slice.result.now ≡ list_bytes both.remote.changes = cc in
    explained c.args.client.now c.args.client_session c.args.hub.now c.args.hub_session c.args.policy
    (λ no. absurd no) (λ reason no. absurd no) (λ none. remote-read keep.run keep.create c.applied_blobs_keep_columns.ensures hub_law rises reads p q c.args.client.now c.args.hub.now c.args.client_session c.args.hub_session c.args.policy p_left q_left one both (subst (IsUnreadable g.row.A.Denot) same none))
    c.in_err-changes.field-0.0 c.in_err-changes.ensures.hindered)

pub returns-in_err-received-clause-explained : goal.returns-in_err-received-clause-explained
returns-in_err-received-clause-explained g c =
    let failed = err_from_is_err_and c.from_residual-in_err-received.result c.from_residual-in_err-received.ensures.1 in
    rw (failed.1, failed.2) (λ p q p_left q_left one.
    let order = c.tables_keep_order.ensures in
    let keep = c.tables_keep_columns.ensures in
    let rises = main-rises order.empty order.run order.create c.applied_blobs_keep_order.ensures in
    let hub_law = c.a_rebased_changeset_leads_from_the_hub_to_the_client.ensures.hub in
    let reads : Reads g.row.A.Denot = λ past session capture is writable. c.bytes_of_a_capture_give_the_rows_now.ensures.changeset_read past session capture Ones is writable in
    let both : HaveCaptured c.args.client.now c.args.client_session c.args.hub.now c.args.hub_session = record {
      local = c.in-Some.local.capture;
      client_told = c.in-Some.local.core;
      client_captures = rw c.in-Some.is at c.in_ok-local.ensures.step;
      remote = c.in-Some-2.remote.capture;
      hub_told = c.in-Some-2.remote.core;
      hub_captures = rw c.in-Some-2.is at c.in_ok-remote.ensures.step;
      writable = c.in_ok-sent.ensures.writable;
    } in
    let written = c.in_ok-sent.ensures.bytes in
    let seen = c.as_slice.ensures.value in
    let same : c.as_slice.result.now ≡ list_bytes both.remote.changes = cc in
    let read : blob_at (list_bytes both.remote.changes) ≡ Ok (Changes c.in_ok-changes.changes) = ap blob_at (sym same) ∙ c.in_ok-changes.ensures.read in
    explained c.args.client.now c.args.client_session c.args.hub.now c.args.hub_session c.args.policy
    (λ none room other. full-told c.args.client.now both.client_told c.args.client_session both.local both.client_captures none room) (λ reason refused. not-applied keep.run keep.create c.applied_blobs_keep_columns.ensures hub_law rises reads p q c.args.client.now c.args.hub.now c.args.client_session c.args.hub_session c.args.policy p_left q_left one both c.in_ok-changes.changes read reason refused) (λ no. no)
    c.in_err-received.field-0.0 c.in_err-received.ensures.hindered)

pub returns-in_err-rebased-clause-explained : goal.returns-in_err-rebased-clause-explained
returns-in_err-rebased-clause-explained g c =
    let failed = err_from_is_err_and c.from_residual-in_err-rebased.result c.from_residual-in_err-rebased.ensures.1 in
    rw (failed.1, failed.2) (λ p q p_left q_left one.
    let order = c.tables_keep_order.ensures in
    let keep = c.tables_keep_columns.ensures in
    let rises = main-rises order.empty order.run order.create c.applied_blobs_keep_order.ensures in
    let hub_law = c.a_rebased_changeset_leads_from_the_hub_to_the_client.ensures.hub in
    let reads : Reads g.row.A.Denot = λ past session capture is writable. c.bytes_of_a_capture_give_the_rows_now.ensures.changeset_read past session capture Ones is writable in
    let both : HaveCaptured c.args.client.now c.args.client_session c.args.hub.now c.args.hub_session = record {
      local = c.in-Some.local.capture;
      client_told = c.in-Some.local.core;
      client_captures = rw c.in-Some.is at c.in_ok-local.ensures.step;
      remote = c.in-Some-2.remote.capture;
      hub_told = c.in-Some-2.remote.core;
      hub_captures = rw c.in-Some-2.is at c.in_ok-remote.ensures.step;
      writable = c.in_ok-sent.ensures.writable;
    } in
    let written = c.in_ok-sent.ensures.bytes in
    let seen = c.as_slice.ensures.value in
    let same : c.as_slice.result.now ≡ list_bytes both.remote.changes = cc in
    let read : blob_at (list_bytes both.remote.changes) ≡ Ok (Changes c.in_ok-changes.changes) = ap blob_at (sym same) ∙ c.in_ok-changes.ensures.read in
    let report = c.in_ok-received.received.report in
    let applies = c.in_ok-received.ensures.step in
    let seen_again = c.as_slice-2.ensures.value in
    let same_again : c.as_slice-2.result.now ≡ list_bytes both.remote.changes = cc in
    explained c.args.client.now c.args.client_session c.args.hub.now c.args.hub_session c.args.policy
    (λ no. absurd no) (λ reason no. absurd no)
    (λ none. never-refused keep.run keep.create c.applied_blobs_keep_columns.ensures hub_law rises reads p q c.args.client.now c.args.hub.now c.args.client_session c.args.hub_session c.args.policy p_left q_left one both c.in_ok-changes.changes read applies.0 report c.in_ok-received.received.core applies.1 none.local_writable c.args.policy (subst (λ sent. IsNotRebased sent report.conflicts both.local.changes) same_again none).none)
    c.in_err-rebased.field-0.0 c.in_err-rebased.ensures.hindered)

pub returns-in_err-read_changes-clause-explained : goal.returns-in_err-read_changes-clause-explained
returns-in_err-read_changes-clause-explained g c =
    let failed = err_from_is_err_and c.from_residual-in_err-read_changes.result c.from_residual-in_err-read_changes.ensures.1 in
    rw (failed.1, failed.2) (λ p q p_left q_left one.
    let order = c.tables_keep_order.ensures in
    let keep = c.tables_keep_columns.ensures in
    let rises = main-rises order.empty order.run order.create c.applied_blobs_keep_order.ensures in
    let hub_law = c.a_rebased_changeset_leads_from_the_hub_to_the_client.ensures.hub in
    let reads : Reads g.row.A.Denot = λ past session capture is writable. c.bytes_of_a_capture_give_the_rows_now.ensures.changeset_read past session capture Ones is writable in
    let both : HaveCaptured c.args.client.now c.args.client_session c.args.hub.now c.args.hub_session = record {
      local = c.in-Some.local.capture;
      client_told = c.in-Some.local.core;
      client_captures = rw c.in-Some.is at c.in_ok-local.ensures.step;
      remote = c.in-Some-2.remote.capture;
      hub_told = c.in-Some-2.remote.core;
      hub_captures = rw c.in-Some-2.is at c.in_ok-remote.ensures.step;
      writable = c.in_ok-sent.ensures.writable;
    } in
    let written = c.in_ok-sent.ensures.bytes in
    let seen = c.as_slice.ensures.value in
    let same : c.as_slice.result.now ≡ list_bytes both.remote.changes = cc in
    let read : blob_at (list_bytes both.remote.changes) ≡ Ok (Changes c.in_ok-changes.changes) = ap blob_at (sym same) ∙ c.in_ok-changes.ensures.read in
    let report = c.in_ok-received.received.report in
    let applies = c.in_ok-received.ensures.step in
    let bytes = c.in_ok-rebased.rebased.items in
    let seen_again = c.as_slice-2.ensures.value in
    let same_again : c.as_slice-2.result.now ≡ list_bytes both.remote.changes = cc in
    let is_rebased = subst (λ sent. IsRebased sent report.conflicts both.local.changes bytes) same_again c.in_ok-rebased.ensures.rebased in
    let seen_rebased = c.as_slice-3.ensures.value in
    let shown : c.as_slice-3.result.now ≡ bytes = cc in
    explained c.args.client.now c.args.client_session c.args.hub.now c.args.hub_session c.args.policy
    (λ no. absurd no) (λ reason no. absurd no) (λ none. rebased-read keep.run keep.create c.applied_blobs_keep_columns.ensures hub_law rises reads p q c.args.client.now c.args.hub.now c.args.client_session c.args.hub_session c.args.policy p_left q_left one both c.in_ok-changes.changes read applies.0 report c.in_ok-received.received.core applies.1 is_rebased.local_writable bytes is_rebased (subst (IsUnreadable g.row.A.Denot) shown none))
    c.in_err-read_changes.field-0.0 c.in_err-read_changes.ensures.hindered)

pub returns-in_err-made-clause-explained : goal.returns-in_err-made-clause-explained
returns-in_err-made-clause-explained g c =
    let failed = err_from_is_err_and c.from_residual-in_err-made.result c.from_residual-in_err-made.ensures.1 in
    rw (failed.1, failed.2) (λ p q p_left q_left one.
    let order = c.tables_keep_order.ensures in
    let keep = c.tables_keep_columns.ensures in
    let rises = main-rises order.empty order.run order.create c.applied_blobs_keep_order.ensures in
    let hub_law = c.a_rebased_changeset_leads_from_the_hub_to_the_client.ensures.hub in
    let reads : Reads g.row.A.Denot = λ past session capture is writable. c.bytes_of_a_capture_give_the_rows_now.ensures.changeset_read past session capture Ones is writable in
    let both : HaveCaptured c.args.client.now c.args.client_session c.args.hub.now c.args.hub_session = record {
      local = c.in-Some.local.capture;
      client_told = c.in-Some.local.core;
      client_captures = rw c.in-Some.is at c.in_ok-local.ensures.step;
      remote = c.in-Some-2.remote.capture;
      hub_told = c.in-Some-2.remote.core;
      hub_captures = rw c.in-Some-2.is at c.in_ok-remote.ensures.step;
      writable = c.in_ok-sent.ensures.writable;
    } in
    let written = c.in_ok-sent.ensures.bytes in
    let seen = c.as_slice.ensures.value in
    let same : c.as_slice.result.now ≡ list_bytes both.remote.changes = cc in
    let read : blob_at (list_bytes both.remote.changes) ≡ Ok (Changes c.in_ok-changes.changes) = ap blob_at (sym same) ∙ c.in_ok-changes.ensures.read in
    let report = c.in_ok-received.received.report in
    let applies = c.in_ok-received.ensures.step in
    let bytes = c.in_ok-rebased.rebased.items in
    let seen_again = c.as_slice-2.ensures.value in
    let same_again : c.as_slice-2.result.now ≡ list_bytes both.remote.changes = cc in
    let is_rebased = subst (λ sent. IsRebased sent report.conflicts both.local.changes bytes) same_again c.in_ok-rebased.ensures.rebased in
    let seen_rebased = c.as_slice-3.ensures.value in
    let shown : c.as_slice-3.result.now ≡ bytes = cc in
    explained c.args.client.now c.args.client_session c.args.hub.now c.args.hub_session c.args.policy
    (λ none room other. full-told c.args.hub.now both.hub_told c.args.hub_session both.remote both.hub_captures none other) (λ reason no. absurd no) (λ other. hub-applies keep.run keep.create c.applied_blobs_keep_columns.ensures hub_law rises reads p q c.args.client.now c.args.hub.now c.args.client_session c.args.hub_session c.args.policy p_left q_left one both c.in_ok-changes.changes read applies.0 report c.in_ok-received.received.core applies.1 is_rebased.local_writable bytes is_rebased c.in_ok-read_changes.field-0 (ap blob_at (sym shown) ∙ c.in_ok-read_changes.ensures.read) other.0 other.1 other.2)
    c.in_err-made.field-0.0 c.in_err-made.ensures.hindered)

pub returns-in_err-client_left-clause-explained : goal.returns-in_err-client_left-clause-explained
returns-in_err-client_left-clause-explained g c =
    let failed = err_from_is_err_and c.from_residual-in_err-client_left.result c.from_residual-in_err-client_left.ensures.1 in
    rw (failed.1, failed.2) (λ p q p_left q_left one.
    let both : HaveCaptured c.args.client.now c.args.client_session c.args.hub.now c.args.hub_session = record {
      local = c.in-Some.local.capture;
      client_told = c.in-Some.local.core;
      client_captures = rw c.in-Some.is at c.in_ok-local.ensures.step;
      remote = c.in-Some-2.remote.capture;
      hub_told = c.in-Some-2.remote.core;
      hub_captures = rw c.in-Some-2.is at c.in_ok-remote.ensures.step;
      writable = c.in_ok-sent.ensures.writable;
    } in
    let written = c.in_ok-sent.ensures.bytes in
    let seen = c.as_slice.ensures.value in
    let same : c.as_slice.result.now ≡ list_bytes both.remote.changes = cc in
    let applies = c.in_ok-received.ensures.step in
    explained c.args.client.now c.args.client_session c.args.hub.now c.args.hub_session c.args.policy
    (λ none room other. full-middle c.args.client.now both.client_told c.args.client_session both.local both.client_captures c.in_ok-received.received.core (Changes c.in_ok-changes.changes) c.args.policy (reply.Applied applies.0 c.in_ok-received.received.report) applies.1 none room) (λ reason no. absurd no) (still-live c.args.client.now both.client_told c.args.client_session both.local both.client_captures c.in_ok-received.received.core (Changes c.in_ok-changes.changes) c.args.policy (reply.Applied applies.0 c.in_ok-received.received.report) applies.1)
    c.in_err-client_left.field-0.0 c.in_err-client_left.ensures.hindered)

pub returns-in_err-hub_left-clause-explained : goal.returns-in_err-hub_left-clause-explained
returns-in_err-hub_left-clause-explained g c =
    let failed = err_from_is_err_and c.from_residual-in_err-hub_left.result c.from_residual-in_err-hub_left.ensures.1 in
    rw (failed.1, failed.2) (λ p q p_left q_left one.
    let both : HaveCaptured c.args.client.now c.args.client_session c.args.hub.now c.args.hub_session = record {
      local = c.in-Some.local.capture;
      client_told = c.in-Some.local.core;
      client_captures = rw c.in-Some.is at c.in_ok-local.ensures.step;
      remote = c.in-Some-2.remote.capture;
      hub_told = c.in-Some-2.remote.core;
      hub_captures = rw c.in-Some-2.is at c.in_ok-remote.ensures.step;
      writable = c.in_ok-sent.ensures.writable;
    } in
    let written = c.in_ok-sent.ensures.bytes in
    let seen = c.as_slice.ensures.value in
    let same : c.as_slice.result.now ≡ list_bytes both.remote.changes = cc in
    let made = c.in_ok-made.ensures.step in
    explained c.args.client.now c.args.client_session c.args.hub.now c.args.hub_session c.args.policy
    (λ none room other. full-middle c.args.hub.now both.hub_told c.args.hub_session both.remote both.hub_captures c.in_ok-made.made.core (Changes c.in_ok-read_changes.field-0) made.0 (reply.Applied made.1 c.in_ok-made.made.report) made.2 none other) (λ reason no. absurd no) (still-live c.args.hub.now both.hub_told c.args.hub_session both.remote both.hub_captures c.in_ok-made.made.core (Changes c.in_ok-read_changes.field-0) made.0 (reply.Applied made.1 c.in_ok-made.made.report) made.2)
    c.in_err-hub_left.field-0.0 c.in_err-hub_left.ensures.hindered)
