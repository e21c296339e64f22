use Rattle.std.proofs.Common.{subst}
use Rattle.cap_changes.specs.Patch.{patch_list_of}
use Rattle.cap_codec.specs.Writable.{of_patches}
use Rattle.cap_codec.specs.declared.key_flags.KeyFlags.TheVariants.{Ones}
use Rattle.cap_codec.specs.declared.read.Contents.TheVariants.{Changes}
use Rattle.cap_core.specs.declared.command.Command.TheVariants.{Session}
use Rattle.cap_core.specs.declared.session_command.SessionCommand.TheVariants.{Capture}
use Rattle.cap_core.specs.declared.reply.Reply.{Reply}
use Rattle.cap_core.specs.declared.reply.Reply.TheVariants as reply
use Rattle.cap_history.specs.Seat.{HasCalled}
use Rattle.cap_test_replicas.proofs.ReplicaLemmas.{gives-in, is-read, is-replicated, never-refused, no-session, reads-in}
use Rattle.cap_test_replicas.proofs.replication.replicate.Goals as goal

pub returns-in_default-clause-explained : goal.returns-in_default-clause-explained
returns-in_default-clause-explained g c =
    no-session c.legal_histories_were_legal.ensures.reply c.legal_histories_grow.ensures.reply c.args.seat.now c.call.new.seat c.args.session c.in-Ok.reply c.in-Ok.ensures.called c.in_default.ensures

pub carry-requires : goal.carry-requires
carry-requires g c =
    let laws = c.bytes_of_a_capture_give_the_rows_now.ensures in
    let capture = c.in-Some.capture in
    let old = c.args.seat.now in
    let new = c.call.new.seat in
    let replied = c.legal_histories_were_legal.ensures.reply in
    let answers = c.legal_histories_grow.ensures.reply in
    let called : HasCalled old new (Session c.args.session Capture) (reply.Capture capture) =
    subst (λ (r : Reply g.row.A.Denot). HasCalled old new (Session c.args.session Capture) r) c.in-Some.ensures c.in-Ok.ensures.called in
    let reads = reads-in c.args.form (λ past session made is writable. (Changes made.changes, laws.changeset_read past session made Ones is writable))
    (λ past session made is writable. (of_patches (patch_list_of made.changes), laws.patchset_read past session made Ones is writable)) in
    let read = is-read c.args.form reads replied answers old new c.args.session capture called c.in-Ok-a_capture_is_writable.ensures.changeset in
    record { reads = read }

pub returns-in-Ok-carry-clause-replicated : goal.returns-in-Ok-carry-clause-replicated
returns-in-Ok-carry-clause-replicated g c =
    let laws = c.bytes_of_a_capture_give_the_rows_now.ensures in
    let capture = c.in-Some.capture in
    let old = c.args.seat.now in
    let new = c.call.new.seat in
    let replied = c.legal_histories_were_legal.ensures.reply in
    let answers = c.legal_histories_grow.ensures.reply in
    let called : HasCalled old new (Session c.args.session Capture) (reply.Capture capture) =
    subst (λ (r : Reply g.row.A.Denot). HasCalled old new (Session c.args.session Capture) r) c.in-Some.ensures c.in-Ok.ensures.called in
    let reads = reads-in c.args.form (λ past session made is writable. (Changes made.changes, laws.changeset_read past session made Ones is writable))
    (λ past session made is writable. (of_patches (patch_list_of made.changes), laws.patchset_read past session made Ones is writable)) in
    let read = is-read c.args.form reads replied answers old new c.args.session capture called c.in-Ok-a_capture_is_writable.ensures.changeset in
    let gives = gives-in c.args.form (λ past session made database policy blob. laws.changeset past session made database policy Ones blob)
    (λ past session made database policy blob. laws.patchset past session made database policy Ones blob) in
    is-replicated c.args.form c.args.policy gives replied answers c.fitting_histories_grow.ensures.begins c.fitting_histories_grow.ensures.past old new c.args.session capture c.args.replica.now c.database_rises.ensures c.in-Ok-a_capture_is_writable.ensures.changeset called read.0 read.1 c.in-Ok-carry.applied (c.in-Ok-carry.ensures read.0 read.1)

pub returns-in-Err-Refused-clause-explained : goal.returns-in-Err-Refused-clause-explained
returns-in-Err-Refused-clause-explained g c =
    let laws = c.bytes_of_a_capture_give_the_rows_now.ensures in
    let capture = c.in-Some.capture in
    let old = c.args.seat.now in
    let new = c.call.new.seat in
    let replied = c.legal_histories_were_legal.ensures.reply in
    let answers = c.legal_histories_grow.ensures.reply in
    let called : HasCalled old new (Session c.args.session Capture) (reply.Capture capture) =
    subst (λ (r : Reply g.row.A.Denot). HasCalled old new (Session c.args.session Capture) r) c.in-Some.ensures c.in-Ok.ensures.called in
    let reads = reads-in c.args.form (λ past session made is writable. (Changes made.changes, laws.changeset_read past session made Ones is writable))
    (λ past session made is writable. (of_patches (patch_list_of made.changes), laws.patchset_read past session made Ones is writable)) in
    let read = is-read c.args.form reads replied answers old new c.args.session capture called c.in-Ok-a_capture_is_writable.ensures.changeset in
    let gives = gives-in c.args.form (λ past session made database policy blob. laws.changeset past session made database policy Ones blob)
    (λ past session made database policy blob. laws.patchset past session made database policy Ones blob) in
    let refused = c.in-Err-Refused.ensures read.0 read.1 in
    (capture, called, never-refused c.args.form c.args.policy gives replied answers c.fitting_histories_grow.ensures.begins c.fitting_histories_grow.ensures.past old new c.args.session capture c.args.replica.now c.database_rises.ensures c.in-Ok-a_capture_is_writable.ensures.changeset called read.0 read.1 c.in-Err-Refused.why (rw c.in-Err-Refused.field-0-is at refused))
