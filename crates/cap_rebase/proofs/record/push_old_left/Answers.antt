use Rattle.std.proofs.Common.{◌∙◌, sym, ap, drop}
use Rattle.cap_changes.specs.Column.{by_column}
use Rattle.cap_changes.specs.Field.{record_bytes}
use Rattle.cap_changes.specs.FieldRecord.{RecordFields}
use Rattle.cap_changes.proofs.PutLemmas.{put_all}
use Rattle.cap_rebase.specs.Rebase.{new_left, old_left}
use Rattle.cap_rebase.proofs.ColumnLemmas.{left_ends, right_ends, old_put, no_local, no_remote}
use Rattle.cap_rebase.proofs.record.push_old_left.Goals as goal

pub loop-key-preserved : goal.loop-key-preserved
loop-key-preserved g c =
    old_put c.args.flags.now c.loop-key.key-index c.loop-key.old c.loop-key.new c.loop-key.remote _ _ _ c.in-Some-Some.was.now c.loop-key.out.items _ _ c.in-Some-Some.is' c.in-Some.other c.is_kept-kept.result
    c.loop-key-test.true c.in-Some-Some.ensures c.in-Some-Some.ensures'.field c.in-Some.ensures.field c.is_kept-kept.ensures c.in_ok-push_if.ensures c.loop-key.invariant

pub returns-in_default : goal.returns-in_default
returns-in_default g c =
    put_all c.loop-key.out.items _ _ (ap record_bytes (right_ends old_left (drop c.loop-key.key-index c.args.flags.now) c.loop-key.old (new_left c.loop-key.new c.loop-key.remote)
    (no_local c.loop-key.new c.loop-key.remote c.in_default.ensures'.field.0))) c.loop-key.invariant

pub returns-in_default-2 : goal.returns-in_default-2
returns-in_default-2 g c =
    put_all c.loop-key.out.items _ _ (ap record_bytes (left_ends old_left (drop c.loop-key.key-index c.args.flags.now) c.loop-key.old (new_left c.loop-key.new c.loop-key.remote) c.in_default.ensures.0)) c.loop-key.invariant

pub returns-in_default-next_field : goal.returns-in_default-next_field
returns-in_default-next_field g c =
    put_all c.loop-key.out.items _ _ (ap record_bytes (right_ends old_left (drop c.loop-key.key-index c.args.flags.now) c.loop-key.old (new_left c.loop-key.new c.loop-key.remote)
    (no_remote c.loop-key.new c.loop-key.remote c.in_default-next_field.ensures.field.0))) c.loop-key.invariant
