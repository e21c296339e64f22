use Rattle.std.proofs.Common.{◌∙◌, sym, ap}
use Rattle.cap_changes.specs.Field.{record_bytes}
use Rattle.cap_changes.proofs.PutLemmas.{put_all}
use Rattle.cap_rebase.proofs.ColumnLemmas.{new_put, no_local, no_remote}
use Rattle.cap_rebase.proofs.record.push_new_left.Goals as goal

pub loop-field-preserved : goal.loop-field-preserved
loop-field-preserved g c =
    new_put c.loop-field.local c.loop-field.remote _ _ c.in-Some-Some.field.now c.loop-field.out.items _ _ c.in-Some-Some.other c.is_none-left.result
    c.in-Some-Some.ensures c.in-Some-Some.ensures'.field c.is_none-left.ensures c.in_ok-push_if.ensures c.loop-field.invariant

pub returns-in_default : goal.returns-in_default
returns-in_default g c = put_all c.loop-field.out.items _ _ (ap record_bytes (no_remote c.loop-field.local c.loop-field.remote c.in_default.ensures'.field.0)) c.loop-field.invariant

pub returns-in_default-2 : goal.returns-in_default-2
returns-in_default-2 g c = put_all c.loop-field.out.items _ _ (ap record_bytes (no_local c.loop-field.local c.loop-field.remote c.in_default.ensures.0)) c.loop-field.invariant
