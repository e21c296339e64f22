use Rattle.std.proofs.Common.{false, get_or, arith, Bool}
use Rattle.cap_field.proofs.Spelled.{low_behind}
use Rattle.cap_changes.specs.FieldReading.{field_of}
use Rattle.cap_changes.specs.RecordReading.{record_at}
use Rattle.cap_changes.specs.declared.field_requirement.FieldRequirement.TheVariants.{Any}
use Rattle.cap_changes.proofs.PassLemmas.{known_field, flags-cons}
use Rattle.cap_changes.proofs.Spelled.{field_spelled}
use Rattle.cap_changes.proofs.pass.pass_new_record.Goals as goal

pub stored_field-requires : goal.stored_field-requires
unfolding record_at
stored_field-requires g c =
    let key : Bool = get_or c.args.flags.now c.loop-key.key-index false in
    grind (arith, flags-cons c.args.flags.now c.loop-key.key-index, known_field g.row.A.Denot c.args.total key c.loop-key.field.now c.loop-key.invariant.low, c.loop-key.invariant.old)

pub loop-key-preserved : goal.loop-key-preserved
unfolding record_at
loop-key-preserved g c =
    let parts = flags-cons c.args.flags.now c.loop-key.key-index (omega (arith, c.loop-key-test.true)) in
    let known = known_field g.row.A.Denot c.args.total (get_or c.args.flags.now c.loop-key.key-index false) c.loop-key.field.now c.loop-key.invariant.low in
    record {
      low = low_behind c.loop-key.field.now _ c.stored_field.result.1.now (field_spelled 0 Any c.loop-key.field.now (field_of c.stored_field.result.0, c.stored_field.result.1.now) c.loop-key.invariant.low c.stored_field.ensures).0 c.loop-key.invariant.low;
      old = grind (arith, parts, known);
      read = grind (arith, parts, known);
      behind = omega (arith, c.in_ok-after.ensures.behind, c.loop-key.invariant.behind);
    }
