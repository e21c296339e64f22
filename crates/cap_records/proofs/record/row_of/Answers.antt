use Rattle.std.proofs.Common.{refl, arith}
use Rattle.cap_field.proofs.Spelled.{are_low}
use Rattle.cap_changes.specs.declared.field_requirement.FieldRequirement.TheVariants as required
use Rattle.cap_records.proofs.AgainLemmas.{all_defined, values_in, values_spelled}
use Rattle.cap_records.proofs.FieldLemmas.{record_spelled}
use Rattle.cap_records.proofs.record.row_of.Goals as goal

pub as_values-requires : goal.as_values-requires
as_values-requires c =
    all_defined required.Defined c.in-Ok.record refl
    (record_spelled required.Defined c.args.bytes.now c.in-Ok.record refl (are_low c.args.bytes.now (λ i. omega (arith, c.type_inv.bytes i))) c.in-Ok.ensures).1

pub returns-in_ok-finish-in-Ok-clause-row : goal.returns-in_ok-finish-in-Ok-clause-row
returns-in_ok-finish-in-Ok-clause-row c =
    rw (c.in_ok-finish-in-Ok.ensures, c.in_ok-push_rest-in-Ok.ensures.pushed, c.in_ok-row-in-Ok.ensures)
    (values_in required.Defined c.args.bytes.now c.in-Ok.record c.as_values.result c.in-Ok.ensures c.as_values.ensures)

pub returns-in_ok-finish-in-Ok-clause-spelled : goal.returns-in_ok-finish-in-Ok-clause-spelled
returns-in_ok-finish-in-Ok-clause-spelled c =
    rw (c.in_ok-finish-in-Ok.ensures, c.in_ok-push_rest-in-Ok.ensures.pushed, c.in_ok-row-in-Ok.ensures)
    (values_spelled required.Defined c.args.bytes.now c.in-Ok.record c.as_values.result
    (record_spelled required.Defined c.args.bytes.now c.in-Ok.record refl (are_low c.args.bytes.now (λ i. omega (arith, c.type_inv.bytes i))) c.in-Ok.ensures) c.as_values.ensures)
