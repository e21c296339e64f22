use Rattle.std.proofs.Common.{refl, arith}
use Rattle.cap_field.proofs.Spelled.{are_low}
use Rattle.cap_changes.specs.declared.field_requirement.FieldRequirement.TheVariants as required
use Rattle.cap_records.proofs.AgainLemmas.{all_defined, key_is, values_in}
use Rattle.cap_records.proofs.FieldLemmas.{record_spelled}
use Rattle.cap_records.proofs.record.key_of.Goals as goal

pub as_values-requires : goal.as_values-requires
as_values-requires c =
    all_defined required.Key c.in-Ok.record refl
    (record_spelled required.Key c.args.bytes.now c.in-Ok.record refl (are_low c.args.bytes.now (λ i. omega (arith, c.type_inv.bytes i))) c.in-Ok.ensures).1

pub unreachable-requires : goal.unreachable-requires
unreachable-requires c =
    let key = key_is c.args.bytes.now c.in-Ok.record c.as_values.result _ c.in_ok-key.field-0 c.requires.some (are_low c.args.bytes.now (λ i. omega (arith, c.type_inv.bytes i))) c.in-Ok.ensures c.as_values.ensures c.in_ok-values-in-Ok.ensures c.in_ok-key.ensures in
    cc (key, c.in-None.is)

pub returns-clause-key : goal.returns-clause-key
returns-clause-key c =
    let key = key_is c.args.bytes.now c.in-Ok.record c.as_values.result _ c.in_ok-key.field-0 c.requires.some (are_low c.args.bytes.now (λ i. omega (arith, c.type_inv.bytes i))) c.in-Ok.ensures c.as_values.ensures c.in_ok-values-in-Ok.ensures c.in_ok-key.ensures in
    cc (values_in required.Key c.args.bytes.now c.in-Ok.record c.as_values.result c.in-Ok.ensures c.as_values.ensures, key, c.in-Some.is)
