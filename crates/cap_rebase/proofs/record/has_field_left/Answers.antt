use Rattle.std.proofs.Common.{◌∙◌, sym, ap, is_some}
use Rattle.std.specs.List.{list_any}
use Rattle.cap_rebase.proofs.ColumnLemmas.{any_more, any_found, no_local, no_remote}
use Rattle.cap_rebase.proofs.record.has_field_left.Goals as goal

pub loop-field-preserved : goal.loop-field-preserved
loop-field-preserved g c =
    any_more c.loop-field.local c.loop-field.remote _ _ _ _ c.is_left.result c.in-Some-Some.ensures.field c.in-Some-Some.ensures'.field c.is_left.ensures c.if-is_left.false ∙ c.loop-field.invariant

pub returns-then-is_left : goal.returns-then-is_left
returns-then-is_left g c =
    any_found c.loop-field.local c.loop-field.remote _ _ _ _ c.is_left.result c.in-Some-Some.ensures.field c.in-Some-Some.ensures'.field c.is_left.ensures c.if-is_left.true ∙ c.loop-field.invariant

pub returns-in_default : goal.returns-in_default
returns-in_default g c = sym (ap (list_any is_some) (no_remote c.loop-field.local c.loop-field.remote c.in_default.ensures'.field.0)) ∙ c.loop-field.invariant

pub returns-in_default-2 : goal.returns-in_default-2
returns-in_default-2 g c = sym (ap (list_any is_some) (no_local c.loop-field.local c.loop-field.remote c.in_default.ensures.field.0)) ∙ c.loop-field.invariant
