use Rattle.std.proofs.Common.{◌≡◌, ◌++◌, map, replicate, unwrap_or}
use Rattle.cap_value.specs.declared.value.Value.TheVariants.{Null}
use Rattle.cap_apply.proofs.fields.new_row.Given as goal

abbrev pub invariant-loop-further : goal.invariant-loop-further
invariant-loop-further g l = l.builder ≡ map (λ field. unwrap_or field Null) l.fields ++ replicate l._further Null
