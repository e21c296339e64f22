use Rattle.std.proofs.Common.{append-nil, ◌∙◌}
use Rattle.cap_apply.proofs.FieldLemmas.{full_defined, full_values}
use Rattle.cap_apply.proofs.fields.new_row.Goals as goal

pub as_values-values-requires : goal.as_values-values-requires
as_values-values-requires g c = full_defined c.args.flags.now c.args.fields.now c.requires

pub loop-further-init : goal.loop-further-init
loop-further-init g c =
    rw c.in_ok-builder.ensures at c.in_ok-push_rest.ensures.pushed ∙ rw (c.as_values-values.ensures, full_values c.as_values-values.result, append-nil)
