use Rattle.cap_field.proofs.BeginLemmas.{begins_through, on_error}
use Rattle.cap_changes.proofs.touched.push_side.Goals as goal

pub returns-in_err-push_field-clause-begins : goal.returns-in_err-push_field-clause-begins
returns-in_err-push_field-clause-begins g c = on_error _ (begins_through c.args.out.now.items c.loop-key.out.items _ c.loop-key.invariant.1 c.in_err-push_field.ensures.begins)
