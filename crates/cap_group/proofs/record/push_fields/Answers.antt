use Rattle.std.proofs.Common.{drop, inl, inr}
use Rattle.cap_group.proofs.FieldLemmas.{column_put, columns_end}
use Rattle.cap_group.proofs.record.push_fields.Goals as goal

pub returns-in_default : goal.returns-in_default
returns-in_default g c =
    let i = c.loop-key.invariant in
    let ends = columns_end c.args.old (drop c.loop-key.key-index c.args.flags.now) c.loop-key.before c.loop-key.after c.loop-key.out.items _ c.loop-key.some _ (inr c.in_default.ensures'.0) i.bytes i.some in
    record { bytes = ends.0; some = ends.1 }

pub returns-in_default-2 : goal.returns-in_default-2
returns-in_default-2 g c =
    let i = c.loop-key.invariant in
    let ends = columns_end c.args.old (drop c.loop-key.key-index c.args.flags.now) c.loop-key.before c.loop-key.after c.loop-key.out.items _ c.loop-key.some _ (inl c.in_default.ensures.0) i.bytes i.some in
    record { bytes = ends.0; some = ends.1 }

pub loop-key-preserved : goal.loop-key-preserved
loop-key-preserved g c =
    let put = column_put c.args.old c.args.flags.now c.loop-key.key-index c.loop-key.before c.next_bytes.new.self c.loop-key.after c.next_bytes-in-loop-key.new.self c.in-Some-Some.was.now c.in-Some-Some.is'.now c.is_modified-modified.result
    c.loop-key-test.true c.in-Some-Some.ensures c.in-Some-Some.ensures' c.is_modified-modified.ensures c.loop-key.out.items c.push_if.new.out.items _ c.loop-key.some _
    (rw c.either.ensures at c.in_ok-push_if.ensures) c.loop-key.invariant.bytes c.loop-key.invariant.some in
    record { bytes = put.0; some = put.1 }
