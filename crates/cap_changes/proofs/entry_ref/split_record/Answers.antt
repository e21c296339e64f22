use Rattle.std.proofs.Common.{◌∙◌, ℕ, drop, sym, ap, arith}
use Rattle.cap_changes.specs.Record.{fields_of}
use Rattle.cap_changes.proofs.LeftLemmas.{one_more, apart}
use Rattle.cap_changes.proofs.entry_ref.split_record.Goals as goal

pub loop-column-preserved : goal.loop-column-preserved
loop-column-preserved g c = one_more g.row.A.Denot c.args.bytes.now c.loop-column._column c.loop-column.rest.now c.stored_field.result.1.now _ c.loop-column.invariant (omega (arith, c.loop-column-test.true, c.requires.wide)) c.stored_field.ensures

pub overflow_sub-bytes : goal.overflow_sub-bytes
overflow_sub-bytes g c = (apart g.row.A.Denot c.args.bytes.now c.loop-column._column c.loop-column.rest.now c.loop-column.invariant c.requires.is).shorter

pub of-requires : goal.of-requires
of-requires g c = rw c.split_at.ensures.front (apart g.row.A.Denot c.args.bytes.now c.loop-column._column c.loop-column.rest.now c.loop-column.invariant c.requires.is).front

pub of-requires-2 : goal.of-requires-2
of-requires-2 g c = rw (c.split_at.ensures.back ∙ (apart g.row.A.Denot c.args.bytes.now c.loop-column._column c.loop-column.rest.now c.loop-column.invariant c.requires.is).behind) c.loop-column.invariant.is

pub returns-clause-others : goal.returns-clause-others
returns-clause-others g c =
    c.of-2.ensures ∙ ap fields_of (c.split_at.ensures.back ∙ (apart g.row.A.Denot c.args.bytes.now c.loop-column._column c.loop-column.rest.now c.loop-column.invariant c.requires.is).behind)
    ∙ sym c.loop-column.invariant.left ∙ ap (λ (n : ℕ). drop n (fields_of c.args.bytes.now)) (omega (arith, c.loop-column-test.false, c.loop-column.auto._column-end))
