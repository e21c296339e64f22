use Rattle.cap_codec.proofs.Common.{Ok, Err, refl, inl, inr, rules, arith, take, length-take, err_from_is_err_and, blob_at, read_fault, EndsReads, []}
use Rattle.cap_codec.proofs.StreamLemmas.{blob_is, reads_on, reads_kept, ends_at}
use Rattle.cap_codec.proofs.stream.read_from.Goals as goal

pub loop-init : goal.loop-init
unfolding blob_at
loop-init g c = rw c.new-decoder.ensures ((refl, refl), refl)

pub returns-then-count-eq0 : goal.returns-then-count-eq0
returns-then-count-eq0 g c =
    let reported : EndsReads g.row.A.Denot g.R.Source.remaining g.R.Source.gave g.R.Source.failed (Ok c.in_ok-finish.field-0) c.args.reader.now c.read_some.new.self =
    (c.loop.counter, c.loop-test.true, c.loop.reader, c.loop.decoder, [], c.loop.invariant, (c.in-Ok.ensures.reported, omega arith, rw c.if-count-eq0.true at c.in-Ok.ensures.bytes.0), (refl, c.in-Ok.ensures.bytes.1 c.if-count-eq0.true (search rules), c.in_ok-finish.ensures.answers)) in
    record { blob = blob_is g.row.A.Denot g.R.Source.remaining g.R.Source.gave g.R.Source.failed (Ok c.in_ok-finish.field-0) c.args.reader.now c.read_some.new.self reported; reported = reported }

pub returns-in_err-finish : goal.returns-in_err-finish
returns-in_err-finish g c =
    let p = err_from_is_err_and c.from_residual.result c.from_residual.ensures.1 in
    let ends = ends_at g.row.A.Denot g.R.Source.remaining g.R.Source.gave g.R.Source.failed c.in_err-finish.field-0.0 c.loop.counter c.args.reader.now c.loop.reader c.read_some.new.self c.loop.decoder []
    c.loop-test.true c.loop.invariant (c.in-Ok.ensures.reported, omega arith, rw c.if-count-eq0.true at c.in-Ok.ensures.bytes.0) (inr (refl, c.in-Ok.ensures.bytes.1 c.if-count-eq0.true (search rules), c.in_err-finish.ensures.answers)) in
    rw (p.1, p.2) (record { blob = blob_is g.row.A.Denot g.R.Source.remaining g.R.Source.gave g.R.Source.failed (Err (read_fault c.in_err-finish.field-0.0)) c.args.reader.now c.read_some.new.self ends; reported = ends })

pub returns-in_err-feed : goal.returns-in_err-feed
returns-in_err-feed g c =
    let p = err_from_is_err_and c.from_residual-in_err-feed.result c.from_residual-in_err-feed.ensures.1 in
    let ends = ends_at g.row.A.Denot g.R.Source.remaining g.R.Source.gave g.R.Source.failed c.in_err-feed.field-0.0 c.loop.counter c.args.reader.now c.loop.reader c.read_some.new.self c.loop.decoder (take c.in-Ok.count c.read_some.new.piece)
    c.loop-test.true c.loop.invariant (c.in-Ok.ensures.reported, omega (arith, length-take c.in-Ok.count c.read_some.new.piece), c.in-Ok.ensures.bytes.0) (inl c.in_err-feed.ensures.answers) in
    rw (p.1, p.2) (record { blob = blob_is g.row.A.Denot g.R.Source.remaining g.R.Source.gave g.R.Source.failed (Err (read_fault c.in_err-feed.field-0.0)) c.args.reader.now c.read_some.new.self ends; reported = ends })

pub loop-preserved : goal.loop-preserved
loop-preserved g c = rw c.in_ok-feed.ensures.ok (reads_on g.row.A.Denot g.R.Source.remaining g.R.Source.gave g.R.Source.failed c.loop.counter c.args.reader.now c.loop.reader c.read_some.new.self c.loop.decoder (take c.in-Ok.count c.read_some.new.piece) c.loop.invariant
    (c.in-Ok.ensures.reported, omega (arith, length-take c.in-Ok.count c.read_some.new.piece), c.in-Ok.ensures.bytes.0) c.in_ok-feed.ensures.answers)

pub loop-preserved-then-is_interrupted : goal.loop-preserved-then-is_interrupted
loop-preserved-then-is_interrupted g c =
    reads_kept g.row.A.Denot g.R.Source.remaining g.R.Source.gave g.R.Source.failed c.loop.counter c.args.reader.now c.loop.reader c.read_some.new.self c.loop.decoder c.loop.invariant
    (c.in-Err.ensures.reported.0 (c.is_interrupted.ensures.0 c.if-is_interrupted.true)) c.in-Err.ensures.bytes

pub returns-clause-reported : goal.returns-clause-reported
returns-clause-reported g c = inr (c.loop.counter, omega (arith, c.loop-test.false, c.loop.auto.counter-end), c.loop.decoder, c.loop.invariant)
