use Rattle.std.proofs.Common.{rules, ◌≡◌, ◌+◌, arith, inr}
use Rattle.std.proofs.lemmas.Result.{err_from_is_err_and}
use Rattle.cap_run.specs.declared.fault.RunFault.TheVariants.{OutOfMemory}
use Rattle.cap_run.proofs.InputLemmas.{one_read, reads_kept}
use Rattle.cap_run.proofs.input.read_pieces.Goals as goal

pub returns-then-count-eq0-clause-read_reported : goal.returns-then-count-eq0-clause-read_reported
returns-then-count-eq0-clause-read_reported g c =
    (c.loop.counter + 1, one_read g.R.Source.gave g.R.Source.failed c.loop.counter c.args.reader.now c.loop.reader c.read_some.new.self c.loop.invariant.went c.in-Ok.ensures.reported)

-- out of memory for a piece
pub returns-in_err-map_err-clause-read_reported : goal.returns-in_err-map_err-clause-read_reported
returns-in_err-map_err-clause-read_reported g c =
    let p = err_from_is_err_and c.from_residual.result c.from_residual.ensures.1 in
    let memory : c.in_err-map_err.field-0.0 ≡ OutOfMemory = search rules in
    rw (p.1, p.2) (reads_kept g.R.Source.gave g.R.Source.failed c.in_err-map_err.field-0.0 c.args.reader.now c.read_some.new.self memory
    (c.loop.counter + 1, one_read g.R.Source.gave g.R.Source.failed c.loop.counter c.args.reader.now c.loop.reader c.read_some.new.self c.loop.invariant.went c.in-Ok.ensures.reported))

-- the limit of reads is reached
pub returns-clause-read_reported : goal.returns-clause-read_reported
returns-clause-read_reported g c = inr (c.loop.counter, omega (arith, c.loop-test.false, c.loop.auto.counter-end), c.loop.invariant.went)
