use Rattle.std.proofs.Common.{arith, get_or}
use Rattle.cap_changes.proofs.GroupLemmas.{as_it_was, next_change, one_more, inverted}
use Rattle.cap_changes.proofs.inverse.write_inverses.Goals as goal

pub slice_bounds-write_inverse-count : goal.slice_bounds-write_inverse-count
slice_bounds-write_inverse-count g c = (next_change c.loop-end.invariant c.loop-end-test.true).before

pub slice_bounds-write_inverse-start : goal.slice_bounds-write_inverse-start
slice_bounds-write_inverse-start g c = let l = next_change c.loop-end.invariant c.loop-end-test.true in omega (arith, l.before, l.within)

pub slice_bounds-write_inverse-end : goal.slice_bounds-write_inverse-end
slice_bounds-write_inverse-end g c = let l = next_change c.loop-end.invariant c.loop-end-test.true in omega (arith, l.before, l.within)

pub write_inverse-requires : goal.write_inverse-requires
write_inverse-requires g c = (next_change c.loop-end.invariant c.loop-end-test.true).is

pub returns-in_err-write_inverse-clause-kept : goal.returns-in_err-write_inverse-clause-kept
returns-in_err-write_inverse-clause-kept g c =
    rw (as_it_was c.loop-end.begin (get_or c.args.ends.now c.loop-end.end-index 0) c.loop-end.bytes c.write_inverse.new.bytes c.in_err-write_inverse.ensures.err) c.loop-end.invariant.kept

pub loop-end-preserved : goal.loop-end-preserved
loop-end-preserved g c = one_more c.write_inverse.new.bytes c.loop-end.invariant c.loop-end-test.true c.in_ok-write_inverse.ensures.ok

pub returns-clause-inverse : goal.returns-clause-inverse
returns-clause-inverse g c = inverted c.loop-end.invariant c.loop-end-test.false
