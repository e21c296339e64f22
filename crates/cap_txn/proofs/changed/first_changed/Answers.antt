use Rattle.std.proofs.Common.{◌≡◌, sym, ap, ◌∙◌, arith}
use Rattle.cap_txn.proofs.ChangedLemmas.{changed-first, changed-here, changed-later, changed-nowhere}
use Rattle.cap_txn.proofs.changed.first_changed.Goals as goal

pub loop-place-init : goal.loop-place-init
loop-place-init g c = changed-first c.args.base.now c.args.now.now c.args.items.now

pub returns-then-not-is_same : goal.returns-then-not-is_same
returns-then-not-is_same g c =
    sym (changed-here c.args.base.now c.args.now.now c.args.items.now c.loop-place.place c.index-items-place.result c.loop-place-test.true c.index-items-place.is c.loop-place.invariant (sym c.is_same.ensures ∙ c.if-not-is_same.true))

pub loop-place-preserved : goal.loop-place-preserved
loop-place-preserved g c =
    changed-later c.args.base.now c.args.now.now c.args.items.now c.loop-place.place c.index-items-place.result c.loop-place-test.true c.index-items-place.is c.loop-place.invariant (sym c.is_same.ensures ∙ c.if-not-is_same.false)

pub returns : goal.returns
returns g c = sym (changed-nowhere c.args.base.now c.args.now.now c.args.items.now c.loop-place.place (omega arith) c.loop-place.invariant)
