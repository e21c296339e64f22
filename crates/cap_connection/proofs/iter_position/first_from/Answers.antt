use Rattle.std.proofs.Common.{arith}
use Rattle.cap_connection.specs.Positions.{counts}
use Rattle.cap_connection.proofs.PositionLemmas.{from_itself, from_next, later_group, no_later}
use Rattle.cap_connection.proofs.iter_position.first_from.Goals as goal

pub loop-position-init : goal.loop-position-init
loop-position-init c = (from_itself c.args.from, λ other is from. from)

pub returns-then-position-change_count-clause-first : goal.returns-then-position-change_count-clause-first
returns-then-position-change_count-clause-first c = record {
  is_position = omega (arith, c.if-position-change_count.true, c.change_count.ensures);
  is_from = c.loop-position.invariant.0;
  first = c.loop-position.invariant.1;
}

pub loop-position-preserved : goal.loop-position-preserved
loop-position-preserved c = (
  from_next c.args.from c.loop-position.position c.loop-position.invariant.0,
  λ other is from. later_group (counts c.args.contents.now) c.loop-position.position other
      (λ so. omega (arith, so, c.if-position-change_count.false, c.change_count.ensures)) is (c.loop-position.invariant.1 other is from),
)

pub returns-clause-first : goal.returns-clause-first
returns-clause-first c = λ other is from. no_later (counts c.args.contents.now) c.loop-position.position other
    (λ so. omega (arith, so, c.loop-position-test.false, c.group_count-groups.ensures)) is (c.loop-position.invariant.1 other is from)
