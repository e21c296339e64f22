use Rattle.std.proofs.Common.{◌<◌, IfSome, Option, [], arith, length, refl, rules, subst}
use Rattle.cap_replies.specs.Lines.{TakesFirst}
use Rattle.cap_replies.specs.declared.run_line.RunLine.{RunLine}
use Rattle.cap_run.proofs.NextLemmas.{block_goes_on, block_more, block_whole}
use Rattle.cap_run.proofs.workload.block_from.Goals as goal

pub loop-lines-preserved : goal.loop-lines-preserved
loop-lines-preserved g c =
    let so = c.loop-lines.invariant in
    let passed = c.begins_at.ensures.left in
    let less = subst (λ (o : Option (RunLine g.row.A.Denot)). IfSome o (λ line. length c.next_line.new.self.text < length c.begins_at.new.self.text)) c.in-Some.is c.in_ok-line.ensures.left in
    record {
      left = omega (arith, so.left, passed, less);
      block = λ rest spelled.
          block_more c.args.first rest c.loop-lines.block.items c.push-in-loop-lines.new.self.items c.in-Some.line c.begins_at.result c.loop-lines.lines c.begins_at.new.self c.next_line.new.self (so.block rest spelled) c.begins_at.ensures.next c.loop-lines-test.true
          (λ lines left. subst (λ (o : Option (RunLine g.row.A.Denot)). TakesFirst o lines c.next_line.new.self) c.in-Some.is (c.in_ok-line.ensures.next lines left)) c.in_ok-push-2.ensures.items;
    }

-- a line begins here, so there is a next one
pub returns-in_default-clause-block : goal.returns-in_default-clause-block
returns-in_default-clause-block g c = λ rest spelled.
    block_goes_on c.args.first rest c.loop-lines.block.items c.begins_at.result c.loop-lines.lines c.begins_at.new.self c.next_line.new.self (c.loop-lines.invariant.block rest spelled) c.begins_at.ensures.next c.loop-lines-test.true
    (λ lines left. subst (λ (o : Option (RunLine g.row.A.Denot)). TakesFirst o lines c.next_line.new.self) c.in_default.is (c.in_ok-line.ensures.next lines left))

pub returns-in_default-clause-left : goal.returns-in_default-clause-left
returns-in_default-clause-left g c =
    let spelled = c.requires.spelled in
    block_goes_on c.args.first spelled.0 c.loop-lines.block.items c.begins_at.result c.loop-lines.lines c.begins_at.new.self c.next_line.new.self (c.loop-lines.invariant.block spelled.0 spelled.1) c.begins_at.ensures.next c.loop-lines-test.true
    (λ lines left. subst (λ (o : Option (RunLine g.row.A.Denot)). TakesFirst o lines c.next_line.new.self) c.in_default.is (c.in_ok-line.ensures.next lines left))

pub returns-clause-block : goal.returns-clause-block
returns-clause-block g c = λ rest spelled.
    block_whole c.args.first rest c.loop-lines.block.items c.begins_at.result c.loop-lines.lines c.begins_at.new.self (c.loop-lines.invariant.block rest spelled) c.begins_at.ensures.next c.loop-lines-test.false

pub loop-lines-init : goal.loop-lines-init
loop-lines-init g c = record {
  left = omega arith;
  block = λ rest spelled. record {
    taken = [];
    left = rest;
    block_is = search rules;
    parts = refl;
    each = tt;
    spelled = spelled;
  };
}
