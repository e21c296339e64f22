use Rattle.std.proofs.Common.{◌∙◌}
use Rattle.cap_language.specs.Forms.{natural}
use Rattle.cap_language.proofs.GrammarLaws.{err_reads, item_less, last_item, next_item, unread_item}
use Rattle.cap_script.proofs.command.numbers.Goals as goal

pub loop-numbers-smaller : goal.loop-numbers-smaller
loop-numbers-smaller g c =
    item_less 44 natural c.loop-numbers.cursor.rest.now c.takes_sign.new.self.rest.now c.in_ok-natural-2.field-0 c.natural-in-loop-numbers.new.self.rest.now
    (c.takes_sign.ensures.there c.loop-numbers-test.true) c.in_ok-natural-2.ensures.reads

pub loop-numbers-preserved : goal.loop-numbers-preserved
loop-numbers-preserved g c =
    c.loop-numbers.invariant
    ∙ next_item 44 (λ _. natural) c.loop-numbers.numbers.items c.push-in-loop-numbers.new.self.items c.loop-numbers.cursor.rest.now c.takes_sign.new.self.rest.now c.in_ok-natural-2.field-0 c.natural-in-loop-numbers.new.self.rest.now
    (c.takes_sign.ensures.there c.loop-numbers-test.true) c.in_ok-natural-2.ensures.reads c.in_ok-push-2.ensures.items

pub returns : goal.returns
returns g c =
    record { reads = c.loop-numbers.invariant ∙ last_item 44 (λ _. natural) c.loop-numbers.numbers.items c.loop-numbers.cursor.rest.now c.takes_sign.new.self.rest.now (c.takes_sign.ensures.other c.loop-numbers-test.false) }

pub returns-in_err-natural-2 : goal.returns-in_err-natural-2
returns-in_err-natural-2 g c =
    record {
      reads = err_reads c.from_residual-in_err-natural-2.result _ c.in_err-natural-2.field-0.0 _ _ c.from_residual-in_err-natural-2.ensures.1 c.loop-numbers.invariant
          (unread_item 44 (λ _. natural) c.loop-numbers.numbers.items c.loop-numbers.cursor.rest.now c.takes_sign.new.self.rest.now c.in_err-natural-2.field-0.0
          (c.takes_sign.ensures.there c.loop-numbers-test.true) c.in_err-natural-2.ensures.reads);
    }
