use Rattle.std.proofs.Common.{◌∙◌}
use Rattle.cap_language.specs.Forms.{value}
use Rattle.cap_language.proofs.GrammarLaws.{err_made, item_less, last_item, next_item, unread_item}
use Rattle.cap_language.proofs.literals.items.Goals as goal

pub loop-alloc-smaller : goal.loop-alloc-smaller
loop-alloc-smaller g c =
    item_less 44 value c.loop-alloc.cursor.rest.now c.takes_sign.new.self.rest.now c.in_ok-value-2.field-0 c.value-in-loop-alloc.new.cursor.rest.now
    (c.takes_sign.ensures.there c.loop-alloc-test.true) c.in_ok-value-2.ensures.reads

pub loop-alloc-preserved : goal.loop-alloc-preserved
loop-alloc-preserved g c =
    c.loop-alloc.invariant
    ∙ next_item 44 (λ _. value) c.loop-alloc.values.items c.push-in-loop-alloc.new.self.items c.loop-alloc.cursor.rest.now c.takes_sign.new.self.rest.now c.in_ok-value-2.field-0 c.value-in-loop-alloc.new.cursor.rest.now
    (c.takes_sign.ensures.there c.loop-alloc-test.true) c.in_ok-value-2.ensures.reads c.in_ok-push-2.ensures.ok

pub returns : goal.returns
returns g c =
    record { reads = c.loop-alloc.invariant ∙ last_item 44 (λ _. value) c.loop-alloc.values.items c.loop-alloc.cursor.rest.now c.takes_sign.new.self.rest.now (c.takes_sign.ensures.other c.loop-alloc-test.false) }

pub returns-in_err-value-2 : goal.returns-in_err-value-2
returns-in_err-value-2 g c =
    record {
      reads = err_made c.from_residual-in_err-value-2.result _ c.in_err-value-2.field-0.0 _ _ c.from_residual-in_err-value-2.ensures.1 c.loop-alloc.invariant
          (unread_item 44 (λ _. value) c.loop-alloc.values.items c.loop-alloc.cursor.rest.now c.takes_sign.new.self.rest.now c.in_err-value-2.field-0.0
          (c.takes_sign.ensures.there c.loop-alloc-test.true) c.in_err-value-2.ensures.reads);
    }
