use Rattle.std.proofs.Common.{◌≡◌, ◌∙◌, ◌∷◌, ◌++◌, [], ap, List, Ok}
use Rattle.cap_database.specs.declared.op.Op.{Op}
use Rattle.cap_language.specs.Grammar.{Fails}
use Rattle.cap_language.proofs.GrammarLaws.{item_less}
use Rattle.cap_script.specs.Language.{operation}
use Rattle.cap_script.proofs.BatchLaws.{by_room, first_in_batch, first_unread, last_in_batch, next_in_batch, passed_on, unread_in_batch}
use Rattle.cap_script.proofs.operation.batch.Goals as goal

pub loop-alloc-init : goal.loop-alloc-init
loop-alloc-init g c = (
  first_in_batch c.args.empty.base c.push.new.batch c.in_ok-operation.field-0 c.args.cursor.now.rest.now c.operation.new.cursor.rest.now c.in_ok-operation.ensures.reads
      (c.in_ok-push.ensures.ops ∙ ap (λ (ops : List (Op g.row.A.Denot)). ops ++ c.in_ok-operation.field-0 ∷ []) c.requires.0) c.in_ok-push.ensures.base,
  c.in_ok-push.ensures.reads,
  c.in_ok-push.ensures.base,
)

pub loop-alloc-smaller : goal.loop-alloc-smaller
loop-alloc-smaller g c =
    item_less 59 (operation c.is_full-is_full.result) c.loop-alloc.cursor.rest.now c.takes_sign.new.self.rest.now c.in_ok-operation-2.field-0 c.operation-in-loop-alloc.new.cursor.rest.now
    (c.takes_sign.ensures.there c.loop-alloc-test.true) c.in_ok-operation-2.ensures.reads

pub loop-alloc-preserved : goal.loop-alloc-preserved
loop-alloc-preserved g c = (
  c.loop-alloc.invariant.0
      ∙ next_in_batch c.loop-alloc.made c.push-in-loop-alloc.new.batch c.in_ok-operation-2.field-0 c.loop-alloc.cursor.rest.now c.takes_sign.new.self.rest.now c.operation-in-loop-alloc.new.cursor.rest.now (c.takes_sign.ensures.there c.loop-alloc-test.true)
      (by_room c.loop-alloc.made c.takes_sign.new.self.rest.now c.is_full-is_full.result (λ r. r ≡ Ok (c.in_ok-operation-2.field-0, c.operation-in-loop-alloc.new.cursor.rest.now)) c.is_full-is_full.ensures c.in_ok-operation-2.ensures.reads) c.in_ok-push-2.ensures.ops c.in_ok-push-2.ensures.base,
  c.in_ok-push-2.ensures.reads,
  c.in_ok-push-2.ensures.base ∙ c.loop-alloc.invariant.2,
)

pub returns : goal.returns
returns g c = record { reads = c.loop-alloc.invariant.0 ∙ last_in_batch c.loop-alloc.made c.loop-alloc.cursor.rest.now c.takes_sign.new.self.rest.now (c.takes_sign.ensures.other c.loop-alloc-test.false) c.loop-alloc.invariant.1 }

pub returns-in_err-operation : goal.returns-in_err-operation
returns-in_err-operation g c = record {
  reads = passed_on c.from_residual.result _ c.in_err-operation.field-0.0 _ c.from_residual.ensures.1 (first_unread g.row.A.Denot c.args.empty.base c.args.cursor.now.rest.now c.in_err-operation.field-0.0 c.in_err-operation.ensures.reads);
}

pub returns-in_err-operation-2 : goal.returns-in_err-operation-2
returns-in_err-operation-2 g c =
    let fault = c.in_err-operation-2.field-0.0 in
    let unread = unread_in_batch c.loop-alloc.made c.loop-alloc.cursor.rest.now c.takes_sign.new.self.rest.now fault (c.takes_sign.ensures.there c.loop-alloc-test.true)
    (by_room c.loop-alloc.made c.takes_sign.new.self.rest.now c.is_full-is_full.result (λ r. Fails fault r) c.is_full-is_full.ensures c.in_err-operation-2.ensures.reads) in
    record {
      reads = passed_on c.from_residual-in_err-operation-2.result _ fault _ c.from_residual-in_err-operation-2.ensures.1 (rw c.loop-alloc.invariant.0 unread);
    }
