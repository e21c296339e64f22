use Rattle.std.proofs.Common.{◌≡◌, ◌∷◌, [], ◌++◌, List, Ok, Err, length, take, sym, ap, subst, ◌∙◌, arith}
use Rattle.cap_txn.specs.Workspace.{WorkspaceState, after_op}
use Rattle.cap_database.specs.declared.op.Op.{Op}
use Rattle.cap_txn.specs.Footprint.{item_cmp, item_cmp_total, with_items}
use Rattle.cap_txn.specs.Transaction.{IsTraced, TxnState, traced}
use Rattle.cap_txn.specs.Calls.{answer_to, done, unless_refused}
use Rattle.cap_txn.specs.declared.answered_call.Answer.{Answer}
use Rattle.cap_txn.specs.declared.answered_call.Answer.TheVariants as answer
use Rattle.cap_txn.specs.declared.answered_call.Asked.TheVariants as asked
use Rattle.cap_txn.specs.declared.item.Item.{Item}
use Rattle.cap_txn.specs.declared.answered_call.AnsweredCall.{AnsweredCall}
use Rattle.cap_txn.proofs.OrderedSetLemmas.{taken-back}
use Rattle.cap_txn.proofs.TransactionLemmas.{parts-same, traced-is, traced-same}
use Rattle.cap_txn.proofs.txn.Txn.op_without_limit.Goals as goal

pub invariant_of-self-in-Ok : goal.invariant_of-self-in-Ok
invariant_of-self-in-Ok g c =
    let inside = c.self.inside in
    let copy = c.in_ok-copy_of_op.field-0 in
    let ran : after_op inside.workspace copy ≡ Ok c.op-2.new.self = ap (after_op inside.workspace) c.in_ok-copy_of_op.ensures ∙ c.in-Ok.ensures.txn in
    traced-is (record { workspace = inside.workspace; footprint = inside.footprint; trace = inside.trace.items }) (asked.Op copy) c.op-2.new.self c.add_each.new.set c.push_reserved.new.self.items
    (ap (unless_refused inside.workspace) ran)
    (ap (with_items inside.footprint) (sym c.in_ok-items.ensures) ∙ sym c.in_ok-add_each.ensures.ok)
    (ap (λ (a : Answer g.row.A.Denot). inside.trace.items ++ record { call = asked.Op copy; answer = a } ∷ []) (ap done ran)
    ∙ ap (λ (l : List (AnsweredCall g.row.A.Denot)). l ++ record { call = asked.Op copy; answer = done (Ok c.op-2.new.self) } ∷ []) (sym c.in_ok-reserve.ensures.items) ∙ sym c.push_reserved.ensures.items)
    c.self.invariant

pub invariant_of-self-in-Err-Refused : goal.invariant_of-self-in-Err-Refused
invariant_of-self-in-Err-Refused g c =
    let inside = c.self.inside in
    let copy = c.in_ok-copy_of_op.field-0 in
    let refused = rw c.in-Err-Refused.field-0-is at c.in-Err-Refused.ensures.txn in
    let ran : after_op inside.workspace copy ≡ Err c.in-Err-Refused.why = ap (after_op inside.workspace) c.in_ok-copy_of_op.ensures ∙ refused in
    let kept : c.op-2.new.self ≡ inside.workspace = c.in-Err-Refused.ensures.kept in
    traced-is (record { workspace = inside.workspace; footprint = inside.footprint; trace = inside.trace.items }) (asked.Op copy) c.op-2.new.self c.add_each.new.set c.push_reserved-in-Err-Refused.new.self.items
    (ap (unless_refused inside.workspace) ran ∙ sym kept)
    (ap (with_items inside.footprint) (sym c.in_ok-items.ensures) ∙ sym c.in_ok-add_each.ensures.ok)
    (ap (λ (a : Answer g.row.A.Denot). inside.trace.items ++ record { call = asked.Op copy; answer = a } ∷ []) (ap done ran)
    ∙ ap (λ (l : List (AnsweredCall g.row.A.Denot)). l ++ record { call = asked.Op copy; answer = done (Err c.in-Err-Refused.why) } ∷ []) (sym c.in_ok-reserve.ensures.items) ∙ sym c.push_reserved-in-Err-Refused.ensures.items)
    c.self.invariant

pub invariant_of-self-in-OutOfMemory-1 : goal.invariant_of-self-in-OutOfMemory-1
invariant_of-self-in-OutOfMemory-1 g c =
    let inside = c.self.inside in
    let back = taken-back item_cmp item_cmp_total c.len-len.result inside.footprint c.in_ok-items.items.items c.len-len.ensures in
    let undone : c.truncate.new.self ≡ inside.footprint = c.truncate.ensures ∙ ap (take c.len-len.result) c.in_ok-add_each.ensures.ok ∙ back in
    subst (λ (x : TxnState g.row.A.Denot). IsTraced x)
    (sym (parts-same c.op-2.new.self inside.workspace c.truncate.new.self inside.footprint c.reserve.new.self.items inside.trace.items c.in-Err-OutOfMemory.ensures.kept undone c.in_ok-reserve.ensures.items)) c.self.invariant

pub returns-in-Err-OutOfMemory : goal.returns-in-Err-OutOfMemory
returns-in-Err-OutOfMemory g c =
    let inside = c.self.inside in
    let back = taken-back item_cmp item_cmp_total c.len-len.result inside.footprint c.in_ok-items.items.items c.len-len.ensures in
    let undone : c.truncate.new.self ≡ inside.footprint = c.truncate.ensures ∙ ap (take c.len-len.result) c.in_ok-add_each.ensures.ok ∙ back in
    parts-same c.op-2.new.self inside.workspace c.truncate.new.self inside.footprint c.reserve.new.self.items inside.trace.items c.in-Err-OutOfMemory.ensures.kept undone c.in_ok-reserve.ensures.items
    ∙ c.self.view_is

pub returns-in-Ok : goal.returns-in-Ok
returns-in-Ok g c =
    let inside = c.self.inside in
    let copy = c.in_ok-copy_of_op.field-0 in
    let ran : after_op inside.workspace copy ≡ Ok c.op-2.new.self = ap (after_op inside.workspace) c.in_ok-copy_of_op.ensures ∙ c.in-Ok.ensures.txn in
    let old : TxnState g.row.A.Denot = record { workspace = inside.workspace; footprint = inside.footprint; trace = inside.trace.items } in
    let new : TxnState g.row.A.Denot = record { workspace = c.op-2.new.self; footprint = c.add_each.new.set; trace = c.push_reserved.new.self.items } in
    let is : new ≡ traced old (asked.Op copy) = traced-same old (asked.Op copy) c.op-2.new.self c.add_each.new.set c.push_reserved.new.self.items
    (ap (unless_refused inside.workspace) ran)
    (ap (with_items inside.footprint) (sym c.in_ok-items.ensures) ∙ sym c.in_ok-add_each.ensures.ok)
    (ap (λ (a : Answer g.row.A.Denot). inside.trace.items ++ record { call = asked.Op copy; answer = a } ∷ []) (ap done ran)
    ∙ ap (λ (l : List (AnsweredCall g.row.A.Denot)). l ++ record { call = asked.Op copy; answer = done (Ok c.op-2.new.self) } ∷ []) (sym c.in_ok-reserve.ensures.items) ∙ sym c.push_reserved.ensures.items) in
    subst (λ (o : TxnState g.row.A.Denot). (answer.Done ≡ answer_to o.workspace (asked.Op c.args.op)) × (new ≡ traced o (asked.Op c.args.op))) c.self.view_is
    (subst (λ (p : Op g.row.A.Denot). (answer.Done ≡ answer_to old.workspace (asked.Op p)) × (new ≡ traced old (asked.Op p))) c.in_ok-copy_of_op.ensures (sym (ap done ran), is))

pub returns-in-Err-Refused : goal.returns-in-Err-Refused
returns-in-Err-Refused g c =
    let inside = c.self.inside in
    let copy = c.in_ok-copy_of_op.field-0 in
    let why = c.in-Err-Refused.why in
    let refused = rw c.in-Err-Refused.field-0-is at c.in-Err-Refused.ensures.txn in
    let ran : after_op inside.workspace copy ≡ Err why = ap (after_op inside.workspace) c.in_ok-copy_of_op.ensures ∙ refused in
    let old : TxnState g.row.A.Denot = record { workspace = inside.workspace; footprint = inside.footprint; trace = inside.trace.items } in
    let new : TxnState g.row.A.Denot = record { workspace = c.op-2.new.self; footprint = c.add_each.new.set; trace = c.push_reserved-in-Err-Refused.new.self.items } in
    let is : new ≡ traced old (asked.Op copy) = traced-same old (asked.Op copy) c.op-2.new.self c.add_each.new.set c.push_reserved-in-Err-Refused.new.self.items
    (ap (unless_refused inside.workspace) ran ∙ sym c.in-Err-Refused.ensures.kept)
    (ap (with_items inside.footprint) (sym c.in_ok-items.ensures) ∙ sym c.in_ok-add_each.ensures.ok)
    (ap (λ (a : Answer g.row.A.Denot). inside.trace.items ++ record { call = asked.Op copy; answer = a } ∷ []) (ap done ran)
    ∙ ap (λ (l : List (AnsweredCall g.row.A.Denot)). l ++ record { call = asked.Op copy; answer = done (Err why) } ∷ []) (sym c.in_ok-reserve.ensures.items) ∙ sym c.push_reserved-in-Err-Refused.ensures.items) in
    subst (λ (o : TxnState g.row.A.Denot). (answer.Refused why ≡ answer_to o.workspace (asked.Op c.args.op)) × (new ≡ traced o (asked.Op c.args.op))) c.self.view_is
    (subst (λ (p : Op g.row.A.Denot). (answer.Refused why ≡ answer_to old.workspace (asked.Op p)) × (new ≡ traced old (asked.Op p))) c.in_ok-copy_of_op.ensures (sym (ap done ran), is))
