use Rattle.std.proofs.Common.{Some, List, ℕ, subst}
use Rattle.cap_value.specs.Memory.{LeavesUnlessMemory}
use Rattle.cap_database.specs.declared.cause.Cause.TheVariants.{Direct}
use Rattle.cap_txn.specs.declared.answered_call.Asked.TheVariants.{Op}
use Rattle.cap_applier.specs.Transaction.{made_in}
use Rattle.cap_applier.proofs.LedLemmas.{made-answered}
use Rattle.cap_applier.proofs.transaction.make_action.Goals as goal

pub returns-in_ok-copy-in-Some : goal.returns-in_ok-copy-in-Some
returns-in_ok-copy-in-Some g c =
    let name = c.in_ok-copy-in-Some.field-0 in
    let action = c.in-Some.action in
    let txn = c.args.txn.now in
    let left = c.op_without_limit.new.self in
    let made : LeavesUnlessMemory c.op_without_limit.result (made_in name (Some action) txn) left =
    made-answered c.op_without_limit.result (Op (record { table = name; cause = Direct; action = action })) txn left c.op_without_limit.ensures in
    rw c.in-Some.is (subst (λ (n : List ℕ). LeavesUnlessMemory c.op_without_limit.result (made_in n (Some action) txn) left) c.in_ok-copy-in-Some.ensures made)
