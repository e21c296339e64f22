-- The calls of an open transaction that lines make.
use Rattle.std.specs.Prelude.{◌≡◌, Option, Some, None}
use Rattle.cap_value.specs.declared.refusal.Refusal.{Refusal}
use Rattle.cap_txn.specs.Batch.{refused_push}
use Rattle.cap_txn.specs.Calls.{answer_to}
use Rattle.cap_txn.specs.Transaction.{TxnState, traced}
use Rattle.cap_txn.specs.declared.answered_call.Answer.{Answer}
use Rattle.cap_txn.specs.declared.answered_call.Answer.TheVariants.{Refused}
use Rattle.cap_txn.specs.declared.answered_call.Asked.{Asked}
use Rattle.cap_txn.specs.declared.answered_call.Asked.TheVariants.{Op}

module _ {A : Type 0} where
  -- Why a call is refused before it is made, if it is: it is an operation, and 10,000 stand. Then the
  -- transaction is as before.
  abbrev pub refused_call : TxnState A → Asked A → Option Refusal
  refused_call txn (Op op) = refused_push txn.workspace.ops
  refused_call txn _ = None

  abbrev pub answer_unless : Option Refusal → TxnState A → Asked A → Answer A
  answer_unless (Some why) txn call = Refused why
  answer_unless None txn call = answer_to txn.workspace call

  abbrev pub called_unless : Option Refusal → TxnState A → Asked A → TxnState A
  called_unless (Some why) txn call = txn
  called_unless None txn call = traced txn call

  -- the answer to a call
  abbrev pub answer_in : TxnState A → Asked A → Answer A
  answer_in txn call = answer_unless (refused_call txn call) txn call

  -- the transaction after it
  abbrev pub called : TxnState A → Asked A → TxnState A
  called txn call = called_unless (refused_call txn call) txn call

  -- the call was answered so, and left this
  abbrev pub IsCalled : TxnState A → Asked A → Answer A → TxnState A → Type 0
  IsCalled old call answer new = (answer ≡ answer_in old call) × (new ≡ called old call)
