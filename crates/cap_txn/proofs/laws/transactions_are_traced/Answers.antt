use Rattle.cap_txn.proofs.TransactionLemmas.{begin-traced, call-traced, txn-AreOpsOf}
use Rattle.cap_txn.proofs.laws.transactions_are_traced.Goals as goal

pub returns : goal.returns
returns g c = record { begin = begin-traced; call = call-traced; batch = txn-AreOpsOf }
