use Rattle.cap_txn.specs.Sound.{IsSound}
use Rattle.cap_txn.specs.Transaction.{TxnState}
use Rattle.std.proofs.Common.{subst}
use Rattle.cap_txn.proofs.TransactionLemmas.{traced-IsSound}
use Rattle.cap_txn.proofs.txn.Txn.sound_law.Goals as goal

pub returns-clause-sound : goal.returns-clause-sound
returns-clause-sound g c =
    let inside = c.self.inside in
    subst (λ (t : TxnState g.row.A.Denot). IsSound t.workspace) c.self.view_is
    (traced-IsSound (record { workspace = inside.workspace; footprint = inside.footprint; trace = inside.trace.items }) c.self.invariant)
