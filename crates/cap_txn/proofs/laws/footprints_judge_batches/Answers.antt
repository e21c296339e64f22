use Rattle.cap_table.specs.Sound.{IsRising}
use Rattle.cap_database.proofs.KeptLemmas.{each-keeps}
use Rattle.cap_table.proofs.KeptLemmas.{insert-rises, update-rises, delete-rises}
use Rattle.cap_txn.proofs.TransactionLemmas.{judged}
use Rattle.cap_txn.proofs.laws.footprints_judge_batches.Goals as goal

pub returns : goal.returns
returns g c = judged (each-keeps IsRising insert-rises update-rises delete-rises)
