use Rattle.cap_table.specs.Sound.{IsRising}
use Rattle.cap_database.proofs.KeptLemmas.{each-keeps}
use Rattle.cap_table.proofs.KeptLemmas.{insert-rises, update-rises, delete-rises}
use Rattle.cap_txn.proofs.CallsLemmas.{goes-through}
use Rattle.cap_txn.proofs.laws.unchanged_footprints_answer_alike.Goals as goal

pub returns : goal.returns
returns g c = goes-through (each-keeps IsRising insert-rises update-rises delete-rises)
