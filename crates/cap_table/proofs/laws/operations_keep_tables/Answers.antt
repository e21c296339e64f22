use Rattle.cap_table.proofs.KeptLemmas.{empty-rises, insert-rises, update-rises, delete-rises}
use Rattle.cap_table.proofs.laws.operations_keep_tables.Goals as goal

pub returns : goal.returns
returns g c = record { empty = empty-rises; insert = insert-rises; update = update-rises; delete = delete-rises }
