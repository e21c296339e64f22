use Rattle.cap_database_laws.proofs.UndoneLemmas.{insert_then_delete}
use Rattle.cap_database_laws.proofs.laws.deletes_undo_inserts.Goals as goal

pub returns : goal.returns
returns g c = insert_then_delete c.delete_undoes_insert.ensures
