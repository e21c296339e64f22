use Rattle.cap_database_laws.proofs.UndoneLemmas.{rows-commute-in}
use Rattle.cap_database_laws.proofs.RowsLemmas.{rows-commute}
use Rattle.cap_database_laws.proofs.laws.operations_on_different_rows_commute.Goals as goal

pub returns : goal.returns
returns g c = record { table = rows-commute; database = rows-commute-in }
