use Rattle.cap_table.specs.declared.row_ref.RowRef.TheVariants.{Key}
use Rattle.cap_table.proofs.BackLemmas.{found-own}
use Rattle.cap_table.proofs.KeptLemmas.{with_key-rises, without-rises}
use Rattle.cap_table.proofs.laws.keyed_rows_keep_tables.Goals as goal

pub returns : goal.returns
returns g c = record { put = with_key-rises; take = λ table key. without-rises table (Key key); found = found-own }
