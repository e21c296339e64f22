use Rattle.cap_table.specs.declared.row_ref.RowRef.TheVariants.{Key, Loose}
use Rattle.cap_table.proofs.TableLemmas.{width-found}
use Rattle.cap_table.proofs.table.Table.get.Goals as goal

pub returns-in-Key-clause-width : goal.returns-in-Key-clause-width
returns-in-Key-clause-width g c = rw (← c.self.view_is) (width-found _ (Key _) _ c.self.invariant c.get.ensures)

pub returns-in-Loose-clause-width : goal.returns-in-Loose-clause-width
returns-in-Loose-clause-width g c = rw (← c.self.view_is) (width-found _ (Loose _) _ c.self.invariant c.get-in-Loose.ensures)
