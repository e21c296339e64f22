use Rattle.std.proofs.Common.{sym, subst, Option}
use Rattle.std.specs.Prelude.{IfSome, IsTrue}
use Rattle.cap_changes.specs.Fits.{change_fits}
use Rattle.cap_changes.specs.declared.row_change.RowChange.{RowChange}
use Rattle.cap_rebase.proofs.rows.over_change.Goals as goal

pub rebase_change-requires-clause-local_fits : goal.rebase_change-requires-clause-local_fits
rebase_change-requires-clause-local_fits g c = subst (λ (o : Option (RowChange g.row.A.Denot)). IfSome o (λ one. IsTrue (change_fits c.args.schema.now one))) (sym c.in-Some.ensures) c.requires.left_fits

pub returns-clause-change : goal.returns-clause-change
returns-clause-change g c = rw (← c.in-Some.ensures) c.rebase_change.ensures.change
