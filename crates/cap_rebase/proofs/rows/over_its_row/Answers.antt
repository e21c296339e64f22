use Rattle.std.proofs.Common.{◌≡◌, ◌∙◌, sym, subst, Option, IfOk}
use Rattle.cap_changes.specs.declared.row_change.RowChange.{RowChange}
use Rattle.cap_rebase.proofs.PushLemmas.{its_row, other_row}
use Rattle.cap_rebase.proofs.rows.over_its_row.Goals as goal

pub returns-then-are_of_one_row-clause-change : goal.returns-then-are_of_one_row-clause-change
returns-then-are_of_one_row-clause-change g c =
    subst (λ (o : Option (RowChange g.row.A.Denot)). IfOk c.over_change.result (λ change. change ≡ o))
    (its_row c.args.schema.now c.args.local.now c.args.remote.now c.args.left (sym c.are_of_one_row.ensures ∙ c.if-are_of_one_row.true)) c.over_change.ensures.change

pub returns-else-are_of_one_row-clause-change : goal.returns-else-are_of_one_row-clause-change
returns-else-are_of_one_row-clause-change g c = other_row c.args.schema.now c.args.local.now c.args.remote.now c.args.left (sym c.are_of_one_row.ensures ∙ c.if-are_of_one_row.false)
