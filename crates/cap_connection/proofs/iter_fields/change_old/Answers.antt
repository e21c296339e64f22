use Rattle.std.proofs.Common.{ap, ◌∙◌}
use Rattle.std.specs.Global.{Global}
use Rattle.cap_changes.specs.declared.row_change.RowChange.{RowChange}
use Rattle.cap_connection.specs.Fields.{change_old}
use Rattle.cap_connection.proofs.iter_fields.change_old.Goals as goal

pub returns-in-Insert : goal.returns-in-Insert
returns-in-Insert c = ap (λ (change : RowChange Global). change_old change c.args.column) c.in-Insert.ensures

pub returns-in-Update : goal.returns-in-Update
returns-in-Update c = c.get.ensures.value ∙ ap (λ (change : RowChange Global). change_old change c.args.column) c.in-Update.ensures

pub returns-in-Delete : goal.returns-in-Delete
returns-in-Delete c = c.get-in-Delete.ensures.value ∙ ap (λ (change : RowChange Global). change_old change c.args.column) c.in-Delete.ensures
