use Rattle.std.proofs.Common.{sym, ◌∙◌}
use Rattle.cap_table.proofs.BackLemmas.{none-taken}
use Rattle.cap_table.proofs.table.Table.delete.Goals as goal

pub returns-in-Ok-None-clause-kept : goal.returns-in-Ok-None-clause-kept
returns-in-Ok-None-clause-kept g c =
    let none = rw c.in-Ok-None.field-0-is at c.in-Ok-None.ensures.before in
    c.in-Ok-None.ensures.table ∙ none-taken c.args.self.now c.args.name.now (sym none)
