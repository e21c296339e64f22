use Rattle.std.proofs.Common.{◌≡◌}
use Rattle.cap_database.proofs.KeptLemmas.{create-columns, each-act, run-columns}
use Rattle.cap_database.proofs.laws.tables_keep_columns.Goals as goal

pub returns : goal.returns
returns g c =
    let acts = c.operations_keep_columns.ensures in
    record { run = run-columns (each-act (λ table after. after.schema ≡ table.schema) acts.insert acts.update acts.delete); create = create-columns }
