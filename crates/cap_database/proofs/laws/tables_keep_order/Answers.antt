use Rattle.std.proofs.Common.{refl}
use Rattle.cap_table.specs.Sound.{IsRising}
use Rattle.cap_database.proofs.KeptLemmas.{create-rises, each-keeps, run-rises}
use Rattle.cap_database.proofs.laws.tables_keep_order.Goals as goal

pub returns : goal.returns
returns g c =
    let acts = c.operations_keep_tables.ensures in
    record { empty = record { names = refl; each = tt }; run = run-rises (each-keeps IsRising acts.insert acts.update acts.delete); create = create-rises acts.empty }
