use Rattle.std.proofs.Common.{arith}
use Rattle.std.proofs.lemmas.List.{with_items_is}
use Rattle.cap_table.specs.Sound.{IsRising}
use Rattle.cap_value.specs.Memory.{LeavesUnlessMemory}
use Rattle.cap_database.specs.Operation.{step}
use Rattle.cap_database.proofs.BackLemmas.{left-tables}
use Rattle.cap_database.proofs.KeptLemmas.{each-keeps, step-tables}
use Rattle.cap_database.proofs.database.Database.step.Goals as goal

pub invariant_of-self : goal.invariant_of-self
invariant_of-self g c =
    let new = c.step_at.new.tables in
    let was = c.deref_mut.result.now in
    let h = rw (← c.deref_mut.ensures.value) at c.self.invariant in
    let acts = c.operations_keep_tables.ensures in
    rw (with_items_is c.self.inside.tables new (omega (arith, c.step_at.auto.tables, c.deref_mut.ensures.len)))
    (left-tables was new h (λ r. LeavesUnlessMemory r (step was c.args.op.now) new) c.step_at.result c.step_at.ensures.tables
    (λ _. step-tables (each-keeps IsRising acts.insert acts.update acts.delete) was new c.args.op.now h c.step_at.auto.tables) c.step_at.ensures.kept)
