use Rattle.std.proofs.Common.{◌≡◌, Ok, arith}
use Rattle.std.proofs.lemmas.List.{with_items_is}
use Rattle.cap_table.specs.Sound.{IsRising}
use Rattle.std.specs.Prelude.{OnOk}
use Rattle.cap_database.specs.Operation.{step}
use Rattle.cap_database.proofs.BackLemmas.{left-tables}
use Rattle.cap_database.proofs.KeptKeyLemmas.{changes-of-key}
use Rattle.cap_database.proofs.KeptLemmas.{each-keeps, step-tables}
use Rattle.cap_database.proofs.StepLemmas.{agreed}
use Rattle.cap_database.proofs.database.Database.step_keyed.Goals as goal

pub invariant_of-self : goal.invariant_of-self
invariant_of-self g c =
    let new = c.step_keyed_at.new.tables in
    let was = c.deref_mut.result.now in
    let h = rw (← c.deref_mut.ensures.value) at c.self.invariant in
    let acts = c.operations_keep_tables.ensures in
    rw (with_items_is c.self.inside.tables new (omega (arith, c.step_keyed_at.auto.tables, c.deref_mut.ensures.len)))
    (left-tables was new h (λ r. OnOk r (step was c.args.op.now ≡ Ok new)) c.step_keyed_at.result (agreed c.step_keyed_at.result (step was c.args.op.now) new _ _ c.step_keyed_at.ensures.tables)
    (λ _. step-tables (each-keeps IsRising acts.insert acts.update acts.delete) was new c.args.op.now h c.step_keyed_at.auto.tables) c.step_keyed_at.ensures.kept)

pub returns-clause-changes : goal.returns-clause-changes
returns-clause-changes g c = changes-of-key c.args.self.now (rw c.self.view_is at c.self.invariant.each) c.args.op.now c.args.key.now c.requires.key
