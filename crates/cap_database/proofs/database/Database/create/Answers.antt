use Rattle.std.proofs.Common.{length, arith, sym, ap, subst, ◌∙◌}
use Rattle.cap_table.specs.Sound.{IsRising}
use Rattle.cap_database.proofs.StepLemmas.{after_create, created_is, created_first}
use Rattle.cap_database.proofs.database.Database.create.Goals as goal

pub invariant_of-self-2 : goal.invariant_of-self-2
invariant_of-self-2 g c =
    after_create c.self.inside.tables.items c.put_at.new.tables.items c.args.name c.empty-table.result c.self.invariant
    (subst IsRising (sym c.empty-table.ensures) (c.operations_keep_tables.ensures.empty c.args.schema)) (c.in_ok-put_at.ensures.ok ∙ sym (rw c.deref.ensures.value at (c.in-Err.ensures.put c.empty-table.result))) (omega (arith, ap length c.deref.ensures.value, c.deref.ensures.len))

pub returns-clause-tables : goal.returns-clause-tables
returns-clause-tables g c =
    created_is c.self.inside.tables.items c.args.name _ c.put_at.new.tables.items c.args.schema c.empty-table.result c.self.view_is (rw c.deref.ensures.value at c.in-Err.ensures.there) (omega (arith, ap length c.deref.ensures.value, c.deref.ensures.len)) c.empty-table.ensures
    (c.in_ok-put_at.ensures.ok ∙ sym (rw c.deref.ensures.value at (c.in-Err.ensures.put c.empty-table.result)))

pub returns-clause-first : goal.returns-clause-first
returns-clause-first g c = created_first c.self.inside.tables.items c.args.name _ _ c.self.view_is (rw c.deref.ensures.value at c.in-Err.ensures.there) (omega (arith, ap length c.deref.ensures.value, c.deref.ensures.len))
