use Rattle.std.proofs.Common.{◌≡◌, None, arith}
use Rattle.std.proofs.lemmas.List.{with_items_is}
use Rattle.std.specs.Prelude.{OnOk}
use Rattle.cap_database.specs.Keyed.{row_set}
use Rattle.cap_database.proofs.BackLemmas.{left-tables, set-tables, take-none}
use Rattle.cap_database.proofs.database.Database.take_row.Goals as goal

pub invariant_of-self : goal.invariant_of-self
invariant_of-self g c =
    let new = c.take_from.new.tables in
    let was = c.deref_mut.result.now in
    let h = rw (← c.deref_mut.ensures.value) at c.self.invariant in
    rw (with_items_is c.self.inside.tables new (omega (arith, c.take_from.auto.tables, c.deref_mut.ensures.len)))
    (left-tables was new h (λ r. OnOk r (new ≡ row_set was c.args.table.now c.args.key.now None)) c.take_from.result c.take_from.ensures.set
    (λ _. set-tables was new h c.args.table.now c.args.key.now None (λ table is. c.keyed_rows_keep_tables.ensures.take table c.args.key.now) c.take_from.auto.tables) c.take_from.ensures.kept)

pub returns-clause-none : goal.returns-clause-none
returns-clause-none g c =
    let new = c.take_from.new.tables in
    let was = c.deref_mut.result.now in
    let h = rw (← c.deref_mut.ensures.value) at c.self.invariant in
    rw (← c.self.view_is, with_items_is c.self.inside.tables new (omega (arith, c.take_from.auto.tables, c.deref_mut.ensures.len)), ← c.deref_mut.ensures.value)
    (take-none was new h c.args.table.now c.args.key.now c.take_from.result c.take_from.ensures.set c.take_from.ensures.before)
