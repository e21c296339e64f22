use Rattle.std.proofs.Common.{◌≡◌, Some, arith}
use Rattle.std.proofs.lemmas.List.{with_items_is}
use Rattle.std.specs.Prelude.{OnOk}
use Rattle.cap_database.specs.Keyed.{row_set}
use Rattle.cap_database.proofs.BackLemmas.{left-tables, set-tables}
use Rattle.cap_database.proofs.database.Database.put_row.Goals as goal

pub invariant_of-self : goal.invariant_of-self
invariant_of-self g c =
    let new = c.put_in.new.tables in
    let was = c.deref_mut.result.now in
    let h = rw (← c.deref_mut.ensures.value) at c.self.invariant in
    let own = rw (← c.self.view_is, ← c.deref_mut.ensures.value) at c.requires.own in
    rw (with_items_is c.self.inside.tables new (omega (arith, c.put_in.auto.tables, c.deref_mut.ensures.len)))
    (left-tables was new h (λ r. OnOk r (new ≡ row_set was c.args.table.now c.args.key (Some c.args.row))) c.put_in.result c.put_in.ensures.set
    (λ _. set-tables was new h c.args.table.now c.args.key (Some c.args.row)
    (λ table is rises. c.keyed_rows_keep_tables.ensures.put table c.args.key c.args.row rises (own table is).0 (own table is).1) c.put_in.auto.tables) c.put_in.ensures.kept)
