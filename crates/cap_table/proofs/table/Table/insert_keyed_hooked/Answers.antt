use Rattle.std.proofs.Common.{Some, ap, subst, sym}
use Rattle.cap_table.specs.Table.{TableState}
use Rattle.cap_table.proofs.KeptKeyLemmas.{allowed, inserted, new-own, none-there}
use Rattle.cap_table.proofs.TableLemmas.{put_keyed}
use Rattle.cap_table.proofs.table.Table.insert_keyed_hooked.Goals as goal

pub insert_hooked-requires : goal.insert_hooked-requires
insert_hooked-requires g c =
    rw (ap (λ (t : TableState g.row.A.Denot). t.keyed) c.self.view_is) (λ free. subst (λ p. g.H.Hook.can_ask c.args.hook.now p (Some c.args.row)) (sym (none-there _ free)) (c.requires.can_ask _ (allowed (inserted c.args.self.now c.args.row c.args.key c.requires.own) free)))

pub invariant_of-self : goal.invariant_of-self
invariant_of-self g c =
    let own = rw (← c.self.view_is) at (new-own c.args.self.now c.args.row c.args.key c.requires.own) in
    rw c.in-Ok.ensures.ok (put_keyed _ c.args.key c.args.row c.self.invariant own.0 own.1)
