use Rattle.std.proofs.Common.{ap}
use Rattle.cap_table.specs.Table.{TableState}
use Rattle.cap_table.proofs.KeptKeyLemmas.{allowed, deleted}
use Rattle.cap_table.proofs.TableLemmas.{take_keyed}
use Rattle.cap_table.proofs.table.Table.delete_keyed_hooked.Goals as goal

pub remove_hooked-requires : goal.remove_hooked-requires
remove_hooked-requires g c =
    rw (ap (λ (t : TableState g.row.A.Denot). t.keyed) c.self.view_is) (λ there. c.requires _ (allowed (deleted c.args.self.now c.args.key.now) there))

pub invariant_of-self : goal.invariant_of-self
invariant_of-self g c = rw c.in-Ok.ensures.ok (take_keyed _ c.args.key.now c.self.invariant)
