use Rattle.std.proofs.Common.{arith, ap, length}
use Rattle.cap_changes.proofs.GroupLemmas.{written_back}
use Rattle.cap_changes.proofs.group.TableGroup+RowChange+A+A.invert.Goals as goal

pub write_inverses-requires : goal.write_inverses-requires
write_inverses-requires g c = rw (c.flags.ensures.flags, c.as_mut_slice.ensures.value, c.as_slice.ensures.value) c.self.invariant

pub invariant_of-self : goal.invariant_of-self
invariant_of-self g c =
    rw (written_back c.self.inside.bytes.len c.write_inverses.new.bytes c.self.inside.bytes.items (omega (arith, c.write_inverses.auto.bytes, ap length c.as_mut_slice.ensures.value)) (omega (arith, c.self.inside.bytes.ok.0))) (rw (c.flags.ensures.flags, c.as_slice.ensures.value) at c.write_inverses.ensures.kept)
