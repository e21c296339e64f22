use Rattle.std.proofs.Common.{arith, inl, inr}
use Rattle.cap_row.proofs.key.Values.drop.Goals as goal

pub drop-self-requires-in-Many-1-room-T-Destruct : goal.drop-self-requires-in-Many-1-room-T-Destruct
drop-self-requires-in-Many-1-room-T-Destruct g c κs within = elim g.met.A.AllocHandle.handle [ inl e ↦ rw (e.0, e.1) (omega arith) | inr e ↦ rw (e.0, e.1) (omega arith) ]
