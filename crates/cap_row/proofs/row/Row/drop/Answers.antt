use Rattle.std.proofs.Common.{arith, inl, inr}
use Rattle.cap_row.proofs.row.Row.drop.Goals as goal

pub drop-self-inside-requires-room-T-Destruct : goal.drop-self-inside-requires-room-T-Destruct
drop-self-inside-requires-room-T-Destruct g c κs within = elim g.met.A.AllocHandle.handle [ inl e ↦ rw (e.0, e.1) (omega arith) | inr e ↦ rw (e.0, e.1) (omega arith) ]
