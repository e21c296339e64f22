use Rattle.std.proofs.Common.{[], arith}
use Rattle.cap_apply.proofs.FieldLemmas.{no_old}
use Rattle.cap_apply.proofs.requested_ref.RequestedRef.conflict.Goals as goal

pub returns-else-self : goal.returns-else-self
returns-else-self g c = grind (arith, no_old {A = g.row.A.Denot} c.args.columns.now [])
