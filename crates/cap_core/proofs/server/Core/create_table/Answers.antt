use Rattle.std.proofs.Common.{subst}
use Rattle.cap_core.specs.Answer.{State}
use Rattle.cap_core.specs.Code.Sound.{KeepsColumns}
use Rattle.cap_core.proofs.server.Core.create_table.Goals as goal

pub reserve_and_publish-requires-clause-kept : goal.reserve_and_publish-requires-clause-kept
reserve_and_publish-requires-clause-kept g c =
    subst (λ (s : State g.row.A.Denot). KeepsColumns s.main c.in-Ok.tables) c.self.view_is
    (record { each = rw c.in-Ok.ensures at (c.tables_keep_columns.ensures.create c.self.inside.main c.args.name.now c.args.schema.now) })
