use Rattle.std.proofs.Common.{[], arith, ap, ◌∙◌}
use Rattle.cap_database.proofs.StayLemmas.{run-carries}
use Rattle.cap_core.specs.Code.Sound.{are_own_sessions}
use Rattle.cap_core.proofs.SoundLemmas.{record_commit_each-stand}
use Rattle.cap_core.proofs.server.Core.commit.Goals as goal

pub invariant_of-self-in-Ok : goal.invariant_of-self-in-Ok
invariant_of-self-in-Ok g c =
    let inside = c.self.inside in
    let told = rw c.in-Ok.is at c.in_ok-write_and_record.ensures in
    let after = c.write_and_record.new.main in
    let same = rw told.1 at (c.tables_keep_columns.ensures.run inside.main c.ops-ops.result.now) in
    let carried = rw told.1 at (run-carries inside.main c.ops-ops.result.now) in (
      omega (arith, c.self.invariant.0),
      omega (arith, c.self.invariant.1),
      ap (are_own_sessions after) told.2
          ∙ record_commit_each-stand inside.main after c.sound_rows_law.ensures (record { each = λ name columns there. same name ∙ there }) told.0 carried [] inside.sessions c.self.invariant.2,
    )
