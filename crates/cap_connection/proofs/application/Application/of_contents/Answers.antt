use Rattle.std.proofs.Common.{sym, subst}
use Rattle.std.specs.Global.{Global}
use Rattle.cap_database.specs.Snapshot.{SnapshotState}
use Rattle.cap_database.specs.Tables.{Tables}
use Rattle.cap_applier.specs.Applier.{begun}
use Rattle.cap_applier.specs.Looked.{KeepsTo}
use Rattle.cap_applier.specs.Reach.{IsReached}
use Rattle.cap_connection.proofs.application.Application.of_contents.Goals as goal

pub invariant_of-result : goal.invariant_of-result
invariant_of-result c =
    let law = c.applications_keep_to_the_rows_that_they_look_at.ensures in
    let base = c.args.snapshot.now.database in
    let applier = c.in_ok-applier.applier in
    let reached = subst (λ (tables : Tables Global). IsReached (begun tables c.args.blob c.args.filter) applier) c.database.ensures c.in_ok-applier.ensures in
    let kept = law.between base (begun base c.args.blob c.args.filter) applier (law.first base c.args.blob c.args.filter) reached in
    subst (λ (b : SnapshotState Global). KeepsTo b.database applier) (sym c.in_ok-copy.ensures) kept
