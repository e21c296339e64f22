use Rattle.cap_apply_laws.proofs.RunLemmas.{apply-runs, changes-are-run, patches-are-run}
use Rattle.cap_apply_laws.proofs.laws.changes_are_made_by_operations.Goals as goal

pub returns : goal.returns
returns g c = record { changeset = changes-are-run; patchset = patches-are-run; blob = apply-runs c.tables_keep_order.ensures.run }
