use Rattle.cap_changes.specs.Patch.{patch_list_of}
use Rattle.cap_codec.specs.declared.read.Contents.TheVariants.{Changes, Patches}
use Rattle.cap_core_laws.proofs.DiffedLemmas.{diff-applies}
use Rattle.cap_core.proofs.KeyedLemmas.{main-rises}
use Rattle.cap_core_laws.proofs.SavedLemmas.{found-rises}
use Rattle.cap_core_laws.proofs.laws.a_capture_after_a_diff_gives_the_rows_now.Goals as goal

pub returns : goal.returns
returns g c =
    let order = c.tables_keep_order.ensures in
    let rises = main-rises order.empty order.run order.create c.applied_blobs_keep_order.ensures in
    let just = c.differences_are_just_those.ensures in
    record {
      changeset = λ past event later session name database table capture policy d quiet fits is.
          diff-applies past event session name database table d just (found-rises rises past fits d.from database d.database_is) (rises past fits) later quiet Changes c.a_changeset_gives_the_rows_now.ensures policy capture is;
      patchset = λ past event later session name database table capture policy d quiet fits is.
          diff-applies past event session name database table d just (found-rises rises past fits d.from database d.database_is) (rises past fits) later quiet (λ list. Patches (patch_list_of list)) c.a_patchset_gives_the_rows_now.ensures policy capture is;
    }
