use Rattle.std.proofs.Common.{refl}
use Rattle.cap_changes.specs.Patch.{patch_list_of}
use Rattle.cap_codec.specs.declared.read.Contents.TheVariants.{Changes, Patches}
use Rattle.cap_core_laws.proofs.AppliedCaptureLemmas.{captured, captured-at, changes_apply}
use Rattle.cap_core.proofs.KeyedLemmas.{main-rises}
use Rattle.cap_core_laws.proofs.laws.a_capture_gives_the_rows_now.Goals as goal

pub returns : goal.returns
returns g c =
    let order = c.tables_keep_order.ensures in
    let rises = main-rises order.empty order.run order.create c.applied_blobs_keep_order.ensures in
    record {
      changeset = λ past session capture database policy is rise fits holds.
          changes_apply past session database rise (rises past fits) holds Changes c.a_changeset_gives_the_rows_now.ensures policy capture.changes (captured past session capture is);
      patchset = λ past session capture database policy is rise fits holds.
          changes_apply past session database rise (rises past fits) holds (λ list. Patches (patch_list_of list)) c.a_patchset_gives_the_rows_now.ensures policy capture.changes (captured past session capture is);
      restart = λ past session. refl;
      version = captured-at;
    }
