use Rattle.cap_changes.specs.Patch.{patch_list_of}
use Rattle.cap_codec.specs.declared.read.Contents.TheVariants.{Changes, Patches}
use Rattle.cap_core.proofs.KeyedLemmas.{main-rises}
use Rattle.cap_core_laws.proofs.RestartLemmas.{in_a_row}
use Rattle.cap_core_laws.proofs.laws.captures_in_a_row_give_the_rows_now.Goals as goal

pub returns : goal.returns
returns g c =
    let order = c.tables_keep_order.ensures in
    let applies = c.applied_blobs_keep_order.ensures in
    let rises = main-rises order.empty order.run order.create applies in
    let keep = c.tables_keep_columns.ensures in
    let fit = c.captures_fit_their_columns.ensures in
    record {
      changesets = λ policy session start later event database fresh restarted steady holds rise fits.
          in_a_row keep.run keep.create rises applies Changes c.a_changeset_gives_the_rows_now.ensures fit.changeset policy session start fresh database rise event later restarted steady holds fits;
      patchsets = λ policy session start later event database fresh restarted steady holds rise fits.
          in_a_row keep.run keep.create rises applies (λ list. Patches (patch_list_of list)) c.a_patchset_gives_the_rows_now.ensures fit.patchset policy session start fresh database rise event later restarted steady holds fits;
    }
