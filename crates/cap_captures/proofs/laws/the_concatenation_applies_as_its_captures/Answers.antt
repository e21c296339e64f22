use Rattle.cap_changes.specs.Patch.{patch_list_of}
use Rattle.cap_codec.specs.declared.read.Contents.TheVariants.{Changes, Patches}
use Rattle.cap_core.proofs.KeyedLemmas.{main-rises}
use Rattle.cap_captures.proofs.EachLemmas.{as-one}
use Rattle.cap_captures.proofs.laws.the_concatenation_applies_as_its_captures.Goals as goal

pub returns : goal.returns
returns g c =
    let order = c.tables_keep_order.ensures in
    let applies = c.applied_blobs_keep_order.ensures in
    let rises = main-rises order.empty order.run order.create applies in
    let keep = c.tables_keep_columns.ensures in
    let gives = c.a_changeset_gives_the_rows_now.ensures in
    let fit = c.captures_fit_their_columns.ensures in
    record {
      changesets = λ policy session start later event database blob fresh restarted steady fits rise holds is.
          as-one keep.run keep.create rises session start fresh applies gives fit.changeset Changes gives fit.changeset policy database rise event later restarted steady fits holds blob is;
      patchsets = λ policy session start later event database blob fresh restarted steady fits rise holds is.
          as-one keep.run keep.create rises session start fresh applies gives fit.changeset (λ list. Patches (patch_list_of list)) c.a_patchset_gives_the_rows_now.ensures fit.patchset
          policy database rise event later restarted steady fits holds blob is;
    }
