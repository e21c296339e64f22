use Rattle.std.proofs.Common.{◌∙◌, ap, Some}
use Rattle.cap_changes.specs.declared.row_change.RowChange.{RowChange}
use Rattle.cap_rebase.specs.Flag.{flagged}
use Rattle.cap_rebase.proofs.LeftLemmas.{flagged_kept}
use Rattle.cap_rebase.proofs.left.ChangeLeft.flagged.Goals as goal

pub of-requires : goal.of-requires
of-requires g c =
    (flagged_kept c.args.flags.now c.args.indirect c.args.change.now _ c.new-bytes.result.items c.push_flagged.new.out.items _ c.new-bytes.ensures.items c.read.ensures c.in_ok-push_flagged.ensures c.requires c.as_bytes-bytes.ensures.values).left

pub returns : goal.returns
returns g c =
    c.of.ensures
    ∙ (flagged_kept c.args.flags.now c.args.indirect c.args.change.now _ c.new-bytes.result.items c.push_flagged.new.out.items _ c.new-bytes.ensures.items c.read.ensures c.in_ok-push_flagged.ensures c.requires c.as_bytes-bytes.ensures.values).is
