use Rattle.std.proofs.Common.{◌∙◌}
use Rattle.cap_rebase.proofs.LeftLemmas.{kept_one}
use Rattle.cap_rebase.proofs.left.ChangeLeft.all.Goals as goal

pub of-requires : goal.of-requires
of-requires g c = (kept_one c.args.flags.now c.args.change.now _ c.requires c.as_bytes.ensures.values (c.in_ok-bytes.ensures.items ∙ c.as_bytes.ensures.bytes)).left

pub returns : goal.returns
returns g c = c.of.ensures ∙ (kept_one c.args.flags.now c.args.change.now _ c.requires c.as_bytes.ensures.values (c.in_ok-bytes.ensures.items ∙ c.as_bytes.ensures.bytes)).is
