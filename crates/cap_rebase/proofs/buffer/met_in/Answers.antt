use Rattle.std.proofs.Common.{◌∙◌}
use Rattle.cap_rebase.proofs.LeftLemmas.{fits_at}
use Rattle.cap_rebase.proofs.buffer.met_in.Goals as goal

pub answered-requires : goal.answered-requires
answered-requires g c =
    fits_at c.args.group.now.schema c.flags-flags.result.now c.args.group.now.changes c.changes-changes.result _ c.in-Some.change (c.flags-flags.ensures.flags ∙ c.schema.ensures.schema) c.changes-changes.ensures.changes c.in-Some.ensures c.changes-changes.ensures.fit
