use Rattle.std.proofs.Common.{true, false}
use Rattle.cap_rebase.proofs.LeftLemmas.{flagged_left_fits, nothing_fits}
use Rattle.cap_rebase.proofs.buffer.answered.Goals as goal

pub returns-in-Omit-clause-fits : goal.returns-in-Omit-clause-fits
returns-in-Omit-clause-fits g c = flagged_left_fits c.args.flags.now false c.args.change.now c.flagged.result c.flagged.ensures c.requires

pub returns-in-Replace-clause-fits : goal.returns-in-Replace-clause-fits
returns-in-Replace-clause-fits g c = flagged_left_fits c.args.flags.now true c.args.change.now c.flagged-in-Replace.result c.flagged-in-Replace.ensures c.requires

pub returns-in-Abort-clause-fits : goal.returns-in-Abort-clause-fits
returns-in-Abort-clause-fits g c = nothing_fits c.args.flags.now c.nothing.result c.nothing.ensures
