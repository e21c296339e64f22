use Rattle.std.proofs.Common.{length}
use Rattle.cap_row.proofs.update.+new_value.Given as goal

abbrev pub decreases-new_value : goal.decreases-new_value
decreases-new_value g l = length l.changes.now
