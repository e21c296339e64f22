use Rattle.std.proofs.Common.{length}
use Rattle.cap_row.proofs.update.+names.Given as goal

abbrev pub decreases-names : goal.decreases-names
decreases-names g l = length l.fields.now
