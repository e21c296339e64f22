use Rattle.std.proofs.Common.{length}
use Rattle.cap_row.proofs.update.+are_few_columns.Given as goal

abbrev pub decreases-are_few_columns : goal.decreases-are_few_columns
decreases-are_few_columns g l = length l.fields.now
