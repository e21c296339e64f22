use Rattle.std.specs.Prelude.{length}
use Rattle.cap_table.proofs.hooked.+names_key_column.Given as goal

abbrev pub decreases-names_key_column : goal.decreases-names_key_column
decreases-names_key_column g l = length l.fields.now
