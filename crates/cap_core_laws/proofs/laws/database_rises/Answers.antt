use Rattle.cap_core.proofs.KeyedLemmas.{sorted}
use Rattle.cap_value.specs.Bytes.{bytes_cmp}
use Rattle.cap_core_laws.proofs.laws.database_rises.Goals as goal

pub returns : goal.returns
returns g c = record { names = sorted bytes_cmp c.args.database.now c.len-tables.ensures.ordered; each = c.sound_rows_law.ensures }
