use Rattle.std.proofs.Common.{arith}
use Rattle.cap_value.specs.Bytes.{bytes_cmp}
use Rattle.cap_dump.proofs.RowLemmas.{sorted_from}
use Rattle.cap_dump.proofs.dump_bytes.is_loaded_again.Goals as goal

pub returns : goal.returns
returns g c =
    c.dumps_are_loaded_again.ensures.parts c.args.database.now
    (record { names = sorted_from bytes_cmp c.args.database.now c.len-tables.ensures.ordered; each = c.sound_rows_law.ensures })
    (omega (arith, c.len-tables.ensures.tables, c.len-tables.ensures.few))
