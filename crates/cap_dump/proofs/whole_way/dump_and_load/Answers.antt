use Rattle.std.proofs.Common.{sym}
use Rattle.cap_apply.proofs.OrderLemmas.{found-rises}
use Rattle.cap_dump.proofs.whole_way.dump_and_load.Goals as goal

pub carry-requires : goal.carry-requires
carry-requires g c = found-rises c.args.database.now c.args.name.now c.in-Some.table.now c.sound_rows_law.ensures (sym c.in-Some.ensures)
