use Rattle.cap_show.proofs.sql.write_insert.Goals as goal

pub returns : goal.returns
returns g c = rw c.as_str.ensures.bytes at c.writeln.ensures.bytes
