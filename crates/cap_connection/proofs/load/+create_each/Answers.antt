use Rattle.cap_connection.proofs.LoadLemmas.{creates_more, creates_none}
use Rattle.cap_connection.proofs.load.+create_each.Goals as goal

pub returns-in-Ok : goal.returns-in-Ok
returns-in-Ok g t c =
    creates_more c.args.groups.now c.group-item.result c.args.connection.now c.create.new.connection c.create.result c.in-len1-up.len_at_least c.group-item.is c.create.ensures
    c.create_each.new.connection c.in-Ok.field-0 c.create_each.result c.in-Ok.is c.create_each.ensures

pub returns-in-Err : goal.returns-in-Err
returns-in-Err g t c =
    creates_none c.args.groups.now c.group-item.result c.args.connection.now c.create.new.connection c.create.result c.in-len1-up.len_at_least c.group-item.is c.create.ensures c.in-Err.why c.in-Err.is
