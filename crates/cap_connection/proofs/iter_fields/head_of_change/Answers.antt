use Rattle.std.proofs.Common.{ap}
use Rattle.cap_connection.specs.Fields.{head_of_change}
use Rattle.cap_connection.proofs.iter_fields.head_of_change.Goals as goal

pub returns-in-Insert : goal.returns-in-Insert
returns-in-Insert c = ap head_of_change c.in-Insert.ensures

pub returns-in-Update : goal.returns-in-Update
returns-in-Update c = ap head_of_change c.in-Update.ensures

pub returns-in-Delete : goal.returns-in-Delete
returns-in-Delete c = ap head_of_change c.in-Delete.ensures
