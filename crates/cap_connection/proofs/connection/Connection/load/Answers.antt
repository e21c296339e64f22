use Rattle.std.proofs.Common.{refl}
use Rattle.std.specs.Prelude.{Ok, Err}
use Rattle.cap_connection.proofs.connection.Connection.load.Goals as goal

pub returns-in-Err : goal.returns-in-Err
returns-in-Err c = (c.look_at.new.connection, Err c.in-Err.why, (rw c.contents.ensures at c.in-Err.ensures), (refl, refl, refl))

pub returns-in-Err-create_tables : goal.returns-in-Err-create_tables
returns-in-Err-create_tables c = (
  c.look_at.new.connection,
  Ok c.in-Ok.field-0,
  (rw c.contents.ensures at c.in-Ok.ensures),
  (c.create_tables.new.connection, Err c.in-Err-create_tables.why, (rw c.contents-2.ensures at c.in-Err-create_tables.ensures), (refl, refl, refl)),
)

pub returns : goal.returns
returns c = (
  c.look_at.new.connection,
  Ok c.in-Ok.field-0,
  (rw c.contents.ensures at c.in-Ok.ensures),
  (c.create_tables.new.connection, Ok c.in-Ok-create_tables.field-0, (rw c.contents-2.ensures at c.in-Ok-create_tables.ensures), (rw (c.always.ensures, c.none.ensures) at c.apply.ensures)),
)
