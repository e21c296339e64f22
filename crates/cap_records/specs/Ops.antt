-- Operations whose arguments are bytes.
use Rattle.std.specs.Prelude.{ℕ, List, Result, Ok}
use Rattle.std.specs.Global.{Global}
use Rattle.cap_database.specs.declared.cause.Cause.{Cause}
use Rattle.cap_database.specs.declared.op.Action.{Action}
use Rattle.cap_database.specs.declared.op.Action.TheVariants.{Insert, Update, Delete}
use Rattle.cap_database.specs.declared.op.Op.{Op}
use Rattle.cap_records.specs.Arguments.{row_argument, table_argument}
use Rattle.cap_records.specs.Fault.{malformed, ◌>>=◌}
use Rattle.cap_records.specs.Record.{assigned_in, row_in}
use Rattle.cap_records.specs.declared.fault.RecordFault.{RecordFault}

abbrev pub op_on : List ℕ → Cause → Action Global → Op Global
op_on table cause action = record { table = table; cause = cause; action = action }

-- the row of a record is added
abbrev pub insert_in : List ℕ → List ℕ → Cause → Result (Op Global) RecordFault
insert_in table row cause = do
  name ← table_argument table
  fields ← malformed (row_in row)
  Ok (op_on name cause (Insert fields))

-- the columns that a record defines are set
abbrev pub update_in : List ℕ → List ℕ → ℕ → List ℕ → Cause → Result (Op Global) RecordFault
update_in table key id fields cause = do
  names ← row_argument table key id
  assigned ← malformed (assigned_in fields)
  Ok (op_on names.0 cause (Update names.1 assigned))

abbrev pub delete_in : List ℕ → List ℕ → ℕ → Cause → Result (Op Global) RecordFault
delete_in table key id cause = do
  names ← row_argument table key id
  Ok (op_on names.0 cause (Delete names.1))
