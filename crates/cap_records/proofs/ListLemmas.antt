-- What a loop over the fields of a record has still to make.
use Rattle.std.proofs.Common.{ℕ}
use Rattle.std.specs.List.{enumerate_from, flat_map}
use Rattle.std.specs.Global.{Global}
use Rattle.cap_changes.specs.FieldRecord.{RecordFields}
use Rattle.cap_database.specs.Assigned.{Assigned}
use Rattle.cap_records.specs.Record.{column_set}

-- the columns that are defined, of fields from this column on
abbrev pub columns_from : ℕ → RecordFields Global → Assigned Global
columns_from column fields = flat_map column_set (enumerate_from column fields)
