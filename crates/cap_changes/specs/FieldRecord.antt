-- The fields of a record.
use Rattle.std.specs.Prelude.{List, Option}
use Rattle.cap_value.specs.declared.value.Value.{Value}

-- one field for each column, undefined where it is None
abbrev pub RecordFields : Type 0 → Type 0
RecordFields A = List (Option (Value A))
