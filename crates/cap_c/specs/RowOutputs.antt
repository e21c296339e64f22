-- The outputs for the row at which a cursor stands.
use Rattle.std.specs.Prelude.{◌≡◌, ℕ, Bool, List, Option, Some}
use Rattle.std.specs.Option.{option_map}
use Rattle.cap_records.specs.Rows.{RowCursorState, Steps, value_of}
use Rattle.cap_c.specs.IterOutputs.{step_status}
use Rattle.cap_c.specs.Outputs.{value_bytes, value_output}
use Rattle.cap_c.specs.declared.change_info.FieldValue.{FieldValue}

-- the status says whether there is a next row
pub record StepsTo (status : ℕ) (old new : RowCursorState) : Type 0 where
  pub is_row : Bool
  pub stepped : Steps old new is_row
  pub status_is : status ≡ step_status is_row

-- a value of the row
abbrev pub column_output : RowCursorState → ℕ → Option FieldValue
column_output cursor column = option_map (λ value. value_output (Some value)) (value_of cursor column)

-- the bytes of a text or a blob
abbrev pub column_bytes : RowCursorState → ℕ → Option (List ℕ)
column_bytes cursor column = option_map (λ value. value_bytes (Some value)) (value_of cursor column)
