-- A row with some of its fields set.
use Rattle.std.specs.Prelude.{ℕ, List, [], ◌∷◌, Bool, true, Result, Ok, Err, length, map, nat_lt, nat_eq}
use Rattle.std.specs.Prelude.{◌==◌, ◌&&◌, not, if◌then◌else◌}
use Rattle.std.specs.List.{list_any, enumerate_from}
use Rattle.cap_value.specs.declared.refusal.Refusal.{Refusal}
use Rattle.cap_value.specs.declared.refusal.Refusal.TheVariants.{BadColumn}
use Rattle.cap_value.specs.declared.value.Value.{Value}
use Rattle.cap_row.specs.Fields.{Fields}

-- each column is in the table, and none is named twice
abbrev pub are_columns : ℕ → List ℕ → Bool
are_columns width [] = true
are_columns width (column ∷ columns) =
    nat_lt column width && not (list_any (nat_eq column) columns) && are_columns width columns

module _ {A : Type 0} where
  -- the columns that changes name
  abbrev pub columns_of : List (ℕ × Value A) → List ℕ
  columns_of changes = map (λ change. change.0) changes

  -- the value that the changes give to a column, or the old one where they do not name it
  abbrev pub new_value : List (ℕ × Value A) → ℕ → Value A → Value A
  new_value [] column old = old
  new_value (change ∷ changes) column old =
      if change.0 == column then change.1 else new_value changes column old

  -- the row with just these fields set
  abbrev pub row_with : List (ℕ × Value A) → Fields A → Fields A
  row_with changes row = map (λ field. new_value changes field.0 field.1) (enumerate_from 0 row)

  -- the same, refused where a column is outside the table or named twice
  abbrev pub with_fields : List Bool → Fields A → List (ℕ × Value A) → Result (Fields A) Refusal
  with_fields flags row changes =
      if are_columns (length flags) (columns_of changes) then Ok (row_with changes row) else Err BadColumn
