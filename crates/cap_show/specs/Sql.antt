-- Changesets and patchsets as SQL: a statement for each change, on a line, between `BEGIN;` and `COMMIT;`.
use Rattle.std.specs.Prelude.{ℕ, ◌+◌, ◌==◌, not, Bool, true, false, List, [], ◌∷◌, ◌++◌, Some, None, codes}
use Rattle.std.specs.Prelude.{if◌then◌else◌}
use Rattle.std.specs.Fmt.{signed_decimal}
use Rattle.std.specs.List.{filter_map, flat_map, join_by, list_any}
use Rattle.cap_value.specs.declared.value.Value.{Value}
use Rattle.cap_value.specs.declared.value.Value.TheVariants.{Null, Int, Text, Blob}
use Rattle.cap_changes.specs.Entries.{TableEntries}
use Rattle.cap_changes.specs.FieldRecord.{RecordFields}
use Rattle.cap_changes.specs.declared.row_change.RowChange.{RowChange}
use Rattle.cap_changes.specs.declared.row_change.RowChange.TheVariants as changed
use Rattle.cap_changes.specs.declared.patch.Patch.{Patch}
use Rattle.cap_changes.specs.declared.patch.Patch.TheVariants as patched
use Rattle.cap_show.specs.Json.{column_name}
use Rattle.cap_show.specs.ShowText.{blob_text, quoted}

-- a table's name, between double quotes
abbrev pub identifier : List ℕ → List ℕ
identifier name = quoted 34 name

-- the bytes of a text, cast
abbrev pub cast_text : List ℕ → List ℕ
cast_text bytes = codes "CAST(" ++ (blob_text bytes ++ codes " AS TEXT)")

-- a text as a literal. SQLite reads none behind a zero byte, so a text with one is cast
abbrev pub text_literal : List ℕ → List ℕ
text_literal text = if list_any (λ byte. byte == 0) text then cast_text text else quoted 39 text

-- whether a column with this key flag is among those of the key, or among the others
abbrev pub is_asked : Bool → Bool → Bool
is_asked of_key is_key = if of_key then is_key else not is_key

-- what stands between two equations of the key, or of the other columns
abbrev pub separator : Bool → List ℕ
separator of_key = if of_key then codes " AND " else codes ", "

-- a statement, unless there is no such equation
abbrev pub unless_none : List (List ℕ) → List ℕ → List ℕ
unless_none [] statement = []
unless_none (first ∷ others) statement = statement

module _ {A : Type 0} where
  abbrev pub literal : Value A → List ℕ
  literal Null = codes "NULL"
  literal (Int number) = signed_decimal number
  literal (Text text) = text_literal text
  literal (Blob bytes) = blob_text bytes

  -- the defined fields of a record, with commas between them
  abbrev pub values : RecordFields A → List ℕ
  values fields = join_by literal (codes ",") (filter_map (λ field. field) fields)

  -- a column and its value
  abbrev pub equation : ℕ → Value A → List ℕ
  equation column value = column_name column ++ (codes "=" ++ literal value)

  -- one for each defined field of the key, or of the other columns, from this column on
  abbrev pub equations : Bool → ℕ → List Bool → RecordFields A → List (List ℕ)
  equations of_key column (is_key ∷ flags) (Some value ∷ fields) =
      if is_asked of_key is_key then equation column value ∷ equations of_key (column + 1) flags fields
      else equations of_key (column + 1) flags fields
  equations of_key column (is_key ∷ flags) (None ∷ fields) = equations of_key (column + 1) flags fields
  equations of_key column (is_key ∷ flags) [] = []
  equations of_key column [] fields = []

  -- all of them, for a table with these key flags
  abbrev pub joined : Bool → List Bool → RecordFields A → List ℕ
  joined of_key flags fields =
      join_by (λ text. text) (separator of_key) (equations of_key 0 flags fields)

  abbrev pub insert_text : List ℕ → RecordFields A → List ℕ
  insert_text table new =
      codes "INSERT INTO " ++ (identifier table ++ (codes " VALUES(" ++ (values new ++ codes ");\n")))

  -- the modified fields are set in the row with this key
  abbrev pub set_text : List ℕ → List Bool → RecordFields A → RecordFields A → List ℕ
  set_text table flags key new =
      codes "UPDATE " ++ (identifier table ++ (codes " SET " ++ (joined false flags new
      ++ (codes " WHERE " ++ (joined true flags key ++ codes ";\n")))))

  abbrev pub update_text : List ℕ → List Bool → RecordFields A → RecordFields A → List ℕ
  update_text table flags key new =
      unless_none (equations false 0 flags new) (set_text table flags key new)

  abbrev pub delete_text : List ℕ → List Bool → RecordFields A → List ℕ
  delete_text table flags key =
      codes "DELETE FROM " ++ (identifier table ++ (codes " WHERE "
      ++ (joined true flags key ++ codes ";\n")))

  -- a change of a changeset to the table of this name and with these key flags
  abbrev pub change_sql : List ℕ → List Bool → RowChange A → List ℕ
  change_sql table flags (changed.Insert indirect new) = insert_text table new
  change_sql table flags (changed.Update indirect old new) = update_text table flags old new
  change_sql table flags (changed.Delete indirect old) = delete_text table flags old

  -- a change of a patchset
  abbrev pub patch_sql : List ℕ → List Bool → Patch A → List ℕ
  patch_sql table flags (patched.Insert indirect new) = insert_text table new
  patch_sql table flags (patched.Update indirect new) = update_text table flags new new
  patch_sql table flags (patched.Delete indirect key) = delete_text table flags key

module _ {X : Type 0} (one : List ℕ → List Bool → X → List ℕ) where
  -- the changes of a table
  abbrev pub group_sql : TableEntries X → List ℕ
  group_sql group = flat_map (one group.table group.schema) group.changes

  abbrev pub list_sql : List (TableEntries X) → List ℕ
  list_sql groups = codes "BEGIN;\n" ++ (flat_map group_sql groups ++ codes "COMMIT;\n")

abbrev pub changeset_sql : {A : Type 0} → List (TableEntries (RowChange A)) → List ℕ
changeset_sql groups = list_sql change_sql groups

abbrev pub patchset_sql : {A : Type 0} → List (TableEntries (Patch A)) → List ℕ
patchset_sql groups = list_sql patch_sql groups
