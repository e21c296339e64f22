-- The lines of a workload that make the tables and rows of a dump.
use Rattle.std.specs.Prelude.{ℕ, ◌+◌, ◌==◌, ◌&&◌, ◌||◌, Bool, false, not, List, [], ◌∷◌, ◌++◌}
use Rattle.std.specs.Prelude.{Option, Some, None, Result, Ok, Err, codes, if◌then◌else◌}
use Rattle.std.specs.Char.{is_ascii_alphabetic}
use Rattle.std.specs.List.{flat_map, list_all}
use Rattle.hex.specs.Hex.{encode_lower}
use Rattle.cap_value.specs.Bytes.{bytes_eq}
use Rattle.cap_row.specs.Schema.{flags_eq}
use Rattle.cap_filter.specs.Tokens.{is_word_byte}
use Rattle.cap_changes.specs.Entries.{TableEntries}
use Rattle.cap_changes.specs.declared.row_change.RowChange.{RowChange}
use Rattle.cap_codec.specs.declared.read.Contents.{Contents}
use Rattle.cap_codec.specs.declared.read.Contents.TheVariants.{Changes, Patches}
use Rattle.cap_files.specs.Summary.{is_change}
use Rattle.cap_files.specs.declared.counts.Counted.TheVariants.{Inserts}
use Rattle.cap_files.specs.declared.load.CreatedTable.{CreatedTable}
use Rattle.cap_files.specs.declared.load.LoadFault.{LoadFault}
use Rattle.cap_files.specs.declared.load.LoadFault.TheVariants.{NoInsert, NoWord, OtherColumns, Patchset}

-- an ASCII letter or `_`
abbrev pub is_letter : ℕ → Bool
is_letter byte = is_ascii_alphabetic byte || byte == 95

-- what a workload can name a table by
abbrev pub is_word : List ℕ → Bool
is_word [] = false
is_word (byte ∷ bytes) = is_letter byte && list_all is_word_byte bytes

-- `k` for a column of the key, `v` for another
abbrev pub column_text : Bool → List ℕ
column_text is_key = if is_key then codes "k" else codes "v"

-- the line that creates a table with these columns
unfoldable pub create_line : List ℕ → List Bool → List ℕ
create_line table flags = codes "create " ++ (table ++ (codes " " ++ (flat_map column_text flags ++ 10 ∷ [])))

-- the line that applies a blob, and refuses it where a row differs, is missing, or is there already
unfoldable pub apply_line : List ℕ → List ℕ
apply_line bytes = codes "apply x'" ++ (encode_lower bytes ++ codes "' abort abort abort\n")

-- only a changeset is a dump
abbrev pub refused_blob : {A : Type 0} → Contents A → Option LoadFault
refused_blob (Changes groups) = None
refused_blob (Patches patches) = Some Patchset

-- lines, and the tables that they and those before them create
abbrev pub Made : Type 0 → Type 0
Made A = List ℕ × List (CreatedTable A)

module _ {A : Type 0} where
  -- the columns of the table with this name, where it is created
  abbrev pub columns_of : List ℕ → List (CreatedTable A) → Option (List Bool)
  columns_of name [] = None
  columns_of name (table ∷ tables) =
      if bytes_eq table.name name then Some table.schema else columns_of name tables

  -- a table is created once; it has the same columns wherever it is
  abbrev pub with_table :
      ℕ → TableEntries (RowChange A) → Made A → Option (List Bool) → Result (Made A) LoadFault
  with_table at group made None = Ok (
    made.0 ++ create_line group.table group.schema,
    made.1 ++ record { name = group.table; schema = group.schema } ∷ [],
  )
  with_table at group made (Some columns) =
      if flags_eq columns group.schema then Ok made else Err (OtherColumns at)

  -- the group with this number
  abbrev pub with_group : ℕ → TableEntries (RowChange A) → Made A → Result (Made A) LoadFault
  with_group at group made =
      if not (is_word group.table) then Err (NoWord at)
      else if not (list_all (is_change Inserts) group.changes) then Err (NoInsert at)
      else with_table at group made (columns_of group.table made.1)

  abbrev pub and_then :
      Result (Made A) LoadFault → (Made A → Result (Made A) LoadFault) → Result (Made A) LoadFault
  and_then (Ok made) next = next made
  and_then (Err fault) next = Err fault

  -- groups one after the other, of which the first has this number
  abbrev pub with_groups : ℕ → List (TableEntries (RowChange A)) → Made A → Result (Made A) LoadFault
  with_groups at [] made = Ok made
  with_groups at (group ∷ groups) made = and_then (with_group at group made) (with_groups (at + 1) groups)

  -- the rows of all of them
  abbrev pub with_rows : List ℕ → Made A → Result (Made A) LoadFault
  with_rows bytes made = Ok (made.0 ++ apply_line bytes, made.1)

  -- the lines of a blob with these bytes, behind those that created these tables
  abbrev pub load_lines : Contents A → List ℕ → List (CreatedTable A) → Result (Made A) LoadFault
  load_lines (Changes []) bytes created = Ok ([], created)
  load_lines (Changes (group ∷ groups)) bytes created =
      and_then (with_groups 0 (group ∷ groups) ([], created)) (with_rows bytes)
  load_lines (Patches patches) bytes created = Err Patchset
