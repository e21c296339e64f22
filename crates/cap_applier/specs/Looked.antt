-- The rows that an application looks at, and what it changes of a database.
use Rattle.std.specs.Prelude.{◌≡◌, ◌⊎◌, ℕ, Bool, Option, List, [], ◌∷◌, flat_map, map, if◌then◌else◌}
use Rattle.std.specs.Option.{option_map}
use Rattle.cap_row.specs.Fields.{Fields}
use Rattle.cap_filter.specs.Rule.{Rule}
use Rattle.cap_table.specs.Table.{TableState}
use Rattle.cap_changes.specs.Entries.{TableEntries}
use Rattle.cap_codec.specs.declared.read.Contents.{Contents}
use Rattle.cap_codec.specs.declared.read.Contents.TheVariants.{Changes, Patches}
use Rattle.cap_database.specs.Read.{row_at}
use Rattle.cap_database.specs.Tables.{Tables, table_of}
use Rattle.cap_apply.specs.Requested.{Requested, requested_by_change, requested_by_patch}
use Rattle.cap_apply.specs.Row.{key_record_of, key_values}
use Rattle.cap_applier.specs.Applier.{ApplierState}
use Rattle.cap_applier.specs.Step.{accepted}

module _ {A : Type 0} where
  -- ---- the rows: the name of a table, and a key

  -- the row that a change names
  abbrev pub row_named : {X : Type 0} → (List Bool → X → Requested A) → TableEntries X → X → List ℕ × Fields A
  row_named requested group change =
      (group.table, key_values group.schema (key_record_of (requested group.schema change).patch))

  -- a group of a table that the filter does not accept is not looked at
  abbrev pub rows_of_group : {X : Type 0} → (List Bool → X → Requested A) → Option Rule → TableEntries X
      → List (List ℕ × Fields A)
  rows_of_group requested filter group =
      if accepted filter group.table then map (row_named requested group) group.changes else []

  abbrev pub looked_in : {X : Type 0} → (List Bool → X → Requested A) → Option Rule → List (TableEntries X)
      → List (List ℕ × Fields A)
  looked_in requested filter groups = flat_map (rows_of_group requested filter) groups

  -- each row that a change names, in the order of the changes
  abbrev pub looked_at : Option Rule → Contents A → List (List ℕ × Fields A)
  looked_at filter (Changes list) = looked_in requested_by_change filter list
  looked_at filter (Patches list) = looked_in requested_by_patch filter list

  -- the row is one of these
  abbrev pub IsAmong : List ℕ → Fields A → List (List ℕ × Fields A) → Type 0
  IsAmong name key [] = ⊥
  IsAmong name key (row ∷ rows) = ((row.0 ≡ name) × (row.1 ≡ key)) ⊎ IsAmong name key rows

  -- ---- what is changed

  -- what a table has beside its rows with a key: its columns, its rows without a key, and the next id
  abbrev pub others_in : TableState A → List Bool × List (ℕ × Fields A) × ℕ
  others_in table = (table.schema, table.loose, table.next_id)

  abbrev pub others_of : Tables A → List ℕ → Option (List Bool × List (ℕ × Fields A) × ℕ)
  others_of tables name = option_map others_in (table_of tables name)

  -- the same tables, with the same rows without a key
  abbrev pub SameOthers : Tables A → Tables A → Type 0
  SameOthers before after = (name : List ℕ) → others_of after name ≡ others_of before name

  -- no row is changed that is none of these
  pub record ChangesAmong (rows : List (List ℕ × Fields A)) (before after : Tables A) : Type 0 where
    pub stays : (name : List ℕ) (key : Fields A) → (IsAmong name key rows → ⊥)
        → row_at after name key ≡ row_at before name key
    pub others : SameOthers before after

  -- an application that began with this database has changed none but the rows that it looks at
  abbrev pub KeepsTo : Tables A → ApplierState A → Type 0
  KeepsTo base s = ChangesAmong (looked_at s.filter s.blob) base s.progress.applied.database

  -- the same tables, with the same rows
  pub record SameRows (before after : Tables A) : Type 0 where
    pub rows : (name : List ℕ) (key : Fields A) → row_at after name key ≡ row_at before name key
    pub others : SameOthers before after
