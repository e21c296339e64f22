-- Tables as a changeset of INSERTs, as far as a changeset can hold them.
use Rattle.std.specs.Prelude.{◌≡◌, ℕ, false, Option, Some, None, Result, Ok, Err, List, [], ◌∷◌, ◌++◌}
use Rattle.std.specs.Prelude.{IsTrue, filter, map}
use Rattle.std.specs.List.{AllByRecursion, flat_map}
use Rattle.cap_value.specs.declared.refusal.Refusal.{Refusal}
use Rattle.cap_value.specs.declared.refusal.Refusal.TheVariants.{NoTable}
use Rattle.cap_row.specs.Fields.{Fields}
use Rattle.cap_row.specs.Schema.{has_key}
use Rattle.cap_table.specs.Operation.{empty_table}
use Rattle.cap_table.specs.Table.{TableState}
use Rattle.cap_database.specs.Tables.{Tables, table_of}
use Rattle.cap_changes.specs.Change.{full_record}
use Rattle.cap_changes.specs.Group.{TableChanges}
use Rattle.cap_changes.specs.declared.row_change.RowChange.{RowChange}
use Rattle.cap_changes.specs.declared.row_change.RowChange.TheVariants.{Insert}
use Rattle.cap_changes.specs.ChangeBytes.{change_bytes}
use Rattle.cap_codec.specs.Changeset.{header_bytes}
use Rattle.cap_changes.specs.KindByte.{changeset_kind}
use Rattle.cap_codec.specs.declared.key_flags.KeyFlags.{KeyFlags}

module _ {A : Type 0} where
  -- what a changeset can hold of a table: its columns and its rows that have a key
  abbrev pub keyed_part : TableState A → TableState A
  keyed_part table = record (empty_table table.schema) { keyed = table.keyed }

  -- what it can hold of a database: of each table that has key columns
  abbrev pub keyed_parts : Tables A → Tables A
  keyed_parts tables =
      map (λ named. (named.0, keyed_part named.1)) (filter (λ named. has_key named.1.schema) tables)

  -- it can hold a table whole: one with key columns, without a row that has no key, and that never had one
  pub record IsHeldWhole (table : TableState A) : Type 0 where
    pub keyed : IsTrue (has_key table.schema)
    pub loose : table.loose ≡ []
    pub next_id : table.next_id ≡ 1

  -- it can hold each table whole
  abbrev pub AreHeldWhole : Tables A → Type 0
  AreHeldWhole tables = AllByRecursion (λ named. IsHeldWhole named.1) tables

  -- the direct INSERT of a row
  abbrev pub insert_of : Fields A → RowChange A
  insert_of row = Insert false (full_record row)

  -- a table as the INSERTs of its rows, in the order of their keys
  abbrev pub inserts_of : List ℕ × TableState A → TableChanges A
  inserts_of named = record {
    table = named.0;
    schema = named.1.schema;
    changes = map (λ row. insert_of row.1) named.1.keyed;
  }

  -- a group for each table that has key columns, in the order of their names; an empty one for an empty table
  abbrev pub dump : Tables A → List (TableChanges A)
  dump tables = map inserts_of (keyed_parts tables)

  -- a group with its header, also where it is empty
  abbrev pub whole_group_bytes : KeyFlags → TableChanges A → List ℕ
  whole_group_bytes key_flags group =
      header_bytes key_flags changeset_kind group.table group.schema ++ flat_map change_bytes group.changes

  -- of several tables the bytes of each, one behind the other
  abbrev pub dump_bytes : KeyFlags → Tables A → List ℕ
  dump_bytes key_flags tables = flat_map (whole_group_bytes key_flags) (dump tables)

  -- what a changeset can hold of one table, or the refusal where there is none of the name
  abbrev pub held : List ℕ → Option (TableState A) → Result (Tables A) Refusal
  held name None = Err NoTable
  held name (Some table) = Ok (keyed_parts ((name, table) ∷ []))

  abbrev pub comes_again : Tables A → List ℕ → Result (Tables A) Refusal
  comes_again tables name = held name (table_of tables name)

  -- the bytes of one table, or the refusal where there is none of the name
  abbrev pub dumped : KeyFlags → List ℕ → Option (TableState A) → Result (List ℕ) Refusal
  dumped key_flags name None = Err NoTable
  dumped key_flags name (Some table) = Ok (dump_bytes key_flags ((name, table) ∷ []))

  abbrev pub dump_table : KeyFlags → Tables A → List ℕ → Result (List ℕ) Refusal
  dump_table key_flags tables name = dumped key_flags name (table_of tables name)
