-- When a session can be captured against a database: each first image is a row of its table, under its own
-- key.
use Rattle.std.specs.Prelude.{Bool, true, false, Option, Some, None, List}
use Rattle.std.specs.List.{list_all}
use Rattle.cap_row.specs.Fields.{Fields}
use Rattle.cap_table.specs.Sound.{is_keyed_row}
use Rattle.cap_database.specs.Tables.{Tables, schema_of}
use Rattle.cap_session.specs.Records.{Records}
use Rattle.cap_session.specs.Session.{AttachedTables, SessionState}

module _ {A : Type 0} where
  -- an image is a row of its table: it has the table's width, and the key of its record
  abbrev pub is_own_image : Option (List Bool) → Fields A → Option (Fields A) → Bool
  is_own_image schema key None = true
  is_own_image None key (Some row) = false
  is_own_image (Some schema) key (Some row) = is_keyed_row schema key row

  abbrev pub are_own_records : Option (List Bool) → Records A → Bool
  are_own_records schema records = list_all (λ kept. is_own_image schema kept.0 kept.1.image) records

  abbrev pub are_own_tables : Tables A → AttachedTables A → Bool
  are_own_tables tables attached = list_all (λ table. are_own_records (schema_of tables table.0) table.1) attached

  abbrev pub is_own_session : Tables A → SessionState A → Bool
  is_own_session tables session = are_own_tables tables session.tables
