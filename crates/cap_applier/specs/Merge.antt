-- The rows that may stand in place of a change.
use Rattle.std.specs.Prelude.{List, Bool, Option, Some, None, length, ◌==◌, if◌then◌else◌}
use Rattle.cap_row.specs.Fields.{Fields}
use Rattle.cap_row.specs.Key.{fields_eq, key_of}
use Rattle.cap_database.specs.Tables.{Tables, schema_of}
use Rattle.cap_applier.specs.Applier.{ApplierState, met}
use Rattle.cap_applier.specs.declared.merge.MergeRefusal.{MergeRefusal}
use Rattle.cap_applier.specs.declared.merge.MergeRefusal.TheVariants.{NoConflict, WrongWidth, OtherKey}
use Rattle.cap_applier.specs.declared.row_conflict.RowConflict.{RowConflict}

module _ {A : Type 0} where
  abbrev pub refused_key : Option (Fields A) → Fields A → Option MergeRefusal
  refused_key None key = Some OtherKey
  refused_key (Some own) key = if fields_eq own key then None else Some OtherKey

  -- the row has the table's columns, and then the key
  abbrev pub refused_row : Option (List Bool) → Fields A → Fields A → Option MergeRefusal
  refused_row None key row = Some NoConflict
  refused_row (Some flags) key row =
      if length row == length flags then refused_key (key_of flags row) key else Some WrongWidth

  abbrev pub refused_for : Tables A → Option (RowConflict A) → Fields A → Option MergeRefusal
  refused_for database None row = Some NoConflict
  refused_for database (Some conflict) row =
      refused_row (schema_of database conflict.table) conflict.key row

  -- why a row may not stand under the key of the conflict, if it may not
  abbrev pub refused_merge : ApplierState A → Fields A → Option MergeRefusal
  refused_merge s row = refused_for s.progress.applied.database (met s) row
