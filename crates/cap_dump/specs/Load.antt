-- The tables and rows of a blob, made in a database that has none of these tables.
use Rattle.std.specs.Prelude.{ℕ, Bool, Option, Some, None, Result, Ok, Err, List, [], ◌∷◌, is_some, map}
use Rattle.std.specs.Prelude.{if◌then◌else◌}
use Rattle.std.specs.List.{list_any}
use Rattle.cap_value.specs.declared.refusal.Refusal.{Refusal}
use Rattle.cap_value.specs.declared.refusal.Refusal.TheVariants.{TableExists}
use Rattle.cap_database.specs.Tables.{Tables, create, table_of}
use Rattle.cap_changes.specs.Entries.{TableEntries}
use Rattle.cap_codec.specs.declared.read.Contents.{Contents}
use Rattle.cap_codec.specs.declared.read.Contents.TheVariants.{Changes, Patches}
use Rattle.cap_apply.specs.Apply.{and_then, apply}
use Rattle.cap_apply.specs.declared.policy.Answer.TheVariants.{Abort}
use Rattle.cap_apply.specs.Policy.{always}

-- the name and the columns of the table of each group
abbrev pub named_in : {X : Type 0} → TableEntries X → List ℕ × List Bool
named_in group = (group.table, group.schema)

module _ {A : Type 0} where
  abbrev pub tables_in : Contents A → List (List ℕ × List Bool)
  tables_in (Changes list) = map named_in list
  tables_in (Patches list) = map named_in list

  -- an empty table for each, in order
  abbrev pub create_each : Tables A → List (List ℕ × List Bool) → Result (Tables A) Refusal
  create_each tables [] = Ok tables
  create_each tables (named ∷ others) =
      and_then (create tables named.0 named.1) (λ made. create_each made others)

  -- a table of the blob is there already
  abbrev pub refused_load : Tables A → Contents A → Option Refusal
  refused_load tables blob =
      if list_any (λ named. is_some (table_of tables named.0)) (tables_in blob) then Some TableExists else None

  -- the blob is applied to its new tables; the first conflict refuses it
  abbrev pub filled : Contents A → Tables A → Result (Tables A) Refusal
  filled blob made = and_then (apply made blob (always Abort)) (λ left. Ok left.database)

  abbrev pub loaded : Option Refusal → Tables A → Contents A → Result (Tables A) Refusal
  loaded None tables blob = and_then (create_each tables (tables_in blob)) (filled blob)
  loaded (Some why) tables blob = Err why

  abbrev pub load : Tables A → Contents A → Result (Tables A) Refusal
  load tables blob = loaded (refused_load tables blob) tables blob
