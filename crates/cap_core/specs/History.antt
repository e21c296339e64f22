-- The tables that a history leaves, their version, and the saved databases: read off all its events.
use Rattle.std.specs.Prelude.{ℕ, Bool, true, false, Result, Ok, Err, List, [], ◌∷◌, ◌+◌}
use Rattle.std.specs.Prelude.{◌&&◌, if◌then◌else◌}
use Rattle.cap_value.specs.Bytes.{bytes_cmp}
use Rattle.cap_tree.specs.Tree.{put_entry, take_entry}
use Rattle.cap_database.specs.Snapshot.{SnapshotState}
use Rattle.cap_database.specs.Tables.{Tables}
use Rattle.cap_core.specs.declared.command.Command.{Command}
use Rattle.cap_core.specs.declared.command.Command.TheVariants.{CreateTable, Commit, Apply, DropDatabase}
use Rattle.cap_core.specs.declared.command.Command.TheVariants.{SaveAs}
use Rattle.cap_core.specs.declared.event.Event.{Event}
use Rattle.cap_core.specs.Outcome.{Effect, Refused, no_effect, outcome}
use Rattle.cap_core.specs.Past.{Past, is_accepted}

-- databases under their names, which rise
abbrev pub Databases : Type 0 → Type 0
Databases A = List (List ℕ × Tables A)

module _ {A : Type 0} where
  abbrev pub is_write : Command A → Bool
  is_write (CreateTable name schema) = true
  is_write (Commit batch) = true
  is_write (Apply blob policy quiet) = true
  is_write _ = false

  -- the number of accepted commands that write
  abbrev pub version : Past A → ℕ
  version [] = 0
  version (event ∷ past) =
      if is_accepted event.reply && is_write event.command then version past + 1 else version past

  abbrev pub effect_of : Tables A → Result (Effect A) Refused → Effect A
  effect_of tables (Ok effect) = effect
  effect_of tables (Err why) = no_effect tables

  -- the effect of an event on the tables: none where it was refused
  abbrev pub event_effect : SnapshotState A → Event A → Effect A
  event_effect now event =
      if is_accepted event.reply then effect_of now.database (outcome now event.command)
      else no_effect now.database

  -- the tables: the empty database, and then each event's effect in turn
  abbrev pub main : Past A → Tables A
  main [] = []
  main (event ∷ past) =
      (event_effect (record { version = version past; database = main past }) event).database

  -- the tables with their version
  abbrev pub snapshot : Past A → SnapshotState A
  snapshot past = record { version = version past; database = main past }

  -- the saved databases after an accepted command, by the tables before it
  abbrev pub saved_after : Command A → Tables A → Databases A → Databases A
  saved_after (SaveAs name) tables databases = put_entry bytes_cmp databases name tables
  saved_after (DropDatabase name) tables databases = take_entry bytes_cmp databases name
  saved_after _ tables databases = databases

  -- each saved database: the tables as they were when they were last saved under its name
  abbrev pub saved : Past A → Databases A
  saved [] = []
  saved (event ∷ past) =
      if is_accepted event.reply then saved_after event.command (main past) (saved past) else saved past
