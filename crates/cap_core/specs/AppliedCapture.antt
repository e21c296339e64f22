-- A capture that is applied to another database.
use Rattle.std.specs.Prelude.{◌≡◌, ℕ, Bool, true, false, Option, Some, None, Ok, List, [], ◌∷◌, ◌&&◌, ◌||◌}
use Rattle.std.specs.Prelude.{length, sum_by}
use Rattle.std.specs.Option.{option_map}
use Rattle.cap_value.specs.Bytes.{bytes_cmp}
use Rattle.cap_row.specs.Fields.{Fields}
use Rattle.cap_row.specs.Schema.{has_key}
use Rattle.cap_tree.specs.Tree.{get}
use Rattle.cap_table.specs.Table.{TableState}
use Rattle.cap_database.specs.Read.{row_at}
use Rattle.cap_database.specs.Tables.{Tables, schema_of, table_of}
use Rattle.cap_changes.specs.Group.{TableChanges}
use Rattle.cap_codec.specs.declared.read.Contents.{Contents}
use Rattle.cap_apply.specs.Applied.{AppliedState}
use Rattle.cap_apply.specs.Apply.{apply}
use Rattle.cap_apply.specs.declared.policy.Policy.{Policy}
use Rattle.cap_session.specs.declared.record.Record.{Record}
use Rattle.cap_session.specs.Session.{AttachedTables, record_of}
use Rattle.cap_core.specs.declared.command.Command.TheVariants.{Session}
use Rattle.cap_core.specs.declared.session_command.SessionCommand.{SessionCommand}
use Rattle.cap_core.specs.declared.session_command.SessionCommand.TheVariants.{Diff}
use Rattle.cap_core.specs.declared.event.Event.{Event}
use Rattle.cap_core.specs.Answer.{answer, state_after}
use Rattle.cap_core.specs.Flags.{command_to}
use Rattle.cap_core.specs.History.{is_write, main, saved}
use Rattle.cap_core.specs.Past.{Past, is_accepted}
use Rattle.cap_core.specs.Session.{session_of}
use Rattle.cap_core.specs.Touch.{restarts}

module _ {A : Type 0} where
  -- For each touched key the database has its table, with the columns that it has in main, and at the key the
  -- first image.
  pub record HoldsImages (database main : Tables A) (tables : AttachedTables A) : Type 0 where
    pub columns : (name : List ℕ) (key : Fields A) (kept : Record A) → record_of tables name key ≡ Some kept
        → (columns : List Bool) × (schema_of database name ≡ Some columns)
        × (schema_of main name ≡ Some columns)
    pub images : (name : List ℕ) (key : Fields A) (kept : Record A) → record_of tables name key ≡ Some kept
        → row_at database name key ≡ kept.image

  -- a table but for its keyed rows
  abbrev pub but_keyed : TableState A → TableState A
  but_keyed table = record table { keyed = [] }

  -- What is left has at each touched key main's row, or none; all else is as it was in the database.
  pub record GivesRows (database main left : Tables A) (tables : AttachedTables A) : Type 0 where
    pub touched : (name : List ℕ) (key : Fields A) (kept : Record A) → record_of tables name key ≡ Some kept
        → row_at left name key ≡ row_at main name key
    pub untouched : (name : List ℕ) (key : Fields A) → record_of tables name key ≡ None
        → row_at left name key ≡ row_at database name key
    pub others : (name : List ℕ)
        → option_map but_keyed (table_of left name) ≡ option_map but_keyed (table_of database name)

  -- the number of changes
  abbrev pub changes_in : List (TableChanges A) → ℕ
  changes_in list = sum_by (λ group. length group.changes) list

  -- The blob is applied whole and gives these rows: this number of changes is applied, there is no conflict,
  -- and nothing is omitted or skipped.
  abbrev pub AppliesWhole : Policy → Contents A → ℕ → Tables A → Tables A → AttachedTables A → Type 0
  AppliesWhole policy blob count database main tables =
      (left : AppliedState A) × (apply database blob policy ≡ Ok left)
      × GivesRows database main left.database tables
      × (left.report ≡ record { applied = count; conflicts = []; omitted = []; skipped = [] })

  -- ---- after a diff

  -- a diff or a restart of the session
  abbrev pub renews : Option (SessionCommand A) → Bool
  renews (Some (Diff from name)) = true
  renews told = restarts told

  -- none of the events writes, or is a diff or a restart of the session, unless it was refused
  abbrev pub AreQuiet : ℕ → List (Event A) → Type 0
  AreQuiet session [] = Unit {0}
  AreQuiet session (event ∷ events) =
      ((is_accepted event.reply && (is_write event.command || renews (command_to session event.command)))
      ≡ false)
      × AreQuiet session events

  -- After the past comes an accepted diff of this table against this saved database, by a session without
  -- records. The table has a key column.
  pub record IsDiffed (past : Past A) (event : Event A) (session : ℕ) (name : List ℕ) (database : Tables A)
      (table : TableState A) : Type 0 where
    pub from : List ℕ
    pub replied : event.reply ≡ answer (state_after past) event.command
    pub diffs : event.command ≡ Session session (Diff from name)
    pub accepted : is_accepted event.reply ≡ true
    pub database_is : get bytes_cmp (saved past) from ≡ Some database
    pub there : table_of (main past) name ≡ Some table
    pub keyed : has_key table.schema ≡ true
    pub empty : (other : List ℕ) (key : Fields A)
        → record_of (session_of past session).tables other key ≡ None

  -- The blob is applied whole, and the table then has main's keyed rows.
  abbrev pub AppliesRows : Policy → Contents A → ℕ → Tables A → Tables A → List ℕ → Type 0
  AppliesRows policy blob count database main name =
      (left : AppliedState A) × (apply database blob policy ≡ Ok left)
      × ((key : Fields A) → row_at left.database name key ≡ row_at main name key)
      × (left.report ≡ record { applied = count; conflicts = []; omitted = []; skipped = [] })
