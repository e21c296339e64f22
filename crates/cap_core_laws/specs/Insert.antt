-- An insert of a row into an attached table, and how a capture shows it.
use Rattle.std.specs.Prelude.{◌≡◌, ℕ, Bool, true, false, Option, Some, None, List, [], ◌∷◌, ◌++◌, map}
use Rattle.std.specs.List.{filter_map, list_any}
use Rattle.std.specs.Option.{option_map}
use Rattle.cap_value.specs.Bytes.{bytes_eq}
use Rattle.cap_row.specs.Fields.{Fields}
use Rattle.cap_row.specs.Key.{fields_cmp, key_of}
use Rattle.cap_changes.specs.Group.{TableChanges}
use Rattle.cap_changes.specs.declared.row_change.RowChange.{RowChange}
use Rattle.cap_tree.specs.Tree.{get}
use Rattle.cap_table.specs.Table.{TableState}
use Rattle.cap_database.specs.Tables.{table_of}
use Rattle.cap_database.specs.declared.cause.Cause.TheVariants.{Direct}
use Rattle.cap_database.specs.declared.op.Action.TheVariants.{Insert}
use Rattle.cap_database.specs.declared.op.Op.{Op}
use Rattle.cap_session.specs.Records.{Records}
use Rattle.cap_txn.specs.ReadSet.{ReadSetState}
use Rattle.cap_core.specs.declared.command.Command.TheVariants.{Commit}
use Rattle.cap_core.specs.declared.event.Event.{Event}
use Rattle.cap_core.specs.Answer.{IsLegalPast}
use Rattle.cap_core.specs.Capture.{change_now}
use Rattle.cap_core.specs.Flags.{is_enabled, is_indirect}
use Rattle.cap_core.specs.History.{main}
use Rattle.cap_core.specs.Past.{Past, is_accepted}
use Rattle.cap_core.specs.Touch.{Touch, attach_list, touches, touches_of}

module _ {A : Type 0} where
  abbrev pub insert_of : List ℕ → Fields A → Op A
  insert_of name row = record { table = name; cause = Direct; action = Insert row }

  -- After the past comes an accepted insert of a row with this key into a table that is attached to the
  -- session by then. The session is enabled and not indirect, and the key had no row where the session's
  -- first touch of it came, if there was one.
  pub record IsInsertOfAbsent (past : Past A) (event : Event A) (session : ℕ) (name : List ℕ)
      (table : TableState A) (key row : Fields A) : Type 0 where
    pub legal : IsLegalPast (event ∷ past)
    pub base : Option ℕ
    pub reads : Option (ReadSetState A)
    pub inserts : event.command ≡ Commit (record { base = base; ops = insert_of name row ∷ []; reads = reads })
    pub accepted : is_accepted event.reply ≡ true
    pub there : table_of (main past) name ≡ Some table
    pub own : key_of table.schema row ≡ Some key
    pub enabled : is_enabled session past ≡ true
    pub direct : is_indirect session past ≡ false
    pub attached : list_any (bytes_eq name) (attach_list session (event ∷ past)) ≡ true
    pub absent : (touch : Touch A) → get fields_cmp (touches_of name (touches session past)) key ≡ Some touch
        → touch.image ≡ None

  -- the changes of a table, each under its key
  abbrev pub changes_by_key : TableState A → Records A → List (Fields A × RowChange A)
  changes_by_key table records =
      filter_map (λ touched. option_map (λ change. (touched.0, change)) (change_now table touched)) records

  -- a change list has a group of the table with these changes, among which the key has this one
  pub record HasChange (list : List (TableChanges A)) (name : List ℕ) (schema : List Bool)
      (changes : List (Fields A × RowChange A)) (key : Fields A) (change : RowChange A) : Type 0 where
    pub before : List (TableChanges A)
    pub after : List (TableChanges A)
    pub group : list ≡ before
        ++ record { table = name; schema = schema; changes = map (λ keyed. keyed.1) changes } ∷ after
    pub here : get fields_cmp changes key ≡ Some change
