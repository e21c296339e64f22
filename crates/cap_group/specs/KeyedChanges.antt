-- The changes of one table by the keys of their rows, and those of several tables.
use Rattle.std.specs.Prelude.{ℕ, Bool, List, [], ◌∷◌, Option, Some, None, map, fold}
use Rattle.std.specs.Prelude.{if◌then◌else◌}
use Rattle.cap_value.specs.Bytes.{bytes_eq}
use Rattle.cap_row.specs.Fields.{Fields}
use Rattle.cap_row.specs.Key.{fields_cmp}
use Rattle.cap_tree.specs.Tree.{get, put_entry, take_entry}
use Rattle.cap_changes.specs.Entries.{TableEntries}

-- the table's name, its key flags, and at most one change for each key, in the order of the keys
pub record KeyedChanges (A X : Type 0) : Type 0 where
  pub table : List ℕ
  pub schema : List Bool
  pub changes : List (Fields A × X)

module _ {A X : Type 0} where
  -- a table without changes
  abbrev pub no_changes : List ℕ → List Bool → KeyedChanges A X
  no_changes table schema = record { table = table; schema = schema; changes = [] }

  -- the changes with this one, or none, at the key
  abbrev pub set_change : List (Fields A × X) → Fields A → Option X → List (Fields A × X)
  set_change changes key None = take_entry fields_cmp changes key
  set_change changes key (Some change) = put_entry fields_cmp changes key change

  -- the first table of the name
  abbrev pub table_at : List (KeyedChanges A X) → List ℕ → Option (KeyedChanges A X)
  table_at [] name = None
  table_at (t ∷ ts) name = if bytes_eq t.table name then Some t else table_at ts name

  -- the tables with this one in place of the first of its name, or at the end
  abbrev pub with_table : List (KeyedChanges A X) → KeyedChanges A X → List (KeyedChanges A X)
  with_table [] t = t ∷ []
  with_table (u ∷ us) t = if bytes_eq u.table t.table then t ∷ us else u ∷ with_table us t

  -- as a group of a list: the changes in the order of their keys
  abbrev pub entries_of : KeyedChanges A X → TableEntries X
  entries_of keyed =
      record { table = keyed.table; schema = keyed.schema; changes = map (λ change. change.1) keyed.changes }

module _ {X : Type 0} (combined : List Bool → X → X → Option X) where
  -- what becomes of the change at a key, if there is one, when one is added
  abbrev pub change_after : List Bool → Option X → X → Option X
  change_after flags None added = Some added
  change_after flags (Some present) added = combined flags present added

module _ {A X : Type 0} (key : List Bool → X → Fields A) (combined : List Bool → X → X → Option X) where
  -- a change is added at its key
  abbrev pub with_change : KeyedChanges A X → X → KeyedChanges A X
  with_change keyed added =
      let k = key keyed.schema added in
      record keyed {
        changes = set_change keyed.changes k
            (change_after combined keyed.schema (get fields_cmp keyed.changes k) added);
      }

  -- changes are added, one after the other
  abbrev pub with_changes : KeyedChanges A X → List X → KeyedChanges A X
  with_changes keyed added = fold with_change keyed added

  -- the changes of a group alone
  abbrev pub keyed_of : TableEntries X → KeyedChanges A X
  keyed_of group = with_changes (no_changes group.table group.schema) group.changes
