-- What is made of a changeset, change by change.
use Rattle.std.specs.Prelude.{Bool, List, map}
use Rattle.cap_changes.specs.Entries.{TableEntries}
use Rattle.cap_changes.specs.Group.{TableChanges}
use Rattle.cap_changes.specs.declared.row_change.RowChange.{RowChange}

module _ {A X : Type 0} (made : List Bool → RowChange A → X) where
  -- what is made of each change, in the same order
  abbrev pub group_of : TableChanges A → TableEntries X
  group_of group = record {
    table = group.table;
    schema = group.schema;
    changes = map (made group.schema) group.changes;
  }

  abbrev pub list_of : List (TableChanges A) → List (TableEntries X)
  list_of groups = map group_of groups
