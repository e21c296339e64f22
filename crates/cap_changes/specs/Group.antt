-- The changes of one table in a changeset.
use Rattle.cap_changes.specs.Entries.{TableEntries}
use Rattle.cap_changes.specs.declared.row_change.RowChange.{RowChange}

abbrev pub TableChanges : Type 0 → Type 0
TableChanges A = TableEntries (RowChange A)
