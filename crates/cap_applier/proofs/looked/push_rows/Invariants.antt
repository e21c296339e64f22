use Rattle.std.proofs.Common.{◌≡◌, ◌++◌, map}
use Rattle.cap_changes.specs.Entries.{AllFit}
use Rattle.cap_applier.specs.Looked.{row_named}
use Rattle.cap_applier.proofs.looked.push_rows.Given as goal

-- what was put, and the rows of the changes that are left
abbrev pub invariant-loop-change : goal.invariant-loop-change
invariant-loop-change g l = record {
  put : l.rows.items ++ map (row_named g.C.BlobChange.requested l.group) l.change-iterator ≡ l.fn.rows.items ++ map (row_named g.C.BlobChange.requested l.group) l.group.changes;
  fit : AllFit g.C.Entry.fits_in l.group.schema l.change-iterator;
}
