use Rattle.std.proofs.Common.{◌≡◌, ◌++◌}
use Rattle.cap_changes.specs.Entries.{AllFit}
use Rattle.cap_group.specs.Grown.{IsGrown}
use Rattle.cap_group.proofs.tables.push_changes.Given as goal

-- with the changes that are left, and what was put alone
abbrev pub invariant-loop-change : goal.invariant-loop-change
invariant-loop-change g l = record {
  put : record l.table { changes = l.table.changes ++ l.change-iterator } ≡ record l.fn.table { changes = l.fn.table.changes ++ l.group.changes };
  grown : IsGrown l.fn.table l.table;
  fit : AllFit g.C.Entry.fits_in l.group.schema l.change-iterator;
}
