use Rattle.std.proofs.Common.{◌≡◌, ◌++◌}
use Rattle.std.specs.Prelude.{filter_map}
use Rattle.cap_changes.specs.Entries.{AllFit}
use Rattle.cap_changes.specs.Fits.{change_fits}
use Rattle.cap_rebase.specs.Rebaser.{rebased_in}
use Rattle.cap_rebase.proofs.rows.rebased_group.Given as goal

-- what was put, and what becomes of the changes that are left
abbrev pub invariant-loop-local : goal.invariant-loop-local
invariant-loop-local g l = record {
  table : l.rebased.table ≡ l.group.table;
  schema : l.rebased.schema ≡ l.group.schema;
  made : l.rebased.changes ++ filter_map (rebased_in l.buffers l.group) l.local-iterator ≡ filter_map (rebased_in l.buffers l.group) l.group.changes;
  fit : AllFit change_fits l.group.schema l.local-iterator;
}
