use Rattle.std.proofs.Common.{◌≡◌, ◌+◌, true, length, map, is_some}
use Rattle.cap_apply.proofs.Common.{AllFit, changes_applied, target}
use Rattle.cap_apply.proofs.apply_blob.apply_group.Given as goal

-- the changes that are left give what all of them give, and the table is still there
abbrev pub invariant-loop-change : goal.invariant-loop-change
invariant-loop-change g l = record {
  left : changes_applied l.policy l.number l.group.table l.group.schema (map (g.C.BlobChange.requested l.group.schema) l.change-iterator) l.applied
      ≡ changes_applied l.policy l.fn.number l.group.table l.group.schema (map (g.C.BlobChange.requested l.group.schema) l.group.changes) l.fn.applied;
  there : is_some (target l.applied.database l.group.table l.group.schema) ≡ true;
  count : l.number + length l.change-iterator ≡ l.fn.number + length l.group.changes;
  fit : AllFit g.C.Entry.fits_in l.group.schema l.change-iterator;
}
