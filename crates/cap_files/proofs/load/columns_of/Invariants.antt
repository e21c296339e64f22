use Rattle.std.proofs.Common.{◌≡◌, drop}
use Rattle.cap_files.specs.Load.{columns_of}
use Rattle.cap_files.proofs.load.columns_of.Given as goal

-- none so far
abbrev pub invariant-loop-table : goal.invariant-loop-table
invariant-loop-table g l = columns_of l.name (drop l.table-index l.created) ≡ columns_of l.name l.created
