use Rattle.std.proofs.Common.{◌≡◌, ◌++◌, drop}
use Rattle.cap_changes.specs.Column.{by_column}
use Rattle.cap_changes.specs.Field.{record_bytes}
use Rattle.cap_rebase.specs.Rebase.{new_left, old_left}
use Rattle.cap_rebase.proofs.record.push_old_left.Given as goal

-- what was put, and the fields of the columns that are left
abbrev pub invariant-loop-key : goal.invariant-loop-key
invariant-loop-key g l =
    l.out.items ++ record_bytes (by_column old_left (drop l.key-index l.flags) l.old (new_left l.new l.remote))
    ≡ l.fn.out.items ++ record_bytes (by_column old_left l.flags l.fn.old (new_left l.fn.new l.fn.remote))
