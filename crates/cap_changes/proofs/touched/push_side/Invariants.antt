use mathlib.Core.List.{IsPrefix}
use Rattle.std.proofs.Common.{◌≡◌, ◌++◌, drop}
use Rattle.cap_changes.specs.Change.{side_record}
use Rattle.cap_changes.specs.Column.{by_column}
use Rattle.cap_changes.specs.Field.{record_bytes}
use Rattle.cap_changes.proofs.TouchedLemmas.{side_field}
use Rattle.cap_changes.proofs.touched.push_side.Given as goal

-- what was put, and the fields of the columns that are left; what stood before is still its beginning
abbrev pub invariant-loop-key : goal.invariant-loop-key
invariant-loop-key g l =
    (l.out.items ++ record_bytes (by_column (side_field l.old) (drop l.key-index l.flags) l.image l.now) ≡ l.fn.out.items ++ record_bytes (side_record l.old l.flags l.fn.image l.fn.now))
    × IsPrefix l.fn.out.items l.out.items
