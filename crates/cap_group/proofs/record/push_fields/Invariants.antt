use Rattle.std.proofs.Common.{◌≡◌, ◌++◌, ◌||◌, drop}
use Rattle.cap_changes.specs.Column.{by_column}
use Rattle.cap_changes.specs.Field.{record_bytes}
use Rattle.cap_group.specs.Record.{differ, field_of}
use Rattle.cap_group.proofs.record.push_fields.Given as goal

-- what was put, and the columns that are left
abbrev pub invariant-loop-key : goal.invariant-loop-key
invariant-loop-key g l = record {
  bytes : l.out.items ++ record_bytes (by_column (field_of l.old) (drop l.key-index l.flags) l.before l.after)
      ≡ l.fn.out.items ++ record_bytes (by_column (field_of l.old) l.flags l.fn.before l.fn.after);
  some : (l.some || differ (drop l.key-index l.flags) l.before l.after) ≡ differ l.flags l.fn.before l.fn.after;
}
