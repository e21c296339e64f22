use mathlib.Core.List.{IsPrefix}
use Rattle.std.proofs.Common.{◌≡◌, ◌++◌, drop}
use Rattle.cap_changes.specs.Field.{record_bytes}
use Rattle.cap_changes.specs.Patch.{update_record}
use Rattle.cap_changes.proofs.patches.push_update_record.Given as goal

abbrev pub invariant-loop-key : goal.invariant-loop-key
invariant-loop-key g l = record {
  put : l.out.items ++ record_bytes (update_record (drop l.key-index l.flags) l.old l.new) ≡ l.fn.out.items ++ record_bytes (update_record l.flags l.fn.old l.fn.new);
  begins : IsPrefix l.fn.out.items l.out.items;
}
