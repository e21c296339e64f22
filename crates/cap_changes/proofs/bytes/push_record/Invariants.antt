use mathlib.Core.List.{IsPrefix}
use Rattle.std.proofs.Common.{◌≡◌, ◌++◌, length}
use Rattle.cap_changes.specs.Field.{record_bytes}
use Rattle.cap_changes.proofs.bytes.push_record.Given as goal

abbrev pub invariant-loop-field : goal.invariant-loop-field
invariant-loop-field g l = record {
  put : l.out.items ++ record_bytes l.fields ≡ l.fn.out.items ++ record_bytes l.fn.given;
  begins : IsPrefix l.fn.out.items l.out.items;
}

abbrev pub decreases-loop-field : goal.decreases-loop-field
decreases-loop-field g l = length l.fields
