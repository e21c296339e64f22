use Rattle.std.proofs.Common.{◌≡◌, take}
use Rattle.std.specs.Prelude.{All}
use Rattle.cap_value.specs.Value.{IsValue}
use Rattle.cap_records.specs.Record.{values_bytes}
use Rattle.cap_records.proofs.writing.values_record.Given as goal

abbrev pub invariant-loop-value : goal.invariant-loop-value
invariant-loop-value l = record {
  bytes : l.out.items ≡ values_bytes (take l.value-index l.values);
  fits : All IsValue (take l.value-index l.values);
}
