use Rattle.std.proofs.Common.{length}
use Rattle.std.specs.Global.{Global}
use Rattle.cap_changes.specs.FieldRecord.{RecordFields}
use Rattle.cap_field.proofs.Spelled.{AreLow}
use Rattle.cap_records.specs.Record.{record_in}
use Rattle.cap_records.proofs.FieldLemmas.{FieldsLeft}
use Rattle.cap_records.proofs.reading.take_record.Given as goal

abbrev pub invariant-loop-rest : goal.invariant-loop-rest
invariant-loop-rest l = record {
  read : (front : RecordFields Global) × FieldsLeft l.requirement (length l.bytes) front l.rest (record_in l.requirement l.bytes);
  low : AreLow l.rest;
}

abbrev pub decreases-loop-rest : goal.decreases-loop-rest
decreases-loop-rest l = length l.rest
