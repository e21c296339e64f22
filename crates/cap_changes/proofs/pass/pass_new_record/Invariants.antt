use Rattle.std.proofs.Common.{◌≤◌, drop, length}
use Rattle.cap_changes.specs.Requirements.{new_requirements}
use Rattle.cap_changes.specs.RecordReading.{record_at, old_in}
use Rattle.cap_changes.specs.ChangeReading.{behind}
use Rattle.cap_field.proofs.Spelled.{AreLow}
use Rattle.cap_changes.proofs.PassLemmas.{BeginsOld, NewLeft}
use Rattle.cap_changes.proofs.pass.pass_new_record.Given as goal

abbrev pub invariant-loop-key : goal.invariant-loop-key
invariant-loop-key g l = record {
  low : AreLow l.field;
  old : BeginsOld g.row.A.Denot l.total (drop l.key-index l.flags) l.field;
  read : NewLeft g.row.A.Denot l.total (drop l.key-index l.flags) l.field l.rest (behind (record_at {A = g.row.A.Denot} l.total (new_requirements l.flags (old_in g.row.A.Denot l.total l.flags l.old)) l.bytes));
  behind : length l.rest ≤ length l.bytes;
}
