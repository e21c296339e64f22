use Rattle.std.proofs.Common.{◌≡◌, ◌≤◌, drop, length}
use Rattle.cap_changes.specs.Requirements.{requirements}
use Rattle.cap_changes.specs.RecordReading.{record_at}
use Rattle.cap_changes.specs.ChangeReading.{behind}
use Rattle.cap_changes.proofs.pass.pass_record.Given as goal

abbrev pub invariant-loop-key : goal.invariant-loop-key
invariant-loop-key g l = record {
  read : behind (record_at {A = g.row.A.Denot} l.total (requirements l.record_kind (drop l.key-index l.flags)) l.rest) ≡ behind (record_at {A = g.row.A.Denot} l.total (requirements l.record_kind l.flags) l.bytes);
  behind : length l.rest ≤ length l.bytes;
}
