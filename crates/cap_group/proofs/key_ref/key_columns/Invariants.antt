use Rattle.std.proofs.Common.{◌≡◌, length}
use Rattle.cap_changes.specs.FieldRecord.{RecordFields}
use Rattle.cap_group.specs.ChangeKey.{key_values}
use Rattle.cap_group.proofs.key_ref.key_columns.Given as goal

-- the columns behind are outside the key
abbrev pub invariant-loop-key : goal.invariant-loop-key
invariant-loop-key g l = (fields : RecordFields g.row.A.Denot) → key_values l.keys fields ≡ key_values l.flags fields

abbrev pub decreases-loop-key : goal.decreases-loop-key
decreases-loop-key g l = length l.keys
