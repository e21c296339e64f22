use Rattle.std.proofs.Common.{◌≡◌, ◌++◌, Some, IsTrue}
use Rattle.std.specs.List.{filter_map}
use Rattle.cap_core.specs.CanCapture.{are_own_records}
use Rattle.cap_core.specs.Capture.{change_now}
use Rattle.cap_core.proofs.capture.group_of.Given as goal

abbrev pub invariant-loop-key : goal.invariant-loop-key
invariant-loop-key g l =
    (l.group.table ≡ l.name) × (l.group.schema ≡ l.table.schema)
    × (l.group.changes ++ filter_map (change_now l.table) l.key-iterator ≡ filter_map (change_now l.table) l.records)
    × IsTrue (are_own_records (Some l.table.schema) l.key-iterator)
