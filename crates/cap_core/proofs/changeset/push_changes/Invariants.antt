use Rattle.std.proofs.Common.{◌≡◌, ◌++◌}
use Rattle.std.specs.List.{filter_map, flat_map}
use Rattle.cap_changes.specs.ChangeBytes.{change_bytes}
use Rattle.cap_core.specs.Capture.{change_now}
use Rattle.cap_core.proofs.changeset.push_changes.Given as goal

abbrev pub invariant-loop-key : goal.invariant-loop-key
invariant-loop-key g l =
    l.out.items ++ flat_map change_bytes (filter_map (change_now l.table) l.key-iterator)
    ≡ l.fn.out.items ++ flat_map change_bytes (filter_map (change_now l.table) l.fn.records)
