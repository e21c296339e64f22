use Rattle.std.proofs.Common.{◌≡◌, ◌++◌}
use Rattle.std.specs.List.{flat_map}
use Rattle.cap_changes.specs.ChangeBytes.{change_bytes}
use Rattle.cap_dump.specs.Dump.{insert_of}
use Rattle.cap_dump.proofs.dump_bytes.push_rows.Given as goal

abbrev pub invariant-loop-row : goal.invariant-loop-row
invariant-loop-row g l =
    l.out.items ++ flat_map (λ row. change_bytes (insert_of row.1)) l.row-iterator
    ≡ l.fn.out.items ++ flat_map (λ row. change_bytes (insert_of row.1)) l.table.keyed
