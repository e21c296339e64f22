use Rattle.std.proofs.Common.{◌≡◌, ◌++◌}
use Rattle.cap_records.specs.WithIds.{id_rows}
use Rattle.cap_records.proofs.with_ids.id_rows.Given as goal

abbrev pub invariant-loop-name : goal.invariant-loop-name
invariant-loop-name l = l.rows.items ++ id_rows l.name-iterator ≡ id_rows l.fn.scan
