use Rattle.std.proofs.Common.{◌≡◌}
use Rattle.std.specs.Option.{option_copied, option_map}
use Rattle.cap_table.specs.Table.{TableState}
use Rattle.cap_core.specs.CanCapture.{are_own_records}
use Rattle.cap_core.proofs.session_changes.are_own_records.Given as goal

abbrev pub invariant-loop-key : goal.invariant-loop-key
invariant-loop-key g l =
    let columns = option_map (λ (t : TableState g.row.A.Denot). t.schema) (option_copied l.fn.table) in
    are_own_records columns l.key-iterator ≡ are_own_records columns l.records
