use Rattle.std.proofs.Common.{◌≡◌, ◌++◌, take}
use Rattle.cap_row.proofs.row_builder.RowBuilder.push_all.Given as goal

abbrev pub invariant-loop-value : goal.invariant-loop-value
invariant-loop-value g l = l.self ≡ l.fn.self ++ take l.value-index l.values
