use Rattle.std.proofs.Common.{◌≡◌, ◌++◌, drop, string_bytes}
use Rattle.std.specs.List.{flat_map}
use Rattle.cap_script.specs.ListText.{table_line}
use Rattle.cap_script.proofs.list_text.write_tables.Given as goal

abbrev pub invariant-loop-table : goal.invariant-loop-table
invariant-loop-table g l = string_bytes l.out ++ flat_map table_line (drop l.table-index l.tables) ≡ string_bytes l.initial.out ++ flat_map table_line l.tables
