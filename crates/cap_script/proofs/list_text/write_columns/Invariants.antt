use Rattle.std.proofs.Common.{◌≡◌, ◌++◌, drop, string_bytes}
use Rattle.std.specs.List.{flat_map}
use Rattle.cap_script.specs.ListText.{column_letter}
use Rattle.cap_script.proofs.list_text.write_columns.Given as goal

abbrev pub invariant-loop-flag : goal.invariant-loop-flag
invariant-loop-flag g l = string_bytes l.out ++ flat_map column_letter (drop l.flag-index l.flags) ≡ string_bytes l.initial.out ++ flat_map column_letter l.flags
