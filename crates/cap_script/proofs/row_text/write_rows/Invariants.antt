use Rattle.std.proofs.Common.{◌≡◌, ◌++◌, string_bytes}
use Rattle.cap_script.specs.RowText.{rows_text}
use Rattle.cap_script.proofs.row_text.write_rows.Given as goal

abbrev pub invariant-loop-name : goal.invariant-loop-name
invariant-loop-name g l = string_bytes l.out ++ rows_text l.name-iterator ≡ string_bytes l.initial.out ++ rows_text l.fn.rows
