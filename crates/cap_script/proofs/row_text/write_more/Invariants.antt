use Rattle.std.proofs.Common.{◌≡◌, ◌++◌, length, string_bytes}
use Rattle.cap_script.specs.RowText.{more_values}
use Rattle.cap_script.proofs.row_text.write_more.Given as goal

abbrev pub invariant-loop-value : goal.invariant-loop-value
invariant-loop-value g l = string_bytes l.out ++ more_values l.rest ≡ string_bytes l.initial.out ++ more_values l.fn.values

abbrev pub decreases-loop-value : goal.decreases-loop-value
decreases-loop-value g l = length l.rest
