use Rattle.std.proofs.Common.{◌≡◌, ◌++◌, drop, string_bytes}
use Rattle.std.specs.List.{flat_map}
use Rattle.cap_script.specs.ReplyText.{number_text}
use Rattle.cap_script.proofs.report_text.write_numbers.Given as goal

abbrev pub invariant-loop-number : goal.invariant-loop-number
invariant-loop-number g l = string_bytes l.out ++ flat_map (number_text l.word) (drop l.number-index l.numbers) ≡ string_bytes l.initial.out ++ flat_map (number_text l.word) l.numbers
