use Rattle.std.proofs.Common.{◌≡◌, ◌++◌, drop, string_bytes}
use Rattle.std.specs.List.{flat_map}
use Rattle.cap_script.specs.ReplyText.{conflict_text}
use Rattle.cap_script.proofs.report_text.write_conflicts.Given as goal

abbrev pub invariant-loop-conflict : goal.invariant-loop-conflict
invariant-loop-conflict g l = string_bytes l.out ++ flat_map conflict_text (drop l.conflict-index l.conflicts) ≡ string_bytes l.initial.out ++ flat_map conflict_text l.conflicts
