use Rattle.std.proofs.Common.{◌≡◌, ◌++◌, drop, string_bytes}
use Rattle.std.specs.List.{flat_map}
use Rattle.cap_script.specs.ListText.{name_behind}
use Rattle.cap_script.proofs.list_text.write_names.Given as goal

abbrev pub invariant-loop-name : goal.invariant-loop-name
invariant-loop-name g l = string_bytes l.out ++ flat_map name_behind (drop l.name-index l.names) ≡ string_bytes l.initial.out ++ flat_map name_behind l.names
