use Rattle.std.proofs.Common.{◌≡◌, ◌++◌, string_bytes, take}
use Rattle.std.specs.List.{flat_map}
use Rattle.cap_files.specs.Load.{column_text}
use Rattle.cap_files.proofs.load.push_columns.Given as goal

abbrev pub invariant-loop-is_key : goal.invariant-loop-is_key
invariant-loop-is_key g l =
    string_bytes l.lines ≡ string_bytes l.initial.lines ++ flat_map column_text (take l.is_key-index l.flags)
