use Rattle.std.proofs.Common.{◌≡◌, ◌++◌, string_bytes, take}
use Rattle.std.specs.List.{flat_map}
use Rattle.cap_files.specs.Place.{spaced}
use Rattle.cap_files.proofs.place.push_bytes.Given as goal

abbrev pub invariant-loop-byte : goal.invariant-loop-byte
invariant-loop-byte g l = string_bytes l.out ≡ string_bytes l.initial.out ++ flat_map spaced (take l.byte-index l.bytes)
