use Rattle.std.proofs.Common.{◌≡◌, string_bytes, take}
use Rattle.cap_files.specs.Summary.{table_lines}
use Rattle.cap_files.proofs.counts.lines.Given as goal

abbrev pub invariant-loop-group : goal.invariant-loop-group
invariant-loop-group g l = string_bytes l.text ≡ table_lines g.C.CountedEntry.is (take l.group-index l.groups)
