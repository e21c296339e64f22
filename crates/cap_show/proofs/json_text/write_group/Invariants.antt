use Rattle.std.proofs.Common.{◌≡◌, ◌++◌}
use Rattle.std.specs.List.{flat_map}
use Rattle.cap_show.specs.Json.{group}
use Rattle.cap_show.proofs.json_text.write_group.Given as goal

-- what was written, and the changes that are left
abbrev pub invariant-loop-change : goal.invariant-loop-change
invariant-loop-change g l = record {
  written : l.writer.tokens ++ flat_map (g.C.JsonEntry.tokens l.group.table l.group.schema) l.change-iterator ≡ l.fn.writer.tokens ++ group g.C.JsonEntry.tokens l.group;
  behind : l.writer.before ≡ l.fn.writer.before;
}
