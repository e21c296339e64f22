use Rattle.std.proofs.Common.{◌≡◌, ◌++◌, take}
use Rattle.std.specs.List.{flat_map}
use Rattle.cap_show.specs.Json.{group}
use Rattle.cap_show.proofs.json_text.write_groups.Given as goal

abbrev pub invariant-loop-group : goal.invariant-loop-group
invariant-loop-group g l = record {
  written : l.writer.tokens ≡ l.fn.writer.tokens ++ flat_map (group g.C.JsonEntry.tokens) (take l.group-index l.groups);
  behind : l.writer.before ≡ l.fn.writer.before;
}
