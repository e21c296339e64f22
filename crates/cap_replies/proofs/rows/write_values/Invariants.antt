use Rattle.std.proofs.Common.{◌≡◌, ◌++◌, length}
use Rattle.std.specs.List.{flat_map}
use Rattle.cap_show.specs.Json.{value}
use Rattle.cap_replies.proofs.rows.write_values.Given as goal

abbrev pub invariant-loop-value : goal.invariant-loop-value
invariant-loop-value g l = record {
  written : l.writer.tokens ++ flat_map value l.rest ≡ l.fn.writer.tokens ++ flat_map value l.fn.values;
  behind : l.writer.before ≡ l.fn.writer.before;
}

abbrev pub decreases-loop-value : goal.decreases-loop-value
decreases-loop-value g l = length l.rest
