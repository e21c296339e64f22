use Rattle.std.proofs.Common.{◌≡◌, ◌++◌}
use Rattle.std.specs.List.{flat_map}
use Rattle.cap_replies.specs.ReplyJson.{named_row}
use Rattle.cap_replies.proofs.rows.write_each_row.Given as goal

-- what was written, and the rows that are left
abbrev pub invariant-loop-name : goal.invariant-loop-name
invariant-loop-name g l = record {
  written : l.writer.tokens ++ flat_map named_row l.name-iterator ≡ l.fn.writer.tokens ++ flat_map named_row l.fn.rows;
  behind : l.writer.before ≡ l.fn.writer.before;
}
