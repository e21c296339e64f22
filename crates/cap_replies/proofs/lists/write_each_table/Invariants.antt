use Rattle.std.proofs.Common.{◌≡◌, ◌++◌, take}
use Rattle.std.specs.List.{flat_map}
use Rattle.cap_replies.specs.ReplyJson.{table as table_tokens}
use Rattle.cap_replies.proofs.lists.write_each_table.Given as goal

abbrev pub invariant-loop-table : goal.invariant-loop-table
invariant-loop-table g l = record {
  written : l.writer.tokens ≡ l.fn.writer.tokens ++ flat_map table_tokens (take l.table-index l.tables);
  behind : l.writer.before ≡ l.fn.writer.before;
}
