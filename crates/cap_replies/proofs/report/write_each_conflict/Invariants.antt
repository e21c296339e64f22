use Rattle.std.proofs.Common.{◌≡◌, ◌++◌, take}
use Rattle.std.specs.List.{flat_map}
use Rattle.cap_replies.specs.ReplyJson.{conflict}
use Rattle.cap_replies.proofs.report.write_each_conflict.Given as goal

abbrev pub invariant-loop-conflict : goal.invariant-loop-conflict
invariant-loop-conflict g l = record {
  written : l.writer.tokens ≡ l.fn.writer.tokens ++ flat_map conflict (take l.conflict-index l.conflicts);
  behind : l.writer.before ≡ l.fn.writer.before;
}
