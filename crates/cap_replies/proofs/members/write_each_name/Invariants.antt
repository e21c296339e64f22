use Rattle.std.proofs.Common.{◌≡◌, ◌++◌, map, take}
use Rattle.json.specs.Token as token
use Rattle.cap_replies.proofs.members.write_each_name.Given as goal

abbrev pub invariant-loop-text : goal.invariant-loop-text
invariant-loop-text g l = record {
  written : l.writer.tokens ≡ l.fn.writer.tokens ++ map (λ text. token.string text) (take l.text-index l.texts);
  behind : l.writer.before ≡ l.fn.writer.before;
}
