use Rattle.std.proofs.Common.{◌≡◌, ◌++◌, decimal, map, take}
use Rattle.json.specs.Token as token
use Rattle.cap_replies.proofs.members.write_each_number.Given as goal

abbrev pub invariant-loop-number : goal.invariant-loop-number
invariant-loop-number g l = record {
  written : l.writer.tokens ≡ l.fn.writer.tokens ++ map (λ number. token.number (decimal number)) (take l.number-index l.numbers);
  behind : l.writer.before ≡ l.fn.writer.before;
}
