use Rattle.std.proofs.Common.{◌≡◌, ◌≤◌, ◌+◌, ◌^◌, length}
use Rattle.cap_replies.specs.Numbers.{line_numbers}
use Rattle.cap_replies.proofs.numbers.Numbers.next_number.Given as goal

abbrev pub invariant-loop-line : goal.invariant-loop-line
invariant-loop-line l = record {
  few : l.self.number + length l.self.rest.now ≤ 2 ^ 63;
  same : line_numbers l.self.number l.self.rest.now ≡ line_numbers l.initial.self.number l.initial.self.rest.now;
}

abbrev pub decreases-loop-line : goal.decreases-loop-line
decreases-loop-line l = length l.self.rest.now
