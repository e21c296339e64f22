use Rattle.std.proofs.Common.{◌≡◌, ◌+◌, ◌≤◌, ◌++◌, vec_len}
use Rattle.std.specs.Vec.{vec_capacity}
use Rattle.cap_tree.proofs.shift.shift_front.Given as goal

abbrev pub invariant-loop-back : goal.invariant-loop-back
invariant-loop-back g l = record {
  moved : l.front.items ++ l.back.items ≡ l.initial.front.items ++ l.initial.back.items;
  not_more : vec_len l.front ≤ l.at;
  len : vec_len l.front + vec_len l.back ≡ vec_len l.initial.front + vec_len l.initial.back;
  room : l.at ≤ vec_capacity l.front;
}

abbrev pub decreases-loop-back : goal.decreases-loop-back
decreases-loop-back g l = vec_len l.back
