use Rattle.std.proofs.Common.{◌≡◌, ◌+◌, ◌≤◌, ◌++◌, vec_len}
use Rattle.std.specs.Vec.{vec_capacity}
use Rattle.cap_tree.proofs.shift.shift_back.Given as goal

abbrev pub invariant-loop-front : goal.invariant-loop-front
invariant-loop-front g l = record {
  moved : l.front.items ++ l.back.items ≡ l.initial.front.items ++ l.initial.back.items;
  not_less : l.at ≤ vec_len l.front;
  len : vec_len l.front + vec_len l.back ≡ vec_len l.initial.front + vec_len l.initial.back;
  room : vec_len l.initial.front + vec_len l.initial.back ≤ l.at + vec_capacity l.back;
}

abbrev pub decreases-loop-front : goal.decreases-loop-front
decreases-loop-front g l = vec_len l.front
