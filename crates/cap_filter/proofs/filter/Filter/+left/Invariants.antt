use Rattle.std.proofs.Common.{◌≡◌, ◌+◌, ◌*◌, ◌≤◌, max, map, drop}
use Rattle.cap_filter.specs.Plain.{rule_of, rules}
use Rattle.cap_filter.specs.Limits.{depth_of_all, nodes_of_all}
use Rattle.cap_filter.proofs.filter.Filter.+left.Given as goal

-- the recursion goes down the levels that are left
abbrev pub decreases-room_left : goal.decreases-room_left
decreases-room_left g l = 2 * l.levels

abbrev pub decreases-room_left_by_all : goal.decreases-room_left_by_all
decreases-room_left_by_all g l = 2 * l.levels + 1

abbrev pub invariant-room_left_by_all-loop-filter : goal.invariant-room_left_by_all-loop-filter
invariant-room_left_by_all-loop-filter g l =
    record {
      no_deeper : depth_of_all (rules (map rule_of (drop l.filter-index l.filters))) ≤ depth_of_all (rules (map rule_of l.filters));
      shallow : depth_of_all (rules (map rule_of l.filters)) ≤ max l.levels (depth_of_all (rules (map rule_of (drop l.filter-index l.filters))));
      counted : l.left + nodes_of_all (rules (map rule_of l.filters)) ≡ l.room + nodes_of_all (rules (map rule_of (drop l.filter-index l.filters)));
    }
