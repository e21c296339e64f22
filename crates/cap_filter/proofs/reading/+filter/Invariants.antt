use Rattle.std.proofs.Common.{◌≡◌, ◌+◌, ◌*◌, ◌≤◌, Bool, List, ◌∷◌, length, map}
use denote.Text.{Utf8}
use denote.Shadow.{shadow}
use Rattle.cap_filter.specs.Limits.{depth_of_all, nodes_of_all}
use Rattle.cap_filter.specs.Plain.{rule_of, rules}
use Rattle.cap_filter.specs.Reading.{Frame, listed, a_filter, a_list, run}
use Rattle.cap_filter.specs.Tokens.{tokens_of}
use Rattle.cap_filter.proofs.reading.+filter.Given as goal

-- the recursion goes down the levels that are left
abbrev pub decreases-read_filter : goal.decreases-read_filter
decreases-read_filter g l = 2 * l.levels

abbrev pub decreases-read_members : goal.decreases-read_members
decreases-read_members g l = 2 * l.levels + 1

-- behind the members so far, the next filter is read as one more
abbrev pub invariant-read_members-loop-members : goal.invariant-read_members-loop-members
invariant-read_members-loop-members g l =
    record {
      is_text : shadow (Utf8 l.rest);
      reads : (every : Bool) (frames : List Frame) → length frames + 1 + l.levels ≡ 32 →
          run (a_filter (listed every (map rule_of l.members.items) ∷ frames)) l.room_left (tokens_of l.rest) ≡ run (a_list every frames) l.room (tokens_of l.text);
      shallow : depth_of_all (rules (map rule_of l.members.items)) ≤ l.levels;
      counted : l.room_left + nodes_of_all (rules (map rule_of l.members.items)) ≡ l.room;
    }

abbrev pub decreases-read_members-loop-members : goal.decreases-read_members-loop-members
decreases-read_members-loop-members g l = l.room_left
