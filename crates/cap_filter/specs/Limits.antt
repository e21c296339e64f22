-- The size of a filter.
use Rattle.std.specs.Prelude.{ℕ, ◌+◌, max, Bool, ◌&&◌, nat_le}
use Rattle.cap_filter.specs.Rule.{Rule, all, nothing, is, starts, ends, negation, conjunction, disjunction}
use Rattle.cap_filter.specs.Rule.{Rules, no_rules, rule}

-- the levels of a filter: one that has no filter inside it has one
abbrev mutual
  pub depth : Rule → ℕ
  depth all = 1
  depth nothing = 1
  depth (is w) = 1
  depth (starts w) = 1
  depth (ends w) = 1
  depth (negation r) = depth r + 1
  depth (conjunction rs) = depth_of_all rs + 1
  depth (disjunction rs) = depth_of_all rs + 1

  pub depth_of_all : Rules → ℕ
  depth_of_all no_rules = 0
  depth_of_all (rule r rs) = max (depth r) (depth_of_all rs)

-- the filter and the filters inside it, at all levels
abbrev mutual
  pub nodes : Rule → ℕ
  nodes all = 1
  nodes nothing = 1
  nodes (is w) = 1
  nodes (starts w) = 1
  nodes (ends w) = 1
  nodes (negation r) = nodes r + 1
  nodes (conjunction rs) = nodes_of_all rs + 1
  nodes (disjunction rs) = nodes_of_all rs + 1

  pub nodes_of_all : Rules → ℕ
  nodes_of_all no_rules = 0
  nodes_of_all (rule r rs) = nodes r + nodes_of_all rs

abbrev pub is_within_limits : Rule → Bool
is_within_limits r = nat_le (depth r) 32 && nat_le (nodes r) 1000
