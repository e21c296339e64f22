-- The names that a filter accepts.
use Rattle.std.specs.Prelude.{ℕ, List, Bool, true, false, not, ◌&&◌, ◌||◌, nat_eq}
use Rattle.std.specs.List.{starts_with, ends_with}
use Rattle.cap_value.specs.Bytes.{bytes_eq}
use Rattle.cap_filter.specs.Rule.{Rule, all, nothing, is, starts, ends, negation, conjunction, disjunction}
use Rattle.cap_filter.specs.Rule.{Rules, no_rules, rule}

abbrev mutual
  pub accepts : Rule → List ℕ → Bool
  accepts all name = true
  accepts nothing name = false
  accepts (is w) name = bytes_eq name w
  accepts (starts w) name = starts_with nat_eq name w
  accepts (ends w) name = ends_with nat_eq name w
  accepts (negation r) name = not (accepts r name)
  accepts (conjunction rs) name = all_accept rs name
  accepts (disjunction rs) name = any_accepts rs name

  pub all_accept : Rules → List ℕ → Bool
  all_accept no_rules name = true
  all_accept (rule r rs) name = accepts r name && all_accept rs name

  pub any_accepts : Rules → List ℕ → Bool
  any_accepts no_rules name = false
  any_accepts (rule r rs) name = accepts r name || any_accepts rs name
