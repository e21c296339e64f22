use Rattle.std.proofs.Common.{◌≡◌, map, drop}
use Rattle.cap_filter.specs.Plain.{rule_of, rules}
use Rattle.cap_filter.specs.Accepts.{all_accept, any_accepts}
use Rattle.cap_filter.proofs.filter.Filter.+accepts.Given as goal

abbrev pub invariant-all_accept-loop-filter : goal.invariant-all_accept-loop-filter
invariant-all_accept-loop-filter g l =
    all_accept (rules (map rule_of (drop l.filter-index l.filters))) l.name ≡ all_accept (rules (map rule_of l.filters)) l.name

abbrev pub invariant-any_accepts-loop-filter : goal.invariant-any_accepts-loop-filter
invariant-any_accepts-loop-filter g l =
    any_accepts (rules (map rule_of (drop l.filter-index l.filters))) l.name ≡ any_accepts (rules (map rule_of l.filters)) l.name
