use Rattle.std.proofs.Common.{◌≡◌, ◌++◌, map, drop, string_bytes}
use Rattle.cap_filter.specs.Plain.{rule_of, rules}
use Rattle.cap_filter.specs.Printed.{members_text, more_text}
use Rattle.cap_filter.proofs.filter.Filter.+write.Given as goal

abbrev pub invariant-write_list-loop-filter : goal.invariant-write_list-loop-filter
invariant-write_list-loop-filter g l =
    string_bytes l.out ++ more_text (rules (map rule_of (drop l.filter-index l.rest))) ≡ string_bytes l.fn.out ++ members_text (rules (map rule_of l.filters))
