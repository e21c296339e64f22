use Rattle.std.proofs.Common.{◌≡◌, map, take}
use Rattle.cap_filter.specs.Plain.{rule_of}
use Rattle.cap_filter.proofs.filter.Filter.+copy.Given as goal

abbrev pub invariant-copy_all-loop-filter : goal.invariant-copy_all-loop-filter
invariant-copy_all-loop-filter g l = map rule_of l.copies.items ≡ map rule_of (take l.filter-index l.filters)
