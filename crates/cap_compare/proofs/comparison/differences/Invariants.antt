use Rattle.std.proofs.Common.{◌≡◌, ◌++◌}
use Rattle.std.specs.Prelude.{filter_map}
use Rattle.cap_compare.specs.Compare.{differences, difference_at, image_at}
use Rattle.cap_compare.proofs.comparison.differences.Given as goal

-- what was found, and the differences at the keys to come
abbrev pub invariant-loop-key : goal.invariant-loop-key
invariant-loop-key g l = l.found.items ++ filter_map (λ row. difference_at row.0 (image_at row.1.0 row.1.1)) l.key-iterator ≡ differences l.from l.to
