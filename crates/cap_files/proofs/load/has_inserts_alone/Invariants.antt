use Rattle.std.proofs.Common.{◌≡◌}
use Rattle.std.specs.List.{list_all}
use Rattle.cap_files.specs.Summary.{is_change}
use Rattle.cap_files.specs.declared.counts.Counted.TheVariants.{Inserts}
use Rattle.cap_files.proofs.load.has_inserts_alone.Given as goal

-- INSERTs alone so far
abbrev pub invariant-loop-change : goal.invariant-loop-change
invariant-loop-change g l =
    list_all (is_change Inserts) l.change-iterator ≡ list_all (is_change Inserts) l.group.changes
