use Rattle.std.proofs.Common.{◌≡◌, drop, map}
use Rattle.cap_dump.specs.Load.{create_each, named_in}
use Rattle.cap_dump.proofs.load_blob.create_groups.Given as goal

-- the tables that are left give what all of them give
abbrev pub invariant-loop-group : goal.invariant-loop-group
invariant-loop-group g l = create_each l.database (map named_in (drop l.group-index l.groups)) ≡ create_each l.fn.database (map named_in l.groups)
