use Rattle.std.proofs.Common.{◌≡◌, drop, map}
use Rattle.cap_group.specs.ChangeGroup.{with_groups}
use Rattle.cap_group.specs.Grown.{before}
use Rattle.cap_group.specs.KeyedChanges.{keyed_of}
use Rattle.cap_group.proofs.tables.push_groups.Given as goal

-- the groups that are left give what all of them give
abbrev pub invariant-loop-place : goal.invariant-loop-place
invariant-loop-place g l = record {
  content : with_groups g.C.Combine.key g.C.Combine.combined l.place (map (keyed_of g.C.Combine.key g.C.Combine.combined) l.tables.items) (drop l.place l.groups)
      ≡ with_groups g.C.Combine.key g.C.Combine.combined 0 (map (keyed_of g.C.Combine.key g.C.Combine.combined) l.fn.tables.items) l.groups;
  steps : before l.steps.items l.tables.items ≡ before l.fn.steps.items l.fn.tables.items;
}
