use Rattle.std.proofs.Common.{◌≡◌, ◌++◌, map}
use Rattle.cap_group.specs.Place.{place_of}
use Rattle.cap_group.proofs.place.places_of.Given as goal

-- what was put, and the changes that are left
abbrev pub invariant-loop-change : goal.invariant-loop-change
invariant-loop-change g l =
    l.places.items ++ map (place_of g.C.Combine.key l.group.schema) l.change-iterator ≡ map (place_of g.C.Combine.key l.group.schema) l.group.changes
