use Rattle.std.proofs.Common.{ℕ, ◌<◌}
use Rattle.cap_server.specs.Close.{StandsAt}
use Rattle.cap_server.proofs.handed_back.place_of.Given as goal

abbrev pub invariant-loop-place : goal.invariant-loop-place
invariant-loop-place g l = (place : ℕ) → place < l.place → ¬ StandsAt l.seats l.number place
