use Rattle.std.proofs.Common.{◌≡◌, ◌++◌}
use Rattle.cap_session.proofs.tables.copy_of.Given as goal

abbrev pub invariant-loop-name : goal.invariant-loop-name
invariant-loop-name g l = l.all.entries ++ l.rest ≡ l.initial.rest
