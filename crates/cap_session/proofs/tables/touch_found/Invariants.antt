use Rattle.std.proofs.Common.{◌≡◌, take}
use Rattle.cap_session.specs.Recording.{touch_table, touches_found}
use Rattle.cap_session.proofs.tables.touch_found.Given as goal

abbrev pub invariant-loop-difference : goal.invariant-loop-difference
invariant-loop-difference g l = l.tables.entries ≡ touch_table l.name (touches_found l.indirect (take l.difference-index l.differences)) l.initial.tables.entries
