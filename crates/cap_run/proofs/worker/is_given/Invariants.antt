use Rattle.std.proofs.Common.{◌≡◌, [], take}
use Rattle.cap_run.specs.Code.Calls.{seat_lines}
use Rattle.cap_run.proofs.worker.is_given.Given as goal

abbrev pub invariant-loop-line : goal.invariant-loop-line
invariant-loop-line g l = seat_lines l.threads l.seat (take l.line-index l.block) ≡ []
