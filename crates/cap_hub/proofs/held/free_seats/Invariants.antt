use Rattle.std.proofs.Common.{◌≡◌, All, length}
use Rattle.cap_hub.specs.Code.Held.{IsFree}
use Rattle.cap_hub.proofs.held.free_seats.Given as goal

abbrev pub invariant-loop-number : goal.invariant-loop-number
invariant-loop-number l = record { long : length l.free.items ≡ l.number; seats : All (IsFree l.list.book) l.free.items }
