use Rattle.cap_codec.proofs.Common.{◌-◌, length, IsPlace}
use Rattle.cap_codec.proofs.scan.scan_from.Given as goal

abbrev pub invariant-loop-behind : goal.invariant-loop-behind
invariant-loop-behind g l = IsPlace l.bytes l.place

abbrev pub decreases-loop-behind : goal.decreases-loop-behind
decreases-loop-behind g l = length l.bytes - l.place.at
