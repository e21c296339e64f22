use Rattle.std.proofs.Common.{◌≡◌, ◌≤◌, ◌^◌, drop, take}
use Rattle.cap_language.specs.Scanning.{AreDigits, digits_on}
use Rattle.cap_language.proofs.token.digits_at.Given as goal

abbrev pub invariant-loop-i : goal.invariant-loop-i
invariant-loop-i l =
    (digits_on 0 l.bytes ≡ digits_on l.number (drop l.i l.bytes)) × (l.number ≤ 2 ^ 63) × AreDigits (take l.i l.bytes)
