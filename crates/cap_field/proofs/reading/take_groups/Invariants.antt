use Rattle.std.proofs.Common.{◌≡◌, ◌^◌, ◌<◌, ◌≤◌, drop}
use Rattle.cap_field.specs.Reading.{place, varint_from, varint_at}
use Rattle.cap_field.proofs.reading.take_groups.Given as goal

abbrev pub invariant-loop-read : goal.invariant-loop-read
invariant-loop-read l =
    (l.read ≤ 4) × (l.high < 128 ^ l.read)
    × (varint_from l.total (place l.total l.bytes) l.read l.high (drop l.read l.bytes) ≡ varint_at l.total l.bytes)
