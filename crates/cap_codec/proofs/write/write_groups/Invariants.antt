use Rattle.cap_codec.proofs.Common.{◌≡◌, take, flat_map, entries_bytes}
use Rattle.cap_codec.proofs.write.write_groups.Given as goal

abbrev pub invariant-loop-group : goal.invariant-loop-group
invariant-loop-group g l = l.out.items ≡ flat_map (entries_bytes l.key_flags g.C.Entry.kind g.C.Entry.bytes_of) (take l.group-index l.group-items)
