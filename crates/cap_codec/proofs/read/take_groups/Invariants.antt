use Rattle.cap_codec.proofs.Common.{length, entries_at, groups_at}
use Rattle.cap_codec.proofs.Left.{GroupsLeft}
use Rattle.cap_codec.proofs.read.take_groups.Given as goal

abbrev pub invariant-loop-rest : goal.invariant-loop-rest
invariant-loop-rest g l = GroupsLeft (entries_at g.C.Entry.one_at) g.C.Entry.kind l.list l.total l.rest (groups_at (entries_at g.C.Entry.one_at) g.C.Entry.kind (length l.bytes) l.total l.bytes)

abbrev pub decreases-loop-rest : goal.decreases-loop-rest
decreases-loop-rest g l = length l.rest
