use Rattle.cap_codec.proofs.Common.{arith, append_assoc, nat_tests, entries_at}
use Rattle.cap_codec.proofs.Left.{GroupsLeft, groups_next}
use Rattle.cap_codec.proofs.read.take_groups.Goals as goal

pub loop-rest-preserved : goal.loop-rest-preserved
unfolding GroupsLeft
loop-rest-preserved g c =
    let (most, le, e) = groups_next (entries_at g.C.Entry.one_at) g.C.Entry.kind c.loop-rest.list c.args.total c.loop-rest.rest.now _ c.in-len1-up.len_at_least c.loop-rest.invariant in
    (most, omega (arith, le, c.in_ok-group.ensures.behind), grind (arith, nat_tests, append_assoc, e))
