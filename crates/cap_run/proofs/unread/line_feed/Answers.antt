use Rattle.std.proofs.Common.{take_all}
use Rattle.cap_run.proofs.UnreadLemmas.{feed_at}
use Rattle.cap_run.proofs.unread.line_feed.Goals as goal

pub returns-then-bytes-at-eq10 : goal.returns-then-bytes-at-eq10
returns-then-bytes-at-eq10 c = (c.loop-at-test.true, feed_at c.args.bytes.now c.loop-at.at _ c.loop-at-test.true c.if-bytes-at-eq10.true, c.loop-at.invariant)

pub returns : goal.returns
returns c = rw (take_all _ _ c.loop-at-test.false) at c.loop-at.invariant
