use Rattle.std.proofs.Common.{string_bytes}
use Rattle.cap_expected.specs.Expected.{where_on}
use Rattle.cap_expected.proofs.ExpectedLemmas.{one_more_at}
use Rattle.cap_expected.proofs.expected.list_among.Goals as goal

pub loop-word-preserved : goal.loop-word-preserved
loop-word-preserved g c =
    one_more_at (λ word. where_on g.row.A.Denot c.args.before.now word.now word.now) c.args.texts.now c.loop-word.word-index _ (string_bytes c.loop-word.out) (string_bytes c.list_where_on.new.out) _ c.loop-word-test.true c.in_ok-list_where_on.ensures c.loop-word.invariant
