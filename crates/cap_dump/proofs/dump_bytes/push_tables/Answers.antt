use Rattle.cap_dump.proofs.SpelledLemmas.{one_more_at}
use Rattle.cap_dump.proofs.dump_bytes.push_tables.Goals as goal

pub loop-named-preserved : goal.loop-named-preserved
loop-named-preserved g c =
    one_more_at c.args.key_flags c.args.tables.now c.loop-named.named-index c.named-item.result c.loop-named.out.items c.push_table.new.out.items _ c.loop-named-test.true c.named-item.is c.in_ok-push_table.ensures c.loop-named.invariant
