use Rattle.std.proofs.Common.{string_bytes}
use Rattle.cap_script.specs.ListText.{column_letter}
use Rattle.cap_script.proofs.RowLemmas.{one_more_at}
use Rattle.cap_script.proofs.list_text.write_columns.Goals as goal

pub loop-flag-preserved : goal.loop-flag-preserved
loop-flag-preserved g c =
    one_more_at column_letter c.args.flags.now c.loop-flag.flag-index _ (string_bytes c.loop-flag.out) (string_bytes c.write_column.new.out) _ c.loop-flag-test.true c.in_ok-write_column.ensures c.loop-flag.invariant
