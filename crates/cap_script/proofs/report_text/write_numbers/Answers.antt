use Rattle.std.proofs.Common.{string_bytes}
use Rattle.cap_script.specs.ReplyText.{number_text}
use Rattle.cap_script.proofs.RowLemmas.{one_more_at}
use Rattle.cap_script.proofs.report_text.write_numbers.Goals as goal

pub loop-number-preserved : goal.loop-number-preserved
loop-number-preserved g c =
    one_more_at (number_text c.args.word.now) c.args.numbers.now c.loop-number.number-index _ (string_bytes c.loop-number.out) (string_bytes c.write_number.new.out) _ c.loop-number-test.true c.in_ok-write_number.ensures c.loop-number.invariant
