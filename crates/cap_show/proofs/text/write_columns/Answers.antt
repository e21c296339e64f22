use Rattle.std.proofs.Common.{false, rules}
use Rattle.std.proofs.Output.{has_written_append, has_written_of_eq}
use Rattle.cap_show.specs.ShowText.{column_text}
use Rattle.cap_show.proofs.TextLemmas.{pieces_at}
use Rattle.cap_show.proofs.text.write_columns.Goals as goal

pub loop-is_key-preserved : goal.loop-is_key-preserved
loop-is_key-preserved g c = λ plain.
    let so_far = c.loop-is_key.invariant plain in
    let next = c.write_column.ensures so_far.plain (search rules) in
    let more = pieces_at column_text c.args.flags.now c.loop-is_key.is_key-index false c.loop-is_key-test.true in
    has_written_of_eq _ _ _ _ _ more (has_written_append _ _ _ _ _ _ so_far next)
