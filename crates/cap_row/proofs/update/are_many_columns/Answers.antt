use Rattle.std.proofs.Common.{◌∙◌, sym, arith}
use Rattle.std.proofs.lemmas.Grind.{common_steps}
use Rattle.cap_row.proofs.RowLemmas.{accepted}
use Rattle.cap_row.proofs.update.are_many_columns.Goals as goal

pub loop-column-preserved : goal.loop-column-preserved
loop-column-preserved g c = record {
  long = grind (arith, common_steps);
  left =
      sym (accepted c.args.width c.args.fields.now c.loop-column.named c.loop-column.column-index c.loop-column-item.result c.loop-column-test.true c.loop-column-item.is (omega arith) c.if-column-width.false c.if-named-column.false)
      ∙ c.loop-column.invariant.left;
}
