use Rattle.std.proofs.Common.{arith}
use Rattle.std.proofs.lemmas.Grind.{common_steps}
use Rattle.cap_value.specs.Value.{IsValue}
use Rattle.cap_changes.proofs.EachLemmas.{all_more}
use Rattle.cap_records.proofs.writing.values_record.Goals as goal

pub loop-value-preserved : goal.loop-value-preserved
loop-value-preserved c = record {
  bytes = grind (arith, common_steps);
  fits = all_more IsValue _ c.loop-value.value-index c.value-item.result c.loop-value-test.true c.value-item.is c.loop-value.invariant.fits c.keeps_limits.ensures;
}
