use Rattle.cap_value.specs.Bytes.{bytes_cmp}
use Rattle.cap_core.specs.Answer.{state}
use Rattle.cap_core.specs.Table.{IsKeyed, IsLoose}
use Rattle.cap_core.proofs.KeyedLemmas.{each_rising, keyed_is, loose_is, ordered, tables_rising}
use Rattle.cap_core.proofs.laws.rows_are_under_own_keys.Goals as goal

pub returns : goal.returns
returns g c =
    let order = c.tables_keep_order.ensures in
    let rising = tables_rising order.empty order.run order.create c.applied_blobs_keep_order.ensures in
    record {
      names = λ h fits. ordered bytes_cmp (state h).main (rising h fits).names;
      keyed = λ h fits. each_rising IsKeyed keyed_is (state h).main (rising h fits);
      loose = λ h fits. each_rising IsLoose loose_is (state h).main (rising h fits);
      rising = rising;
    }
