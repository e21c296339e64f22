use Rattle.cap_core.proofs.KeyedLemmas.{main-rises}
use Rattle.cap_captures.proofs.OverLemmas.{concatenated-captures}
use Rattle.cap_captures.proofs.PeriodLemmas.{captures-follow}
use Rattle.cap_captures.proofs.laws.captures_in_a_row_are_the_one_capture.Goals as goal

pub returns : goal.returns
returns g c =
    let order = c.tables_keep_order.ensures in
    let rises = main-rises order.empty order.run order.create c.applied_blobs_keep_order.ensures in
    let keep = c.tables_keep_columns.ensures in
    record {
      follow = λ session start later event fresh restarted steady fits. captures-follow keep.run keep.create rises session start fresh event later restarted steady fits;
      concatenation = λ session start later event fresh restarted steady fits.
          concatenated-captures keep.run keep.create rises session start fresh event later restarted steady fits;
    }
