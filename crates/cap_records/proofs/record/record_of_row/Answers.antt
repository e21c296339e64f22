use Rattle.cap_records.proofs.AgainLemmas.{row_encoded}
use Rattle.cap_records.proofs.record.record_of_row.Goals as goal

pub returns-clause-again : goal.returns-clause-again
returns-clause-again c =
    rw c.in_ok-from_slice.ensures.items
    (row_encoded c.as_bytes.result.now c.args.row.now (rw c.fields.ensures at c.as_bytes.ensures.bytes) (rw c.fields.ensures at c.as_bytes.ensures.fits))
