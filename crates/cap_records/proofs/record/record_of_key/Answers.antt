use Rattle.cap_records.proofs.AgainLemmas.{key_made}
use Rattle.cap_records.proofs.record.record_of_key.Goals as goal

pub returns-clause-again : goal.returns-clause-again
returns-clause-again c = rw c.fields.ensures.fields at (key_made (λ v. v.items) c.values_record.result c.fields.result.now (rw c.fields.ensures.fields c.fields.ensures.key) c.values_record.ensures.bytes c.values_record.ensures.fits)
