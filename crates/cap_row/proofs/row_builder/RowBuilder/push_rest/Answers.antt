use Rattle.cap_row.proofs.EncodingLemmas.{still_encodes}
use Rattle.cap_row.proofs.row_builder.RowBuilder.push_rest.Goals as goal

pub invariant_of-self : goal.invariant_of-self
invariant_of-self g c = still_encodes c.push_bytes.result c.self.inside.bytes.items _ _ c.args.fields c.self.invariant c.as_bytes.ensures.fits c.as_bytes.ensures.bytes c.push_bytes.ensures.bytes c.push_bytes.ensures.kept
