use Rattle.std.proofs.Common.{◌∷◌, [], sym, ◌∙◌, append-nil}
use Rattle.cap_row.proofs.EncodingLemmas.{still_encodes}
use Rattle.cap_row.proofs.row_builder.RowBuilder.push_next.Goals as goal

pub invariant_of-self : goal.invariant_of-self
invariant_of-self g c =
    let (value, parts, (spelled, fits)) = c.in-Some.ensures in
    still_encodes c.push_bytes.result c.self.inside.bytes.items _ _ (value ∷ []) c.self.invariant (fits, tt) (spelled ∙ sym (append-nil _)) c.push_bytes.ensures.bytes c.push_bytes.ensures.kept
