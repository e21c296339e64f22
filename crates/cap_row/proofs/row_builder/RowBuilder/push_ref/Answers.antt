use Rattle.std.proofs.Common.{◌∷◌, [], sym, append-nil}
use Rattle.cap_row.proofs.EncodingLemmas.{still_encodes}
use Rattle.cap_row.proofs.row_builder.RowBuilder.push_ref.Goals as goal

pub invariant_of-self : goal.invariant_of-self
invariant_of-self g c = still_encodes c.push_value.result c.self.inside.bytes.items _ _ (_ ∷ []) c.self.invariant (c.requires, tt) (sym (append-nil _)) c.push_value.ensures.bytes c.push_value.ensures.kept
