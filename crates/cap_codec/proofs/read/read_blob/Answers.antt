use Rattle.cap_codec.proofs.Common.{arith, are_low, Contents}
use Rattle.cap_codec.proofs.SpelledBlob.{blob_spelled}
use Rattle.cap_codec.proofs.read.read_blob.Goals as goal

pub returns-clause-spelled : goal.returns-clause-spelled
returns-clause-spelled g c =
    let spelled = λ (blob : Contents g.row.A.Denot). blob_spelled c.args.bytes.now blob (are_low c.args.bytes.now (λ i. omega (arith, c.type_inv.bytes i))) in
    grind (arith, spelled, c.take_blob.ensures.answers)
