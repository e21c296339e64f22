use Rattle.std.proofs.Common.{arith}
use Rattle.cap_value.proofs.blob.are_bytes.Goals as goal

pub returns : goal.returns
returns c = λ i lt. omega (arith, c.type_inv.bytes i)
