use Rattle.cap_value.specs.Bytes.{bytes_cmp-Equal}
use Rattle.cap_value.proofs.name.Name.order.Goals as goal

pub returns-clause-equal : goal.returns-clause-equal
returns-clause-equal g c = rw (c.cmp.ensures, c.as_str.ensures.bytes, c.as_str-2.ensures.bytes) (bytes_cmp-Equal _ _)
