use Rattle.cap_row.specs.Key.{fields_cmp-Equal}
use Rattle.cap_row.proofs.key.Key.order_of_many.Goals as goal

pub returns-clause-equal : goal.returns-clause-equal
returns-clause-equal g c = rw (c.cmp.ensures, c.fields.ensures.fields, c.fields-2.ensures.fields) (fields_cmp-Equal _ _)
