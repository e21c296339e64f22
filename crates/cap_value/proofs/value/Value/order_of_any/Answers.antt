use Rattle.cap_value.specs.Value.{value_cmp-Equal}
use Rattle.cap_value.specs.declared.value.Value.TheVariants.{Text, Blob}
use Rattle.cap_value.proofs.value.Value.order_of_any.Goals as goal

pub returns-in-Text-Text-clause-equal : goal.returns-in-Text-Text-clause-equal
returns-in-Text-Text-clause-equal g c = rw (c.cmp-in-Text-Text.ensures, c.as_str.ensures.bytes, c.as_str-in-Text-Text.ensures.bytes, c.in-Text-Text.is-0, c.in-Text-Text.is-1) (value_cmp-Equal (Text _) (Text _))

pub returns-in-Blob-Blob-clause-equal : goal.returns-in-Blob-Blob-clause-equal
returns-in-Blob-Blob-clause-equal g c = rw (c.cmp-in-Blob-Blob.ensures, c.as_slice.ensures.bytes, c.as_slice-in-Blob-Blob.ensures.bytes, c.in-Blob-Blob.is-0, c.in-Blob-Blob.is-1) (value_cmp-Equal (Blob _) (Blob _))
