use Rattle.std.proofs.Common.{◌++◌, codes}
use Rattle.std.specs.List.{flat_map}
use Rattle.cap_show.specs.ShowText.{field_text}
use Rattle.cap_show.proofs.TextLemmas.{WrittenSoFar}
use Rattle.cap_show.proofs.text.write_more_fields.Given as goal

abbrev pub invariant-loop-field : goal.invariant-loop-field
invariant-loop-field g l = WrittenSoFar g.W.Write.write_str_gives l.initial.f l.f (flat_map (λ field. codes "," ++ field_text field) l.field-iterator) (flat_map (λ field. codes "," ++ field_text field) l.fn.fields)
