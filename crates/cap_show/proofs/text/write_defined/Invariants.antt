use Rattle.std.proofs.Common.{codes, true}
use Rattle.cap_show.specs.ShowText.{value_text}
use Rattle.cap_show.proofs.TextLemmas.{WrittenSoFar, defined, joined_left}
use Rattle.cap_show.proofs.text.write_defined.Given as goal

abbrev pub invariant-loop-field : goal.invariant-loop-field
invariant-loop-field g l = WrittenSoFar g.W.Write.write_str_gives l.initial.f l.f (joined_left value_text (codes ",") l.is_first (defined l.field-iterator)) (joined_left value_text (codes ",") true (defined l.fields))
