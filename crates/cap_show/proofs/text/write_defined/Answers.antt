use Rattle.std.proofs.Common.{ap, rules, sym, ◌∙◌, ◌++◌, codes, Bool, true}
use Rattle.cap_changes.specs.FieldReading.{field_of}
use Rattle.cap_changes.specs.FieldRecord.{RecordFields}
use Rattle.cap_show.specs.ShowText.{value_text}
use Rattle.cap_show.specs.Code.DefinedFields.{next_text}
use Rattle.cap_show.proofs.TextLemmas.{defined, defined_left, joined_left, none_defined, written_all, written_more, written_none}
use Rattle.cap_show.proofs.text.write_defined.Goals as goal

pub loop-field-init : goal.loop-field-init
loop-field-init g c =
    written_none g.W.Write.write_str_gives _ _ _
    (ap (λ (fields : RecordFields g.row.A.Denot). joined_left value_text (codes ",") true (defined fields)) (c.into_iter-field-iterator.ensures.into_iter_gives ∙ c.copy-field-items.ensures))

pub loop-field-preserved : goal.loop-field-preserved
loop-field-preserved g c =
    let first = c.loop-field.is_first in
    let left = defined_left value_text first c.loop-field.field-iterator c.next.new.self (field_of c.in-Some.field) c.in-Some.ensures.steps in
    let others = ap (λ (b : Bool). next_text value_text first (field_of c.in-Some.field) ++ joined_left value_text (codes ",") b (defined c.next.new.self)) (sym c.write_if_defined.ensures.first) in
    written_more g.W.Write.write_str_gives _ _ _ _ _ _ _ (left ∙ others) c.loop-field.invariant (λ plain. c.write_if_defined.ensures.text plain (search rules))

pub returns : goal.returns
returns g c = λ plain ok.
    written_all g.W.Write.write_str_gives _ _ _ _ (none_defined value_text c.loop-field.is_first c.loop-field.field-iterator c.in-None.ensures.steps.0) c.loop-field.invariant plain
