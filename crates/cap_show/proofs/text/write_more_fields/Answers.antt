use Rattle.std.proofs.Common.{◌++◌, codes, ap, rules}
use Rattle.std.specs.List.{flat_map}
use Rattle.cap_changes.specs.FieldRecord.{RecordFields}
use Rattle.cap_show.specs.ShowText.{field_text}
use Rattle.cap_show.proofs.TextLemmas.{written_all, written_more, written_none}
use Rattle.cap_show.proofs.text.write_more_fields.Goals as goal

pub loop-field-init : goal.loop-field-init
loop-field-init g c =
    let texts = λ (fields : RecordFields g.row.A.Denot). flat_map (λ field. codes "," ++ field_text field) fields in
    written_none g.W.Write.write_str_gives _ _ _ (ap texts c.into_iter-field-iterator.ensures.into_iter_gives)

pub loop-field-preserved : goal.loop-field-preserved
loop-field-preserved g c =
    let texts = λ (fields : RecordFields g.row.A.Denot). flat_map (λ field. codes "," ++ field_text field) fields in
    written_more g.W.Write.write_str_gives _ _ _ _ _ _ _ (ap texts c.in-Some.ensures.steps) c.loop-field.invariant (λ plain. c.write_next_field.ensures plain (search rules))

pub returns : goal.returns
returns g c = λ plain ok.
    let texts = λ (fields : RecordFields g.row.A.Denot). flat_map (λ field. codes "," ++ field_text field) fields in
    written_all g.W.Write.write_str_gives _ _ _ _ (ap texts c.in-None.ensures.steps.0) c.loop-field.invariant plain
