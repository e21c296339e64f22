use denote.Text.{Utf8}
use denote.Shadow.{shadow}
use Rattle.cap_console.proofs.text_names.push_record.Given as goal

abbrev pub invariant-loop-field : goal.invariant-loop-field
invariant-loop-field l =
    (goal.iterator-loop-field).can_next l.field-iterator ×
    (goal.iterator-loop-field).is_finite l.field-iterator ×
    shadow (Utf8 l.before)
