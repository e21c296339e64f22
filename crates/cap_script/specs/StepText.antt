-- The text of what a transaction answers to a step.
use Rattle.std.specs.Prelude.{ℕ, List, ◌++◌, Ok, codes, decimal}
use Rattle.cap_txn.specs.declared.answered_call.Answer.{Answer}
use Rattle.cap_txn.specs.declared.answered_call.Answer.TheVariants.{Done, Mark, Refused, Row, Rows}
use Rattle.cap_script.specs.RefusalText.{refusal_text}
use Rattle.cap_script.specs.RowText.{get_text, scan_text}

-- what the open transaction answers to a call
abbrev pub answer_text : {A : Type 0} → Answer A → List ℕ
answer_text Done = codes "ok"
answer_text (Refused why) = codes "refused: " ++ refusal_text why
answer_text (Row row) = get_text (Ok row)
answer_text (Rows rows) = scan_text (Ok rows)
answer_text (Mark mark) = codes "savepoint " ++ decimal mark.number
