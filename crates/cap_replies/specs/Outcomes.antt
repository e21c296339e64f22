-- What a step of a transaction led to, as it is printed.
use Rattle.std.specs.Prelude.{ℕ, Option, List, codes}
use Rattle.cap_replies.specs.OutcomeJson.{outcome_json}
use Rattle.cap_replies.specs.declared.outcome.Outcome.{Outcome}
use Rattle.cap_replies.specs.declared.outcome.Outcome.TheVariants.{Answer, Begun, InTransaction}
use Rattle.cap_replies.specs.declared.outcome.Outcome.TheVariants.{NoConflict, NoTransaction, OtherKey}
use Rattle.cap_replies.specs.declared.outcome.Outcome.TheVariants.{RolledBack, Unanswered}
use Rattle.cap_replies.specs.declared.run_line.ReplyForm.{ReplyForm}
use Rattle.cap_replies.specs.declared.run_line.ReplyForm.TheVariants.{Json, Text}
use Rattle.cap_replies.specs.declared.run_line.RunLine.{RunLine}
use Rattle.cap_script.specs.RefusalText.{in_transaction_text, no_conflict_text, no_transaction_text}
use Rattle.cap_script.specs.RefusalText.{other_key_text, unanswered_text}
use Rattle.cap_script.specs.StepText.{answer_text}

module _ {A : Type 0} where
  abbrev pub step_text : Outcome A → List ℕ
  step_text (Answer answer) = answer_text answer
  step_text Begun = codes "ok"
  step_text RolledBack = codes "ok"
  step_text NoTransaction = no_transaction_text
  step_text InTransaction = in_transaction_text
  step_text NoConflict = no_conflict_text
  step_text Unanswered = unanswered_text
  step_text OtherKey = other_key_text

  abbrev pub outcome_in : ReplyForm → ℕ → Option ℕ → Outcome A → List ℕ
  outcome_in Text number worker outcome = step_text outcome
  outcome_in Json number worker outcome = outcome_json number worker outcome

  -- its text, or the JSON of it
  abbrev pub outcome_text : RunLine A → Outcome A → List ℕ
  outcome_text line outcome = outcome_in line.form line.number line.line.worker outcome
