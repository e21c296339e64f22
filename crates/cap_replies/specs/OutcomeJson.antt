-- What a step of a transaction led to as JSON (RFC 8259): an object on a line.
use Rattle.std.specs.Prelude.{ℕ, Option, None, List, [], ◌∷◌, ◌++◌, codes}
use Rattle.json.specs.Print.{print}
use Rattle.json.specs.Token.{Token}
use Rattle.json.specs.Token as token
use Rattle.cap_row.specs.Fields.{Fields}
use Rattle.cap_table.specs.declared.row_ref.RowRef.{RowRef}
use Rattle.cap_txn.specs.declared.answered_call.Answer as answered
use Rattle.cap_txn.specs.declared.answered_call.Answer.TheVariants.{Done, Mark, Refused, Row, Rows}
use Rattle.cap_replies.specs.ReplyJson.{found, kind, line_members, named_refusal, number_member, refused}
use Rattle.cap_replies.specs.ReplyJson.{rows_member}
use Rattle.cap_replies.specs.declared.outcome.Outcome.{Outcome}
use Rattle.cap_replies.specs.declared.outcome.Outcome.TheVariants.{Answer, Begun, InTransaction}
use Rattle.cap_replies.specs.declared.outcome.Outcome.TheVariants.{NoConflict, NoTransaction, OtherKey}
use Rattle.cap_replies.specs.declared.outcome.Outcome.TheVariants.{RolledBack, Unanswered}

module _ {A : Type 0} where
  -- Rows that are read in a transaction have no version of the tables.
  abbrev pub row_answer : Option (Fields A) → List Token
  row_answer fields = kind (codes "row") ++ token.key (codes "row") ∷ found fields

  abbrev pub rows_answer : List (RowRef A × Fields A) → List Token
  rows_answer rows = kind (codes "rows") ++ rows_member rows

  -- what the open transaction answers to a call
  abbrev pub answer_members : answered.Answer A → List Token
  answer_members Done = kind (codes "done")
  answer_members (Refused why) = refused None why
  answer_members (Row fields) = row_answer fields
  answer_members (Rows rows) = rows_answer rows
  answer_members (Mark mark) = kind (codes "savepoint") ++ number_member (codes "savepoint") mark.number

  abbrev pub outcome_members : Outcome A → List Token
  outcome_members (Answer answer) = answer_members answer
  outcome_members Begun = kind (codes "done")
  outcome_members RolledBack = kind (codes "done")
  outcome_members NoTransaction = named_refusal (codes "E21 NoTransaction")
  outcome_members InTransaction = named_refusal (codes "E22 InTransaction")
  outcome_members NoConflict = named_refusal (codes "E23 NoConflict")
  outcome_members Unanswered = named_refusal (codes "E24 Unanswered")
  outcome_members OtherKey = named_refusal (codes "E25 OtherKey")

  -- what a step of the line with this number led to
  unfoldable pub outcome_json : ℕ → Option ℕ → Outcome A → List ℕ
  outcome_json number worker outcome =
      print (token.begin_object
      ∷ (line_members number worker ++ (outcome_members outcome ++ token.end_object ∷ [])))
