-- One operation as a list of its own, and what its hook is shown.
use Rattle.std.proofs.Common.{◌≡◌, Option, inl, inr, Result, Ok, Err, List, [], ◌∷◌, refl, sym}
use Rattle.std.proofs.lemmas.List.{append-nil}
use Rattle.std.specs.Prelude.{IsOk}
use Rattle.cap_value.specs.declared.memory.Fault.{Fault}
use Rattle.cap_value.specs.declared.memory.Fault.TheVariants.{Refused, OutOfMemory}
use Rattle.cap_value.specs.declared.refusal.Refusal.{Refusal}
use Rattle.cap_row.specs.Fields.{Fields}
use Rattle.cap_database.specs.KeptKey.{AreOfKey, change_of}
use Rattle.cap_database.specs.Operation.{changes, run, step}
use Rattle.cap_database.specs.Read.{row_at}
use Rattle.cap_database.specs.Tables.{Tables}
use Rattle.cap_database.specs.Write.{AnswersChanges, AreShown, IsAsked, Writes}
use Rattle.cap_database.specs.declared.change.Change.{Change}
use Rattle.cap_database.specs.declared.op.Op.{Op}

pub one_run : {A : Type 0} (tables : Tables A) (op : Op A) (after : Tables A) → step tables op ≡ Ok after → run tables (op ∷ []) ≡ Ok (record { database = after; changes = changes tables op })
one_run tables op after is = rw is (rw (append-nil (changes tables op)))

pub shown-of-key : {A : Type 0} (op : Op A) (key : Fields A) (before : Option (Fields A)) (changes : List (Change A)) → AreOfKey op key before changes → AreShown (change_of op key before ∷ []) changes
shown-of-key op key before changes (inl is) = inl (sym is)
shown-of-key op key before changes (inr is) = inr (change_of op key before, refl, is)

module _ {A S E : Type 0} (gives : S → List (Change A) → Result Unit E → S → Type 0) (tables new : Tables A) (op : Op A) (key : Fields A) (before after : S)
    (kept : (left : Tables A) → step tables op ≡ Ok left → AreOfKey op key (row_at tables op.table key) (changes tables op)) where
  abbrev shown : List (Change A)
  shown = change_of op key (row_at tables op.table key) ∷ []

  asked : (left : Tables A) → step tables op ≡ Ok left → (answer : Result Unit E) → gives before shown answer after → IsAsked gives (changes tables op) answer before after
  asked left is answer answered = (shown, shown-of-key op key (row_at tables op.table key) (changes tables op) (kept left is), answered)

  -- the hook allowed one operation
  pub one_allowed : step tables op ≡ Ok new → gives before shown (Ok tt) after → Writes gives (run tables (op ∷ [])) tables new before after (Ok (Ok tt))
  one_allowed is answered = (changes tables op, one_run tables op new is, asked new is (Ok tt) answered)

  -- the hook refused it, or ran out of memory
  pub one_vetoed : (fault : Fault E) → new ≡ tables → IsOk (step tables op) → AnswersChanges gives shown before after (Err fault) → Writes gives (run tables (op ∷ [])) tables new before after (Err fault)
  one_vetoed OutOfMemory same accepted answered = (same, answered)
  one_vetoed (Refused why) same accepted answered = inner (step tables op) refl accepted
    where
      inner : (r : Result (Tables A) Refusal) → step tables op ≡ r → IsOk r → Writes gives (run tables (op ∷ [])) tables new before after (Err (Refused why))
      inner (Ok left) is met = (record { database = left; changes = changes tables op }, one_run tables op left is, same, asked left is (Err why) answered)
      inner (Err refusal) is met = cc
