-- Operations on a database in place, with a hook that is shown their changes.
use Rattle.std.specs.Prelude.{◌≡◌, ◌⊎◌, None, List, [], ◌∷◌, Result, Ok, Err}
use Rattle.cap_value.specs.declared.memory.Fault.{Fault}
use Rattle.cap_value.specs.declared.memory.Fault.TheVariants.{Refused, OutOfMemory}
use Rattle.cap_database.specs.Outcome.{OutcomeState}
use Rattle.cap_database.specs.Tables.{Tables}
use Rattle.cap_database.specs.declared.change.Change.{Change}
use Rattle.cap_database.specs.declared.refused_at.RefusedAt.{RefusedAt}

-- what the hook is shown: all changes, or of one update that keeps its row's key the first alone
abbrev pub AreShown : {A : Type 0} → List (Change A) → List (Change A) → Type 0
AreShown {A = A} shown changes = (shown ≡ changes)
    ⊎ ((change : Change A) × (shown ≡ change ∷ []) × (changes ≡ change ∷ record change { before = None } ∷ []))

module _ {A S E : Type 0} (gives : S → List (Change A) → Result Unit E → S → Type 0) where
  -- the hook allowed these changes, or refused them, or ran out of memory and is as before
  abbrev pub AnswersChanges : List (Change A) → S → S → Result Unit (Fault E) → Type 0
  AnswersChanges changes before after (Ok done) = gives before changes (Ok tt) after
  AnswersChanges changes before after (Err (Refused why)) = gives before changes (Err why) after
  AnswersChanges changes before after (Err OutOfMemory) = after ≡ before

  -- the hook was shown these changes
  abbrev pub IsAsked : List (Change A) → Result Unit E → S → S → Type 0
  IsAsked changes answer before after =
      (shown : List (Change A)) × AreShown shown changes × gives before shown answer after

  -- The operations were made and the hook allowed them; or the rules refuse one, and the hook was not asked;
  -- or the hook refused them; or memory ran out.
  abbrev pub Writes : Result (OutcomeState A) RefusedAt → Tables A → Tables A → S → S →
      Result (Result Unit RefusedAt) (Fault E) → Type 0
  Writes ran old new before after (Ok (Ok done)) = (changes : List (Change A))
      × (ran ≡ Ok (record { database = new; changes = changes })) × IsAsked changes (Ok tt) before after
  Writes ran old new before after (Ok (Err refused)) = (ran ≡ Err refused) × (new ≡ old) × (after ≡ before)
  Writes ran old new before after (Err (Refused why)) = (left : OutcomeState A)
      × (ran ≡ Ok left) × (new ≡ old) × IsAsked left.changes (Err why) before after
  Writes ran old new before after (Err OutOfMemory) = (new ≡ old) × (after ≡ before)
