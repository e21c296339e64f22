-- From one place of an application to another, where no conflict is met on the way.
use Rattle.std.specs.Prelude.{◌≡◌, ℕ, zero, suc, None, Ok, Err, Result}
use Rattle.cap_value.specs.declared.memory.Fault.{Fault}
use Rattle.cap_value.specs.declared.memory.Fault.TheVariants.{Refused, OutOfMemory}
use Rattle.cap_value.specs.declared.refusal.Refusal.{Refusal}
use Rattle.cap_apply.specs.declared.policy.Answer.TheVariants.{Omit}
use Rattle.cap_applier.specs.Applier.{ApplierState, answered, met}

module _ {A : Type 0} where
  -- so many steps without a conflict lead from the one to the other; no answer is asked for there
  abbrev pub IsReachedIn : ℕ → ApplierState A → ApplierState A → Type 0
  IsReachedIn zero from to = to ≡ from
  IsReachedIn (suc count) from to =
      (mid : ApplierState A) × IsReachedIn count from mid × (met mid ≡ None) × (answered Omit mid ≡ Ok to)

  abbrev pub IsReached : ApplierState A → ApplierState A → Type 0
  IsReached from to = (count : ℕ) × IsReachedIn count from to

  -- where the answer is accepted, the application goes on from there; else it is refused
  abbrev pub GoesOn : Result (ApplierState A) Refusal → Result (ApplierState A) (Fault Refusal) → Type 0
  GoesOn answer (Ok to) = (from : ApplierState A) × (answer ≡ Ok from) × IsReached from to
  GoesOn answer (Err (Refused why)) = answer ≡ Err why
  GoesOn answer (Err OutOfMemory) = Unit {0}
