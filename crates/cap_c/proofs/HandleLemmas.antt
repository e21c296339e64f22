-- What a call did to what is behind a handle, by what was taken out of the handle and put back.
use Rattle.std.proofs.Common.{◌≡◌, subst, sym}
use Rattle.std.specs.Prelude.{Option, Some}
use Rattle.cap_c.specs.Handle.{Between}
use Rattle.cap_c.specs.Answered.{Answers}

pub between : {X : Type 0} {before after : Option X} {old at new : X} (holds : X → X → Type 0)
    → before ≡ Some old → after ≡ Some new → at ≡ old → holds at new → Between before after holds
between {X} {before} {after} {old} {at} {new} holds is_old is_new same held =
    subst (λ (o : Option X). Between o after holds) (sym is_old)
    (subst (λ (o : Option X). Between (Some old) o holds) (sym is_new)
    (subst (λ (o : X). holds o new) same held))

-- what the library's call left, and its answer, are those of the export
pub answers : {S R : Type 0} {before after : Option S} {old at new : S}
    (calls : S → S → R → Type 0) (tells : R → Type 0)
    → before ≡ Some old → after ≡ Some new → at ≡ old → (answer : R) → calls at new answer → tells answer
    → Answers before after calls tells
answers {S} {R} calls tells is_old is_new same answer called told =
    between (λ old new. (answer : R) × calls old new answer × tells answer) is_old is_new same (answer, called, told)
