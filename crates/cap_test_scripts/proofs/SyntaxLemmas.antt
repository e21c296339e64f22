-- Lines with a fault of syntax, whose filter is not reached, and one without.
use Rattle.std.proofs.Common.{◌≡◌, Option, Some, None, Result, Ok, Err, codes, refl, sym, ◌∙◌}
use Rattle.cap_script_laws.specs.FaultPlace.{HasSyntaxFault, ReachesFilter}
use Rattle.cap_language.specs.Forms.{natural, worker}
use Rattle.cap_language.specs.Scanning.{token_at}
use Rattle.cap_script.specs.Language.{command, opening}
use Rattle.cap_script.specs.LineFaults.{line_fault, line_of_text}

never_read : {T E : Type 0} (fault : E) (rest : T) → ◌≡◌ {A = Result T E} (Err fault) (Ok rest) → ⊥
never_read fault rest e = absurd cc

pub unknown_command : (A : Type 0) → HasSyntaxFault A (codes "frob") 4
unfolding line_fault line_of_text opening worker command natural token_at
unknown_command A = refl

pub unknown_command_reaches_no_filter : (A : Type 0) → ReachesFilter A (codes "frob") → ⊥
unfolding opening worker command natural token_at
unknown_command_reaches_no_filter A (worker, session, rest, e) = never_read _ _ e

pub no_session : (A : Type 0) → HasSyntaxFault A (codes "filter x") 1
unfolding line_fault line_of_text opening worker command natural token_at
no_session A = refl

pub no_session_reaches_no_filter : (A : Type 0) → ReachesFilter A (codes "filter x") → ⊥
unfolding opening worker command natural token_at
no_session_reaches_no_filter A (worker, session, rest, e) = never_read _ _ e

pub no_fault_and_one : {X : Type 0} (o : Option X) (x : X) → o ≡ Some x → o ≡ None → ⊥
no_fault_and_one o x e f = let bad = sym e ∙ f in absurd cc

pub new_session : (A : Type 0) → line_fault A (codes "session") ≡ None
unfolding line_fault line_of_text opening worker command natural token_at
new_session A = refl
