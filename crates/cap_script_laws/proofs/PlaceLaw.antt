-- A fault of syntax depends on nothing behind its token.
use Rattle.std.proofs.Common.{◌≡◌, ℕ, ◌-◌, List, ◌++◌, length, length-drop, take, drop, take-append-drop, Option, Some, Ok, Err, refl, sym, ap, ◌∙◌, arith}
use Rattle.std.specs.Result.{result_err}
use Rattle.cap_language.specs.Grammar.{Read, read}
use Rattle.cap_language.specs.declared.fault.LineFault.{LineFault}
use Rattle.cap_language.specs.declared.fault.LineFault.TheVariants.{Syntax}
use Rattle.cap_language.proofs.PlaceLaws.{local}
use Rattle.cap_script_laws.specs.FaultPlace.{HasSyntaxFault, KeepsSyntaxFault, ReachesFilter}
use Rattle.cap_script.specs.Language.{Ended, Filtered, Opening, opening}
use Rattle.cap_script.specs.LineFaults.{closed, line_fault, line_of_text}

module _ (A : Type 0) where
  abbrev pub fault_of : Read (Opening A) → Option LineFault
  fault_of r = result_err (closed A r)

  some_fault : (f g : LineFault) → ◌≡◌ {A = Option LineFault} (Some f) (Some g) → f ≡ g
  some_fault f g e = cc

  opening_fault : (bytes : List ℕ) (left : ℕ) (r : Read (Opening A)) → read opening bytes ≡ r → fault_of r ≡ Some (Syntax left) → (ReachesFilter A bytes → ⊥) → read (opening {A = A}) bytes ≡ Err (Syntax left)
  opening_fault bytes left (Ok (Ended whole, rest)) is e none = absurd cc
  opening_fault bytes left (Ok (Filtered w what, rest)) is e none = absurd (none (w, what, rest, is))
  opening_fault bytes left (Err fault) is e none = is ∙ ap (λ (f : LineFault). Err f) (some_fault fault (Syntax left) e)

  -- where no filter is reached, the fault is that of the worker and the command
  pub fault_in_opening : (bytes : List ℕ) (left : ℕ) → HasSyntaxFault A bytes left → (ReachesFilter A bytes → ⊥) → read (opening {A = A}) bytes ≡ Err (Syntax left)
  unfolding line_fault line_of_text
  fault_in_opening bytes left e none = opening_fault bytes left (read opening bytes) refl e none

  has_fault : (bytes : List ℕ) (left : ℕ) → read (opening {A = A}) bytes ≡ Err (Syntax left) → HasSyntaxFault A bytes left
  unfolding line_fault line_of_text
  has_fault bytes left e = ap fault_of e

  pub fault_kept : (bytes : List ℕ) (left : ℕ) → HasSyntaxFault A bytes left → (ReachesFilter A bytes → ⊥) → KeepsSyntaxFault A bytes left
  unfolding KeepsSyntaxFault
  fault_kept bytes left e none =
      let here = local (opening {A = A}) in
      let found = fault_in_opening bytes left e none in
      let few = here.stops bytes left found in
      let n = length bytes - left in
      let whole : bytes ≡ take n bytes ++ drop n bytes = sym (take-append-drop n bytes) in
      let long : length (drop n bytes) ≡ left = omega (arith, few, length-drop n bytes) in (
        take n bytes,
        drop n bytes,
        whole,
        sym long,
        λ more alike.
            has_fault (take n bytes ++ more) (length more)
            (here.refuses (take n bytes) (drop n bytes) more alike (ap (read opening) (sym whole) ∙ found ∙ ap (λ (m : ℕ). Err (Syntax m)) (sym long))),
      )
