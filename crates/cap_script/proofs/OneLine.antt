-- The fault of one line.
use Rattle.std.proofs.Common.{◌≡◌, ℕ, List, Some, Err, ap, refl}
use Rattle.std.specs.Prelude.{⊤}
use Rattle.std.specs.Option.{option_map}
use Rattle.cap_value.specs.Memory.{MatchFault}
use Rattle.cap_value.specs.declared.memory.Fault.TheVariants.{Refused}
use Rattle.cap_script.specs.FirstRefused.{line_of}
use Rattle.cap_script.specs.LineFaults.{FaultIs, line_fault}
use Rattle.cap_script.specs.RefusedLines.{in_line}
use Rattle.cap_language.specs.declared.fault.LineFault.{LineFault}
use Rattle.cap_language.specs.declared.fault.LineFault.TheVariants.{BadBlob, Limit, OutOfMemory, Syntax}
use Rattle.cap_script.specs.declared.line.Line.{Line}

pub numbered : (fault : LineFault) (number : ℕ) (text : List ℕ) → MatchFault (in_line number text fault) ⊤ (λ why. line_of why ≡ number)
numbered (Syntax left) number text = refl
numbered (Limit why) number text = refl
numbered (BadBlob why) number text = refl
numbered OutOfMemory number text = tt

module _ (A : Type 0) where
  pub fault_in_line : (fault : LineFault) (number : ℕ) (text : List ℕ) → FaultIs {X = Line A} (Err fault) (line_fault A text)
      → MatchFault (in_line number text fault) ⊤ (λ why. option_map (in_line number text) (line_fault A text) ≡ Some (Refused why))
  fault_in_line (Syntax left) number text own = ap (option_map (in_line number text)) own
  fault_in_line (Limit why) number text own = ap (option_map (in_line number text)) own
  fault_in_line (BadBlob why) number text own = ap (option_map (in_line number text)) own
  fault_in_line OutOfMemory number text own = tt
