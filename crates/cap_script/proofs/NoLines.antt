-- Lines that a text does not spell.
use Rattle.std.proofs.Common.{◌≡◌, ℕ, false, List, [], ◌∷◌, Some, Result, Ok, Err, IfErr, inl, inr, true, ap, sym, ◌∙◌, subst}
use Rattle.std.specs.Prelude.{IsErrAnd}
use Rattle.cap_value.specs.declared.memory.Fault.{Fault}
use Rattle.cap_value.specs.declared.memory.Fault.TheVariants as fault
use Rattle.cap_value.specs.declared.memory.Fault.TheVariants.{Refused}
use Rattle.cap_script.specs.LineLimits.{AreWithinLimits}
use Rattle.cap_script.specs.RefusedLines.{Leaves, LeavesLines, NoLine, NoLines, in_line}
use Rattle.cap_script.specs.Script.{IsCut, SpellsLines, SpellsScript, TakesFirst, TakesFirstBy, is_ignored}
use Rattle.cap_language.specs.declared.fault.LineFault.{LineFault}
use Rattle.cap_language.specs.declared.fault.LineFault.TheVariants.{BadBlob, Limit, OutOfMemory, Syntax}
use Rattle.cap_script.specs.declared.fault.ScriptFault.{ScriptFault}
use Rattle.cap_script.specs.declared.fault.ScriptFault.TheVariants as script
use Rattle.cap_script.specs.declared.line.Line.{Line}
use Rattle.cap_script.proofs.LineLemmas.{by_first, first_line}

pub in_line_leaves : (fault : LineFault) (n : ℕ) (line : List ℕ) (P : Type 0) → Leaves fault P → LeavesLines (in_line n line fault) P
in_line_leaves OutOfMemory n line P left = tt
in_line_leaves (Limit why) n line P left = left
in_line_leaves (Syntax behind) n line P left = left
in_line_leaves (BadBlob why) n line P left = left

pub leaves_lines_map : (fault : Fault ScriptFault) {P Q : Type 0} → (Q → P) → LeavesLines fault P → LeavesLines fault Q
leaves_lines_map fault.OutOfMemory f left = tt
leaves_lines_map (Refused (script.Limit line why)) f left = λ q. left (f q)
leaves_lines_map (Refused (script.Syntax line at)) f left = left
leaves_lines_map (Refused (script.BadBlob line why)) f left = left

-- a fault that a call passes on
pub passed_on : {T E : Type 0} (r : Result T E) (fault : E) (Q : E → Type 0) → IsErrAnd r (λ e. e ≡ fault) → Q fault → IfErr r Q
passed_on (Ok x) fault Q is q = tt
passed_on (Err e) fault Q is q = subst Q (sym is) q

pub leaves_map : (fault : LineFault) {P Q : Type 0} → (Q → P) → Leaves fault P → Leaves fault Q
leaves_map OutOfMemory f left = tt
leaves_map (Limit why) f left = λ q. left (f q)
leaves_map (Syntax behind) f left = left
leaves_map (BadBlob why) f left = left

module _ {A : Type 0} where
  first_by : (fault : LineFault) (n : ℕ) (lines : List (Line A)) (text line rest : List ℕ) (others : List (List ℕ)) → IsCut text line rest → is_ignored line ≡ false → NoLine A fault line → SpellsLines lines (line ∷ others)
      → LeavesLines (in_line n line fault) (AreWithinLimits lines text)
  first_by fault n [] text line rest others cut said none spelled = absurd cc
  first_by fault n (x ∷ lines) text line rest others cut said none (inl spelled) = absurd cc
  first_by fault n (x ∷ lines) text line rest others cut said none (inr spelled) =
      in_line_leaves fault n line (AreWithinLimits (x ∷ lines) text) (leaves_map fault (λ within. first_line true x lines text line rest cut said within) (none x spelled.0))

  -- the first line that says something is refused
  pub no_first : (fault : LineFault) (n : ℕ) (lines : List (Line A)) (text line rest : List ℕ) → IsCut text line rest → is_ignored line ≡ false → NoLine A fault line → SpellsScript lines text → LeavesLines (in_line n line fault) (AreWithinLimits lines text)
  no_first fault n lines text line rest cut said none spelled =
      let parts = by_first false lines text line rest cut spelled in
      first_by fault n lines text line rest parts.0 cut said none parts.2

  -- the others behind one line
  others_are : (made : Line A) (left others more : List (Line A)) → left ≡ made ∷ others → left ≡ made ∷ more → more ≡ others
  others_are made left others more e f = ap (λ (ls : List (Line A)). behind ls) (sym f ∙ e)
    where
      behind : List (Line A) → List (Line A)
      behind [] = []
      behind (x ∷ xs) = xs

  -- the lines behind one that was read
  pub left_behind : (made : Line A) (left : List (Line A)) (rest : List ℕ) (Whole Left : Type 0) → (Whole → Left) → TakesFirst (Some made) left rest → (Left → TakesFirstBy true (Some made) left rest)
      → (others : List (Line A)) × SpellsScript others rest × (Whole → AreWithinLimits others rest)
  left_behind made left rest Whole Left on (others, e, more) takes =
      (others, more, λ w. let (same, f, within) = takes (on w) in subst (λ (ls : List (Line A)). AreWithinLimits ls rest) (others_are made left others same e f) within)

  -- the text spells no lines where the rest spells none
  pub none_left_over : (fault : Fault ScriptFault) (start rest : List ℕ) → ((lines : List (Line A)) → SpellsScript lines start → (left : List (Line A)) × SpellsScript left rest × (AreWithinLimits lines start → AreWithinLimits left rest)) → NoLines A fault rest → NoLines A fault start
  none_left_over fault start rest on none lines spelled =
      let (left, here, within) = on lines spelled in
      leaves_lines_map fault within (none left here)

  pub no_memory_left : (why : Fault ScriptFault) (start : List ℕ) → why ≡ fault.OutOfMemory → NoLines A why start
  no_memory_left why start is lines spelled = subst (λ (f : Fault ScriptFault). LeavesLines f (AreWithinLimits lines start)) (sym is) tt
