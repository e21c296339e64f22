-- A text that is one command, or is not.
use Rattle.std.proofs.Common.{◌≡◌, ℕ, List, [], ◌∷◌, Option, Some, None, inl, inr, refl, sym, subst, ◌∙◌}
use Rattle.std.specs.Prelude.{IsUtf8}
use Rattle.std.specs.Global.{Global}
use Rattle.cap_value.specs.declared.memory.Fault.TheVariants.{Refused}
use Rattle.cap_script.specs.FirstRefused.{IsFirstRefused, SpellsWithin}
use Rattle.cap_script.specs.LineLimits.{AreWithinLimits}
use Rattle.cap_script.specs.RefusedLines.{LeavesLines, NoLines}
use Rattle.cap_script.specs.Script.{SpellsScript}
use Rattle.cap_script.specs.declared.fault.ScriptFault.{ScriptFault}
use Rattle.cap_script.specs.declared.fault.ScriptFault.TheVariants as told
use Rattle.cap_script.specs.declared.line.Line.{Line}
use Rattle.cap_connection.specs.OneCommand.{IsNotOne, IsOnly, SpellsOne}
use Rattle.cap_connection.specs.declared.fault.TextFault.TheVariants.{NotOne, InLine}

-- what is known of the lines that are left before the first is known of the text
left_is_text : (found : Option (Line Global)) (text shown left : List ℕ) → shown ≡ text → left ≡ shown
    → ((lines : List (Line Global)) → SpellsScript lines left → IsOnly found lines) → (lines : List (Line Global)) → SpellsScript lines text → IsOnly found lines
left_is_text found text shown left shown_is left_is only lines spelled =
    only lines (subst (λ (t : List ℕ). SpellsScript lines t) (sym (left_is ∙ shown_is)) spelled)

-- it has just one line
pub spells_one : (found : Option (Line Global)) (line : Line Global) (text shown left : List ℕ) → found ≡ Some line → shown ≡ text → left ≡ shown → IsUtf8 text → SpellsWithin Global shown
    → ((lines : List (Line Global)) → SpellsScript lines left → IsOnly found lines) → SpellsOne line text
spells_one found line text shown left found_is shown_is left_is utf8 some only =
    let within = subst (λ (t : List ℕ). SpellsWithin Global t) shown_is some in
    let is : within.0 ≡ line ∷ [] = subst (λ (f : Option (Line Global)). IsOnly f within.0) found_is (left_is_text found text shown left shown_is left_is only within.0 within.1) in
    record {
      utf8 = utf8;
      spelled = subst (λ (l : List (Line Global)). SpellsScript l text) is within.1;
      within = subst (λ (l : List (Line Global)). AreWithinLimits l text) is within.2;
    }

-- it has none, or several
pub spells_others : (found : Option (Line Global)) (text shown left : List ℕ) → found ≡ None → shown ≡ text → left ≡ shown → SpellsWithin Global shown
    → ((lines : List (Line Global)) → SpellsScript lines left → IsOnly found lines) → IsNotOne text NotOne
spells_others found text shown left found_is shown_is left_is some only =
    let within = subst (λ (t : List ℕ). SpellsWithin Global t) shown_is some in
    let none : (lines : List (Line Global)) → SpellsScript lines text → IsOnly None lines = λ lines spelled.
    subst (λ (f : Option (Line Global)). IsOnly f lines) found_is (left_is_text found text shown left shown_is left_is only lines spelled) in
    record {
      none = λ line one. none (line ∷ []) one.spelled refl;
      reason = inr (within.0, within.1, within.2, none within.0 within.1);
    }

-- it is not UTF-8
pub no_text : (text : List ℕ) → ¬ (IsUtf8 text) → IsNotOne text NotOne
no_text text not_utf8 = record {
  none = λ line one. not_utf8 one.utf8;
  reason = inl not_utf8;
}

none_within : (fault : ScriptFault) (within : Type 0) → LeavesLines (Refused fault) within → within → ⊥
none_within (told.Syntax line at) within none some = none
none_within (told.Limit line why) within none some = none some
none_within (told.BadBlob line fault) within none some = none

-- one of its lines is refused
pub first_refused : (text : List ℕ) (fault : ScriptFault) → NoLines Global (Refused fault) text → IsFirstRefused Global 1 fault text → IsNotOne text (InLine fault)
first_refused text fault refused first = record {
  none = λ line one. none_within fault (AreWithinLimits (line ∷ []) text) (refused (line ∷ []) one.spelled) one.within;
  reason = first;
}
