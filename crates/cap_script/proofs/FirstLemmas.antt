-- The first refused line of a text.
use Rattle.std.proofs.Common.{◌≡◌, ◌+◌, ◌-◌, ◌||◌, ℕ, Bool, true, false, eqb, length, List, [], ◌∷◌, ◌++◌, Option, Some, Err, IfSome, refl, sym, ap, subst, inl, inr, arith}
use Rattle.std.specs.Option.{option_map}
use Rattle.std.proofs.lemmas.Bool.{eqb-true}
use Rattle.cap_value.specs.declared.memory.Fault.{Fault}
use Rattle.cap_value.specs.declared.memory.Fault.TheVariants as fault
use Rattle.cap_value.specs.declared.memory.Fault.TheVariants.{Refused}
use Rattle.cap_script.specs.FirstRefused.{IsFirstRefused, FaultOfFirstRefused, SpellsWithin, line_of}
use Rattle.cap_script.specs.LineFaults.{FaultIs, line_fault}
use Rattle.cap_script.specs.LineLimits.{AreWithinLimits, LineWithin}
use Rattle.cap_script.specs.RefusedLines.{LeavesLines, NoLine, in_line}
use Rattle.cap_script.specs.Script.{AreLines, IsCut, IsRead, ScriptSpelled, SpellsLine, SpellsScript, TakesFirst, TakesFirstBy, has_line_feed, is_ignored}
use Rattle.cap_language.specs.declared.fault.LineFault.{LineFault}
use Rattle.cap_language.specs.declared.fault.LineFault.TheVariants.{BadBlob, Limit, OutOfMemory, Syntax}
use Rattle.cap_script.specs.declared.fault.ScriptFault.{ScriptFault}
use Rattle.cap_script.specs.declared.fault.ScriptFault.TheVariants as script
use Rattle.cap_script.specs.declared.line.Line.{Line}
use Rattle.cap_script.proofs.LineLemmas.{are_more, ignored_more, not_empty, nothing_spelled}
use Rattle.cap_script.proofs.NoLines.{left_behind}

-- ---- the lines of a text

neither : (a b : Bool) → a ≡ false → b ≡ false → a || b ≡ false
neither true b e none = absurd cc
neither false true e none = absurd cc
neither false false e none = refl

other_byte : (x : ℕ) (line : List ℕ) → eqb x 10 ≡ false → has_line_feed line ≡ false → has_line_feed (x ∷ line) ≡ false
other_byte x line other none = neither (eqb x 10) (has_line_feed line) other none

byte_more : (x : ℕ) (text : List ℕ) (texts : List (List ℕ)) (b : Bool) → eqb x 10 ≡ b → AreLines texts text → (more : List (List ℕ)) × AreLines more (x ∷ text)
byte_more x text texts true is are = ([] ∷ texts, are_more texts (x ∷ text) [] text (ap (λ (n : ℕ). n ∷ text) (eqb-true x 10 is)) refl are)
byte_more x text [] false is are = absurd are
byte_more x text (t ∷ []) false is (e, none) = ((x ∷ t) ∷ [], (ap (λ (l : List ℕ). x ∷ l) e, other_byte x t is none))
byte_more x text (t ∷ u ∷ texts) false is (rest, e, none, are) = ((x ∷ t) ∷ u ∷ texts, (rest, ap (λ (l : List ℕ). x ∷ l) e, other_byte x t is none, are))

lines_in : (text : List ℕ) → (texts : List (List ℕ)) × AreLines texts text
lines_in [] = ([] ∷ [], (refl, refl))
lines_in (x ∷ text) = let (texts, are) = lines_in text in byte_more x text texts (eqb x 10) refl are

lines_behind : (text line rest : List ℕ) → IsCut text line rest → (others : List (List ℕ)) × AreLines (line ∷ others) text
lines_behind text line rest (none, inl e) = let (texts, are) = lines_in rest in (texts, are_more texts text line rest e none are)
lines_behind text line rest (none, inr (e, end)) = ([], (e, none))

-- no line of an empty text says something
none_said : (before behind : List (List ℕ)) (refused : List ℕ) → AreLines (before ++ refused ∷ behind) [] → is_ignored refused ≡ false → ⊥
none_said [] [] refused are said = let bad : is_ignored [] ≡ false = subst (λ (l : List ℕ). is_ignored l ≡ false) (sym are.0) said in absurd cc
none_said [] (b ∷ behind) refused are said = not_empty refused are.0 are.1
none_said (x ∷ []) behind refused are said = not_empty x are.0 are.1
none_said (x ∷ y ∷ before) behind refused are said = not_empty x are.0 are.1

line_more : (before behind : List (List ℕ)) (refused text line rest : List ℕ) → IsCut text line rest → is_ignored refused ≡ false → AreLines (before ++ refused ∷ behind) rest → AreLines (line ∷ (before ++ refused ∷ behind)) text
line_more before behind refused text line rest (none, inl e) said are = are_more (before ++ refused ∷ behind) text line rest e none are
line_more before behind refused text line rest (none, inr (e, end)) said are =
    absurd (none_said before behind refused (subst (λ (l : List ℕ). AreLines (before ++ refused ∷ behind) l) end are) said)

-- a refused text spells no lines within the limits
pub never_refused : (why : ScriptFault) (P : Type 0) → P → LeavesLines (Refused why) P → ⊥
never_refused (script.Limit line why) P p left = left p
never_refused (script.Syntax line at) P p left = left
never_refused (script.BadBlob line why) P p left = left

-- out of memory
pub first_memory : (A : Type 0) (n : ℕ) (why : Fault ScriptFault) (text : List ℕ) → why ≡ fault.OutOfMemory → FaultOfFirstRefused A n why text
first_memory A n why text is = subst (λ (f : Fault ScriptFault). FaultOfFirstRefused A n f text) (sym is) tt

module _ {A : Type 0} where
  -- ---- the first refused line, behind one more line

  pub behind_one_ignored : (n : ℕ) (why : ScriptFault) (text line rest : List ℕ) → IsCut text line rest → is_ignored line ≡ true → IsFirstRefused A (n + 1) why rest → IsFirstRefused A n why text
  behind_one_ignored n why text line rest cut ignored so = record {
    before = line ∷ so.before;
    refused = so.refused;
    behind = so.behind;
    are_lines = line_more so.before so.behind so.refused text line rest cut so.not_ignored so.are_lines;
    number = omega (arith, so.number);
    spelled = (so.spelled.0, ignored_more false so.spelled.0 line so.before ignored so.spelled.1, ignored_more true so.spelled.0 line so.before ignored so.spelled.2);
    not_ignored = so.not_ignored;
    none = so.none;
    why = so.why;
  }

  pub behind_one_line : (n : ℕ) (why : ScriptFault) (made : Line A) (text line rest : List ℕ) → IsCut text line rest → SpellsLine made line → LineWithin made line → IsFirstRefused A (n + 1) why rest → IsFirstRefused A n why text
  behind_one_line n why made text line rest cut spells within so = record {
    before = line ∷ so.before;
    refused = so.refused;
    behind = so.behind;
    are_lines = line_more so.before so.behind so.refused text line rest cut so.not_ignored so.are_lines;
    number = omega (arith, so.number);
    spelled = (made ∷ so.spelled.0, inr (spells, so.spelled.1), inr (within, so.spelled.2));
    not_ignored = so.not_ignored;
    none = so.none;
    why = so.why;
  }

  -- ---- the first line is refused

  first_is : (n : ℕ) (why : ScriptFault) (text line rest : List ℕ) → IsCut text line rest → is_ignored line ≡ false → line_of why ≡ n → ((made : Line A) → SpellsLine made line → LeavesLines (Refused why) (LineWithin made line))
      → option_map (in_line (line_of why) line) (line_fault A line) ≡ Some (Refused why) → IsFirstRefused A n why text
  first_is n why text line rest cut said number none own =
      let parts = lines_behind text line rest cut in
      record {
        before = [];
        refused = line;
        behind = parts.0;
        are_lines = parts.1;
        number = omega (arith, number);
        spelled = ([], tt, tt);
        not_ignored = said;
        none = none;
        why = own;
      }

  pub first_here : (fault : LineFault) (n : ℕ) (text line rest : List ℕ) → IsCut text line rest → is_ignored line ≡ false → NoLine A fault line → FaultIs {X = Line A} (Err fault) (line_fault A line) → FaultOfFirstRefused A n (in_line n line fault) text
  first_here OutOfMemory n text line rest cut said none own = tt
  first_here (Syntax left) n text line rest cut said none own = first_is n (script.Syntax n (length line - left)) text line rest cut said refl none (ap (option_map (in_line n line)) own)
  first_here (Limit why) n text line rest cut said none own = first_is n (script.Limit n why) text line rest cut said refl none (ap (option_map (in_line n line)) own)
  first_here (BadBlob why) n text line rest cut said none own = first_is n (script.BadBlob n why) text line rest cut said refl none (ap (option_map (in_line n line)) own)

  -- ---- the whole text

  pub first_over : (m n : ℕ) (fault : Fault ScriptFault) (rest text : List ℕ) → ((why : ScriptFault) → IsFirstRefused A m why rest → IsFirstRefused A n why text) → FaultOfFirstRefused A m fault rest → FaultOfFirstRefused A n fault text
  first_over m n fault.OutOfMemory rest text on so = tt
  first_over m n (Refused why) rest text on so = on why so

  -- nothing is left
  pub none_within : (rest : List ℕ) → rest ≡ [] → SpellsWithin A rest
  none_within rest end = ([], nothing_spelled A false rest end, nothing_spelled A true rest end)

  -- the lines behind one that was read
  pub within_behind : (made : Line A) (lines : List (Line A)) (rest : List ℕ) → TakesFirst (Some made) lines rest → TakesFirstBy true (Some made) lines rest → SpellsWithin A rest
  within_behind made lines rest takes within =
      let (others, more, on) = left_behind made lines rest (Unit {0}) (Unit {0}) (λ u. u) takes (λ u. within) in (others, more, on tt)

module _ (A : Type 0) where
  -- what is known of a text while its lines are read one by one
  abbrev pub SoFar : ℕ → List ℕ → List ℕ → Type 0
  SoFar number rest text =
      ((lines : List (Line A)) → SpellsScript lines rest → AreWithinLimits lines rest → SpellsWithin A text)
      × ((lines : List (Line A)) → SpellsScript lines text → (left : List (Line A)) × SpellsScript left rest × (AreWithinLimits lines text → AreWithinLimits left rest))
      × ((why : ScriptFault) → IsFirstRefused A number why rest → IsFirstRefused A 1 why text)

  pub one_line_more : (made : Line A) (found : Option (Line A)) (number later : ℕ) (rest behind text : List ℕ) → found ≡ Some made → ((limits : Bool) → IsRead limits found rest behind)
      → ((limits : Bool) (lines : List (Line A)) → ScriptSpelled limits lines rest → TakesFirstBy limits found lines behind) → IfSome found (λ line. (why : ScriptFault) → IsFirstRefused A later why behind → IsFirstRefused A number why rest)
      → SoFar number rest text → SoFar later behind text
  one_line_more made found number later rest behind text is read next first so_far = (
    λ lines spelled all.
        let both = λ (limits : Bool). subst (λ (o : Option (Line A)). IsRead limits o rest behind) is (read limits) in
        so_far.0 (made ∷ lines) (both false lines spelled) (both true lines all),
    λ lines spelled.
        let (left, here, on) = so_far.1 lines spelled in
        let takes = λ (limits : Bool) (within : ScriptSpelled limits left rest). subst (λ (o : Option (Line A)). TakesFirstBy limits o left behind) is (next limits left within) in
        left_behind {A = A} made left behind (AreWithinLimits lines text) (AreWithinLimits left rest) on (takes false here) (takes true),
    λ why so.
        so_far.2 why (subst (λ (o : Option (Line A)). IfSome o (λ line. (why : ScriptFault) → IsFirstRefused A later why behind → IsFirstRefused A number why rest)) is first why so),
  )
