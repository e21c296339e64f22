-- The first line of a text, and the lines that the rest spells.
use Rattle.std.proofs.Common.{◌≡◌, ◌⊎◌, ◌<◌, ℕ, Bool, true, false, eqb, length, List, [], ◌∷◌, ◌++◌, Some, refl, sym, ap, ap₂, ◌∙◌, subst, inl, inr, arith, length-append}
use Rattle.cap_language.specs.Tokens.{begins, behind_blanks}
use Rattle.cap_script.specs.Script.{AreLines, IsCut, IsLeftBy, LineSpelled, LinesSpelled, ScriptSpelled, SpellsLine, SpellsScript, TakesFirstBy, begins_at, has_line_feed, is_ignored}
use Rattle.cap_script.specs.declared.line.Line.{Line}
use Rattle.cap_script.proofs.CutLemmas.{no_cut, same_cut, same_texts}
use Rattle.cap_script.proofs.LineLaws.{OneFilter, ignored_line, line_by, line_worker, one_line}

pub are_more : (texts : List (List ℕ)) (text line behind : List ℕ) → text ≡ line ++ 10 ∷ behind → has_line_feed line ≡ false → AreLines texts behind → AreLines (line ∷ texts) text
are_more [] text line behind e none are = absurd are
are_more (t ∷ texts) text line behind e none are = (behind, e, none, are)

-- the lines behind the first: those of the rest, or none at all
abbrev AreBehind : List (List ℕ) → List ℕ → Type 0
AreBehind others rest = AreLines others rest ⊎ ((others ≡ []) × (rest ≡ []))

cut_lines : (texts : List (List ℕ)) (text line rest : List ℕ) → IsCut text line rest → AreLines texts text → (others : List (List ℕ)) × (texts ≡ line ∷ others) × AreBehind others rest
cut_lines [] text line rest cut are = absurd are
cut_lines (t ∷ []) text line rest (none, inl e) are = absurd (no_cut t line rest (sym are.0 ∙ e) are.1)
cut_lines (t ∷ []) text line rest (none, inr (e, end)) are = ([], ap (λ (l : List ℕ). l ∷ []) (sym are.0 ∙ e), inr (refl, end))
cut_lines (t ∷ u ∷ texts) text line rest (none, inl e) are =
    let cut = same_cut t line are.0 rest (sym are.1 ∙ e) are.2 none in
    (u ∷ texts, ap (λ (l : List ℕ). l ∷ u ∷ texts) cut.0, inl (subst (λ (l : List ℕ). AreLines (u ∷ texts) l) cut.1 are.3))
cut_lines (t ∷ u ∷ texts) text line rest (none, inr (e, end)) are = absurd (no_cut line t are.0 (sym e ∙ are.1) none)

-- the rest is preceded by something
pub cut_shorter : (text line rest : List ℕ) → IsCut text line rest → 0 < length text → length rest < length text
cut_shorter text line rest (none, inl e) some =
    let whole : length text ≡ length (line ++ 10 ∷ rest) = ap length e in omega (arith, whole, length-append line (10 ∷ rest))
cut_shorter text line rest (none, inr (e, end)) some = let nothing : length rest ≡ 0 = ap length end in omega (arith, nothing, some)

pub not_empty : (line rest : List ℕ) → [] ≡ line ++ 10 ∷ rest → ⊥
not_empty [] rest e = absurd cc
not_empty (x ∷ line) rest e = absurd cc

pub nothing_spelled : (A : Type 0) (limits : Bool) (rest : List ℕ) → rest ≡ [] → ScriptSpelled {A = A} limits [] rest
unfolding ScriptSpelled
nothing_spelled A limits rest end = ([] ∷ [], (end, refl), (refl, tt))

module _ {A : Type 0} (limits : Bool) where
  none_spelled : (lines : List (Line A)) → LinesSpelled limits lines ([] ∷ []) → lines ≡ []
  none_spelled [] spelled = refl
  none_spelled (x ∷ lines) (inl (ignored, spelled)) = absurd spelled
  none_spelled (x ∷ lines) (inr (line, spelled)) = absurd (ignored_line limits x [] refl line)

  none_in : (lines : List (Line A)) (texts : List (List ℕ)) → AreLines texts [] → LinesSpelled limits lines texts → lines ≡ []
  none_in lines [] are spelled = absurd are
  none_in lines (t ∷ []) are spelled = none_spelled lines (subst (λ (l : List ℕ). LinesSpelled limits lines (l ∷ [])) (sym are.0) spelled)
  none_in lines (t ∷ u ∷ texts) are spelled = absurd (not_empty t are.0 are.1)

  -- nothing spells no line
  pub none_left : (lines : List (Line A)) (rest : List ℕ) → rest ≡ [] → ScriptSpelled limits lines rest → lines ≡ []
  unfolding ScriptSpelled
  none_left lines rest end (texts, are, spelled) = none_in lines texts (subst (λ (l : List ℕ). AreLines texts l) end are) spelled

  no_line : (lines : List (Line A)) → LinesSpelled limits lines [] → lines ≡ []
  no_line [] spelled = refl
  no_line (x ∷ lines) spelled = absurd spelled

  behind : (lines : List (Line A)) (others : List (List ℕ)) (rest : List ℕ) → AreBehind others rest → LinesSpelled limits lines others → ScriptSpelled limits lines rest
  unfolding ScriptSpelled
  behind lines others rest (inl are) spelled = (others, are, spelled)
  behind lines others rest (inr (none, end)) spelled =
      let is : lines ≡ [] = no_line lines (subst (λ (ls : List (List ℕ)). LinesSpelled limits lines ls) none spelled) in
      subst (λ (ls : List (Line A)). ScriptSpelled limits ls rest) (sym is) (nothing_spelled A limits rest end)

  -- what the rest spells, by the lines behind the first
  in_front : (lines : List (Line A)) (text line rest : List ℕ) → IsCut text line rest → ScriptSpelled limits lines rest → (others : List (List ℕ)) × AreLines (line ∷ others) text × LinesSpelled limits lines others
  unfolding ScriptSpelled
  in_front lines text line rest (none, inl e) (texts, are, spelled) = (texts, are_more texts text line rest e none are, spelled)
  in_front lines text line rest (none, inr (e, end)) spelled =
      ([], (e, none), subst (λ (ls : List (Line A)). LinesSpelled limits ls []) (sym (none_left lines rest end spelled)) tt)

  pub ignored_more : (lines : List (Line A)) (text : List ℕ) (texts : List (List ℕ)) → is_ignored text ≡ true → LinesSpelled limits lines texts → LinesSpelled limits lines (text ∷ texts)
  ignored_more [] text texts ignored rest = (ignored, rest)
  ignored_more (line ∷ lines) text texts ignored rest = inl (ignored, rest)

  -- a line that says nothing, in front of what spells the lines
  pub ignored_first : (lines : List (Line A)) (text line rest : List ℕ) → IsCut text line rest → is_ignored line ≡ true → ScriptSpelled limits lines rest → ScriptSpelled limits lines text
  unfolding ScriptSpelled
  ignored_first lines text line rest cut ignored spelled =
      let parts = in_front lines text line rest cut spelled in
      (line ∷ parts.0, parts.1, ignored_more lines line parts.0 ignored parts.2)

  -- a line with a command, in front of what spells the others
  pub line_first : (made : Line A) (lines : List (Line A)) (text line rest : List ℕ) → IsCut text line rest → LineSpelled limits made line → ScriptSpelled limits lines rest → ScriptSpelled limits (made ∷ lines) text
  unfolding ScriptSpelled
  line_first made lines text line rest cut spells spelled =
      let parts = in_front lines text line rest cut spelled in
      (line ∷ parts.0, parts.1, inr (spells, parts.2))

  -- the lines by the first line of the text
  pub by_first : (lines : List (Line A)) (text line rest : List ℕ) → IsCut text line rest → ScriptSpelled limits lines text → (others : List (List ℕ)) × AreBehind others rest × LinesSpelled limits lines (line ∷ others)
  unfolding ScriptSpelled
  by_first lines text line rest cut (texts, are, spelled) =
      let parts = cut_lines texts text line rest cut are in
      (parts.0, parts.2, subst (λ (ls : List (List ℕ)). LinesSpelled limits lines ls) parts.1 spelled)

  ignored_off : (lines : List (Line A)) (line : List ℕ) (others : List (List ℕ)) → is_ignored line ≡ true → LinesSpelled limits lines (line ∷ others) → LinesSpelled limits lines others
  ignored_off [] line others ignored spelled = spelled.1
  ignored_off (x ∷ lines) line others ignored (inl spelled) = spelled.1
  ignored_off (x ∷ lines) line others ignored (inr spelled) = absurd (ignored_line limits x line ignored spelled.0)

  -- behind a line that says nothing
  pub behind_ignored : (lines : List (Line A)) (text line rest : List ℕ) → IsCut text line rest → is_ignored line ≡ true → ScriptSpelled limits lines text → ScriptSpelled limits lines rest
  behind_ignored lines text line rest cut ignored spelled =
      let parts = by_first lines text line rest cut spelled in
      behind lines parts.0 rest parts.1 (ignored_off lines line parts.0 ignored parts.2)

  pub taken : (made : Line A) (lines : List (Line A)) (line : List ℕ) (others : List (List ℕ)) (rest : List ℕ) → is_ignored line ≡ false → AreBehind others rest → LinesSpelled limits lines (line ∷ others)
      → (first : Line A) × (more : List (Line A)) × (lines ≡ first ∷ more) × LineSpelled limits first line × ScriptSpelled limits more rest
  taken made [] line others rest said are spelled = absurd cc
  taken made (x ∷ lines) line others rest said are (inl spelled) = absurd cc
  taken made (x ∷ lines) line others rest said are (inr spelled) = (x, lines, refl, spelled.0, behind lines others rest are spelled.1)

  first_at : (lines : List (Line A)) (line : List ℕ) (others : List (List ℕ)) → is_ignored line ≡ false → LinesSpelled limits lines (line ∷ others) → begins (λ byte. eqb byte 64) (behind_blanks line) ≡ begins_at lines
  first_at [] line others said spelled = absurd cc
  first_at (x ∷ lines) line others said (inl spelled) = absurd cc
  first_at (x ∷ lines) line others said (inr (spelled, more)) = line_worker limits x line spelled

  -- whether the first line begins with `@`
  pub begins_line : (lines : List (Line A)) (text line rest : List ℕ) → IsCut text line rest → is_ignored line ≡ false → ScriptSpelled limits lines text
      → begins (λ byte. eqb byte 64) (behind_blanks line) ≡ begins_at lines
  begins_line lines text line rest cut said spelled =
      let parts = by_first lines text line rest cut spelled in
      first_at lines line parts.0 said parts.2

  -- behind a line with a command, which is the first
  pub behind_line : OneFilter → (made : Line A) (lines : List (Line A)) (text line rest : List ℕ) → IsCut text line rest → is_ignored line ≡ false → SpellsLine made line → ScriptSpelled limits lines text
      → TakesFirstBy limits (Some made) lines rest
  behind_line law made lines text line rest cut said spells spelled =
      let parts = by_first lines text line rest cut spelled in
      let first = taken made lines line parts.0 rest said parts.1 parts.2 in
      let same : first.0 ≡ made = one_line law first.0 made line (line_by limits first.0 line first.3) spells in
      (first.1, first.2 ∙ ap (λ (x : Line A). x ∷ first.1) same, first.4)

  -- before a line with a command
  pub line_left : (lines : List (Line A)) (text line rest : List ℕ) → IsCut text line rest → is_ignored line ≡ false → ScriptSpelled limits lines text → IsLeftBy limits lines text
  line_left [] text line rest cut said spelled =
      let parts = by_first [] text line rest cut spelled in
      absurd cc
  line_left (x ∷ lines) text line rest cut said spelled = (omega arith, spelled)

  -- the first line is spelled so
  pub first_line : (x : Line A) (lines : List (Line A)) (text line rest : List ℕ) → IsCut text line rest → is_ignored line ≡ false → ScriptSpelled limits (x ∷ lines) text → LineSpelled limits x line
  first_line x lines text line rest cut said spelled =
      let parts = by_first (x ∷ lines) text line rest cut spelled in
      first_by line parts.0 said parts.2
    where
      first_by : (line : List ℕ) (others : List (List ℕ)) → is_ignored line ≡ false → LinesSpelled limits (x ∷ lines) (line ∷ others) → LineSpelled limits x line
      first_by line others said (inl spelled) = absurd cc
      first_by line others said (inr spelled) = spelled.0

  -- what is behind a first line spells the others
  pub behind_first : (x : Line A) (lines : List (Line A)) (text line rest : List ℕ) → IsCut text line rest → is_ignored line ≡ false → ScriptSpelled limits (x ∷ lines) text → ScriptSpelled limits lines rest
  behind_first x lines text line rest cut said spelled =
      let parts = by_first (x ∷ lines) text line rest cut spelled in
      others_by line parts.0 said parts.1 parts.2
    where
      others_by : (line : List ℕ) (others : List (List ℕ)) → is_ignored line ≡ false → AreBehind others rest → LinesSpelled limits (x ∷ lines) (line ∷ others) → ScriptSpelled limits lines rest
      others_by line others said are (inl spelled) = absurd cc
      others_by line others said are (inr spelled) = behind lines others rest are spelled.1

module _ {A : Type 0} where
  -- ---- a text spells one workload

  same_lines : OneFilter → (xs ys : List (Line A)) (texts : List (List ℕ)) → LinesSpelled false xs texts → LinesSpelled false ys texts → xs ≡ ys
  same_lines law [] [] [] p q = refl
  same_lines law [] (y ∷ ys) [] p q = absurd q
  same_lines law (x ∷ xs) ys [] p q = absurd p
  same_lines law [] [] (text ∷ texts) p q = refl
  same_lines law [] (y ∷ ys) (text ∷ texts) p (inl q) = same_lines law [] (y ∷ ys) texts p.1 q.1
  same_lines law [] (y ∷ ys) (text ∷ texts) p (inr q) = absurd (ignored_line false y text p.0 q.0)
  same_lines law (x ∷ xs) [] (text ∷ texts) (inl p) q = same_lines law (x ∷ xs) [] texts p.1 q.1
  same_lines law (x ∷ xs) [] (text ∷ texts) (inr p) q = absurd (ignored_line false x text q.0 p.0)
  same_lines law (x ∷ xs) (y ∷ ys) (text ∷ texts) (inl p) (inl q) = same_lines law (x ∷ xs) (y ∷ ys) texts p.1 q.1
  same_lines law (x ∷ xs) (y ∷ ys) (text ∷ texts) (inl p) (inr q) = absurd (ignored_line false y text p.0 q.0)
  same_lines law (x ∷ xs) (y ∷ ys) (text ∷ texts) (inr p) (inl q) = absurd (ignored_line false x text q.0 p.0)
  same_lines law (x ∷ xs) (y ∷ ys) (text ∷ texts) (inr p) (inr q) =
      ap₂ (λ (z : Line A) (zs : List (Line A)). z ∷ zs) (one_line law x y text p.0 q.0) (same_lines law xs ys texts p.1 q.1)

  pub same_script : OneFilter → (xs ys : List (Line A)) (text : List ℕ) → SpellsScript xs text → SpellsScript ys text → xs ≡ ys
  unfolding ScriptSpelled
  same_script law xs ys text (texts, are, p) (others, are_too, q) =
      same_lines law xs ys texts p (subst (λ (ls : List (List ℕ)). LinesSpelled false ys ls) (sym (same_texts texts others text are are_too)) q)
