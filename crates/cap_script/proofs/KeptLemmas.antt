-- The first lines of a text, which are kept as they were read.
use Rattle.std.proofs.Common.{◌≡◌, ℕ, Bool, true, false, length, nat_lt, List, [], ◌∷◌, ◌++◌, Some, refl, sym, ap, ◌∙◌, subst, append_assoc, if◌then◌else◌, drop, arith}
use Rattle.std.proofs.Math.Logic.{∥∥₁_elim}
use mathlib.Core.HLevel.{⊥_prop}
use Rattle.cap_script.specs.FirstRefused.{SpellsWithin}
use Rattle.cap_script.specs.Kept.{SpellsKept, kept_with}
use Rattle.cap_script.specs.Script.{IsRead, ScriptSpelled, SpellsScript, TakesFirst}
use Rattle.cap_script.specs.declared.line.Line.{Line}
use Rattle.cap_script.proofs.LineLaws.{OneFilter}
use Rattle.cap_script.proofs.LineLemmas.{same_script}

never : true ≡ false → ⊥
never e = absurd cc

module _ {A : Type 0} where
  -- What is known of the lines that are kept while the text is read: they are its first ones, and those behind
  -- them are dropped. None is dropped while fewer than the most are kept.
  pub record Keeps (most : ℕ) (kept : List (Line A)) (rest text : List ℕ) : Type 0 where
    pub dropped : List (Line A)
    pub none : nat_lt (length kept) most ≡ true → dropped ≡ []
    pub spelled : (limits : Bool) (left : List (Line A)) → ScriptSpelled limits left rest → ScriptSpelled limits (kept ++ (dropped ++ left)) text

  pub keeps_nothing : (most : ℕ) (kept : List (Line A)) (rest text : List ℕ) → kept ≡ [] → rest ≡ text → Keeps most kept rest text
  keeps_nothing most kept rest text none is = subst (λ (ls : List (Line A)). Keeps most ls rest text) (sym none) (record {
    dropped = [];
    none = λ few. refl;
    spelled = λ limits left spelled. subst (λ (t : List ℕ). ScriptSpelled limits left t) is spelled;
  })

  -- one line more is read
  keeps_more : (few : Bool) (most : ℕ) (kept : List (Line A)) (line : Line A) (rest behind text : List ℕ) → nat_lt (length kept) most ≡ few → ((limits : Bool) → IsRead limits (Some line) rest behind) → Keeps most kept rest text
      → Keeps most (if few then kept ++ line ∷ [] else kept) behind text
  keeps_more true most kept line rest behind text is read so = record {
    dropped = [];
    none = λ few. refl;
    spelled = λ limits left spelled.
        let all = so.spelled limits (line ∷ left) (read limits left spelled) in
        let here = subst (λ (ds : List (Line A)). ScriptSpelled limits (kept ++ (ds ++ line ∷ left)) text) (so.none is) all in
        subst (λ (ls : List (Line A)). ScriptSpelled limits ls text) (sym (append_assoc kept (line ∷ []) left)) here;
  }
  keeps_more false most kept line rest behind text is read so = record {
    dropped = so.dropped ++ line ∷ [];
    none = λ few. absurd (never (sym few ∙ is));
    spelled = λ limits left spelled.
        subst (λ (ls : List (Line A)). ScriptSpelled limits (kept ++ ls) text) (sym (append_assoc so.dropped (line ∷ []) left))
        (so.spelled limits (line ∷ left) (read limits left spelled));
  }

  pub keeps_line : (most : ℕ) (kept after : List (Line A)) (line : Line A) (rest behind text : List ℕ) → after ≡ kept_with most kept line → ((limits : Bool) → IsRead limits (Some line) rest behind) → Keeps most kept rest text
      → Keeps most after behind text
  keeps_line most kept after line rest behind text is read so =
      subst (λ (ls : List (Line A)). Keeps most ls behind text) (sym is) (keeps_more (nat_lt (length kept) most) most kept line rest behind text refl read so)

  -- all of the text is read
  pub kept_all : (most : ℕ) (kept : List (Line A)) (rest text : List ℕ) → ((limits : Bool) → ScriptSpelled {A = A} limits [] rest) → Keeps most kept rest text → SpellsKept kept text
  kept_all most kept rest text none so = (so.dropped ++ [], so.spelled false [] (none false), so.spelled true [] (none true))

  -- ---- the first of them is given

  abbrev head_or : Line A → List (Line A) → Line A
  head_or x [] = x
  head_or x (y ∷ ys) = y

  same_head : (x y : Line A) (xs ys : List (Line A)) → x ∷ xs ≡ y ∷ ys → x ≡ y
  same_head x y xs ys e = ap (head_or x) e

  not_none : (y : Line A) (ys : List (Line A)) → [] ≡ y ∷ ys → ⊥
  not_none y ys e = absurd cc

  pub kept_first : OneFilter → ((x y : Line A) → IsProp (x ≡ y)) → (line : Line A) (kept lines : List (Line A)) (text rest : List ℕ) → ∥ SpellsKept (line ∷ kept) text ∥₁
      → ((x : Line A) (others : List (Line A)) → SpellsScript (x ∷ others) text → SpellsScript others rest) → SpellsScript lines text → TakesFirst (Some line) lines rest
  kept_first law set line kept [] text rest so pass spelled =
      absurd (∥∥₁_elim so ⊥_prop (λ (others, all, within). not_none line (kept ++ others) (same_script law [] (line ∷ (kept ++ others)) text spelled all)))
  kept_first law set line kept (x ∷ xs) text rest so pass spelled =
      let same : x ≡ line = ∥∥₁_elim so (set x line) (λ (others, all, within). same_head x line xs (kept ++ others) (same_script law (x ∷ xs) (line ∷ (kept ++ others)) text spelled all)) in
      (xs, ap (λ (l : Line A). l ∷ xs) same, pass x xs spelled)

  -- nothing is kept where none was first
  pub nothing_kept : (old new : List (Line A)) → old ≡ new → new ≡ drop 1 old → new ≡ []
  nothing_kept [] new e rest = sym e
  nothing_kept (x ∷ xs) new e rest =
      let longer : length (x ∷ xs) ≡ length xs = ap length (e ∙ rest) in
      absurd (omega (arith, longer))

  -- where nothing is kept, the text spells some lines
  pub within_kept : (kept : List (Line A)) (text : List ℕ) → SpellsKept kept text → SpellsWithin A text
  within_kept kept text (others, all, within) = (kept ++ others, all, within)

  pub kept_none : (kept : List (Line A)) (text : List ℕ) → kept ≡ [] → SpellsWithin A text → SpellsKept kept text
  kept_none kept text none (lines, all, within) = subst (λ (ks : List (Line A)). SpellsKept ks text) (sym none) (lines, all, within)
