-- Readings that end at a token.
use Rattle.std.proofs.Common.{◌≡◌, ◌⊎◌, inl, inr, ℕ, zero, suc, ◌+◌, ◌≤◌, Bool, true, false, cond, eqb, List, [], ◌∷◌, ◌++◌, length, length-append, Option, Some, None, Ok, Err, refl, sym, ap, ◌∙◌, subst, arith, append_assoc, le_refl}
use Rattle.std.proofs.lemmas.List.{append_cancel_right}
use Rattle.cap_value.specs.declared.refusal.Refusal.{Refusal}
use Rattle.cap_field.specs.declared.fault.BlobFault.{BlobFault}
use Rattle.cap_language.specs.Grammar.{Grammar, done, unfit, exceeds, no_blob, spaced, takes, on_sign, on_end, follows, each, Read, Wanted, and_then, at_most, behind_or, by_end, by_sign, misfit, read, read_at, taken, token_then, wanted_in, with_item}
use Rattle.cap_language.specs.Places.{BeginAlike}
use Rattle.cap_language.specs.Scanning.{Scanned, token_at}
use Rattle.cap_language.specs.Tokens.{Token, behind_blanks}
use Rattle.cap_language.specs.declared.fault.LineFault.{LineFault}
use Rattle.cap_language.specs.declared.fault.LineFault.TheVariants.{BadBlob, Limit, Syntax}
use Rattle.cap_language.proofs.GrammarLaws.{enough, leaves_end, shorter}
use Rattle.cap_language.proofs.MovedLaws.{blanks_moved, blanks_of, found_moved, longer_end, none_alike, some_alike, some_front}
use Rattle.cap_language.proofs.TokenLaws.{blanks_shorter, blanks_twice, found_some}

-- It ends in the line. Where it ends before a token, or at one that does not fit, it does so in each line that goes
-- on with that token.
pub record Local {X : Type 0} (reads : List ℕ → Read X) : Type 0 where
  pub ends : (line rest : List ℕ) (x : X) → reads line ≡ Ok (x, rest) → (front : List ℕ) × (line ≡ front ++ rest)
  pub stops : (line : List ℕ) (left : ℕ) → reads line ≡ Err (Syntax left) → left ≤ length line
  pub goes : (front rest behind more : List ℕ) (x : X) → BeginAlike behind more → reads (front ++ behind) ≡ Ok (x, rest ++ behind) → reads (front ++ more) ≡ Ok (x, rest ++ more)
  pub refuses : (front behind more : List ℕ) → BeginAlike behind more → reads (front ++ behind) ≡ Err (Syntax (length behind)) → reads (front ++ more) ≡ Err (Syntax (length more))

-- ---- outcomes

abbrev pub made : {X : Type 0} → X → List ℕ → Read X
made x rest = Ok (x, rest)

abbrev pub stopped : {X : Type 0} → ℕ → Read X
stopped left = Err (Syntax left)

abbrev rest_of : {X : Type 0} → Read X → List ℕ
rest_of (Ok (x, rest)) = rest
rest_of (Err fault) = []

abbrev value_of : {X : Type 0} → X → Read X → X
value_of y (Ok (x, rest)) = x
value_of y (Err fault) = y

abbrev left_of : {X : Type 0} → Read X → ℕ
left_of (Err (Syntax left)) = left
left_of _ = 0

pub same_rest : {X : Type 0} (x y : X) (a b : List ℕ) → made x a ≡ made y b → a ≡ b
same_rest x y a b e = ap rest_of e

pub same_value : {X : Type 0} (x y : X) (a b : List ℕ) → made x a ≡ made y b → x ≡ y
same_value x y a b e = ap (value_of x) e

pub same_left : (X : Type 0) (m n : ℕ) → stopped {X = X} m ≡ stopped n → m ≡ n
same_left X m n e = ap left_of e

abbrev fault_of : {X : Type 0} → LineFault → Read X → LineFault
fault_of other (Ok found) = other
fault_of other (Err fault) = fault

abbrev failed : {X : Type 0} → LineFault → Read X
failed fault = Err fault

-- a fault has no value
pub refused_so : (X Y : Type 0) (f g : LineFault) → failed {X = Y} f ≡ failed g → failed {X = X} f ≡ failed g
refused_so X Y f g e = ap (λ h. failed h) (ap (fault_of f) e)

pub none_before : (front behind : List ℕ) → length (front ++ behind) ≡ length behind → front ≡ []
none_before [] behind e = refl
none_before (c ∷ front) behind e = absurd (omega (arith, e, length-append front behind))

-- ---- the ends of reading

pub local_done : {X : Type 0} (x : X) → Local (λ here. made x here)
local_done x = record {
  ends = λ line rest y e. ([], same_rest x y line rest e);
  stops = λ line left e. absurd cc;
  goes = λ front rest behind more y alike e.
      let same = append_cancel_right front rest behind (same_rest x y (front ++ behind) (rest ++ behind) e) in
      let one = same_value x y (front ++ behind) (rest ++ behind) e in
      ap (λ (l : List ℕ). made x (l ++ more)) same ∙ ap (λ z. made z (rest ++ more)) one;
  refuses = λ front behind more alike e. absurd cc;
}

pub local_misfit : (X : Type 0) → Local {X = X} (λ here. Err (misfit here))
local_misfit X = record {
  ends = λ line rest x e. absurd cc;
  stops = λ line left e. let same = same_left X (length line) left e in omega (arith, same);
  goes = λ front rest behind more x alike e. absurd cc;
  refuses = λ front behind more alike e.
      let empty = none_before front behind (same_left X (length (front ++ behind)) (length behind) e) in
      ap (λ (l : List ℕ). Err (misfit (l ++ more))) empty;
}

-- ---- behind spaces

pub local_skip : {X : Type 0} (reads : List ℕ → Read X) → Local reads → Local (λ line. reads (behind_blanks line))
local_skip reads local = record {
  ends = λ line rest x e.
      let (blanks, same, skips) = blanks_of line in
      let (front, is) = local.ends (behind_blanks line) rest x e in
      (blanks ++ front, same ∙ ap (λ (l : List ℕ). blanks ++ l) is ∙ sym (append_assoc blanks front rest));
  stops = λ line left e. let few = local.stops (behind_blanks line) left e in omega (arith, few, blanks_shorter line);
  goes = λ front rest behind more x alike e.
      let (before, is) = local.ends (behind_blanks (front ++ behind)) (rest ++ behind) x e in
      let here = is ∙ sym (append_assoc before rest behind) in
      let moved = blanks_moved front (before ++ rest) behind more alike (blanks_twice (front ++ behind)) here in
      ap reads moved ∙ local.goes (before ++ rest) rest behind more x alike (sym (ap reads here) ∙ e);
  refuses = λ front behind more alike e.
      let (blanks, same, skips) = blanks_of (front ++ behind) in
      let few = local.stops (behind_blanks (front ++ behind)) (length behind) e in
      let (before, here) = longer_end front blanks behind (behind_blanks (front ++ behind)) same few in
      let moved = blanks_moved front before behind more alike (blanks_twice (front ++ behind)) here in
      ap reads moved ∙ local.refuses before behind more alike (sym (ap reads here) ∙ e);
}

-- ---- one reading behind another

module _ {X Y : Type 0} (first : List ℕ → Read X) (go : X → List ℕ → Read Y) (one : Local first) (two : (x : X) → Local (go x)) where
  both_ends : (line rest : List ℕ) (y : Y) (o : Read X) → first line ≡ o → and_then o go ≡ Ok (y, rest) → (front : List ℕ) × (line ≡ front ++ rest)
  both_ends line rest y (Err fault) is e = absurd cc
  both_ends line rest y (Ok (x, mid)) is e =
      let (a, same) = one.ends line mid x is in
      let second = two x in
      let (b, same_too) = second.ends mid rest y e in
      (a ++ b, same ∙ ap (λ (l : List ℕ). a ++ l) same_too ∙ sym (append_assoc a b rest))

  both_stops : (line : List ℕ) (left : ℕ) (o : Read X) → first line ≡ o → and_then o go ≡ Err (Syntax left) → left ≤ length line
  both_stops line left (Err fault) is e = one.stops line left (is ∙ refused_so X Y fault (Syntax left) e)
  both_stops line left (Ok (x, mid)) is e =
      let (a, same) = one.ends line mid x is in
      let second = two x in
      let few = second.stops mid left e in
      let long = ap length same in
      omega (arith, few, long, length-append a mid)

  both_goes : (front rest behind more : List ℕ) (y : Y) (o : Read X) → BeginAlike behind more → first (front ++ behind) ≡ o → and_then o go ≡ Ok (y, rest ++ behind) → and_then (first (front ++ more)) go ≡ Ok (y, rest ++ more)
  both_goes front rest behind more y (Err fault) alike is e = absurd cc
  both_goes front rest behind more y (Ok (x, mid)) alike is e =
      let second = two x in
      let (before, at) = second.ends mid (rest ++ behind) y e in
      let here = at ∙ sym (append_assoc before rest behind) in
      let gone = one.goes front (before ++ rest) behind more x alike (is ∙ ap (made x) here) in
      ap (λ o. and_then o go) gone ∙ second.goes (before ++ rest) rest behind more y alike (sym (ap (go x) here) ∙ e)

  both_refuses : (front behind more : List ℕ) (o : Read X) → BeginAlike behind more → first (front ++ behind) ≡ o → and_then o go ≡ Err (Syntax (length behind)) → and_then (first (front ++ more)) go ≡ Err (Syntax (length more))
  both_refuses front behind more (Err fault) alike is e = ap (λ o. and_then o go) (one.refuses front behind more alike (is ∙ refused_so X Y fault (Syntax (length behind)) e))
  both_refuses front behind more (Ok (x, mid)) alike is e =
      let (a, same) = one.ends (front ++ behind) mid x is in
      let second = two x in
      let few = second.stops mid (length behind) e in
      let (before, here) = longer_end front a behind mid same few in
      let gone = one.goes front before behind more x alike (is ∙ ap (made x) here) in
      ap (λ o. and_then o go) gone ∙ second.refuses before behind more alike (sym (ap (go x) here) ∙ e)

  pub local_both : Local (λ line. and_then (first line) go)
  local_both = record {
    ends = λ line rest y e. both_ends line rest y (first line) refl e;
    stops = λ line left e. both_stops line left (first line) refl e;
    goes = λ front rest behind more y alike e. both_goes front rest behind more y (first (front ++ behind)) alike refl e;
    refuses = λ front behind more alike e. both_refuses front behind more (first (front ++ behind)) alike refl e;
  }

-- ---- signs

pub by_test : {Y : Type 0} (b : Bool) (rest : List ℕ) (go : List ℕ → Read Y) (o : Read Y) (P : Read Y → Type 0) → (b ≡ true → P (go rest)) → (b ≡ false → P o) → P (behind_or (cond b (Some rest) None) go o)
by_test true rest go o P has lacks = has refl
by_test false rest go o P has lacks = lacks refl

module _ {X : Type 0} (s : ℕ) (go other : List ℕ → Read X) (has : Local go) (lacks : Local other) where
  abbrev reads : List ℕ → Read X
  reads = by_sign s go other

  sign_ends : (line rest : List ℕ) (x : X) → reads line ≡ Ok (x, rest) → (front : List ℕ) × (line ≡ front ++ rest)
  sign_ends [] rest x e = lacks.ends [] rest x e
  sign_ends (c ∷ line) rest x e =
      by_test (eqb c s) line go (other (c ∷ line)) (λ o. o ≡ Ok (x, rest) → (front : List ℕ) × (c ∷ line ≡ front ++ rest))
      (λ is f. let (front, same) = has.ends line rest x f in (c ∷ front, ap (λ (l : List ℕ). c ∷ l) same)) (λ is f. lacks.ends (c ∷ line) rest x f) e

  sign_stops : (line : List ℕ) (left : ℕ) → reads line ≡ Err (Syntax left) → left ≤ length line
  sign_stops [] left e = lacks.stops [] left e
  sign_stops (c ∷ line) left e =
      by_test (eqb c s) line go (other (c ∷ line)) (λ o. o ≡ Err (Syntax left) → left ≤ length (c ∷ line))
      (λ is f. let few = has.stops line left f in omega (arith, few)) (λ is f. lacks.stops (c ∷ line) left f) e

  sign_goes : (front rest behind more : List ℕ) (x : X) → BeginAlike behind more → reads (front ++ behind) ≡ Ok (x, rest ++ behind) → reads (front ++ more) ≡ Ok (x, rest ++ more)
  sign_goes [] rest [] more x alike e = subst (λ (m : List ℕ). reads m ≡ Ok (x, rest ++ m)) (sym alike) e
  sign_goes [] rest (byte ∷ behind) [] x alike e = absurd alike
  sign_goes [] rest (byte ∷ behind) (c ∷ more) x alike e =
      by_test (eqb byte s) behind go (other (byte ∷ behind)) (λ o. o ≡ Ok (x, rest ++ byte ∷ behind) → reads (c ∷ more) ≡ Ok (x, rest ++ c ∷ more))
      (λ is f.
      let (front, same) = has.ends behind (rest ++ byte ∷ behind) x f in
      let long = ap length same in
      absurd (omega (arith, long, length-append front (rest ++ byte ∷ behind), length-append rest (byte ∷ behind))))
      (λ is f. rw (subst (λ (b : ℕ). eqb b s ≡ false) alike.0 is) (lacks.goes [] rest (byte ∷ behind) (c ∷ more) x alike f)) e
  sign_goes (c ∷ front) rest behind more x alike e =
      by_test (eqb c s) (front ++ behind) go (other (c ∷ (front ++ behind))) (λ o. o ≡ Ok (x, rest ++ behind) → reads (c ∷ (front ++ more)) ≡ Ok (x, rest ++ more))
      (λ is f. rw is (has.goes front rest behind more x alike f)) (λ is f. rw is (lacks.goes (c ∷ front) rest behind more x alike f)) e

  sign_refuses : (front behind more : List ℕ) → BeginAlike behind more → reads (front ++ behind) ≡ Err (Syntax (length behind)) → reads (front ++ more) ≡ Err (Syntax (length more))
  sign_refuses [] [] more alike e = subst (λ (m : List ℕ). reads m ≡ Err (Syntax (length m))) (sym alike) e
  sign_refuses [] (byte ∷ behind) [] alike e = absurd alike
  sign_refuses [] (byte ∷ behind) (c ∷ more) alike e =
      by_test (eqb byte s) behind go (other (byte ∷ behind)) (λ o. o ≡ Err (Syntax (length (byte ∷ behind))) → reads (c ∷ more) ≡ Err (Syntax (length (c ∷ more))))
      (λ is f. let few = has.stops behind (length (byte ∷ behind)) f in absurd (omega (arith, few)))
      (λ is f. rw (subst (λ (b : ℕ). eqb b s ≡ false) alike.0 is) (lacks.refuses [] (byte ∷ behind) (c ∷ more) alike f)) e
  sign_refuses (c ∷ front) behind more alike e =
      by_test (eqb c s) (front ++ behind) go (other (c ∷ (front ++ behind))) (λ o. o ≡ Err (Syntax (length behind)) → reads (c ∷ (front ++ more)) ≡ Err (Syntax (length more)))
      (λ is f. rw is (has.refuses front behind more alike f)) (λ is f. rw is (lacks.refuses (c ∷ front) behind more alike f)) e

  pub local_sign : Local (by_sign s go other)
  local_sign = record { ends = sign_ends; stops = sign_stops; goes = sign_goes; refuses = sign_refuses }

-- ---- the line's end

module _ {X : Type 0} (first : List ℕ → Read X) (other : List ℕ → Read X) (has : Local first) (lacks : Local other) where
  abbrev reads_end : List ℕ → Read X
  reads_end = by_end (first []) other

  end_ends : (line rest : List ℕ) (x : X) → reads_end line ≡ Ok (x, rest) → (front : List ℕ) × (line ≡ front ++ rest)
  end_ends [] rest x e = has.ends [] rest x e
  end_ends (c ∷ line) rest x e = lacks.ends (c ∷ line) rest x e

  end_stops : (line : List ℕ) (left : ℕ) → reads_end line ≡ Err (Syntax left) → left ≤ length line
  end_stops [] left e = has.stops [] left e
  end_stops (c ∷ line) left e = lacks.stops (c ∷ line) left e

  end_goes : (front rest behind more : List ℕ) (x : X) → BeginAlike behind more → reads_end (front ++ behind) ≡ Ok (x, rest ++ behind) → reads_end (front ++ more) ≡ Ok (x, rest ++ more)
  end_goes [] rest [] more x alike e = subst (λ (m : List ℕ). reads_end m ≡ Ok (x, rest ++ m)) (sym alike) e
  end_goes [] rest (byte ∷ behind) [] x alike e = absurd alike
  end_goes [] rest (byte ∷ behind) (c ∷ more) x alike e = lacks.goes [] rest (byte ∷ behind) (c ∷ more) x alike e
  end_goes (c ∷ front) rest behind more x alike e = lacks.goes (c ∷ front) rest behind more x alike e

  end_refuses : (front behind more : List ℕ) → BeginAlike behind more → reads_end (front ++ behind) ≡ Err (Syntax (length behind)) → reads_end (front ++ more) ≡ Err (Syntax (length more))
  end_refuses [] [] more alike e = subst (λ (m : List ℕ). reads_end m ≡ Err (Syntax (length m))) (sym alike) e
  end_refuses [] (byte ∷ behind) [] alike e = absurd alike
  end_refuses [] (byte ∷ behind) (c ∷ more) alike e = lacks.refuses [] (byte ∷ behind) (c ∷ more) alike e
  end_refuses (c ∷ front) behind more alike e = lacks.refuses (c ∷ front) behind more alike e

  pub local_end : Local (by_end (first []) other)
  local_end = record { ends = end_ends; stops = end_stops; goes = end_goes; refuses = end_refuses }

-- ---- tokens

-- a grammar finds the token before unfit, or has nothing to do with it
abbrev pub Kind : {X : Type 0} → Grammar X → Type 0
Kind g =
    ((before line : List ℕ) → read_at true g before line ≡ Err (misfit before))
    ⊎ ((before line : List ℕ) → read_at true g before line ≡ read g line)

kind_spaced : {X : Type 0} (g : Grammar X) → Kind g → Kind (spaced g)
kind_spaced g (inl blames) = inl (λ before line. blames before (behind_blanks line))
kind_spaced g (inr same) = inr (λ before line. same before (behind_blanks line) ∙ sym (same line (behind_blanks line)))

kind_follows : {X Y : Type 0} (first : Grammar X) (go : X → Grammar Y) → Kind first → Kind (follows first go)
kind_follows first go (inl blames) = inl (λ before line. ap (λ r. and_then r (λ x rest. read_at true (go x) rest rest)) (blames before line))
kind_follows first go (inr same) = inr (λ before line. ap (λ r. and_then r (λ x rest. read_at true (go x) rest rest)) (same before line))

pub kind : {X : Type 0} (g : Grammar X) → Kind g
kind (done x) = inr (λ before line. refl)
kind unfit = inl (λ before line. refl)
kind (exceeds why free) = inr (λ before line. refl)
kind (no_blob why) = inr (λ before line. refl)
kind (spaced g) = kind_spaced g (kind g)
kind (takes wanted go) = inr (λ before line. refl)
kind (on_sign s first second) = inr (λ before line. refl)
kind (on_end first second) = inr (λ before line. refl)
kind (follows first go) = kind_follows first go (kind first)
kind (each s i item) = inr (λ before line. refl)

module _ {T X : Type 0} (wanted : Wanted T) (go : T → Grammar X) (known : (t : T) → Local (read (go t))) where
  abbrev behind_it : List ℕ → T → List ℕ → Read X
  behind_it here t rest = read_at true (go t) here rest

  abbrev pub in_found : List ℕ → Scanned → Read X
  in_found here found = token_then here (wanted_in wanted found) (behind_it here)

  token_stops_by : (here r : List ℕ) (left : ℕ) (t : T) → Kind (go t) → length r ≤ length here → behind_it here t r ≡ Err (Syntax left) → left ≤ length here
  token_stops_by here r left t (inl blames) few e = let same = same_left X (length here) left (sym (blames here r) ∙ e) in omega (arith, same)
  token_stops_by here r left t (inr same) few e =
      let inner = known t in
      let less = inner.stops r left (sym (same here r) ∙ e) in omega (arith, few, less)

  taken_stops : (here r : List ℕ) (left : ℕ) (w : Option T) → length r ≤ length here → token_then here (taken w r) (behind_it here) ≡ Err (Syntax left) → left ≤ length here
  taken_stops here r left None few e = let same = same_left X (length here) left e in omega (arith, same)
  taken_stops here r left (Some t) few e = token_stops_by here r left t (kind (go t)) few e

  here_stops : (here : List ℕ) (left : ℕ) (found : Scanned) → token_at here ≡ found → in_found here found ≡ Err (Syntax left) → left ≤ length here
  here_stops here left None is e = let same = same_left X (length here) left e in omega (arith, same)
  here_stops here left (Some (token, r)) is e =
      let (p, same, some) = found_some token here r is in
      let long = ap length same in
      taken_stops here r left (wanted token) (omega (arith, long, length-append p r)) e

  token_goes_by : (front q rest behind more : List ℕ) (x : X) (t : T) → Kind (go t) → BeginAlike behind more → behind_it (front ++ behind) t (q ++ behind) ≡ Ok (x, rest ++ behind) → behind_it (front ++ more) t (q ++ more) ≡ Ok (x, rest ++ more)
  token_goes_by front q rest behind more x t (inl blames) alike e = let bad = sym (blames (front ++ behind) (q ++ behind)) ∙ e in absurd cc
  token_goes_by front q rest behind more x t (inr same) alike e =
      let inner = known t in
      same (front ++ more) (q ++ more) ∙ inner.goes q rest behind more x alike (sym (same (front ++ behind) (q ++ behind)) ∙ e)

  token_ends_by : (here r rest : List ℕ) (x : X) (t : T) → behind_it here t r ≡ Ok (x, rest) → (f : List ℕ) × (r ≡ f ++ rest)
  token_ends_by here r rest x t e = leaves_end true (go t) here r x rest e

  taken_goes : (front rest behind more r : List ℕ) (x : X) (token : Token) (w : Option T) → wanted token ≡ w → BeginAlike behind more → token_at (front ++ behind) ≡ Some (token, r) → token_then (front ++ behind) (taken w r) (behind_it (front ++ behind)) ≡ Ok (x, rest ++ behind)
      → in_found (front ++ more) (token_at (front ++ more)) ≡ Ok (x, rest ++ more)
  taken_goes front rest behind more r x token None fits alike is e = absurd cc
  taken_goes front rest behind more r x token (Some t) fits alike is e =
      let (p, same, some) = found_some token (front ++ behind) r is in
      let (f, at) = token_ends_by (front ++ behind) r (rest ++ behind) x t e in
      let q = f ++ rest in
      let tail : r ≡ q ++ behind = at ∙ sym (append_assoc f rest behind) in
      let moved = found_moved token front q behind more (some_front front behind p r q same tail some) alike (is ∙ ap (λ (l : List ℕ). Some (token, l)) tail) in
      ap (in_found (front ++ more)) moved ∙ ap (λ (w : Option T). token_then (front ++ more) (taken w (q ++ more)) (behind_it (front ++ more))) fits
      ∙ token_goes_by front q rest behind more x t (kind (go t)) alike (subst (λ (l : List ℕ). behind_it (front ++ behind) t l ≡ Ok (x, rest ++ behind)) tail e)

  here_goes : (front rest behind more : List ℕ) (x : X) (found : Scanned) → BeginAlike behind more → token_at (front ++ behind) ≡ found → in_found (front ++ behind) found ≡ Ok (x, rest ++ behind) → in_found (front ++ more) (token_at (front ++ more)) ≡ Ok (x, rest ++ more)
  here_goes front rest behind more x None alike is e = absurd cc
  here_goes front rest behind more x (Some (token, r)) alike is e = taken_goes front rest behind more r x token (wanted token) refl alike is e

  -- the same token, which is not what it should be
  unfit_again : (front behind more r : List ℕ) (token : Token) → BeginAlike behind more → token_at (front ++ behind) ≡ Some (token, r) → length (front ++ behind) ≡ length behind
      → ((here rest : List ℕ) → in_found here (Some (token, rest)) ≡ Err (misfit here)) → in_found (front ++ more) (token_at (front ++ more)) ≡ Err (Syntax (length more))
  unfit_again front behind more r token alike is at blames =
      let empty = none_before front behind at in
      let (q, found) = some_alike token r behind more alike (subst (λ (l : List ℕ). token_at (l ++ behind) ≡ Some (token, r)) empty is) in
      ap (λ (l : List ℕ). in_found (l ++ more) (token_at (l ++ more))) empty ∙ ap (in_found more) found ∙ blames more q

  token_refuses_by : (front behind more r : List ℕ) (token : Token) (t : T) → Kind (go t) → wanted token ≡ Some t → BeginAlike behind more → token_at (front ++ behind) ≡ Some (token, r) → behind_it (front ++ behind) t r ≡ Err (Syntax (length behind))
      → in_found (front ++ more) (token_at (front ++ more)) ≡ Err (Syntax (length more))
  token_refuses_by front behind more r token t (inl blames) fits alike is e =
      unfit_again front behind more r token alike is (same_left X (length (front ++ behind)) (length behind) (sym (blames (front ++ behind) r) ∙ e))
      (λ here rest. ap (λ (w : Option T). token_then here (taken w rest) (behind_it here)) fits ∙ blames here rest)
  token_refuses_by front behind more r token t (inr same) fits alike is e =
      let (p, whole, some) = found_some token (front ++ behind) r is in
      let inner = known t in
      let inside = sym (same (front ++ behind) r) ∙ e in
      let few = inner.stops r (length behind) inside in
      let (q, tail) = longer_end front p behind r whole few in
      let moved = found_moved token front q behind more (some_front front behind p r q whole tail some) alike (is ∙ ap (λ (l : List ℕ). Some (token, l)) tail) in
      ap (in_found (front ++ more)) moved ∙ ap (λ (w : Option T). token_then (front ++ more) (taken w (q ++ more)) (behind_it (front ++ more))) fits
      ∙ same (front ++ more) (q ++ more) ∙ inner.refuses q behind more alike (sym (ap (read (go t)) tail) ∙ inside)

  taken_refuses : (front behind more r : List ℕ) (token : Token) (w : Option T) → wanted token ≡ w → BeginAlike behind more → token_at (front ++ behind) ≡ Some (token, r) → token_then (front ++ behind) (taken w r) (behind_it (front ++ behind)) ≡ Err (Syntax (length behind))
      → in_found (front ++ more) (token_at (front ++ more)) ≡ Err (Syntax (length more))
  taken_refuses front behind more r token None fits alike is e =
      unfit_again front behind more r token alike is (same_left X (length (front ++ behind)) (length behind) e)
      (λ here rest. ap (λ (w : Option T). token_then here (taken w rest) (behind_it here)) fits)
  taken_refuses front behind more r token (Some t) fits alike is e = token_refuses_by front behind more r token t (kind (go t)) fits alike is e

  here_refuses : (front behind more : List ℕ) (found : Scanned) → BeginAlike behind more → token_at (front ++ behind) ≡ found → in_found (front ++ behind) found ≡ Err (Syntax (length behind)) → in_found (front ++ more) (token_at (front ++ more)) ≡ Err (Syntax (length more))
  here_refuses front behind more None alike is e =
      let empty = none_before front behind (same_left X (length (front ++ behind)) (length behind) e) in
      let found = none_alike behind more alike (subst (λ (l : List ℕ). token_at (l ++ behind) ≡ None) empty is) in
      ap (λ (l : List ℕ). in_found (l ++ more) (token_at (l ++ more))) empty ∙ ap (in_found more) found
  here_refuses front behind more (Some (token, r)) alike is e = taken_refuses front behind more r token (wanted token) refl alike is e

  pub local_takes : Local (read (takes wanted go))
  local_takes = record {
    ends = λ line rest x e. leaves_end true (takes wanted go) line line x rest e;
    stops = λ line left e. here_stops line left (token_at line) refl e;
    goes = λ front rest behind more x alike e. here_goes front rest behind more x (token_at (front ++ behind)) alike refl e;
    refuses = λ front behind more alike e. here_refuses front behind more (token_at (front ++ behind)) alike refl e;
  }

-- ---- items behind a sign

pub local_at_most : {X : Type 0} (n s i : ℕ) (item : ℕ → List ℕ → Read X) → ((i : ℕ) → Local (item i)) → Local (at_most n s i item)
local_at_most zero s i item local = local_skip (λ here. made [] here) (local_done [])
local_at_most (suc n) s i item local =
    local_skip (by_sign s (λ rest. and_then (item i rest) (λ x behind. and_then (at_most n s (suc i) item behind) (with_item x))) (λ here. made [] here))
    (local_sign s (λ rest. and_then (item i rest) (λ x behind. and_then (at_most n s (suc i) item behind) (with_item x))) (λ here. made [] here)
    (local_both (item i) (λ x behind. and_then (at_most n s (suc i) item behind) (with_item x)) (local i)
    (λ x. local_both (at_most n s (suc i) item) (with_item x) (local_at_most n s (suc i) item local) (λ xs. local_done (x ∷ xs))))
    (local_done []))

module _ {X : Type 0} (s i : ℕ) (item : ℕ → Grammar X) (local : (i : ℕ) → Local (read (item i))) where
  abbrev items : ℕ → List ℕ → Read X
  items i rest = read (item i) rest

  pub enough_at : (n : ℕ) (line : List ℕ) → length line ≤ n → read (each s i item) line ≡ at_most n s i items line
  enough_at n line few = enough (length line) n s i items (λ i l x r. shorter true (item i) l l x r) line (le_refl (length line)) few

  at_n : (n : ℕ) → Local (at_most n s i items)
  at_n n = local_at_most n s i items local

  pub local_each : Local (read (each s i item))
  local_each = record {
    ends = λ line rest x e. leaves_end true (each s i item) line line x rest e;
    stops = λ line left e. let inner = at_n (length line) in inner.stops line left e;
    goes = λ front rest behind more x alike e.
        let n = length (front ++ behind) + length (front ++ more) in
        let inner = at_n n in
        enough_at n (front ++ more) (omega arith) ∙ inner.goes front rest behind more x alike (sym (enough_at n (front ++ behind) (omega arith)) ∙ e);
    refuses = λ front behind more alike e.
        let n = length (front ++ behind) + length (front ++ more) in
        let inner = at_n n in
        enough_at n (front ++ more) (omega arith) ∙ inner.refuses front behind more alike (sym (enough_at n (front ++ behind) (omega arith)) ∙ e);
  }

-- ---- all grammars

local_exceeds : {X : Type 0} (why : Refusal) → Local {X = X} (λ line. Err (Limit why))
local_exceeds why = record {
  ends = λ line rest x e. absurd cc;
  stops = λ line left e. absurd cc;
  goes = λ front rest behind more x alike e. absurd cc;
  refuses = λ front behind more alike e. absurd cc;
}

local_no_blob : {X : Type 0} (why : BlobFault) → Local {X = X} (λ line. Err (BadBlob why))
local_no_blob why = record {
  ends = λ line rest x e. absurd cc;
  stops = λ line left e. absurd cc;
  goes = λ front rest behind more x alike e. absurd cc;
  refuses = λ front behind more alike e. absurd cc;
}

local_as : {X : Type 0} (reads other : List ℕ → Read X) → ((line : List ℕ) → other line ≡ reads line) → Local reads → Local other
local_as reads other same local = record {
  ends = λ line rest x e. local.ends line rest x (sym (same line) ∙ e);
  stops = λ line left e. local.stops line left (sym (same line) ∙ e);
  goes = λ front rest behind more x alike e. same (front ++ more) ∙ local.goes front rest behind more x alike (sym (same (front ++ behind)) ∙ e);
  refuses = λ front behind more alike e. same (front ++ more) ∙ local.refuses front behind more alike (sym (same (front ++ behind)) ∙ e);
}

local_spaced : {X : Type 0} (g : Grammar X) → Kind g → Local (read g) → Local (read (spaced g))
local_spaced {X} g (inl blames) local = local_as (λ here. Err (misfit here)) (read (spaced g)) (λ line. blames line (behind_blanks line)) (local_misfit X)
local_spaced g (inr same) local = local_as (λ line. read g (behind_blanks line)) (read (spaced g)) (λ line. same line (behind_blanks line)) (local_skip (read g) local)

pub local : {X : Type 0} (g : Grammar X) → Local (read g)
local (done x) = local_done x
local {X} unfit = local_misfit X
local (exceeds why free) = local_exceeds why
local (no_blob why) = local_no_blob why
local (spaced g) = local_spaced g (kind g) (local g)
local (takes wanted go) = local_takes wanted go (λ t. local (go t))
local (on_sign s first second) = local_sign s (read first) (read second) (local first) (local second)
local (on_end first second) = local_end (read first) (read second) (local first) (local second)
local (follows first go) = local_both (read first) (λ x. read (go x)) (local first) (λ x. local (go x))
local (each s i item) = local_each s i item (λ i. local (item i))
