-- What stands before the token at which reading ends can be read on.
use Rattle.std.proofs.Common.{◌≡◌, ◌⊎◌, inl, inr, ℕ, ◌<◌, ◌||◌, ◌&&◌, Bool, true, false, eqb, List, [], ◌∷◌, ◌++◌, length, length-append, Option, Some, None, Ok, Err, refl, sym, ap, ◌∙◌, subst, arith, append_assoc, eq-eqb}
use Rattle.std.specs.Prelude.{⊤}
use Rattle.std.specs.Char.{is_ascii_digit}
use Rattle.std.proofs.lemmas.List.{append_cancel_right}
use Rattle.cap_value.specs.declared.refusal.Refusal.TheVariants.{TooMany}
use Rattle.cap_filter.specs.Printed.{quote, quoted}
use Rattle.cap_filter.specs.Tokens.{is_word_byte}
use Rattle.cap_language.specs.Forms.{behind}
use Rattle.cap_language.specs.Grammar.{Grammar, Read, Wanted, and_then, by_end, by_sign, misfit, read, read_at, spaced, taken, takes, token_then, wanted_in}
use Rattle.cap_language.specs.Scanning.{Scanned, token_at}
use Rattle.cap_language.specs.Tokens.{Begins, Blob, Integer, Text, Token, Word, begins, begins_blob, behind_blanks, is_blank, is_quote, minus}
use Rattle.cap_language.specs.declared.fault.LineFault.TheVariants.{Limit, Syntax}
use Rattle.cap_language.proofs.GrammarLaws.{leaves_end}
use Rattle.cap_language.proofs.MovedLaws.{blanks_of, first_no_blank, longer_end, moved_end}
use Rattle.cap_language.proofs.PlaceLaws.{Local, by_test, local, local_done, local_sign, made, refused_so, same_left, same_rest, same_value}
use Rattle.cap_language.proofs.TokenLaws.{begins_scanned, blanks_twice, found_some, scanned_begins}

-- ---- what may follow

-- a sign with which a list goes on, or a worker
abbrev pub goes_with : ℕ → Bool
goes_with byte = eqb byte 44 || (eqb byte 59 || eqb byte 64)

-- nothing, or a space, and then no such sign
abbrev pub Tail : List ℕ → Type 0
Tail [] = ⊤
Tail (byte ∷ line) = (byte ≡ 32) × (begins goes_with (behind_blanks line) ≡ false)

abbrev pub Nothing : List ℕ → Type 0
Nothing line = line ≡ []

pub nothing_tail : (line : List ℕ) → Nothing line → Tail line
nothing_tail [] e = tt
nothing_tail (byte ∷ line) e = absurd cc

pub tail_sign : (line : List ℕ) → Tail line → begins goes_with (behind_blanks line) ≡ false
tail_sign [] tail = refl
tail_sign (byte ∷ line) (is, none) = rw is none

pub tail_byte : (test : ℕ → Bool) (line : List ℕ) → test 32 ≡ false → Tail line → begins test line ≡ false
tail_byte test [] space tail = refl
tail_byte test (byte ∷ line) space (is, none) = ap test is ∙ space

tail_after : (test : ℕ → Bool) (q behind line : List ℕ) → test 32 ≡ false → Tail line → begins test (q ++ behind) ≡ false → begins test (q ++ line) ≡ false
tail_after test [] behind line space tail e = tail_byte test line space tail
tail_after test (c ∷ q) behind line space tail e = e

and_none : (b : Bool) → (b && false) ≡ false
and_none true = refl
and_none false = refl

tail_blob : (p behind line : List ℕ) → 0 < length p → Tail line → begins_blob (p ++ behind) ≡ false → begins_blob (p ++ line) ≡ false
tail_blob [] behind line some tail e = absurd (omega (arith, some))
tail_blob (x ∷ y ∷ p) behind line some tail e = e
tail_blob (x ∷ []) behind [] some tail e = and_none (eqb x 120)
tail_blob (x ∷ []) behind (byte ∷ line) some (is, none) e = rw is (and_none (eqb x 120))

token_tail : (t : Token) (p q behind line : List ℕ) → 0 < length p → Tail line → Begins t (p ++ behind) (q ++ behind) → Begins t (p ++ line) (q ++ line)
token_tail (Word w) [] q behind line some tail h = absurd (omega (arith, some))
token_tail (Word w) (c ∷ p) q behind line some tail (same, letter, none, all, ends) =
    (moved_end w (c ∷ p) q behind line same, letter, tail_blob (c ∷ p) behind line some tail none, all, tail_after is_word_byte q behind line refl tail ends)
token_tail (Integer negative n) p q behind line some tail (digits, same, others, all, value, none, fits_it) =
    (digits, moved_end (minus negative digits) p q behind line same, others, all, value, tail_after is_ascii_digit q behind line refl tail none, fits_it)
token_tail (Text t) p q behind line some tail (same, none) = (moved_end (quoted t) p q behind line same, tail_after is_quote q behind line refl tail none)
token_tail (Blob bytes) p q behind line some tail (digits, same, decoded) =
    (digits, moved_end (120 ∷ quote ∷ digits ++ quote ∷ []) p q behind line (same ∙ ap (λ (l : List ℕ). 120 ∷ quote ∷ l) (sym (append_assoc digits (quote ∷ []) (q ++ behind)))) ∙ ap (λ (l : List ℕ). 120 ∷ quote ∷ l) (append_assoc digits (quote ∷ []) (q ++ line)), decoded)

pub found_tail : (t : Token) (p q behind line : List ℕ) → 0 < length p → Tail line → token_at (p ++ behind) ≡ Some (t, q ++ behind) → token_at (p ++ line) ≡ Some (t, q ++ line)
found_tail t p q behind line some tail e = begins_scanned t (p ++ line) (q ++ line) (token_tail t p q behind line some tail (scanned_begins t (p ++ behind) (q ++ behind) e))

-- ---- what is read on

-- the line up to there, but for spaces
abbrev pub Reached : {X : Type 0} → X → Read X → List ℕ → Type 0
Reached x o line = (rest : List ℕ) × (o ≡ Ok (x, rest)) × (behind_blanks rest ≡ behind_blanks line)

-- or the 10,001st operation
abbrev pub Ended : {X : Type 0} → Option X → Read X → List ℕ → Type 0
Ended (Some x) o line = Reached x o line
Ended None o line = o ≡ Err (Limit TooMany)

pub reached : {X : Type 0} (x : X) (rest : List ℕ) → Reached x (Ok (x, rest)) rest
reached x rest = (rest, refl, refl)

pub reached_at : {X : Type 0} (x : X) (o p : Read X) (line : List ℕ) → o ≡ p → Reached x p line → Reached x o line
reached_at x o p line e (rest, is, same) = (rest, e ∙ is, same)

pub ended_at : {X : Type 0} (x : Option X) (o p : Read X) (line : List ℕ) → o ≡ p → Ended x p line → Ended x o line
ended_at (Some x) o p line e r = reached_at x o p line e r
ended_at None o p line e is = e ∙ is

-- what may follow each value: any tail, or nothing
abbrev pub Tails : {X : Type 0} → X → List ℕ → Type 0
Tails x line = Tail line

abbrev pub Nothings : {X : Type 0} → X → List ℕ → Type 0
Nothings x line = Nothing line

-- what may follow a value, or nothing where there is none
abbrev pub Behind : {X : Type 0} → (X → List ℕ → Type 0) → Option X → List ℕ → Type 0
Behind T (Some x) line = T x line
Behind T None line = Nothing line

-- A text that is read behind a space, before any such tail.
pub record Sample {X : Type 0} (T : X → List ℕ → Type 0) (reads : List ℕ → Read X) : Type 0 where
  pub value : X
  pub text : List ℕ
  pub tail : (line : List ℕ) → T value line → Tail (32 ∷ (text ++ line))
  pub holds : (line : List ℕ) → T value line → Reached value (reads (32 ∷ (text ++ line))) line

-- Behind this beginning there is a text with which reading ends before any such tail.
pub record Finish {X : Type 0} (T : X → List ℕ → Type 0) (reads : List ℕ → Read X) (front : List ℕ) : Type 0 where
  pub value : Option X
  pub text : List ℕ
  pub tail : (line : List ℕ) → Behind T value line → Tail (32 ∷ (text ++ line))
  pub ends : (line : List ℕ) → Behind T value line → Ended value (reads (front ++ (32 ∷ (text ++ line)))) line

pub record Open {X : Type 0} (T : X → List ℕ → Type 0) (reads : List ℕ → Read X) : Type 0 where
  pub passes : (front rest behind line : List ℕ) (x : X) → T x line → reads (front ++ behind) ≡ Ok (x, rest ++ behind) → Reached x (reads (front ++ line)) (rest ++ line)
  pub finishes : (front behind : List ℕ) → reads (front ++ behind) ≡ Err (Syntax (length behind)) → Finish T reads front

-- the same before the spaces are left out
pub record Here {X : Type 0} (T : X → List ℕ → Type 0) (reads : List ℕ → Read X) : Type 0 where
  pub passes : (c : ℕ) (front rest behind line : List ℕ) (x : X) → T x line → reads (c ∷ front ++ behind) ≡ Ok (x, rest ++ behind) → Reached x (reads (c ∷ front ++ line)) (rest ++ line)
  pub idles : (behind line : List ℕ) (x : X) → T x line → reads behind ≡ Ok (x, behind) → Reached x (reads (behind_blanks line)) line
  pub finishes : (c : ℕ) (front behind : List ℕ) → reads (c ∷ front ++ behind) ≡ Err (Syntax (length behind)) → Finish T reads (c ∷ front)
  pub begins_at : (behind : List ℕ) → reads behind ≡ Err (Syntax (length behind)) → Finish T (λ line. reads (behind_blanks line)) []

abbrev pub Skips : {X : Type 0} → (List ℕ → Read X) → Type 0
Skips reads = (line : List ℕ) → reads line ≡ reads (behind_blanks line)

skip_same : {X : Type 0} (reads : List ℕ → Read X) → Skips reads → (a b : List ℕ) → behind_blanks a ≡ behind_blanks b → reads a ≡ reads b
skip_same reads skips a b e = skips a ∙ ap reads e ∙ sym (skips b)

pub open_done : {X : Type 0} (T : X → List ℕ → Type 0) (x : X) → Open T (λ line. made x line)
open_done T x = record {
  passes = λ front rest behind line y tail e.
      (front ++ line, ap (λ z. made z (front ++ line)) (same_value x y (front ++ behind) (rest ++ behind) e), ap (λ (l : List ℕ). behind_blanks (l ++ line)) (append_cancel_right front rest behind (same_rest x y (front ++ behind) (rest ++ behind) e)));
  finishes = λ front behind e. absurd cc;
}

-- ---- behind spaces

same_first : (c : ℕ) (p x line : List ℕ) → behind_blanks (c ∷ x) ≡ c ∷ x → behind_blanks (c ∷ p ++ line) ≡ c ∷ p ++ line
same_first c p x line e = rw (first_no_blank c x e) refl

-- spaces before the beginning of what is read
blanks_before : (front behind p : List ℕ) → behind_blanks (front ++ behind) ≡ p ++ behind → (blanks : List ℕ) × (front ≡ blanks ++ p) × ((line : List ℕ) → behind_blanks (blanks ++ line) ≡ behind_blanks line)
blanks_before front behind p at =
    let (blanks, same, skips) = blanks_of (front ++ behind) in
    (blanks, append_cancel_right front (blanks ++ p) behind (same ∙ ap (λ (l : List ℕ). blanks ++ l) at ∙ sym (append_assoc blanks p behind)), skips)

pub blanks_at : (front behind line : List ℕ) (c : ℕ) (p : List ℕ) → behind_blanks (front ++ behind) ≡ c ∷ p ++ behind → behind_blanks (front ++ line) ≡ c ∷ p ++ line
blanks_at front behind line c p at =
    let (blanks, before, skips) = blanks_before front behind (c ∷ p) at in
    let twice : behind_blanks (c ∷ p ++ behind) ≡ c ∷ p ++ behind = subst (λ (l : List ℕ). behind_blanks l ≡ l) at (blanks_twice (front ++ behind)) in
    ap (λ (l : List ℕ). behind_blanks (l ++ line)) before ∙ ap behind_blanks (append_assoc blanks (c ∷ p) line) ∙ skips (c ∷ p ++ line) ∙ same_first c p (p ++ behind) line twice

pub only_blanks : (front behind line : List ℕ) → behind_blanks (front ++ behind) ≡ behind → behind_blanks (front ++ line) ≡ behind_blanks line
only_blanks front behind line at =
    let (blanks, before, skips) = blanks_before front behind [] at in
    ap (λ (l : List ℕ). behind_blanks (l ++ line)) before ∙ ap behind_blanks (append_assoc blanks [] line) ∙ skips line

module _ {X : Type 0} (T : X → List ℕ → Type 0) (reads : List ℕ → Read X) (inside : Local reads) (here : Here T reads) where
  abbrev skipping : List ℕ → Read X
  skipping line = reads (behind_blanks line)

  skip_passes : (front rest behind line before : List ℕ) (x : X) → T x line → behind_blanks (front ++ behind) ≡ (before ++ rest) ++ behind → reads (behind_blanks (front ++ behind)) ≡ Ok (x, rest ++ behind) → Reached x (skipping (front ++ line)) (rest ++ line)
  skip_passes front [] behind line [] x tail at e =
      reached_at x (skipping (front ++ line)) (reads (behind_blanks line)) line (ap reads (only_blanks front behind line at)) (here.idles behind line x tail (sym (ap reads at) ∙ e))
  skip_passes front (c ∷ rest) behind line [] x tail at e =
      reached_at x (skipping (front ++ line)) (reads (c ∷ rest ++ line)) (c ∷ rest ++ line) (ap reads (blanks_at front behind line c rest at)) (here.passes c rest (c ∷ rest) behind line x tail (sym (ap reads at) ∙ e))
  skip_passes front rest behind line (c ∷ before) x tail at e =
      reached_at x (skipping (front ++ line)) (reads (c ∷ (before ++ rest) ++ line)) (rest ++ line) (ap reads (blanks_at front behind line c (before ++ rest) at)) (here.passes c (before ++ rest) rest behind line x tail (sym (ap reads at) ∙ e))

  skip_finishes : (front behind p : List ℕ) → behind_blanks (front ++ behind) ≡ p ++ behind → reads (behind_blanks (front ++ behind)) ≡ Err (Syntax (length behind)) → Finish T skipping front
  skip_finishes front behind [] at e =
      let more = here.begins_at behind (sym (ap reads at) ∙ e) in
      record {
        value = more.value;
        text = more.text;
        tail = more.tail;
        ends = λ line tail. ended_at more.value (skipping (front ++ (32 ∷ (more.text ++ line)))) (skipping (32 ∷ (more.text ++ line))) line (ap reads (only_blanks front behind (32 ∷ (more.text ++ line)) at)) (more.ends line tail);
      }
  skip_finishes front behind (c ∷ p) at e =
      let more = here.finishes c p behind (sym (ap reads at) ∙ e) in
      record {
        value = more.value;
        text = more.text;
        tail = more.tail;
        ends = λ line tail. ended_at more.value (skipping (front ++ (32 ∷ (more.text ++ line)))) (reads (c ∷ p ++ (32 ∷ (more.text ++ line)))) line (ap reads (blanks_at front behind (32 ∷ (more.text ++ line)) c p at)) (more.ends line tail);
      }

  pub open_skip : Open T (λ line. reads (behind_blanks line))
  open_skip = record {
    passes = λ front rest behind line x tail e.
        let (before, at) = inside.ends (behind_blanks (front ++ behind)) (rest ++ behind) x e in
        skip_passes front rest behind line before x tail (at ∙ sym (append_assoc before rest behind)) e;
    finishes = λ front behind e.
        let (blanks, same, skips) = blanks_of (front ++ behind) in
        let (p, at) = longer_end front blanks behind (behind_blanks (front ++ behind)) same (inside.stops (behind_blanks (front ++ behind)) (length behind) e) in
        skip_finishes front behind p at e;
  }

-- ---- one reading behind another

together_at : (a b line : List ℕ) → (32 ∷ ((a ++ (32 ∷ b)) ++ line)) ≡ (32 ∷ (a ++ (32 ∷ (b ++ line))))
together_at a b line = ap (λ (l : List ℕ). 32 ∷ l) (append_assoc a (32 ∷ b) line)

module _ {X Y : Type 0} (T : Y → List ℕ → Type 0) (first : List ℕ → Read X) (go : X → List ℕ → Read Y) (inside : Local first) (inside_too : (x : X) → Local (go x)) (one : Open Tails first) (two : (x : X) → Open T (go x)) (skips : (x : X) → Skips (go x)) (sample : (x : X) → Sample T (go x)) where
  abbrev both : List ℕ → Read Y
  both line = and_then (first line) go

  behind_reached : (o : Read X) (x : X) (y : Y) (line mid : List ℕ) → Reached x o mid → Reached y (go x mid) line → Reached y (and_then o go) line
  behind_reached o x y line mid (rest, is, same) (last, is_too, same_too) = (last, ap (λ p. and_then p go) is ∙ skip_same (go x) (skips x) rest mid same ∙ is_too, same_too)

  behind_ends : (o : Read X) (x : X) (y : Option Y) (line mid : List ℕ) → Reached x o mid → Ended y (go x mid) line → Ended y (and_then o go) line
  behind_ends o x (Some y) line mid r s = behind_reached o x y line mid r s
  behind_ends o x None line mid (rest, is, same) many = ap (λ p. and_then p go) is ∙ skip_same (go x) (skips x) rest mid same ∙ many

  both_passes : (front rest behind line : List ℕ) (y : Y) (o : Read X) → ((y : Y) (l : List ℕ) → T y l → Tail l) → T y line → first (front ++ behind) ≡ o → and_then o go ≡ Ok (y, rest ++ behind) → Reached y (both (front ++ line)) (rest ++ line)
  both_passes front rest behind line y (Err fault) tails tail is e = absurd cc
  both_passes front rest behind line y (Ok (x, mid)) tails tail is e =
      let second_inside = inside_too x in
      let second = two x in
      let (before, at) = second_inside.ends mid (rest ++ behind) y e in
      let middle = at ∙ sym (append_assoc before rest behind) in
      behind_reached (first (front ++ line)) x y (rest ++ line) ((before ++ rest) ++ line) (one.passes front (before ++ rest) behind line x (tails y line tail) (is ∙ ap (made x) middle))
      (second.passes (before ++ rest) rest behind line y tail (sym (ap (go x) middle) ∙ e))

  -- a text behind which the first ends, and then one of the second
  with_sample : (front : List ℕ) (x : X) (text : List ℕ) → ((line : List ℕ) → Tail line → Tail (32 ∷ (text ++ line))) → ((line : List ℕ) → Tail line → Reached x (first (front ++ (32 ∷ (text ++ line)))) line) → Finish T both front
  with_sample front x text tails ends =
      let second = sample x in
      record {
        value = Some second.value;
        text = text ++ (32 ∷ second.text);
        tail = λ line tail. subst Tail (sym (together_at text second.text line)) (tails (32 ∷ (second.text ++ line)) (second.tail line tail));
        ends = λ line tail. reached_at second.value (both (front ++ (32 ∷ ((text ++ (32 ∷ second.text)) ++ line)))) (both (front ++ (32 ∷ (text ++ (32 ∷ (second.text ++ line)))))) line (ap (λ (l : List ℕ). both (front ++ l)) (together_at text second.text line))
            (behind_reached (first (front ++ (32 ∷ (text ++ (32 ∷ (second.text ++ line)))))) x second.value line (32 ∷ (second.text ++ line)) (ends (32 ∷ (second.text ++ line)) (second.tail line tail)) (second.holds line tail));
      }

  first_finishes : (front : List ℕ) (value : Option X) (text : List ℕ) → ((line : List ℕ) → Behind Tails value line → Tail (32 ∷ (text ++ line))) → ((line : List ℕ) → Behind Tails value line → Ended value (first (front ++ (32 ∷ (text ++ line)))) line) → Finish T both front
  first_finishes front (Some x) text tail ends = with_sample front x text tail ends
  first_finishes front None text tail ends = record {
    value = None;
    text = text;
    tail = tail;
    ends = λ line last. ap (λ p. and_then p go) (ends line last);
  }

  both_finishes : (front behind : List ℕ) (o : Read X) → first (front ++ behind) ≡ o → and_then o go ≡ Err (Syntax (length behind)) → Finish T both front
  both_finishes front behind (Err fault) is e =
      let more = one.finishes front behind (is ∙ refused_so X Y fault (Syntax (length behind)) e) in
      first_finishes front more.value more.text more.tail more.ends
  both_finishes front behind (Ok (x, mid)) is e =
      let (a, same) = inside.ends (front ++ behind) mid x is in
      let second_inside = inside_too x in
      let second = two x in
      let (before, middle) = longer_end front a behind mid same (second_inside.stops mid (length behind) e) in
      let more = second.finishes before behind (sym (ap (go x) middle) ∙ e) in
      record {
        value = more.value;
        text = more.text;
        tail = more.tail;
        ends = λ line tail. behind_ends (first (front ++ (32 ∷ (more.text ++ line)))) x more.value line (before ++ (32 ∷ (more.text ++ line))) (one.passes front before behind (32 ∷ (more.text ++ line)) x (more.tail line tail) (is ∙ ap (made x) middle)) (more.ends line tail);
      }

  pub open_both : ((y : Y) (l : List ℕ) → T y l → Tail l) → Open T (λ line. and_then (first line) go)
  open_both tails = record {
    passes = λ front rest behind line y tail e. both_passes front rest behind line y (first (front ++ behind)) tails tail refl e;
    finishes = λ front behind e. both_finishes front behind (first (front ++ behind)) refl e;
  }

  pub sample_both : Sample Tails first → Sample T (λ line. and_then (first line) go)
  sample_both before =
      let second = sample before.value in
      record {
        value = second.value;
        text = before.text ++ (32 ∷ second.text);
        tail = λ line tail. subst Tail (sym (together_at before.text second.text line)) (before.tail (32 ∷ (second.text ++ line)) (second.tail line tail));
        holds = λ line tail. reached_at second.value (both (32 ∷ ((before.text ++ (32 ∷ second.text)) ++ line))) (both (32 ∷ (before.text ++ (32 ∷ (second.text ++ line))))) line (ap both (together_at before.text second.text line))
            (behind_reached (first (32 ∷ (before.text ++ (32 ∷ (second.text ++ line))))) before.value second.value line (32 ∷ (second.text ++ line)) (before.holds (32 ∷ (second.text ++ line)) (second.tail line tail)) (second.holds line tail));
      }

-- ---- what is made of it

module _ {X Y : Type 0} (T : Y → List ℕ → Type 0) (first : List ℕ → Read X) (f : X → Y) (one : Open (λ x. T (f x)) first) where
  abbrev mapping : List ℕ → Read Y
  mapping line = and_then (first line) (λ x rest. Ok (f x, rest))

  abbrev value_in : Option X → Option Y
  value_in None = None
  value_in (Some x) = Some (f x)

  behind_in : (x : Option X) (line : List ℕ) → Behind T (value_in x) line → Behind (λ x. T (f x)) x line
  behind_in (Some x) line tail = tail
  behind_in None line tail = tail

  map_reached : (o : Read X) (x : X) (line : List ℕ) → Reached x o line → Reached (f x) (and_then o (λ x rest. Ok (f x, rest))) line
  map_reached o x line (rest, is, same) = (rest, ap (λ p. and_then p (λ x rest. Ok (f x, rest))) is, same)

  map_ended : (o : Read X) (x : Option X) (line : List ℕ) → Ended x o line → Ended (value_in x) (and_then o (λ x rest. Ok (f x, rest))) line
  map_ended o (Some x) line r = map_reached o x line r
  map_ended o None line many = ap (λ p. and_then p (λ x rest. Ok (f x, rest))) many

  map_passes : (front rest behind line : List ℕ) (y : Y) (o : Read X) → T y line → first (front ++ behind) ≡ o → and_then o (λ x rest. Ok (f x, rest)) ≡ Ok (y, rest ++ behind) → Reached y (mapping (front ++ line)) (rest ++ line)
  map_passes front rest behind line y (Err fault) tail is e = absurd cc
  map_passes front rest behind line y (Ok (x, mid)) tail is e =
      let same = same_rest (f x) y mid (rest ++ behind) e in
      let one_value = same_value (f x) y mid (rest ++ behind) e in
      subst (λ z. Reached z (mapping (front ++ line)) (rest ++ line)) one_value
      (map_reached (first (front ++ line)) x (rest ++ line) (one.passes front rest behind line x (subst (λ z. T z line) (sym one_value) tail) (is ∙ ap (made x) same)))

  map_finishes : (front behind : List ℕ) (o : Read X) → first (front ++ behind) ≡ o → and_then o (λ x rest. Ok (f x, rest)) ≡ Err (Syntax (length behind)) → Finish T mapping front
  map_finishes front behind (Ok (x, mid)) is e = absurd cc
  map_finishes front behind (Err fault) is e =
      let more = one.finishes front behind (is ∙ refused_so X Y fault (Syntax (length behind)) e) in
      record {
        value = value_in more.value;
        text = more.text;
        tail = λ line tail. more.tail line (behind_in more.value line tail);
        ends = λ line tail. map_ended (first (front ++ (32 ∷ (more.text ++ line)))) more.value line (more.ends line (behind_in more.value line tail));
      }

  pub open_map : Open T (λ line. and_then (first line) (λ x rest. Ok (f x, rest)))
  open_map = record {
    passes = λ front rest behind line y tail e. map_passes front rest behind line y (first (front ++ behind)) tail refl e;
    finishes = λ front behind e. map_finishes front behind (first (front ++ behind)) refl e;
  }

  pub sample_map : Sample (λ x. T (f x)) first → Sample T (λ line. and_then (first line) (λ x rest. Ok (f x, rest)))
  sample_map before = record {
    value = f before.value;
    text = before.text;
    tail = before.tail;
    holds = λ line tail. map_reached (first (32 ∷ (before.text ++ line))) before.value line (before.holds line tail);
  }

-- ---- signs

pub no_misfit : (c : ℕ) (front behind : List ℕ) → length (c ∷ front ++ behind) ≡ length behind → ⊥
no_misfit c front behind e = omega (arith, e, length-append front behind)

module _ {X : Type 0} (x : X) (s : ℕ) (plain : is_blank s ≡ false) (other : goes_with s ≡ false) where
  abbrev this : List ℕ → Read X
  this = by_sign s (λ rest. Ok (x, rest)) (λ here. Err (misfit here))

  sign_idles : (behind line : List ℕ) (y : X) → this behind ≡ Ok (y, behind) → Reached y (this (behind_blanks line)) line
  sign_idles [] line y e = absurd cc
  sign_idles (byte ∷ behind) line y e =
      by_test (eqb byte s) behind (λ rest. made x rest) (Err (misfit (byte ∷ behind))) (λ o. o ≡ Ok (y, byte ∷ behind) → Reached y (this (behind_blanks line)) line)
      (λ is f. let long = ap length (same_rest x y behind (byte ∷ behind) f) in absurd (omega (arith, long))) (λ is f. absurd cc) e

  sign_text : (line : List ℕ) → Tail line → Reached x (this (behind_blanks (32 ∷ s ∷ line))) line
  sign_text line tail = reached_at x (this (behind_blanks (32 ∷ s ∷ line))) (Ok (x, line)) line (rw (plain, eq-eqb s s refl) refl) (reached x line)

  sign_tail : (line : List ℕ) → Tail line → Tail (32 ∷ (s ∷ []) ++ line)
  sign_tail line tail = (refl, rw plain other)

  sign_here : Here Tails this
  sign_here = record {
    passes = λ c front rest behind line y tail e.
        by_test (eqb c s) (front ++ behind) (λ rest. made x rest) (Err (misfit (c ∷ front ++ behind))) (λ o. o ≡ Ok (y, rest ++ behind) → Reached y (this (c ∷ front ++ line)) (rest ++ line))
        (λ is f. reached_at y (this (c ∷ front ++ line)) (Ok (y, rest ++ line)) (rest ++ line)
        (rw is (ap (λ (l : List ℕ). made x (l ++ line)) (append_cancel_right front rest behind (same_rest x y (front ++ behind) (rest ++ behind) f)) ∙ ap (λ z. made z (rest ++ line)) (same_value x y (front ++ behind) (rest ++ behind) f))) (reached y (rest ++ line)))
        (λ is f. absurd cc) e;
    idles = λ behind line y tail e. sign_idles behind line y e;
    finishes = λ c front behind e.
        by_test (eqb c s) (front ++ behind) (λ rest. made x rest) (Err (misfit (c ∷ front ++ behind))) (λ o. o ≡ Err (Syntax (length behind)) → Finish Tails this (c ∷ front)) (λ is f. absurd cc)
        (λ is f. absurd (no_misfit c front behind (same_left X (length (c ∷ front ++ behind)) (length behind) f))) e;
    begins_at = λ behind e. record { value = Some x; text = s ∷ []; tail = sign_tail; ends = λ line tail. sign_text line tail };
  }

  pub open_sign : Local this → Open Tails (λ line. by_sign s (λ rest. Ok (x, rest)) (λ here. Err (misfit here)) (behind_blanks line))
  open_sign inside = open_skip Tails this inside sign_here

  pub sample_sign : Sample Tails (λ line. by_sign s (λ rest. Ok (x, rest)) (λ here. Err (misfit here)) (behind_blanks line))
  sample_sign = record { value = x; text = s ∷ []; tail = sign_tail; holds = sign_text }

-- a sign that may follow, or not
module _ {X : Type 0} (T : X → List ℕ → Type 0) (tails : (x : X) (l : List ℕ) → T x l → Tail l) (s : ℕ) (goes : (byte : ℕ) → goes_with byte ≡ false → eqb byte s ≡ false) (x : X) (reads : List ℕ → Read X) (inside : Local reads) (inner : Open T reads) where
  abbrev maybe : List ℕ → Read X
  maybe = by_sign s reads (λ here. Ok (x, here))

  none_here : (here : List ℕ) → begins goes_with here ≡ false → maybe here ≡ Ok (x, here)
  none_here [] e = refl
  none_here (byte ∷ here) e = rw (goes byte e) refl

  none_at : (line : List ℕ) → Tail line → Reached x (maybe (behind_blanks line)) line
  none_at line tail = (behind_blanks line, none_here (behind_blanks line) (tail_sign line tail), blanks_twice line)

  maybe_finishes : (c : ℕ) (front behind : List ℕ) → eqb c s ≡ true → Finish T reads front → Finish T maybe (c ∷ front)
  maybe_finishes c front behind is more = record {
    value = more.value;
    text = more.text;
    tail = more.tail;
    ends = λ line tail. ended_at more.value (maybe (c ∷ front ++ (32 ∷ (more.text ++ line)))) (reads (front ++ (32 ∷ (more.text ++ line)))) line (rw is refl) (more.ends line tail);
  }

  maybe_begins : (behind : List ℕ) → maybe behind ≡ Err (Syntax (length behind)) → ⊥
  maybe_begins [] e = absurd cc
  maybe_begins (byte ∷ behind) e =
      by_test (eqb byte s) behind reads (made x (byte ∷ behind)) (λ o. o ≡ Err (Syntax (length (byte ∷ behind))) → ⊥)
      (λ is f. let few = inside.stops behind (length (byte ∷ behind)) f in omega (arith, few)) (λ is f. absurd cc) e

  -- what is idle makes the value that stands for nothing
  idle_value : (behind : List ℕ) (y : X) → maybe behind ≡ Ok (y, behind) → x ≡ y
  idle_value [] y e = same_value x y [] [] e
  idle_value (byte ∷ behind) y e =
      by_test (eqb byte s) behind reads (made x (byte ∷ behind)) (λ o. o ≡ Ok (y, byte ∷ behind) → x ≡ y)
      (λ is f. let (front, same) = inside.ends behind (byte ∷ behind) y f in let long = ap length same in absurd (omega (arith, long, length-append front (byte ∷ behind)))) (λ is f. same_value x y (byte ∷ behind) (byte ∷ behind) f) e

  maybe_here : Here T maybe
  maybe_here = record {
    passes = λ c front rest behind line y tail e.
        by_test (eqb c s) (front ++ behind) reads (made x (c ∷ front ++ behind)) (λ o. o ≡ Ok (y, rest ++ behind) → Reached y (maybe (c ∷ front ++ line)) (rest ++ line))
        (λ is f. reached_at y (maybe (c ∷ front ++ line)) (reads (front ++ line)) (rest ++ line) (rw is refl) (inner.passes front rest behind line y tail f))
        (λ is f. reached_at y (maybe (c ∷ front ++ line)) (Ok (y, rest ++ line)) (rest ++ line)
        (rw is (ap (λ (l : List ℕ). made x (l ++ line)) (append_cancel_right (c ∷ front) rest behind (same_rest x y (c ∷ front ++ behind) (rest ++ behind) f)) ∙ ap (λ z. made z (rest ++ line)) (same_value x y (c ∷ front ++ behind) (rest ++ behind) f))) (reached y (rest ++ line))) e;
    idles = λ behind line y tail e. subst (λ z. Reached z (maybe (behind_blanks line)) line) (idle_value behind y e) (none_at line (tails y line tail));
    finishes = λ c front behind e.
        by_test (eqb c s) (front ++ behind) reads (made x (c ∷ front ++ behind)) (λ o. o ≡ Err (Syntax (length behind)) → Finish T maybe (c ∷ front))
        (λ is f. maybe_finishes c front behind is (inner.finishes front behind f)) (λ is f. absurd cc) e;
    begins_at = λ behind e. absurd (maybe_begins behind e);
  }

  pub open_where : Open T (λ line. by_sign s reads (λ here. Ok (x, here)) (behind_blanks line))
  open_where = open_skip T maybe (local_sign s reads (λ here. made x here) inside (local_done x)) maybe_here

  pub sample_where : Sample T (λ line. by_sign s reads (λ here. Ok (x, here)) (behind_blanks line))
  sample_where = record {
    value = x;
    text = [];
    tail = λ line tail. (refl, tail_sign line (tails x line tail));
    holds = λ line tail. none_at line (tails x line tail);
  }

-- ---- tokens

-- a grammar finds the token before unfit, or is open
abbrev pub OpenKind : {X : Type 0} → (X → List ℕ → Type 0) → Grammar X → Type 0
OpenKind T g =
    ((before line : List ℕ) → read_at true g before line ≡ Err (misfit before))
    ⊎ (((before line : List ℕ) → read_at true g before line ≡ read g line) × Open T (read g))

module _ {W X : Type 0} (T : X → List ℕ → Type 0) (tails : (x : X) (l : List ℕ) → T x l → Tail l) (wanted : Wanted W) (go : W → Grammar X) (known : (t : W) → OpenKind T (go t)) where
  abbrev behind_it : List ℕ → W → List ℕ → Read X
  behind_it here t rest = read_at true (go t) here rest

  abbrev in_found : List ℕ → Scanned → Read X
  in_found here found = token_then here (wanted_in wanted found) (behind_it here)

  abbrev right_here : List ℕ → Read X
  right_here here = in_found here (token_at here)

  kind_passes : (here there q rest behind line : List ℕ) (x : X) (t : W) → OpenKind T (go t) → T x line → behind_it here t (q ++ behind) ≡ Ok (x, rest ++ behind) → Reached x (behind_it there t (q ++ line)) (rest ++ line)
  kind_passes here there q rest behind line x t (inl blames) tail e = let bad = sym (blames here (q ++ behind)) ∙ e in absurd cc
  kind_passes here there q rest behind line x t (inr (same, inner)) tail e =
      reached_at x (behind_it there t (q ++ line)) (read (go t) (q ++ line)) (rest ++ line) (same there (q ++ line)) (inner.passes q rest behind line x tail (sym (same here (q ++ behind)) ∙ e))

  taken_passes : (c : ℕ) (front rest behind line r : List ℕ) (x : X) (token : Token) (w : Option W) → wanted token ≡ w → T x line → token_at (c ∷ front ++ behind) ≡ Some (token, r) → token_then (c ∷ front ++ behind) (taken w r) (behind_it (c ∷ front ++ behind)) ≡ Ok (x, rest ++ behind)
      → Reached x (right_here (c ∷ front ++ line)) (rest ++ line)
  taken_passes c front rest behind line r x token None fits tail is e = absurd cc
  taken_passes c front rest behind line r x token (Some t) fits tail is e =
      let (f, at) = leaves_end true (go t) (c ∷ front ++ behind) r x (rest ++ behind) e in
      let q = f ++ rest in
      let end : r ≡ q ++ behind = at ∙ sym (append_assoc f rest behind) in
      let moved = found_tail token (c ∷ front) q behind line (omega arith) (tails x line tail) (is ∙ ap (λ (l : List ℕ). Some (token, l)) end) in
      reached_at x (right_here (c ∷ front ++ line)) (behind_it (c ∷ front ++ line) t (q ++ line)) (rest ++ line)
      (ap (in_found (c ∷ front ++ line)) moved ∙ ap (λ (w : Option W). token_then (c ∷ front ++ line) (taken w (q ++ line)) (behind_it (c ∷ front ++ line))) fits)
      (kind_passes (c ∷ front ++ behind) (c ∷ front ++ line) q rest behind line x t (known t) tail (subst (λ (l : List ℕ). behind_it (c ∷ front ++ behind) t l ≡ Ok (x, rest ++ behind)) end e))

  token_passes : (c : ℕ) (front rest behind line : List ℕ) (x : X) (found : Scanned) → T x line → token_at (c ∷ front ++ behind) ≡ found → in_found (c ∷ front ++ behind) found ≡ Ok (x, rest ++ behind) → Reached x (right_here (c ∷ front ++ line)) (rest ++ line)
  token_passes c front rest behind line x None tail is e = absurd cc
  token_passes c front rest behind line x (Some (token, r)) tail is e = taken_passes c front rest behind line r x token (wanted token) refl tail is e

  taken_idles : (behind r : List ℕ) (x : X) (token : Token) (w : Option W) → token_at behind ≡ Some (token, r) → token_then behind (taken w r) (behind_it behind) ≡ Ok (x, behind) → ⊥
  taken_idles behind r x token None is e = absurd cc
  taken_idles behind r x token (Some t) is e =
      let (p, same, some) = found_some token behind r is in
      let (f, at) = leaves_end true (go t) behind r x behind e in
      let whole = ap length same in
      let end = ap length at in
      omega (arith, whole, end, some, length-append p r, length-append f behind)

  token_idles : (behind : List ℕ) (x : X) (found : Scanned) → token_at behind ≡ found → in_found behind found ≡ Ok (x, behind) → ⊥
  token_idles behind x None is e = absurd cc
  token_idles behind x (Some (token, r)) is e = taken_idles behind r x token (wanted token) is e

  kind_finishes : (c : ℕ) (front behind r : List ℕ) (token : Token) (t : W) → OpenKind T (go t) → wanted token ≡ Some t → token_at (c ∷ front ++ behind) ≡ Some (token, r) → behind_it (c ∷ front ++ behind) t r ≡ Err (Syntax (length behind)) → Finish T right_here (c ∷ front)
  kind_finishes c front behind r token t (inl blames) fits is e =
      absurd (no_misfit c front behind (same_left X (length (c ∷ front ++ behind)) (length behind) (sym (blames (c ∷ front ++ behind) r) ∙ e)))
  kind_finishes c front behind r token t (inr (same, inner)) fits is e =
      let (p, whole, some) = found_some token (c ∷ front ++ behind) r is in
      let inside = local (go t) in
      let found = sym (same (c ∷ front ++ behind) r) ∙ e in
      let (q, end) = longer_end (c ∷ front) p behind r whole (inside.stops r (length behind) found) in
      let more = inner.finishes q behind (sym (ap (read (go t)) end) ∙ found) in
      record {
        value = more.value;
        text = more.text;
        tail = more.tail;
        ends = λ line tail.
            let next = 32 ∷ (more.text ++ line) in
            let moved = found_tail token (c ∷ front) q behind next (omega arith) (more.tail line tail) (is ∙ ap (λ (l : List ℕ). Some (token, l)) end) in
            ended_at more.value (right_here (c ∷ front ++ next)) (read (go t) (q ++ next)) line
            (ap (in_found (c ∷ front ++ next)) moved ∙ ap (λ (w : Option W). token_then (c ∷ front ++ next) (taken w (q ++ next)) (behind_it (c ∷ front ++ next))) fits ∙ same (c ∷ front ++ next) (q ++ next)) (more.ends line tail);
      }

  taken_finishes : (c : ℕ) (front behind r : List ℕ) (token : Token) (w : Option W) → wanted token ≡ w → token_at (c ∷ front ++ behind) ≡ Some (token, r) → token_then (c ∷ front ++ behind) (taken w r) (behind_it (c ∷ front ++ behind)) ≡ Err (Syntax (length behind)) → Finish T right_here (c ∷ front)
  taken_finishes c front behind r token None fits is e = absurd (no_misfit c front behind (same_left X (length (c ∷ front ++ behind)) (length behind) e))
  taken_finishes c front behind r token (Some t) fits is e = kind_finishes c front behind r token t (known t) fits is e

  token_finishes : (c : ℕ) (front behind : List ℕ) (found : Scanned) → token_at (c ∷ front ++ behind) ≡ found → in_found (c ∷ front ++ behind) found ≡ Err (Syntax (length behind)) → Finish T right_here (c ∷ front)
  token_finishes c front behind None is e = absurd (no_misfit c front behind (same_left X (length (c ∷ front ++ behind)) (length behind) e))
  token_finishes c front behind (Some (token, r)) is e = taken_finishes c front behind r token (wanted token) refl is e

  token_here : Finish T (λ line. right_here (behind_blanks line)) [] → Here T right_here
  token_here begin = record {
    passes = λ c front rest behind line x tail e. token_passes c front rest behind line x (token_at (c ∷ front ++ behind)) tail refl e;
    idles = λ behind line x tail e. absurd (token_idles behind x (token_at behind) refl e);
    finishes = λ c front behind e. token_finishes c front behind (token_at (c ∷ front ++ behind)) refl e;
    begins_at = λ behind e. begin;
  }

  pub open_next : Finish T (read (spaced (takes wanted go))) [] → Open T (read (spaced (takes wanted go)))
  open_next begin = open_skip T right_here (local (takes wanted go)) (token_here begin)

-- a sample at a beginning
pub finish_of : {X : Type 0} (T : X → List ℕ → Type 0) (reads : List ℕ → Read X) → Sample T reads → Finish T reads []
finish_of T reads sample = record { value = Some sample.value; text = sample.text; tail = sample.tail; ends = λ line tail. sample.holds line tail }

pub weaker : {X : Type 0} (T : X → List ℕ → Type 0) → ((x : X) (l : List ℕ) → T x l → Tail l) → (reads : List ℕ → Read X) → Open Tails reads → Open T reads
weaker {X} T tails reads inner = record {
  passes = λ front rest behind line x tail e. inner.passes front rest behind line x (tails x line tail) e;
  finishes = λ front behind e.
      let more = inner.finishes front behind e in
      record { value = more.value; text = more.text; tail = λ line tail. more.tail line (weak more.value line tail); ends = λ line tail. more.ends line (weak more.value line tail) };
}
  where
    weak : (x : Option X) (line : List ℕ) → Behind T x line → Behind Tails x line
    weak (Some x) line tail = tails x line tail
    weak None line tail = tail

pub weaker_sample : {X : Type 0} (T : X → List ℕ → Type 0) → ((x : X) (l : List ℕ) → T x l → Tail l) → (reads : List ℕ → Read X) → Sample Tails reads → Sample T reads
weaker_sample T tails reads sample = record {
  value = sample.value;
  text = sample.text;
  tail = λ line tail. sample.tail line (tails sample.value line tail);
  holds = λ line tail. sample.holds line (tails sample.value line tail);
}

pub same_tail : {X : Type 0} (x : X) (l : List ℕ) → Tail l → Tail l
same_tail x l tail = tail

pub nothing_tails : {X : Type 0} (x : X) (l : List ℕ) → Nothing l → Tail l
nothing_tails x l nil = nothing_tail l nil

-- ---- the line's end

module _ {X : Type 0} (x : X) (other : List ℕ → Read X) (T : X → List ℕ → Type 0) (none : (line : List ℕ) → T x line → Nothing line) (inner : Open T other) where
  abbrev ending : List ℕ → Read X
  ending = by_end (Ok (x, [])) other

  end_read : (line : List ℕ) → Nothing line → Reached x (ending (behind_blanks line)) line
  end_read line e = subst (λ (l : List ℕ). Reached x (ending (behind_blanks l)) l) (sym e) ([], refl, refl)

  pub end_tail : (line : List ℕ) → T x line → Tail (32 ∷ ([] ++ line))
  end_tail line tail = (refl, ap (λ (l : List ℕ). begins goes_with (behind_blanks l)) (none line tail))

  pub end_text : (line : List ℕ) → T x line → Reached x (ending (behind_blanks (32 ∷ ([] ++ line)))) line
  end_text line tail = subst (λ (l : List ℕ). Reached x (ending (behind_blanks (32 ∷ l))) l) (sym (none line tail)) ([], refl, refl)

  -- where nothing is read, nothing stands there, or it would not be idle
  end_idle : ((line : List ℕ) (y : X) → other line ≡ Ok (y, line) → ⊥) → (behind : List ℕ) (y : X) → ending behind ≡ Ok (y, behind) → x ≡ y
  end_idle busy [] y e = same_value x y [] [] e
  end_idle busy (byte ∷ behind) y e = absurd (busy (byte ∷ behind) y e)

  end_idles : ((line : List ℕ) (y : X) → other line ≡ Ok (y, line) → ⊥) → (behind line : List ℕ) (y : X) → T y line → ending behind ≡ Ok (y, behind) → Reached y (ending (behind_blanks line)) line
  end_idles busy behind line y tail e =
      let same : x ≡ y = end_idle busy behind y e in
      subst (λ z. Reached z (ending (behind_blanks line)) line) same (end_read line (none line (subst (λ z. T z line) (sym same) tail)))

  end_finishes : (c : ℕ) (front behind : List ℕ) → other (c ∷ front ++ behind) ≡ Err (Syntax (length behind)) → Finish T ending (c ∷ front)
  end_finishes c front behind e =
      let more = inner.finishes (c ∷ front) behind e in
      record { value = more.value; text = more.text; tail = more.tail; ends = λ line tail. more.ends line tail }

  pub end_here : ((line : List ℕ) (y : X) → other line ≡ Ok (y, line) → ⊥) → Here T ending
  end_here busy = record {
    passes = λ c front rest behind line y tail e. inner.passes (c ∷ front) rest behind line y tail e;
    idles = end_idles busy;
    finishes = λ c front behind e. end_finishes c front behind e;
    begins_at = λ behind e. record { value = Some x; text = []; tail = end_tail; ends = λ line tail. end_text line tail };
  }
