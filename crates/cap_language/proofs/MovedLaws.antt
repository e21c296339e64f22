-- What is scanned of a line does not depend on what stands behind the token at which reading ends.
use Rattle.std.proofs.Common.{◌≡◌, ℕ, ◌<◌, ◌≤◌, Bool, true, false, cond, eqb, ◌&&◌, List, [], ◌∷◌, ◌++◌, length, length-append, Option, Some, None, refl, sym, ap, ◌∙◌, subst, arith, append_assoc}
use Rattle.std.specs.Char.{is_ascii_digit}
use Rattle.std.specs.Option.{option_map}
use Rattle.std.proofs.lemmas.List.{append_cancel_right}
use Rattle.cap_filter.specs.Printed.{quote, quoted}
use Rattle.cap_filter.specs.Tokens.{is_word_byte}
use Rattle.cap_language.specs.Places.{BeginAlike}
use Rattle.cap_language.specs.Scanning.{Scanned, token_at}
use Rattle.cap_language.specs.Tokens.{Begins, Token, Word, Integer, Text, Blob, begins, begins_blob, behind_blanks, is_blank, is_quote, minus}
use Rattle.cap_language.proofs.TokenLaws.{begins_scanned, blanks_shorter, scanned_begins}

-- ---- ends of lists

-- the longer of two ends
pub longer_end : (a c b d : List ℕ) → a ++ b ≡ c ++ d → length b ≤ length d → (r : List ℕ) × (d ≡ r ++ b)
longer_end a [] b d e few = (a, sym e)
longer_end [] (x ∷ c) b d e few =
    let long : length b ≡ length (x ∷ (c ++ d)) = ap length e in
    absurd (omega (arith, few, long, length-append c d))
longer_end (y ∷ a) (x ∷ c) b d e few = longer_end a c b d (cc) few

-- an end that is as long
pub same_end : (r b d : List ℕ) → d ≡ r ++ b → length d ≡ length b → r ≡ []
same_end [] b d e long = refl
same_end (x ∷ r) b d e long =
    let whole : length d ≡ length (x ∷ (r ++ b)) = ap length e in
    absurd (omega (arith, whole, long, length-append r b))

-- the same beginning before another end
pub moved_end : (w p q behind more : List ℕ) → p ++ behind ≡ w ++ (q ++ behind) → p ++ more ≡ w ++ (q ++ more)
moved_end w p q behind more e =
    ap (λ (l : List ℕ). l ++ more) (append_cancel_right p (w ++ q) behind (e ∙ sym (append_assoc w q behind))) ∙ append_assoc w q more

-- ---- texts that begin alike

pub begin_same : (p : ℕ → Bool) (behind more : List ℕ) → BeginAlike behind more → begins p behind ≡ begins p more
begin_same p [] more alike = ap (begins p) (sym alike)
begin_same p (byte ∷ rest) [] alike = absurd alike
begin_same p (byte ∷ rest) (other ∷ more) alike = ap p alike.0

pub begin_after : (p : ℕ → Bool) (q behind more : List ℕ) → BeginAlike behind more → begins p (q ++ behind) ≡ begins p (q ++ more)
begin_after p [] behind more alike = begin_same p behind more alike
begin_after p (c ∷ q) behind more alike = refl

blob_after : (p behind more : List ℕ) → 0 < length p → BeginAlike behind more → begins_blob (p ++ behind) ≡ begins_blob (p ++ more)
blob_after [] behind more some alike = absurd (omega (arith, some))
blob_after (x ∷ y ∷ p) behind more some alike = refl
blob_after (x ∷ []) [] more some alike = ap (λ (l : List ℕ). begins_blob (x ∷ l)) (sym alike)
blob_after (x ∷ []) (byte ∷ rest) [] some alike = absurd alike
blob_after (x ∷ []) (byte ∷ rest) (other ∷ more) some alike = ap (λ (b : ℕ). eqb x 120 && is_quote b) alike.0

pub token_moved : (t : Token) (p q behind more : List ℕ) → 0 < length p → BeginAlike behind more → Begins t (p ++ behind) (q ++ behind) → Begins t (p ++ more) (q ++ more)
token_moved (Word w) [] q behind more some alike h = absurd (omega (arith, some))
token_moved (Word w) (c ∷ p) q behind more some alike (same, letter, none, all, ends) =
    (moved_end w (c ∷ p) q behind more same, letter, sym (blob_after (c ∷ p) behind more some alike) ∙ none, all, sym (begin_after is_word_byte q behind more alike) ∙ ends)
token_moved (Integer negative n) p q behind more some alike (digits, same, others, all, value, none, fits_it) =
    (digits, moved_end (minus negative digits) p q behind more same, others, all, value, sym (begin_after is_ascii_digit q behind more alike) ∙ none, fits_it)
token_moved (Text t) p q behind more some alike (same, none) = (moved_end (quoted t) p q behind more same, sym (begin_after is_quote q behind more alike) ∙ none)
token_moved (Blob bytes) p q behind more some alike (digits, same, decoded) =
    (digits, moved_end (120 ∷ quote ∷ digits ++ quote ∷ []) p q behind more (same ∙ ap (λ (l : List ℕ). 120 ∷ quote ∷ l) (sym (append_assoc digits (quote ∷ []) (q ++ behind)))) ∙ ap (λ (l : List ℕ). 120 ∷ quote ∷ l) (append_assoc digits (quote ∷ []) (q ++ more)), decoded)

-- a token that ends before
pub found_moved : (t : Token) (p q behind more : List ℕ) → 0 < length p → BeginAlike behind more → token_at (p ++ behind) ≡ Some (t, q ++ behind) → token_at (p ++ more) ≡ Some (t, q ++ more)
found_moved t p q behind more some alike e =
    begins_scanned t (p ++ more) (q ++ more) (token_moved t p q behind more some alike (scanned_begins t (p ++ behind) (q ++ behind) e))

-- the same token, or none
none_alike_by : (here other : Scanned) → option_map (λ (found : Token × List ℕ). found.0) here ≡ option_map (λ (found : Token × List ℕ). found.0) other → here ≡ None → other ≡ None
none_alike_by here None same is = refl
none_alike_by here (Some found) same is = let bad = sym (ap (option_map (λ (found : Token × List ℕ). found.0)) is) ∙ same in absurd cc

some_alike_by : (t : Token) (r : List ℕ) (here other : Scanned) → option_map (λ (found : Token × List ℕ). found.0) here ≡ option_map (λ (found : Token × List ℕ). found.0) other → here ≡ Some (t, r) → (q : List ℕ) × (other ≡ Some (t, q))
some_alike_by t r here None same is = let bad = sym (ap (option_map (λ (found : Token × List ℕ). found.0)) is) ∙ same in absurd cc
some_alike_by t r here (Some (u, q)) same is =
    let e : ◌≡◌ {A = Option Token} (Some t) (Some u) = sym (ap (option_map (λ (found : Token × List ℕ). found.0)) is) ∙ same in
    let one : u ≡ t = cc in
    (q, ap (λ (x : Token). Some (x, q)) one)

pub none_alike : (behind more : List ℕ) → BeginAlike behind more → token_at behind ≡ None → token_at more ≡ None
none_alike [] more alike is = subst (λ (m : List ℕ). token_at m ≡ None) (sym alike) is
none_alike (byte ∷ behind) [] alike is = absurd alike
none_alike (byte ∷ behind) (c ∷ more) alike is = none_alike_by (token_at (byte ∷ behind)) (token_at (c ∷ more)) alike.1 is

pub some_alike : (t : Token) (r behind more : List ℕ) → BeginAlike behind more → token_at behind ≡ Some (t, r) → (q : List ℕ) × (token_at more ≡ Some (t, q))
some_alike t r [] more alike is = (r, subst (λ (m : List ℕ). token_at m ≡ Some (t, r)) (sym alike) is)
some_alike t r (byte ∷ behind) [] alike is = absurd alike
some_alike t r (byte ∷ behind) (c ∷ more) alike is = some_alike_by t r (token_at (byte ∷ behind)) (token_at (c ∷ more)) alike.1 is

pub some_front : (front behind p r q : List ℕ) → front ++ behind ≡ p ++ r → r ≡ q ++ behind → 0 < length p → 0 < length front
some_front front behind p r q same is some =
    let whole = ap length same in
    let tail = ap length is in
    omega (arith, whole, tail, some, length-append front behind, length-append p r, length-append q behind)

-- ---- spaces

blanks_by : (b : Bool) (byte : ℕ) (line : List ℕ) → is_blank byte ≡ b → (front : List ℕ) × (line ≡ front ++ behind_blanks line) × ((more : List ℕ) → behind_blanks (front ++ more) ≡ behind_blanks more)
    → (front : List ℕ) × (byte ∷ line ≡ front ++ cond b (behind_blanks line) (byte ∷ line)) × ((more : List ℕ) → behind_blanks (front ++ more) ≡ behind_blanks more)
blanks_by true byte line e (front, same, skips) = (byte ∷ front, ap (λ (l : List ℕ). byte ∷ l) same, λ more. rw e (skips more))
blanks_by false byte line e h = ([], refl, λ more. refl)

pub blanks_of : (line : List ℕ) → (front : List ℕ) × (line ≡ front ++ behind_blanks line) × ((more : List ℕ) → behind_blanks (front ++ more) ≡ behind_blanks more)
blanks_of [] = ([], refl, λ more. refl)
blanks_of (byte ∷ line) = blanks_by (is_blank byte) byte line refl (blanks_of line)

-- a byte behind spaces is no space
pub first_no_blank : (byte : ℕ) (line : List ℕ) → behind_blanks (byte ∷ line) ≡ byte ∷ line → is_blank byte ≡ false
first_no_blank byte line = by (is_blank byte)
  where
    by : (b : Bool) → cond b (behind_blanks line) (byte ∷ line) ≡ byte ∷ line → b ≡ false
    by false e = refl
    by true e = let long = ap length e in absurd (omega (arith, long, blanks_shorter line))

no_blank_more : (p behind more : List ℕ) → BeginAlike behind more → behind_blanks (p ++ behind) ≡ p ++ behind → behind_blanks (p ++ more) ≡ p ++ more
no_blank_more (c ∷ p) behind more alike e = rw (first_no_blank c (p ++ behind) e) refl
no_blank_more [] [] more alike e = rw alike refl
no_blank_more [] (byte ∷ rest) [] alike e = absurd alike
no_blank_more [] (byte ∷ rest) (other ∷ more) alike e = rw (sym (ap is_blank alike.0) ∙ first_no_blank byte rest e) refl

-- spaces before another end
pub blanks_moved : (front p behind more : List ℕ) → BeginAlike behind more → behind_blanks (behind_blanks (front ++ behind)) ≡ behind_blanks (front ++ behind) → behind_blanks (front ++ behind) ≡ p ++ behind → behind_blanks (front ++ more) ≡ p ++ more
blanks_moved front p behind more alike twice e =
    let (blanks, same, skips) = blanks_of (front ++ behind) in
    let whole = same ∙ ap (λ (l : List ℕ). blanks ++ l) e ∙ sym (append_assoc blanks p behind) in
    let before : front ≡ blanks ++ p = append_cancel_right front (blanks ++ p) behind whole in
    ap (λ (l : List ℕ). behind_blanks (l ++ more)) before ∙ ap behind_blanks (append_assoc blanks p more) ∙ skips (p ++ more)
    ∙ no_blank_more p behind more alike (subst (λ (l : List ℕ). behind_blanks l ≡ l) e twice)
