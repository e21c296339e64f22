-- What the tokens of a text are, by what the text begins with.
use Rattle.std.proofs.Common.{◌≡◌, ◌≢◌, ℕ, suc, ◌+◌, ◌<◌, ◌≤◌, Bool, true, false, cond, eqb, ◌||◌, List, [], ◌∷◌, ◌++◌, length, take, drop, get_or, Option, refl, sym, ap, ◌∙◌, subst, arith, append_assoc, append-nil, one-add, zero, true≢false, not, IsUtf8, Some, None, MatchOption, le_refl, length-take, take_all}
use Rattle.std.specs.Borrow.{Bor}
use Rattle.std.specs.List.{prefix_len, take_while, position_or_len, before_first, after_first}
use Rattle.std.specs.Str.{IsAscii, IsCharBoundary}
use Rattle.std.proofs.Math.Dec.{eqb-suc-zero}
use Rattle.std.proofs.lemmas.Bool.{ne_eqb, and_from, and_parts, eqb-true}
use Rattle.std.proofs.lemmas.List.Sums.{split_at_first}
use Rattle.std.proofs.lemmas.Str.{IsUtf8-from_ascii, IsCharBoundary-from_take}
use Rattle.std.proofs.lemmas.Bool.Decides.{nat_tests}
use Rattle.cap_filter.specs.Printed.{quote}
use Rattle.cap_filter.specs.Tokens.{word, quoted, opening, closing, comma, other, Tokens, blank, is_word_byte, is_word, has_quote, begins_word, onto_word, inside, behind_quote, tokens_from, tokens_of}

-- ---- blanks and signs

pub blank_skipped : (text rest : List ℕ) → text ≡ blank ∷ rest → tokens_of text ≡ tokens_of rest
unfolding tokens_from
blank_skipped text rest e = rw e refl

pub opening_first : (text rest : List ℕ) → text ≡ 40 ∷ rest → tokens_of text ≡ (length text, opening) ∷ tokens_of rest
unfolding tokens_from
opening_first text rest e = rw e refl

pub closing_first : (text rest : List ℕ) → text ≡ 41 ∷ rest → tokens_of text ≡ (length text, closing) ∷ tokens_of rest
unfolding tokens_from
closing_first text rest e = rw e refl

pub comma_first : (text rest : List ℕ) → text ≡ 44 ∷ rest → tokens_of text ≡ (length text, comma) ∷ tokens_of rest
unfolding tokens_from
comma_first text rest e = rw e refl

pub quote_first : (text rest : List ℕ) → text ≡ quote ∷ rest → tokens_of text ≡ tokens_from (inside (length text) []) rest
unfolding tokens_from
quote_first text rest e = rw e refl

pub nothing_left : (text : List ℕ) → eqb (length text) 0 ≡ true → (tokens_of text ≡ []) × (length text ≡ 0)
unfolding tokens_from
nothing_left [] e = (refl, refl)
nothing_left (byte ∷ rest) e = absurd (true≢false (sym e ∙ eqb-suc-zero (length rest)))

apart : (byte c : ℕ) (rest : List ℕ) → ((more : List ℕ) → byte ∷ rest ≢ c ∷ more) → eqb byte c ≡ false
apart byte c rest h = ne_eqb byte c (λ e. h rest (ap (λ (b : ℕ). b ∷ rest) e))

-- a byte that begins no token
pub other_first : (text : List ℕ) → eqb (length text) 0 ≡ false → begins_word text ≡ false → ((more : List ℕ) → text ≢ blank ∷ more) → ((more : List ℕ) → text ≢ quote ∷ more)
    → ((more : List ℕ) → text ≢ 40 ∷ more) → ((more : List ℕ) → text ≢ 41 ∷ more) → ((more : List ℕ) → text ≢ 44 ∷ more)
    → (more : Tokens) × (tokens_of text ≡ (length text, other) ∷ more)
unfolding tokens_from
other_first [] some no_word no_blank no_quote no_opening no_closing no_comma = absurd cc
other_first (byte ∷ rest) some no_word no_blank no_quote no_opening no_closing no_comma =
    (tokens_of rest, rw (apart byte blank rest no_blank, apart byte quote rest no_quote, no_word, apart byte 40 rest no_opening, apart byte 41 rest no_closing, apart byte 44 rest no_comma) refl)

-- ---- words

abbrev run_len : List ℕ → ℕ
run_len = prefix_len is_word_byte

within : (b : Bool) (x : ℕ) (xs : List ℕ) → run_len xs ≤ length xs → cond b (1 + run_len xs) 0 ≤ length (x ∷ xs)
within true x xs h = omega arith
within false x xs h = omega arith

pub word_within : (xs : List ℕ) → run_len xs ≤ length xs
word_within [] = omega arith
word_within (x ∷ xs) = within (is_word_byte x) x xs (word_within xs)

front : (b : Bool) (x : ℕ) (xs : List ℕ) → is_word_byte x ≡ b → is_word (take (run_len xs) xs) ≡ true → is_word (take (cond b (1 + run_len xs) 0) (x ∷ xs)) ≡ true
front true x xs e h = rw one-add (and_from (is_word_byte x) (is_word (take (run_len xs) xs)) e h)
front false x xs e h = refl

pub word_front : (xs : List ℕ) → is_word (take (run_len xs) xs) ≡ true
word_front [] = refl
word_front (x ∷ xs) = front (is_word_byte x) x xs refl (word_front xs)

behind : (b : Bool) (x : ℕ) (xs : List ℕ) → is_word_byte x ≡ b → begins_word (drop (run_len xs) xs) ≡ false → begins_word (drop (cond b (1 + run_len xs) 0) (x ∷ xs)) ≡ false
behind true x xs e h = rw one-add h
behind false x xs e h = e

pub word_behind : (xs : List ℕ) → begins_word (drop (run_len xs) xs) ≡ false
word_behind [] = refl
word_behind (x ∷ xs) = behind (is_word_byte x) x xs refl (word_behind xs)

word_byte_ascii : (byte : ℕ) → is_word_byte byte ≡ true → byte < 128
word_byte_ascii byte e = grind (arith, nat_tests)

pub word_ascii : (w : List ℕ) → is_word w ≡ true → IsAscii w
word_ascii [] e i = omega arith
word_ascii (x ∷ xs) e zero = word_byte_ascii x (and_parts (is_word_byte x) (is_word xs) e).0
word_ascii (x ∷ xs) e (suc i) = word_ascii xs (and_parts (is_word_byte x) (is_word xs) e).1 i

not_word : (x c : ℕ) → is_word_byte c ≡ false → is_word_byte x ≡ true → eqb x c ≡ false
not_word x c other_byte word_byte = ne_eqb x c (λ e. true≢false (sym word_byte ∙ ap is_word_byte e ∙ other_byte))

word_byte_first : (x : ℕ) (rest : List ℕ) → is_word_byte x ≡ true → tokens_of (x ∷ rest) ≡ onto_word (suc (length rest)) x (begins_word rest) (tokens_of rest)
unfolding tokens_from
word_byte_first x rest x_is = rw (not_word x blank refl x_is, not_word x quote refl x_is, x_is) refl

first_of_more : (x y : ℕ) (ys rest : List ℕ) → is_word_byte x ≡ true → is_word_byte y ≡ true → tokens_of (y ∷ (ys ++ rest)) ≡ (length (y ∷ (ys ++ rest)), word (y ∷ ys)) ∷ tokens_of rest →
    tokens_of (x ∷ y ∷ (ys ++ rest)) ≡ (length (x ∷ y ∷ (ys ++ rest)), word (x ∷ y ∷ ys)) ∷ tokens_of rest
first_of_more x y ys rest x_is y_is others = word_byte_first x (y ∷ (ys ++ rest)) x_is ∙ rw (y_is, others) refl

pub word_first : (w rest : List ℕ) → is_word w ≡ true → begins_word rest ≡ false → eqb (length w) 0 ≡ false → tokens_of (w ++ rest) ≡ (length (w ++ rest), word w) ∷ tokens_of rest
unfolding tokens_from
word_first [] rest all_word ends some = absurd cc
word_first (x ∷ []) rest all_word ends some =
    let x_is : is_word_byte x ≡ true = (and_parts (is_word_byte x) true all_word).0 in
    rw (not_word x blank refl x_is, not_word x quote refl x_is, x_is, ends) refl
word_first (x ∷ y ∷ ys) rest all_word ends some =
    let parts = and_parts (is_word_byte x) (is_word (y ∷ ys)) all_word in
    let y_is = (and_parts (is_word_byte y) (is_word ys) parts.1).0 in
    let others : tokens_of (y ∷ (ys ++ rest)) ≡ (length (y ∷ (ys ++ rest)), word (y ∷ ys)) ∷ tokens_of rest = word_first (y ∷ ys) rest parts.1 ends (eqb-suc-zero (length ys)) in
    first_of_more x y ys rest parts.0 y_is others

pub word_here : (text w rest : List ℕ) → text ≡ w ++ rest → is_word w ≡ true → begins_word rest ≡ false → eqb (length w) 0 ≡ false → tokens_of text ≡ (length text, word w) ∷ tokens_of rest
word_here text w rest e all_word ends some = rw e (word_first w rest all_word ends some)

pub word_len_is : (xs : List ℕ) → length (take_while is_word_byte xs) ≡ run_len xs
word_len_is xs = omega (arith, length-take (run_len xs) xs, word_within xs)

pub word_boundary : (xs : List ℕ) → IsUtf8 xs → IsCharBoundary xs (run_len xs)
word_boundary xs utf8 =
    IsCharBoundary-from_take xs (run_len xs) utf8 (word_within xs) (IsUtf8-from_ascii (take (run_len xs) xs) (word_ascii (take (run_len xs) xs) (word_front xs)))

-- ---- quoted texts

abbrev is_quote : ℕ → Bool
is_quote byte = eqb byte quote

abbrev place : List ℕ → ℕ
place = position_or_len is_quote

none_front : (b : Bool) (x : ℕ) (xs : List ℕ) → is_quote x ≡ b → has_quote (take (place xs) xs) ≡ false → has_quote (take (cond (not b) (1 + place xs) 0) (x ∷ xs)) ≡ false
none_front true x xs e h = refl
none_front false x xs e h = rw (one-add, e) h

none_before : (xs : List ℕ) → has_quote (take (place xs) xs) ≡ false
none_before [] = refl
none_before (x ∷ xs) = none_front (is_quote x) x xs refl (none_before xs)

quote_front : (b : Bool) (x : ℕ) (xs : List ℕ) → is_quote x ≡ b → (place xs < length xs → get_or xs (place xs) 0 ≡ quote) → cond (not b) (1 + place xs) 0 < length (x ∷ xs)
    → get_or (x ∷ xs) (cond (not b) (1 + place xs) 0) 0 ≡ quote
quote_front true x xs e h lt = eqb-true x quote e
quote_front false x xs e h lt = rw one-add (h (omega arith))

quote_at : (xs : List ℕ) → place xs < length xs → get_or xs (place xs) 0 ≡ quote
quote_at [] lt = absurd (omega arith)
quote_at (x ∷ xs) lt = quote_front (is_quote x) x xs refl (quote_at xs) lt

pub parts_at_quote : (bs : List ℕ) (r : Option (Bor (List ℕ) × Bor (List ℕ))) → MatchOption r (place bs ≡ length bs) (λ x. (place bs < length bs) × (x.0.now ≡ before_first is_quote bs) × (x.1.now ≡ after_first is_quote bs))
    → MatchOption r (has_quote bs ≡ false) (λ x. (has_quote x.0.now ≡ false) × (bs ≡ x.0.now ++ quote ∷ x.1.now))
parts_at_quote bs None h = let e : take (place bs) bs ≡ bs = rw h (take_all (length bs) bs (le_refl (length bs))) in subst (λ (l : List ℕ). has_quote l ≡ false) e (none_before bs)
parts_at_quote bs (Some x) h =
    let whole : bs ≡ before_first is_quote bs ++ (quote ∷ after_first is_quote bs) = split_at_first is_quote bs 0 h.0 ∙ ap (λ (c : ℕ). before_first is_quote bs ++ (c ∷ after_first is_quote bs)) (quote_at bs h.0) in
    (rw h.1 (none_before bs), rw (h.1, h.2) whole)

pub or_parts : (x y : Bool) → (x || y) ≡ false → (x ≡ false) × (y ≡ false)
or_parts true y e = absurd cc
or_parts false y e = (refl, e)

pub piece_inside : (piece rest : List ℕ) (left : ℕ) (w : List ℕ) → has_quote piece ≡ false → tokens_from (inside left w) (piece ++ rest) ≡ tokens_from (inside left (w ++ piece)) rest
unfolding tokens_from
piece_inside [] rest left w e = rw append-nil refl
piece_inside (byte ∷ piece) rest left w e =
    let parts = or_parts (eqb byte quote) (has_quote piece) e in
    let regrouped : (w ++ byte ∷ []) ++ piece ≡ w ++ byte ∷ piece = append_assoc w (byte ∷ []) piece in
    rw parts.0 (piece_inside piece rest left (w ++ byte ∷ []) parts.1 ∙ ap (λ (t : List ℕ). tokens_from (inside left t) rest) regrouped)

-- no quote closes the text
pub unclosed : (piece : List ℕ) (left : ℕ) (w : List ℕ) → has_quote piece ≡ false → tokens_from (inside left w) piece ≡ (left, other) ∷ []
unfolding tokens_from
unclosed piece left w e = ap (tokens_from (inside left w)) (sym (append-nil piece)) ∙ piece_inside piece [] left w e

-- the bytes before the next quote
pub quote_behind : (text piece after : List ℕ) (left : ℕ) (w : List ℕ) → has_quote piece ≡ false → text ≡ piece ++ quote ∷ after →
    tokens_from (inside left w) text ≡ tokens_from (behind_quote left (w ++ piece)) after
unfolding tokens_from
quote_behind text piece after left w e same = rw same (piece_inside piece (quote ∷ after) left w e)

-- a doubled quote
pub quote_doubled : (text rest : List ℕ) (left : ℕ) (w : List ℕ) → text ≡ quote ∷ rest → tokens_from (behind_quote left w) text ≡ tokens_from (inside left (w ++ quote ∷ [])) rest
unfolding tokens_from
quote_doubled text rest left w same = rw same refl

-- a quote that closes the text
pub closed : (text : List ℕ) (left : ℕ) (w : List ℕ) → ((rest : List ℕ) → text ≢ quote ∷ rest) → tokens_from (behind_quote left w) text ≡ (left, quoted w) ∷ tokens_of text
unfolding tokens_from
closed [] left w h = refl
closed (byte ∷ rest) left w h = rw (apart byte quote rest h) refl
