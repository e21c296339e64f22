-- What the loops over bytes find.
use Rattle.std.proofs.Common.{◌≡◌, ◌≤◌, ◌<◌, ◌+◌, ◌^◌, ℕ, zero, suc, List, [], ◌∷◌, length, get_or, take, drop, Bool, true, false, ◌==◌, ◌&&◌, cond, Option, Some, None, arith, refl, ap, ap₂, sym, ◌∙◌, subst, one-add, length-take, IsUtf8}
use Rattle.std.proofs.Common.{MatchOption, append_assoc, append-nil, ◌++◌, eq-eqb}
use Rattle.std.specs.Borrow.{Bor}
use Rattle.std.specs.Str.{IsAscii, IsCharBoundary}
use Rattle.std.proofs.lemmas.Str.{IsUtf8-from_ascii, IsCharBoundary-from_take}
use Rattle.std.proofs.lemmas.Bool.Decides.{nat_tests}
use Rattle.std.specs.List.{list_all, prefix_len, take_while}
use Rattle.std.proofs.lemmas.Bool.{and_from, and_parts}
use Rattle.cap_language.specs.Grammar.{sign_at}
use Rattle.std.specs.Prelude.{Result, Ok, Err}
use Rattle.hex.specs.Hex.{decode_of}
use Rattle.cap_filter.specs.Printed.{quote}
use Rattle.cap_filter.specs.Tokens.{is_word_byte}
use Rattle.cap_language.specs.Forms.{a_blob, a_number, a_word}
use Rattle.cap_language.specs.Grammar.{wanted_in}
use Rattle.cap_language.specs.Scanning.{AreDigits, run_of, token_at, token_from, start_of, text_in, quoted_of, blob_in, bytes_in, number_in, number_at, digits_at, no_quote, quoted_on, with_byte, with_bytes}
use Rattle.cap_language.specs.Tokens.{Word, Integer, Text, Blob, begins_quote, behind_blanks, is_blank, is_letter}
use Rattle.std.specs.Char.{is_ascii_digit}
use Rattle.cap_language.specs.declared.token.Start.{Start}
use Rattle.cap_language.specs.declared.token.Start.TheVariants as start

-- ---- runs of bytes that pass a test

within : (p : ℕ → Bool) (b : Bool) (x : ℕ) (xs : List ℕ) → prefix_len p xs ≤ length xs → cond b (1 + prefix_len p xs) 0 ≤ length (x ∷ xs)
within p true x xs h = omega arith
within p false x xs h = omega arith

run_within : (p : ℕ → Bool) (xs : List ℕ) → prefix_len p xs ≤ length xs
run_within p [] = omega arith
run_within p (x ∷ xs) = within p (p x) x xs (run_within p xs)

front : (p : ℕ → Bool) (b : Bool) (x : ℕ) (xs : List ℕ) → p x ≡ b → list_all p (take (prefix_len p xs) xs) ≡ true → list_all p (take (cond b (1 + prefix_len p xs) 0) (x ∷ xs)) ≡ true
front p true x xs e h = rw one-add (and_from (p x) (list_all p (take (prefix_len p xs) xs)) e h)
front p false x xs e h = refl

run_front : (p : ℕ → Bool) (xs : List ℕ) → list_all p (take (prefix_len p xs) xs) ≡ true
run_front p [] = refl
run_front p (x ∷ xs) = front p (p x) x xs refl (run_front p xs)

run_len : (p : ℕ → Bool) (xs : List ℕ) → length (take_while p xs) ≡ prefix_len p xs
run_len p xs = omega (arith, length-take (prefix_len p xs) xs, run_within p xs)

run_if : (b : Bool) (n x : ℕ) (xs : List ℕ) (run : List ℕ × List ℕ) → run ≡ (take n xs, drop n xs)
    → cond {A = List ℕ × List ℕ} b (x ∷ run.0, run.1) ([], x ∷ xs) ≡ (take (cond b (1 + n) 0) (x ∷ xs), drop (cond b (1 + n) 0) (x ∷ xs))
run_if true n x xs run is = rw one-add (ap (λ (r : List ℕ × List ℕ). (x ∷ r.0, r.1)) is)
run_if false n x xs run is = refl

run_parts : (p : ℕ → Bool) (xs : List ℕ) → run_of p xs ≡ (take (prefix_len p xs) xs, drop (prefix_len p xs) xs)
run_parts p [] = refl
run_parts p (x ∷ xs) = run_if (p x) (prefix_len p xs) x xs (run_of p xs) (run_parts p xs)

-- a loop over the bytes finds the run
counted : (p : ℕ → Bool) (text bytes : List ℕ) (n : ℕ) → bytes ≡ text → n ≡ length (take_while p bytes) → n ≡ prefix_len p text
counted p text bytes n same is = is ∙ ap (λ (l : List ℕ). length (take_while p l)) same ∙ run_len p text

blanks_if : (b : Bool) (n x : ℕ) (xs : List ℕ) → behind_blanks xs ≡ drop n xs → cond b (behind_blanks xs) (x ∷ xs) ≡ drop (cond b (1 + n) 0) (x ∷ xs)
blanks_if true n x xs is = rw one-add is
blanks_if false n x xs is = refl

blanks_are : (xs : List ℕ) → behind_blanks xs ≡ drop (prefix_len is_blank xs) xs
blanks_are [] = refl
blanks_are (x ∷ xs) = blanks_if (is_blank x) (prefix_len is_blank xs) x xs (blanks_are xs)

pub behind_counted : (text bytes back : List ℕ) (n : ℕ) → bytes ≡ text → n ≡ length (take_while is_blank bytes) → back ≡ drop n text → back ≡ behind_blanks text
behind_counted text bytes back n same is is_back =
    is_back ∙ ap (λ (n : ℕ). drop n text) (counted is_blank text bytes n same is) ∙ sym (blanks_are text)

pub run_counted : (p : ℕ → Bool) (text bytes front back : List ℕ) (n : ℕ) → bytes ≡ text → n ≡ length (take_while p bytes) → front ≡ take n text → back ≡ drop n text
    → run_of p text ≡ (front, back)
run_counted p text bytes front back n same is is_front is_back =
    let n_is = counted p text bytes n same is in
    run_parts p text ∙ ap (λ (n : ℕ). (take n text, drop n text)) (sym n_is) ∙ ap₂ (λ (a b : List ℕ). (a, b)) (sym is_front) (sym is_back)

-- ---- where a run ends, a character ends

ascii_run : (p : ℕ → Bool) → ((byte : ℕ) → p byte ≡ true → byte < 128) → (xs : List ℕ) → list_all p xs ≡ true → IsAscii xs
ascii_run p ascii [] all i = omega arith
ascii_run p ascii (x ∷ xs) all zero = ascii x (and_parts (p x) (list_all p xs) all).0
ascii_run p ascii (x ∷ xs) all (suc i) = ascii_run p ascii xs (and_parts (p x) (list_all p xs) all).1 i

-- behind n bytes that are ASCII
pub ascii_boundary : (text : List ℕ) (n : ℕ) → IsUtf8 text → n ≤ length text → IsAscii (take n text) → IsCharBoundary text n
ascii_boundary text n utf8 within ascii = IsCharBoundary-from_take text n utf8 within (IsUtf8-from_ascii (take n text) ascii)

pub run_boundary : (p : ℕ → Bool) → ((byte : ℕ) → p byte ≡ true → byte < 128) → (text bytes : List ℕ) (n : ℕ) → IsUtf8 text → bytes ≡ text → n ≡ length (take_while p bytes) → IsCharBoundary text n
run_boundary p ascii text bytes n utf8 same is =
    rw (counted p text bytes n same is) (ascii_boundary text (prefix_len p text) utf8 (run_within p text) (ascii_run p ascii (take (prefix_len p text) text) (run_front p text)))

pub word_ascii : (byte : ℕ) → is_word_byte byte ≡ true → byte < 128
word_ascii byte e = grind (arith, nat_tests)

pub blank_ascii : (byte : ℕ) → is_blank byte ≡ true → byte < 128
blank_ascii byte e = grind (arith, nat_tests)

-- behind a first byte that is ASCII
first_ascii : (first : ℕ) → first < 128 → IsAscii (first ∷ [])
first_ascii first less zero = less
first_ascii first less (suc i) = omega arith

pub first_boundary : (text : List ℕ) → IsUtf8 text → 1 ≤ length text → get_or text 0 0 < 128 → IsCharBoundary text 1
first_boundary [] utf8 some less = absurd (omega arith)
first_boundary (byte ∷ rest) utf8 some less = ascii_boundary (byte ∷ rest) 1 utf8 (omega arith) (first_ascii byte less)

pub starts : {here bytes : List ℕ} {s : Start} → bytes ≡ here → s ≡ start_of bytes → start_of here ≡ s
starts same is = ap start_of (sym same) ∙ sym is

-- ---- words

pub the_word : (text front back : List ℕ) → start_of text ≡ start.Letter → run_of is_word_byte text ≡ (front, back) → wanted_in a_word (token_at text) ≡ Some (front, back)
unfolding token_at
the_word text front back letter is = rw (letter, is) refl

no_word_text : (o : Option (List ℕ × List ℕ)) → wanted_in a_word (text_in o) ≡ None
no_word_text None = refl
no_word_text (Some found) = refl

no_word_bytes : {E : Type 0} (rest : List ℕ) (o : Result (List ℕ) E) → wanted_in a_word (bytes_in rest o) ≡ None
no_word_bytes rest (Err why) = refl
no_word_bytes rest (Ok bytes) = refl

no_word_blob : (run : List ℕ × List ℕ) → wanted_in a_word (blob_in run) ≡ None
no_word_blob (digits, []) = refl
no_word_blob (digits, byte ∷ rest) = no_word_bytes rest (decode_of digits)

no_word_fit : (b : Bool) (n : ℕ) (rest : List ℕ) → wanted_in a_word (cond b None (Some (Integer false n, rest))) ≡ None
no_word_fit true n rest = refl
no_word_fit false n rest = refl

no_word_number : (negative : Bool) (o : Option (ℕ × List ℕ)) → wanted_in a_word (number_in negative o) ≡ None
no_word_number negative None = refl
no_word_number true (Some found) = refl
no_word_number false (Some (n, rest)) = no_word_fit (n == 2 ^ 63) n rest

no_word_at : (negative : Bool) (text : List ℕ) → wanted_in a_word (number_at negative text) ≡ None
no_word_at negative text = no_word_number negative (digits_at text)

no_word_from : (s : Start) (text : List ℕ) → (s ≡ start.Letter → ⊥) → wanted_in a_word (token_from s text) ≡ None
no_word_from start.Quote [] other = refl
no_word_from start.Quote (byte ∷ rest) other = no_word_text (quoted_of rest)
no_word_from start.X [] other = refl
no_word_from start.X (byte ∷ []) other = refl
no_word_from start.X (byte ∷ next ∷ rest) other = no_word_blob (run_of no_quote rest)
no_word_from start.Letter text other = absurd (other refl)
no_word_from start.Minus [] other = refl
no_word_from start.Minus (byte ∷ rest) other = no_word_at true rest
no_word_from start.Digit text other = no_word_at false text
no_word_from start.Other text other = refl

pub no_word : (text : List ℕ) → (start_of text ≡ start.Letter → ⊥) → wanted_in a_word (token_at text) ≡ None
unfolding token_at
no_word text other = no_word_from (start_of text) text other

-- ---- blobs alone

other_text : (o : Option (List ℕ × List ℕ)) → wanted_in a_blob (text_in o) ≡ None
other_text None = refl
other_text (Some found) = refl

other_fit : (b : Bool) (n : ℕ) (rest : List ℕ) → wanted_in a_blob (cond b None (Some (Integer false n, rest))) ≡ None
other_fit true n rest = refl
other_fit false n rest = refl

other_number : (negative : Bool) (o : Option (ℕ × List ℕ)) → wanted_in a_blob (number_in negative o) ≡ None
other_number negative None = refl
other_number true (Some found) = refl
other_number false (Some (n, rest)) = other_fit (n == 2 ^ 63) n rest

other_from : (s : Start) (text : List ℕ) → (s ≡ start.X → ⊥) → wanted_in a_blob (token_from s text) ≡ None
other_from start.Quote [] other = refl
other_from start.Quote (byte ∷ rest) other = other_text (quoted_of rest)
other_from start.X text other = absurd (other refl)
other_from start.Letter text other = refl
other_from start.Minus [] other = refl
other_from start.Minus (byte ∷ rest) other = other_number true (digits_at rest)
other_from start.Digit text other = other_number false (digits_at text)
other_from start.Other text other = refl

-- what begins otherwise is no blob
pub no_blob_at : (text : List ℕ) → (start_of text ≡ start.X → ⊥) → wanted_in a_blob (token_at text) ≡ None
unfolding token_at
no_blob_at text other = other_from (start_of text) text other

-- ---- integers

digits_ascii : (xs : List ℕ) → AreDigits xs → IsAscii xs
digits_ascii [] all i = omega arith
digits_ascii (x ∷ xs) all zero = grind (arith, nat_tests)
digits_ascii (x ∷ xs) all (suc i) = digits_ascii xs all.1 i

pub digits_boundary : (text bytes : List ℕ) (n : ℕ) → IsUtf8 text → bytes ≡ text → n ≤ length bytes → AreDigits (take n bytes) → IsCharBoundary text n
digits_boundary text bytes n utf8 same less digits =
    subst (λ bytes. n ≤ length bytes → AreDigits (take n bytes) → IsCharBoundary text n) (sym same)
    (λ less digits. ascii_boundary text n utf8 less (digits_ascii (take n text) digits)) less digits

pub the_token : (text : List ℕ) (s : Start) → start_of text ≡ s → token_at text ≡ token_from s text
unfolding token_at
the_token text s is = ap (λ s. token_from s text) is

no_number_text : (o : Option (List ℕ × List ℕ)) → wanted_in a_number (text_in o) ≡ None
no_number_text None = refl
no_number_text (Some found) = refl

no_number_bytes : {E : Type 0} (rest : List ℕ) (o : Result (List ℕ) E) → wanted_in a_number (bytes_in rest o) ≡ None
no_number_bytes rest (Err why) = refl
no_number_bytes rest (Ok bytes) = refl

no_number_blob : (run : List ℕ × List ℕ) → wanted_in a_number (blob_in run) ≡ None
no_number_blob (digits, []) = refl
no_number_blob (digits, byte ∷ rest) = no_number_bytes rest (decode_of digits)

no_number_minus : (o : Option (ℕ × List ℕ)) → wanted_in a_number (number_in true o) ≡ None
no_number_minus None = refl
no_number_minus (Some found) = refl

no_number_from : (s : Start) (text : List ℕ) → (s ≡ start.Digit → ⊥) → wanted_in a_number (token_from s text) ≡ None
no_number_from start.Quote [] other = refl
no_number_from start.Quote (byte ∷ rest) other = no_number_text (quoted_of rest)
no_number_from start.X [] other = refl
no_number_from start.X (byte ∷ []) other = refl
no_number_from start.X (byte ∷ next ∷ rest) other = no_number_blob (run_of no_quote rest)
no_number_from start.Letter text other = refl
no_number_from start.Minus [] other = refl
no_number_from start.Minus (byte ∷ rest) other = no_number_minus (digits_at rest)
no_number_from start.Digit text other = absurd (other refl)
no_number_from start.Other text other = refl

pub no_number : (text : List ℕ) → (start_of text ≡ start.Digit → ⊥) → wanted_in a_number (token_at text) ≡ None
unfolding token_at
no_number text other = no_number_from (start_of text) text other

after_minus_if : (b : Bool) (byte : ℕ) (rest digits : List ℕ) → cond b (Some rest) None ≡ Some digits → token_from start.Minus (byte ∷ rest) ≡ number_at true digits
after_minus_if true byte rest digits is = let same : rest ≡ digits = cc in ap (λ l. number_at true l) same
after_minus_if false byte rest digits is = absurd cc

after_quote_if : (b : Bool) (byte : ℕ) (rest begun : List ℕ) → cond b (Some rest) None ≡ Some begun → token_from start.Quote (byte ∷ rest) ≡ text_in (quoted_of begun)
after_quote_if true byte rest begun is = let same : rest ≡ begun = cc in ap (λ l. text_in (quoted_of l)) same
after_quote_if false byte rest begun is = absurd cc

pub after_minus : (text digits : List ℕ) → sign_at 45 text ≡ Some digits → token_from start.Minus text ≡ number_at true digits
after_minus [] digits is = absurd cc
after_minus (byte ∷ rest) digits is = after_minus_if (byte == 45) byte rest digits is

pub after_quote : (text begun : List ℕ) → sign_at 39 text ≡ Some begun → token_from start.Quote text ≡ text_in (quoted_of begun)
after_quote [] begun is = absurd cc
after_quote (byte ∷ rest) begun is = after_quote_if (byte == 39) byte rest begun is

pub the_natural : (text : List ℕ) (r : Option (ℕ × Bor (List ℕ))) → start_of text ≡ start.Digit
    → MatchOption r (number_at false text ≡ None) (λ found. (number_at false text ≡ Some (Integer false found.0, found.1.now)) × (found.0 ≤ 2 ^ 63) × (false ≡ false → found.0 < 2 ^ 63))
    → MatchOption r (wanted_in a_number (token_at text) ≡ None) (λ found. wanted_in a_number (token_at text) ≡ Some (found.0, found.1.now))
the_natural text None is h = ap (wanted_in a_number) (the_token text start.Digit is ∙ h)
the_natural text (Some found) is h = ap (wanted_in a_number) (the_token text start.Digit is ∙ h.0)

minus_if : (b c d e f : Bool) → cond b start.Quote (cond c (cond d start.X start.Letter) (cond e start.Minus (cond f start.Digit start.Other))) ≡ start.Minus → e ≡ true
minus_if true c d e f is = absurd cc
minus_if false true true e f is = absurd cc
minus_if false true false e f is = absurd cc
minus_if false false d true f is = refl
minus_if false false d false true is = absurd cc
minus_if false false d false false is = absurd cc

quote_if : (b c d e f : Bool) → cond b start.Quote (cond c (cond d start.X start.Letter) (cond e start.Minus (cond f start.Digit start.Other))) ≡ start.Quote → b ≡ true
quote_if true c d e f is = refl
quote_if false true true e f is = absurd cc
quote_if false true false e f is = absurd cc
quote_if false false d true f is = absurd cc
quote_if false false d false true is = absurd cc
quote_if false false d false false is = absurd cc

found_not : (b : Bool) (rest : List ℕ) → b ≡ true → cond b (Some rest) None ≡ None → ⊥
found_not true rest is none = absurd cc
found_not false rest is none = absurd cc

pub minus_token : (here digits : List ℕ) → start_of here ≡ start.Minus → sign_at 45 here ≡ Some digits → token_at here ≡ number_at true digits
minus_token here digits is sign = the_token here start.Minus is ∙ after_minus here digits sign

pub no_minus : (here : List ℕ) → start_of here ≡ start.Minus → sign_at 45 here ≡ None → token_at here ≡ None
no_minus [] is sign = absurd cc
no_minus (byte ∷ rest) is sign = absurd (found_not (byte == 45) rest (minus_if (byte == quote) (is_letter byte) (byte == 120 && begins_quote rest) (byte == 45) (is_ascii_digit byte) is) sign)

pub digit_token : (here : List ℕ) → start_of here ≡ start.Digit → token_at here ≡ number_at false here
digit_token here is = the_token here start.Digit is

pub letter_token : (here : List ℕ) → start_of here ≡ start.Letter → token_at here ≡ Some (Word (run_of is_word_byte here).0, (run_of is_word_byte here).1)
letter_token here is = the_token here start.Letter is

pub quote_token : (here begun : List ℕ) → start_of here ≡ start.Quote → sign_at 39 here ≡ Some begun → token_at here ≡ text_in (quoted_of begun)
quote_token here begun is sign = the_token here start.Quote is ∙ after_quote here begun sign

pub no_opening : (here : List ℕ) → start_of here ≡ start.Quote → sign_at 39 here ≡ None → token_at here ≡ None
no_opening [] is sign = absurd cc
no_opening (byte ∷ rest) is sign = absurd (found_not (byte == 39) rest (quote_if (byte == quote) (is_letter byte) (byte == 120 && begins_quote rest) (byte == 45) (is_ascii_digit byte) is) sign)

-- ---- texts

no_quote_is : (byte : ℕ) → no_quote byte ≡ true → (byte == quote) ≡ false
no_quote_is byte is = grind (arith, nat_tests)

quote_is : (byte : ℕ) → no_quote byte ≡ false → byte ≡ 39
quote_is byte is = grind (arith, nat_tests)

one_byte : (byte : ℕ) (bytes : List ℕ) (o : Option (List ℕ × List ℕ)) → with_byte byte (with_bytes bytes o) ≡ with_bytes (byte ∷ bytes) o
one_byte byte bytes None = refl
one_byte byte bytes (Some found) = refl

nothing_before : (o : Option (List ℕ × List ℕ)) → o ≡ with_bytes [] o
nothing_before None = refl
nothing_before (Some found) = refl

text_if : (b : Bool) (byte : ℕ) (rest : List ℕ) → no_quote byte ≡ b → quoted_of rest ≡ with_bytes (take (prefix_len no_quote rest) rest) (quoted_of (drop (prefix_len no_quote rest) rest))
    → quoted_of (byte ∷ rest) ≡ with_bytes (take (cond b (1 + prefix_len no_quote rest) 0) (byte ∷ rest)) (quoted_of (drop (cond b (1 + prefix_len no_quote rest) 0) (byte ∷ rest)))
text_if true byte rest is more = rw (one-add, no_quote_is byte is) (ap (with_byte byte) more ∙ one_byte byte (take (prefix_len no_quote rest) rest) (quoted_of (drop (prefix_len no_quote rest) rest)))
text_if false byte rest is more = nothing_before (quoted_of (byte ∷ rest))

text_run : (line : List ℕ) → quoted_of line ≡ with_bytes (take (prefix_len no_quote line) line) (quoted_of (drop (prefix_len no_quote line) line))
text_run [] = refl
text_run (byte ∷ rest) = text_if (no_quote byte) byte rest refl (text_run rest)

closing_if : (b : Bool) (byte : ℕ) (more rest : List ℕ) → (byte == 39) ≡ b → cond b (Some more) None ≡ Some rest → quoted_of (byte ∷ more) ≡ quoted_on true rest
closing_if true byte more rest is found = let same : more ≡ rest = cc in rw is (ap (quoted_on true) same)
closing_if false byte more rest is found = absurd cc

closing : (back rest : List ℕ) → sign_at 39 back ≡ Some rest → quoted_of back ≡ quoted_on true rest
closing [] rest sign = absurd cc
closing (byte ∷ more) rest sign = closing_if (byte == 39) byte more rest refl sign

pub piece_then : (text bytes front back rest : List ℕ) (n : ℕ) → bytes ≡ text → n ≡ length (take_while no_quote bytes) → front ≡ take n text → back ≡ drop n text
    → sign_at 39 back ≡ Some rest → quoted_of text ≡ with_bytes front (quoted_on true rest)
piece_then text bytes front back rest n same is is_front is_back sign =
    let n_is = counted no_quote text bytes n same is in
    text_run text ∙ ap₂ (λ (a b : List ℕ). with_bytes a (quoted_of b)) (ap (λ (n : ℕ). take n text) (sym n_is) ∙ sym is_front) (ap (λ (n : ℕ). drop n text) (sym n_is) ∙ sym is_back)
    ∙ ap (with_bytes front) (closing back rest sign)

abbrev Stops : List ℕ → Type 0
Stops [] = Unit {0}
Stops (byte ∷ rest) = no_quote byte ≡ false

stops_if : (b : Bool) (byte : ℕ) (rest : List ℕ) → no_quote byte ≡ b → Stops (drop (prefix_len no_quote rest) rest) → Stops (drop (cond b (1 + prefix_len no_quote rest) 0) (byte ∷ rest))
stops_if true byte rest is more = rw one-add more
stops_if false byte rest is more = is

run_stops : (line : List ℕ) → Stops (drop (prefix_len no_quote line) line)
run_stops [] = tt
run_stops (byte ∷ rest) = stops_if (no_quote byte) byte rest refl (run_stops rest)

unclosed : (back : List ℕ) → Stops back → sign_at 39 back ≡ None → quoted_of back ≡ None
unclosed [] stops sign = refl
unclosed (byte ∷ more) stops sign = absurd (found_not (byte == 39) more (eq-eqb byte 39 (quote_is byte stops)) sign)

pub no_closing : (text bytes back : List ℕ) (n : ℕ) → bytes ≡ text → n ≡ length (take_while no_quote bytes) → back ≡ drop n text
    → sign_at 39 back ≡ None → quoted_of text ≡ None
no_closing text bytes back n same is is_back sign =
    let n_is = counted no_quote text bytes n same is in
    let back_is : back ≡ drop (prefix_len no_quote text) text = is_back ∙ ap (λ (n : ℕ). drop n text) n_is in
    text_run text ∙ ap (with_bytes (take (prefix_len no_quote text) text)) (ap quoted_of (sym back_is) ∙ unclosed back (subst Stops (sym back_is) (run_stops text)) sign)

stop_if : (b : Bool) (byte : ℕ) (rest : List ℕ) → no_quote byte ≡ b → (prefix_len no_quote rest < length rest → get_or rest (prefix_len no_quote rest) 0 ≡ 39)
    → cond b (1 + prefix_len no_quote rest) 0 < length (byte ∷ rest) → get_or (byte ∷ rest) (cond b (1 + prefix_len no_quote rest) 0) 0 ≡ 39
stop_if true byte rest is more less = rw one-add (more (omega arith))
stop_if false byte rest is more less = quote_is byte is

stop_at : (line : List ℕ) → prefix_len no_quote line < length line → get_or line (prefix_len no_quote line) 0 ≡ 39
stop_at [] less = absurd (omega arith)
stop_at (byte ∷ rest) less = stop_if (no_quote byte) byte rest refl (stop_at rest) less

quote_boundary_at : (text : List ℕ) → IsCharBoundary text (prefix_len no_quote text)
quote_boundary_at text = (run_within no_quote text, λ less high. absurd (omega (arith, stop_at text less, high)))

pub quote_boundary : (text bytes : List ℕ) (n : ℕ) → bytes ≡ text → n ≡ length (take_while no_quote bytes) → IsCharBoundary text n
quote_boundary text bytes n same is = rw (counted no_quote text bytes n same is) (quote_boundary_at text)

two_pieces : (a b : List ℕ) (o : Option (List ℕ × List ℕ)) → with_bytes a (with_bytes b o) ≡ with_bytes (a ++ b) o
two_pieces a b None = refl
two_pieces a b (Some (content, rest)) = ap (λ content. Some (content, rest)) (sym (append_assoc a b content))

one_quote : (o : Option (List ℕ × List ℕ)) → with_byte 39 o ≡ with_bytes (39 ∷ []) o
one_quote None = refl
one_quote (Some found) = refl

reopened_if : (b : Bool) (byte : ℕ) (rest more : List ℕ) → (byte == 39) ≡ b → cond b (Some rest) None ≡ Some more → quoted_on true (byte ∷ rest) ≡ with_bytes (39 ∷ []) (quoted_of more)
reopened_if true byte rest more is found = let same : rest ≡ more = cc in rw is (one_quote (quoted_of rest) ∙ ap (λ l. with_bytes (39 ∷ []) (quoted_of l)) same)
reopened_if false byte rest more is found = absurd cc

-- two quotes, read as one
reopened : (behind more : List ℕ) → sign_at 39 behind ≡ Some more → quoted_on true behind ≡ with_bytes (39 ∷ []) (quoted_of more)
reopened [] more sign = absurd cc
reopened (byte ∷ rest) more sign = reopened_if (byte == 39) byte rest more refl sign

pub quote_more : (here word piece rest behind more : List ℕ) → quoted_of here ≡ with_bytes word (quoted_of rest) → quoted_of rest ≡ with_bytes piece (quoted_on true behind) → sign_at 39 behind ≡ Some more
    → quoted_of here ≡ with_bytes ((word ++ piece) ++ 39 ∷ []) (quoted_of more)
quote_more here word piece rest behind more so_far is sign =
    so_far ∙ ap (with_bytes word) (is ∙ ap (with_bytes piece) (reopened behind more sign)) ∙ two_pieces word piece (with_bytes (39 ∷ []) (quoted_of more))
    ∙ two_pieces (word ++ piece) (39 ∷ []) (quoted_of more)

closed_if : (b : Bool) (byte : ℕ) (rest : List ℕ) → (byte == 39) ≡ b → cond b (Some rest) None ≡ None → quoted_on true (byte ∷ rest) ≡ Some ([], byte ∷ rest)
closed_if true byte rest is none = absurd cc
closed_if false byte rest is none = rw is refl

closed : (behind : List ℕ) → sign_at 39 behind ≡ None → quoted_on true behind ≡ Some ([], behind)
closed [] none = refl
closed (byte ∷ rest) none = closed_if (byte == 39) byte rest refl none

pub quote_end : (here word piece rest behind : List ℕ) → quoted_of here ≡ with_bytes word (quoted_of rest) → quoted_of rest ≡ with_bytes piece (quoted_on true behind) → sign_at 39 behind ≡ None
    → quoted_of here ≡ Some (word ++ piece, behind)
quote_end here word piece rest behind so_far is none =
    so_far ∙ ap (with_bytes word) (is ∙ ap (with_bytes piece) (closed behind none)) ∙ ap (λ w. Some (word ++ w, behind)) (append-nil piece)

pub short_token : (here begun piece behind : List ℕ) → start_of here ≡ start.Quote → sign_at 39 here ≡ Some begun → quoted_of begun ≡ with_bytes piece (quoted_on true behind) → sign_at 39 behind ≡ None
    → token_at here ≡ Some (Text piece, behind)
short_token here begun piece behind is sign content none =
    quote_token here begun is sign ∙ ap text_in (content ∙ ap (with_bytes piece) (closed behind none) ∙ ap (λ w. Some (w, behind)) (append-nil piece))

pub other_token : (here : List ℕ) → start_of here ≡ start.Other → token_at here ≡ None
other_token here is = the_token here start.Other is

-- ---- blobs

begins_if : (b : Bool) (byte : ℕ) (more rest : List ℕ) → (byte == 39) ≡ b → cond b (Some more) None ≡ Some rest → byte ∷ more ≡ 39 ∷ rest
begins_if true byte more rest is found = let same : more ≡ rest = cc in ap₂ (λ (n : ℕ) (l : List ℕ). n ∷ l) (grind arith) same
begins_if false byte more rest is found = absurd cc

begins_sign : (back rest : List ℕ) → sign_at 39 back ≡ Some rest → back ≡ 39 ∷ rest
begins_sign [] rest sign = absurd cc
begins_sign (byte ∷ more) rest sign = begins_if (byte == 39) byte more rest refl sign

nothing_left : (back : List ℕ) → Stops back → sign_at 39 back ≡ None → back ≡ []
nothing_left [] stops sign = refl
nothing_left (byte ∷ more) stops sign = absurd (found_not (byte == 39) more (eq-eqb byte 39 (quote_is byte stops)) sign)

-- what stands behind a run up to a quote
pub quote_run : (here bytes front back rest : List ℕ) (n : ℕ) → bytes ≡ here → n ≡ length (take_while no_quote bytes) → front ≡ take n here → back ≡ drop n here
    → sign_at 39 back ≡ Some rest → run_of no_quote here ≡ (front, 39 ∷ rest)
quote_run here bytes front back rest n same is is_front is_back sign =
    run_counted no_quote here bytes front back n same is is_front is_back ∙ ap (λ (b : List ℕ). (front, b)) (begins_sign back rest sign)

pub no_quote_run : (here bytes front back : List ℕ) (n : ℕ) → bytes ≡ here → n ≡ length (take_while no_quote bytes) → front ≡ take n here → back ≡ drop n here
    → sign_at 39 back ≡ None → run_of no_quote here ≡ (front, [])
no_quote_run here bytes front back n same is is_front is_back sign =
    let back_is : back ≡ drop (prefix_len no_quote here) here = is_back ∙ ap (λ (n : ℕ). drop n here) (counted no_quote here bytes n same is) in
    run_counted no_quote here bytes front back n same is is_front is_back ∙ ap (λ (b : List ℕ). (front, b)) (nothing_left back (subst Stops (sym back_is) (run_stops here)) sign)

after_x_if : (b c : Bool) (byte next : ℕ) (rest opened begun : List ℕ) → cond b (Some (next ∷ rest)) None ≡ Some opened → sign_at 39 opened ≡ Some begun → token_from start.X (byte ∷ next ∷ rest) ≡ blob_in (run_of no_quote begun)
after_x_if true c byte next rest opened begun one two =
    let same : next ∷ rest ≡ opened = cc in
    let quoted : next ∷ rest ≡ 39 ∷ begun = same ∙ begins_sign opened begun two in
    let rest_is : rest ≡ begun = cc in ap (λ l. blob_in (run_of no_quote l)) rest_is
after_x_if false c byte next rest opened begun one two = absurd cc

x_if : (b c d e f : Bool) → cond b start.Quote (cond c (cond d start.X start.Letter) (cond e start.Minus (cond f start.Digit start.Other))) ≡ start.X → d ≡ true
x_if true c d e f is = absurd cc
x_if false true true e f is = refl
x_if false true false e f is = absurd cc
x_if false false d true f is = absurd cc
x_if false false d false true is = absurd cc
x_if false false d false false is = absurd cc

x_parts : (byte : ℕ) (rest : List ℕ) → start_of (byte ∷ rest) ≡ start.X → ((byte == 120) ≡ true) × (begins_quote rest ≡ true)
x_parts byte rest is =
    and_parts (byte == 120) (begins_quote rest) (x_if (byte == quote) (is_letter byte) (byte == 120 && begins_quote rest) (byte == 45) (is_ascii_digit byte) is)

pub blob_token : (here opened begun : List ℕ) → start_of here ≡ start.X → sign_at 120 here ≡ Some opened → sign_at 39 opened ≡ Some begun → token_at here ≡ blob_in (run_of no_quote begun)
blob_token [] opened begun is one two = absurd cc
blob_token (byte ∷ []) opened begun is one two = let no : false ≡ true = (x_parts byte [] is).1 in absurd cc
blob_token (byte ∷ next ∷ rest) opened begun is one two = the_token (byte ∷ next ∷ rest) start.X is ∙ after_x_if (byte == 120) true byte next rest opened begun one two

pub no_blob_token : (here : List ℕ) → start_of here ≡ start.X → sign_at 120 here ≡ None → token_at here ≡ None
no_blob_token [] is one = absurd cc
no_blob_token (byte ∷ rest) is one = absurd (found_not (byte == 120) rest (x_parts byte rest is).0 one)

unquoted : (rest : List ℕ) → begins_quote rest ≡ true → sign_at 39 rest ≡ None → ⊥
unquoted [] is none = absurd cc
unquoted (byte ∷ more) is none = found_not (byte == 39) more is none

rest_same : (b : Bool) (rest opened : List ℕ) → cond b (Some rest) None ≡ Some opened → rest ≡ opened
rest_same true rest opened is = cc
rest_same false rest opened is = absurd cc

pub no_begun_token : (here opened : List ℕ) → start_of here ≡ start.X → sign_at 120 here ≡ Some opened → sign_at 39 opened ≡ None → token_at here ≡ None
no_begun_token [] opened is one two = absurd cc
no_begun_token (byte ∷ rest) opened is one two =
    let same = rest_same (byte == 120) rest opened one in
    absurd (unquoted opened (subst (λ l. begins_quote l ≡ true) same (x_parts byte rest is).1) two)

pub blob_found : (here opened begun digits found rest : List ℕ) → start_of here ≡ start.X → sign_at 120 here ≡ Some opened → sign_at 39 opened ≡ Some begun
    → run_of no_quote begun ≡ (digits, 39 ∷ rest) → decode_of digits ≡ Ok found → token_at here ≡ Some (Blob found, rest)
blob_found here opened begun digits found rest is one two run decoded =
    blob_token here opened begun is one two ∙ ap blob_in run ∙ ap (bytes_in rest) decoded

undecoded : {E : Type 0} (rest : List ℕ) (r : Result (List ℕ) E) → ((bytes : List ℕ) → r ≡ Ok bytes → ⊥) → bytes_in rest r ≡ None
undecoded rest (Ok bytes) none = absurd (none bytes refl)
undecoded rest (Err why) none = refl

pub blob_unpaired : (here opened begun digits rest : List ℕ) → start_of here ≡ start.X → sign_at 120 here ≡ Some opened → sign_at 39 opened ≡ Some begun
    → run_of no_quote begun ≡ (digits, 39 ∷ rest) → ((bytes : List ℕ) → decode_of digits ≡ Ok bytes → ⊥) → token_at here ≡ None
blob_unpaired here opened begun digits rest is one two run none =
    blob_token here opened begun is one two ∙ ap blob_in run ∙ undecoded rest (decode_of digits) none

pub blob_unclosed : (here opened begun front : List ℕ) → start_of here ≡ start.X → sign_at 120 here ≡ Some opened → sign_at 39 opened ≡ Some begun
    → run_of no_quote begun ≡ (front, []) → token_at here ≡ None
blob_unclosed here opened begun front is one two run = blob_token here opened begun is one two ∙ ap blob_in run
