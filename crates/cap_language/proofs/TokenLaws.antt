-- Tokens as a relation, and as they are scanned.
use Rattle.std.proofs.Common.{◌≡◌, ℕ, zero, suc, ◌+◌, ◌*◌, ◌-◌, ◌^◌, ◌<◌, ◌≤◌, Bool, true, false, cond, eqb, leb, List, [], ◌∷◌, ◌++◌, length, length-append, Option, Some, None, Result, Ok, Err, refl, sym, ap, ap₂, ◌∙◌, subst, arith, append_assoc, w64, FitsSigned, le_refl, le-leb}
use Rattle.std.specs.Prelude.{⊤}
use Rattle.std.specs.Char.{digit_value, is_ascii_digit}
use Rattle.std.specs.List.{list_all}
use Rattle.std.specs.Str.Parse.{digits_value_after}
use Rattle.std.proofs.lemmas.Bool.{and_from, and_parts, cond_both, eqb-true, leb-true, ne_eqb}
use Rattle.std.proofs.lemmas.Bool.Decides.{nat_tests}
use Rattle.std.proofs.lemmas.List.Sums.{list_all-from_AllPass}
use Rattle.hex.specs.Hex.{decode_of, is_hex_digit}
use Rattle.hex.proofs.HexLemmas.{decode_of-ok}
use Rattle.cap_filter.specs.Printed.{double_quotes, quote, quoted}
use Rattle.cap_filter.specs.Tokens.{is_word_byte}
use Rattle.cap_language.specs.Scanning.{Scanned, blob_in, bytes_in, digits_at, digits_on, no_quote, number_at, number_in, quoted_on, run_of, start_of, text_in, token_at, token_from, with_byte, word_in}
use Rattle.cap_language.specs.Tokens.{Begins, Blob, Integer, Text, Token, Word, begins, begins_blob, behind_blanks, is_blank, is_letter, is_quote, minus, signed}
use Rattle.cap_language.specs.declared.token.Start.{Start}
use Rattle.cap_language.specs.declared.token.Start.TheVariants as start

-- ---- spaces

blanks_if : (b : Bool) (line rest : List ℕ) → length (behind_blanks rest) ≤ length rest → suc (length rest) ≤ length line → length (cond b (behind_blanks rest) line) ≤ length line
blanks_if true line rest less more = omega arith
blanks_if false line rest less more = le_refl (length line)

pub blanks_shorter : (line : List ℕ) → length (behind_blanks line) ≤ length line
blanks_shorter [] = le_refl 0
blanks_shorter (byte ∷ rest) = blanks_if (is_blank byte) (byte ∷ rest) rest (blanks_shorter rest) (le_refl (length (byte ∷ rest)))

blanks_twice_by : (b : Bool) (byte : ℕ) (rest : List ℕ) → is_blank byte ≡ b → behind_blanks (behind_blanks rest) ≡ behind_blanks rest
    → behind_blanks (cond b (behind_blanks rest) (byte ∷ rest)) ≡ cond b (behind_blanks rest) (byte ∷ rest)
blanks_twice_by true byte rest e same = same
blanks_twice_by false byte rest e same = rw e refl

pub blanks_twice : (text : List ℕ) → behind_blanks (behind_blanks text) ≡ behind_blanks text
blanks_twice [] = refl
blanks_twice (byte ∷ rest) = blanks_twice_by (is_blank byte) byte rest refl (blanks_twice rest)

-- ---- runs

abbrev Parted : (ℕ → Bool) → List ℕ → List ℕ × List ℕ → Type 0
Parted p line parts = (line ≡ parts.0 ++ parts.1) × (list_all p parts.0 ≡ true) × (begins p parts.1 ≡ false)

parted_by : (p : ℕ → Bool) (b : Bool) (x : ℕ) (rest : List ℕ) (parts : List ℕ × List ℕ) → p x ≡ b → Parted p rest parts → Parted p (x ∷ rest) (cond b (x ∷ parts.0, parts.1) ([], x ∷ rest))
parted_by p true x rest parts e (same, all, none) = (ap (λ (l : List ℕ). x ∷ l) same, and_from (p x) (list_all p parts.0) e all, none)
parted_by p false x rest parts e h = (refl, refl, e)

run_parted : (p : ℕ → Bool) (line : List ℕ) → Parted p line (run_of p line)
run_parted p [] = (refl, refl, refl)
run_parted p (x ∷ rest) = parted_by p (p x) x rest (run_of p rest) refl (run_parted p rest)

run_is : (p : ℕ → Bool) (front back : List ℕ) → list_all p front ≡ true → begins p back ≡ false → run_of p (front ++ back) ≡ (front, back)
run_is p [] [] all none = refl
run_is p [] (y ∷ back) all none = rw none refl
run_is p (x ∷ front) back all none =
    let parts = and_parts (p x) (list_all p front) all in
    rw (parts.0, run_is p front back parts.1 none) refl

-- ---- how a text begins

abbrev Said : Start → Bool → Bool → Bool → Bool → Bool → Type 0
Said start.Quote b c d e f = b ≡ true
Said start.X b c d e f = d ≡ true
Said start.Letter b c d e f = (c ≡ true) × (d ≡ false)
Said start.Minus b c d e f = e ≡ true
Said start.Digit b c d e f = f ≡ true
Said start.Other b c d e f = ⊤

said : (b c d e f : Bool) → Said (cond b start.Quote (cond c (cond d start.X start.Letter) (cond e start.Minus (cond f start.Digit start.Other)))) b c d e f
said true c d e f = refl
said false true true e f = refl
said false true false e f = (refl, refl)
said false false d true f = refl
said false false d false true = refl
said false false d false false = tt

abbrev Starts : Start → ℕ → List ℕ → Type 0
Starts s byte rest = Said s (eqb byte quote) (is_letter byte) (begins_blob (byte ∷ rest)) (eqb byte 45) (is_ascii_digit byte)

starts_so : (byte : ℕ) (rest : List ℕ) (s : Start) → start_of (byte ∷ rest) ≡ s → Starts s byte rest
starts_so byte rest s is = subst (λ (s : Start). Starts s byte rest) is (said (eqb byte quote) (is_letter byte) (begins_blob (byte ∷ rest)) (eqb byte 45) (is_ascii_digit byte))

-- ---- quoted texts

-- behind a quote that begins the text, or behind one that may end it
abbrev before_it : Bool → List ℕ → List ℕ
before_it false line = line
before_it true line = quote ∷ line

abbrev Quoted : Bool → List ℕ → Option (List ℕ × List ℕ) → Type 0
Quoted b line None = ⊤
Quoted b line (Some (content, rest)) = (before_it b line ≡ double_quotes content ++ quote ∷ rest) × (begins is_quote rest ≡ false)

closed : (byte : ℕ) (line : List ℕ) (found : Option (List ℕ × List ℕ)) → byte ≡ quote → Quoted true line found → Quoted false (byte ∷ line) found
closed byte line None e h = tt
closed byte line (Some (content, rest)) e (same, none) = (ap (λ (b : ℕ). b ∷ line) e ∙ same, none)

reopened : (byte : ℕ) (line : List ℕ) (found : Option (List ℕ × List ℕ)) → byte ≡ quote → Quoted false line found → Quoted true (byte ∷ line) (with_byte quote found)
reopened byte line None e h = tt
reopened byte line (Some (content, rest)) e (same, none) =
    (ap (λ (b : ℕ). quote ∷ b ∷ line) e ∙ ap (λ (l : List ℕ). quote ∷ quote ∷ l) same, none)

other_byte : (byte : ℕ) (line : List ℕ) (found : Option (List ℕ × List ℕ)) → is_quote byte ≡ false → Quoted false line found → Quoted false (byte ∷ line) (with_byte byte found)
other_byte byte line None e h = tt
other_byte byte line (Some (content, rest)) e (same, none) = rw e (ap (λ (l : List ℕ). byte ∷ l) same, none)

quoted_found : (b : Bool) (line : List ℕ) → Quoted b line (quoted_on b line)
quoted_found false [] = tt
quoted_found true [] = (refl, refl)
quoted_found false (byte ∷ line) =
    cond_both (is_quote byte) (quoted_on true line) (with_byte byte (quoted_on false line)) (Quoted false (byte ∷ line))
    (λ e. closed byte line (quoted_on true line) (eqb-true byte quote e) (quoted_found true line))
    (λ e. other_byte byte line (quoted_on false line) e (quoted_found false line))
quoted_found true (byte ∷ line) =
    cond_both (is_quote byte) (with_byte quote (quoted_on false line)) (Some ([], byte ∷ line)) (Quoted true (byte ∷ line))
    (λ e. reopened byte line (quoted_on false line) (eqb-true byte quote e) (quoted_found false line)) (λ e. (refl, e))

quoted_is : (content rest : List ℕ) → begins is_quote rest ≡ false → quoted_on false (double_quotes content ++ quote ∷ rest) ≡ Some (content, rest)
quoted_is [] [] none = refl
quoted_is [] (next ∷ rest) none = rw none refl
quoted_is (c ∷ content) rest none = by (eqb c quote) refl (quoted_is content rest none)
  where
    by : (b : Bool) → eqb c quote ≡ b → quoted_on false (double_quotes content ++ quote ∷ rest) ≡ Some (content, rest) → quoted_on false (cond b (quote ∷ quote ∷ double_quotes content) (c ∷ double_quotes content) ++ quote ∷ rest) ≡ Some (c ∷ content, rest)
    by true e more = ap (with_byte quote) more ∙ ap (λ (b : ℕ). Some (b ∷ content, rest)) (sym (eqb-true c quote e))
    by false e more = rw e (ap (with_byte c) more)

-- ---- integers

digit_is : (byte : ℕ) → is_ascii_digit byte ≡ true → digit_value byte ≡ byte - 48
digit_is byte e = grind (arith, nat_tests)

le_after : (n : ℕ) (digits : List ℕ) → n ≤ digits_value_after 10 n digits
le_after n [] = le_refl n
le_after n (d ∷ digits) = omega (arith, le_after (n * 10 + digit_value d) digits)

abbrev Digits : ℕ → List ℕ → Option (ℕ × List ℕ) → Type 0
Digits n line None = ⊤
Digits n line (Some (m, rest)) =
    (digits : List ℕ) × (line ≡ digits ++ rest) × (list_all is_ascii_digit digits ≡ true) × (digits_value_after 10 n digits ≡ m) × (begins is_ascii_digit rest ≡ false) × (m ≤ 2 ^ 63)

digit_more : (n byte : ℕ) (line : List ℕ) (found : Option (ℕ × List ℕ)) → is_ascii_digit byte ≡ true → Digits (n * 10 + (byte - 48)) line found → Digits n (byte ∷ line) found
digit_more n byte line None e h = tt
digit_more n byte line (Some (m, rest)) e (digits, same, all, value, none, few) =
    (byte ∷ digits, ap (λ (l : List ℕ). byte ∷ l) same, and_from (is_ascii_digit byte) (list_all is_ascii_digit digits) e all, ap (λ (v : ℕ). digits_value_after 10 (n * 10 + v) digits) (digit_is byte e) ∙ value, none, few)

digits_found : (n : ℕ) (line : List ℕ) → n ≤ 2 ^ 63 → Digits n line (digits_on n line)
digits_found n [] few = ([], refl, refl, refl, refl, few)
digits_found n (byte ∷ line) few =
    let m = n * 10 + (byte - 48) in
    cond_both (is_ascii_digit byte) (cond (leb m (2 ^ 63)) (digits_on m line) None) (Some (n, byte ∷ line)) (Digits n (byte ∷ line))
    (λ e. cond_both (leb m (2 ^ 63)) (digits_on m line) None (Digits n (byte ∷ line))
    (λ less. digit_more n byte line (digits_on m line) e (digits_found m line (leb-true m (2 ^ 63) less))) (λ more. tt))
    (λ e. ([], refl, refl, refl, e, few))

digits_are : (n : ℕ) (digits rest : List ℕ) → list_all is_ascii_digit digits ≡ true → begins is_ascii_digit rest ≡ false → digits_value_after 10 n digits ≤ 2 ^ 63 → digits_on n (digits ++ rest) ≡ Some (digits_value_after 10 n digits, rest)
digits_are n [] [] all none few = refl
digits_are n [] (byte ∷ rest) all none few = rw none refl
digits_are n (d ∷ digits) rest all none few =
    let parts = and_parts (is_ascii_digit d) (list_all is_ascii_digit digits) all in
    let value = digit_is d parts.0 in
    let less : n * 10 + (d - 48) ≤ 2 ^ 63 = omega (arith, value, few, le_after (n * 10 + digit_value d) digits) in
    rw (parts.0, le-leb (n * 10 + (d - 48)) (2 ^ 63) less)
    (ap (λ (v : ℕ). digits_on (n * 10 + v) (digits ++ rest)) (sym value) ∙ digits_are (n * 10 + digit_value d) digits rest parts.1 none few)

numbers_left : (digits rest : List ℕ) (byte : ℕ) (line : List ℕ) → byte ∷ line ≡ digits ++ rest → is_ascii_digit byte ≡ true → begins is_ascii_digit rest ≡ false → 0 < length digits
numbers_left [] rest byte line same digit none =
    let bad : is_ascii_digit byte ≡ false = subst (λ (l : List ℕ). begins is_ascii_digit l ≡ false) (sym same) none in absurd cc
numbers_left (d ∷ digits) rest byte line same digit none = omega arith

least : (n : ℕ) → n ≤ 2 ^ 63 → FitsSigned w64 (signed true n)
least zero few = record { sfits = omega arith }
least (suc n) few = record { sfits = omega (arith, few) }

few_of : (n : ℕ) → FitsSigned w64 (signed true n) → n ≤ 2 ^ 63
few_of zero fits = omega arith
few_of (suc n) fits = let few = fits.sfits in omega (arith, few)

-- ---- what is found

abbrev pub Found : List ℕ → Scanned → Type 0
Found here None = ⊤
Found here (Some (token, rest)) = Begins token here rest

number_found : (negative : Bool) (here line : List ℕ) (found : Option (ℕ × List ℕ)) → here ≡ minus negative line → begins is_ascii_digit line ≡ true → Digits 0 line found → Found here (number_in negative found)
number_found negative here line None at begun h = tt
number_found negative here [] (Some (n, rest)) at begun h = absurd cc
number_found true here (byte ∷ line) (Some (n, rest)) at begun (digits, same, all, value, none, few) =
    (digits, at ∙ ap (λ (l : List ℕ). 45 ∷ l) same, numbers_left digits rest byte line same begun none, all, value, none, least n few)
number_found false here (byte ∷ line) (Some (n, rest)) at begun (digits, same, all, value, none, few) =
    cond_both (eqb n (2 ^ 63)) None (Some (Integer false n, rest)) (Found here) (λ e. tt)
    (λ e. (digits, at ∙ same, numbers_left digits rest byte line same begun none, all, value, none, record { sfits = grind (arith, nat_tests) }))

number_at_found : (negative : Bool) (here line : List ℕ) → here ≡ minus negative line → Found here (number_at negative line)
number_at_found negative here [] at = tt
number_at_found negative here (byte ∷ line) at =
    cond_both (is_ascii_digit byte) (digits_on 0 (byte ∷ line)) None (λ o. Found here (number_in negative o))
    (λ e. number_found negative here (byte ∷ line) (digits_on 0 (byte ∷ line)) at e (digits_found 0 (byte ∷ line) (omega arith))) (λ e. tt)

text_found : (byte : ℕ) (line : List ℕ) → byte ≡ quote → (found : Option (List ℕ × List ℕ)) → Quoted false line found → Found (byte ∷ line) (text_in found)
text_found byte line e None h = tt
text_found byte line e (Some (content, rest)) (same, none) =
    (ap₂ (λ (b : ℕ) (l : List ℕ). b ∷ l) e (same ∙ sym (append_assoc (double_quotes content) (quote ∷ []) rest)), none)

bytes_found : {E : Type 0} (line digits rest : List ℕ) (decoded : Result (List ℕ) E) → line ≡ 120 ∷ quote ∷ digits ++ quote ∷ rest → ((bytes : List ℕ) → decoded ≡ Ok bytes → decode_of digits ≡ Ok bytes) → Found line (bytes_in rest decoded)
bytes_found line digits rest (Ok bytes) same decodes = (digits, same, decodes bytes refl)
bytes_found line digits rest (Err why) same decodes = tt

is_not_quote : (byte : ℕ) → no_quote byte ≡ false → byte ≡ quote
is_not_quote byte e = grind (arith, nat_tests)

blob_by : (x opening : ℕ) (line : List ℕ) → eqb x 120 ≡ true → is_quote opening ≡ true → (parts : List ℕ × List ℕ) → Parted no_quote line parts → Found (x ∷ opening ∷ line) (blob_in parts)
blob_by x opening line e f (digits, []) h = tt
blob_by x opening line e f (digits, byte ∷ rest) (same, all, none) =
    bytes_found (x ∷ opening ∷ line) digits rest (decode_of digits)
    (ap₂ (λ (b c : ℕ). b ∷ c ∷ line) (eqb-true x 120 e) (eqb-true opening quote f) ∙ ap (λ (l : List ℕ). 120 ∷ quote ∷ l) same ∙ ap (λ (b : ℕ). 120 ∷ quote ∷ digits ++ b ∷ rest) (is_not_quote byte none))
    (λ bytes decoded. decoded)

word_found : (line : List ℕ) → begins is_letter line ≡ true → begins_blob line ≡ false → (parts : List ℕ × List ℕ) → Parted is_word_byte line parts → Found line (word_in parts)
word_found line letter none (w, rest) (same, all, ends) = (same, letter, none, all, ends)

found_from : (s : Start) (byte : ℕ) (line : List ℕ) → Starts s byte line → Found (byte ∷ line) (token_from s (byte ∷ line))
found_from start.Quote byte line is = text_found byte line (eqb-true byte quote is) (quoted_on false line) (quoted_found false line)
found_from start.X byte [] is = tt
found_from start.X byte (next ∷ line) is =
    let parts = and_parts (eqb byte 120) (is_quote next) is in
    blob_by byte next line parts.0 parts.1 (run_of no_quote line) (run_parted no_quote line)
found_from start.Letter byte line is = word_found (byte ∷ line) is.0 is.1 (run_of is_word_byte (byte ∷ line)) (run_parted is_word_byte (byte ∷ line))
found_from start.Minus byte line is = number_at_found true (byte ∷ line) line (ap (λ (b : ℕ). b ∷ line) (eqb-true byte 45 is))
found_from start.Digit byte line is = number_at_found false (byte ∷ line) (byte ∷ line) refl
found_from start.Other byte line is = tt

pub token_found : (here : List ℕ) → Found here (token_at here)
unfolding token_at
token_found [] = tt
token_found (byte ∷ line) = found_from (start_of (byte ∷ line)) byte line (starts_so byte line (start_of (byte ∷ line)) refl)

-- a token that is scanned is there
pub scanned_begins : (token : Token) (here rest : List ℕ) → token_at here ≡ Some (token, rest) → Begins token here rest
scanned_begins token here rest is = subst (λ (s : Scanned). Found here s) is (token_found here)

-- ---- what is there is found

from_start : (s : Start) (here : List ℕ) → start_of here ≡ s → token_at here ≡ token_from s here
unfolding token_at
from_start s here is = ap (λ (s : Start). token_from s here) is

letter_no_quote : (byte : ℕ) → is_letter byte ≡ true → eqb byte quote ≡ false
letter_no_quote byte e = grind (arith, nat_tests)

digit_no_quote : (byte : ℕ) → is_ascii_digit byte ≡ true → eqb byte quote ≡ false
digit_no_quote byte e = grind (arith, nat_tests)

digit_no_letter : (byte : ℕ) → is_ascii_digit byte ≡ true → is_letter byte ≡ false
digit_no_letter byte e = grind (arith, nat_tests)

digit_no_minus : (byte : ℕ) → is_ascii_digit byte ≡ true → eqb byte 45 ≡ false
digit_no_minus byte e = grind (arith, nat_tests)

letter_starts : (byte : ℕ) (line : List ℕ) → is_letter byte ≡ true → begins_blob (byte ∷ line) ≡ false → start_of (byte ∷ line) ≡ start.Letter
letter_starts byte line letter none = rw (letter_no_quote byte letter, letter, none) refl

digit_starts : (byte : ℕ) (line : List ℕ) → is_ascii_digit byte ≡ true → start_of (byte ∷ line) ≡ start.Digit
digit_starts byte line digit = rw (digit_no_quote byte digit, digit_no_letter byte digit, digit_no_minus byte digit, digit) refl

word_is : (w line rest : List ℕ) → Begins (Word w) line rest → token_at line ≡ Some (Word w, rest)
word_is w [] rest (same, letter, none, all, ends) = absurd cc
word_is w (byte ∷ line) rest (same, letter, none, all, ends) =
    from_start start.Letter (byte ∷ line) (letter_starts byte line letter none)
    ∙ ap (λ (l : List ℕ). word_in (run_of is_word_byte l)) same ∙ ap word_in (run_is is_word_byte w rest all ends)

digits_first : (digits rest : List ℕ) → 0 < length digits → list_all is_ascii_digit digits ≡ true → digits_at (digits ++ rest) ≡ digits_on 0 (digits ++ rest)
digits_first [] rest some all = absurd (omega arith)
digits_first (d ∷ digits) rest some all = rw (and_parts (is_ascii_digit d) (list_all is_ascii_digit digits) all).0 refl

digits_start : (digits rest : List ℕ) → 0 < length digits → list_all is_ascii_digit digits ≡ true → start_of (digits ++ rest) ≡ start.Digit
digits_start [] rest some all = absurd (omega arith)
digits_start (d ∷ digits) rest some all = digit_starts d (digits ++ rest) (and_parts (is_ascii_digit d) (list_all is_ascii_digit digits) all).0

not_most : (n : ℕ) (rest : List ℕ) → n < 2 ^ 63 → number_in false (Some (n, rest)) ≡ Some (Integer false n, rest)
not_most n rest few = rw (ne_eqb n (2 ^ 63) (λ e. omega (arith, e, few))) refl

integer_is : (negative : Bool) (n : ℕ) (line rest : List ℕ) → Begins (Integer negative n) line rest → token_at line ≡ Some (Integer negative n, rest)
integer_is true n line rest (digits, same, some, all, value, none, fits) =
    ap token_at same ∙ from_start start.Minus (45 ∷ (digits ++ rest)) refl
    ∙ ap (number_in true) (digits_first digits rest some all ∙ digits_are 0 digits rest all none (omega (arith, value, few_of n fits)))
    ∙ ap (λ (m : ℕ). Some (Integer true m, rest)) value
integer_is false n line rest (digits, same, some, all, value, none, fits) =
    let few = fits.sfits in
    ap token_at same ∙ from_start start.Digit (digits ++ rest) (digits_start digits rest some all)
    ∙ ap (number_in false) (digits_first digits rest some all ∙ digits_are 0 digits rest all none (omega (arith, value, few)) ∙ ap (λ (m : ℕ). Some (m, rest)) value)
    ∙ not_most n rest few

text_is : (t line rest : List ℕ) → Begins (Text t) line rest → token_at line ≡ Some (Text t, rest)
text_is t line rest (same, none) =
    ap token_at same ∙ from_start start.Quote (quote ∷ ((double_quotes t ++ quote ∷ []) ++ rest)) refl
    ∙ ap (λ (l : List ℕ). text_in (quoted_on false l)) (append_assoc (double_quotes t) (quote ∷ []) rest) ∙ ap text_in (quoted_is t rest none)

hex_unlike : (c : ℕ) → is_hex_digit c ≡ true → eqb c quote ≡ false
hex_unlike c hex = ne_eqb c quote (λ e. let bad : false ≡ true = subst (λ (d : ℕ). is_hex_digit d ≡ true) e hex in absurd cc)

hex_not_quote : (digits : List ℕ) → list_all is_hex_digit digits ≡ true → list_all no_quote digits ≡ true
hex_not_quote [] all = refl
hex_not_quote (c ∷ digits) all =
    let parts = and_parts (is_hex_digit c) (list_all is_hex_digit digits) all in
    rw (hex_unlike c parts.0, hex_not_quote digits parts.1) refl

blob_is : (bytes line rest : List ℕ) → Begins (Blob bytes) line rest → token_at line ≡ Some (Blob bytes, rest)
blob_is bytes line rest (digits, same, decoded) =
    let hex = hex_not_quote digits (list_all-from_AllPass is_hex_digit digits (decode_of-ok digits bytes decoded).1) in
    ap token_at same ∙ from_start start.X (120 ∷ quote ∷ (digits ++ quote ∷ rest)) refl ∙ ap blob_in (run_is no_quote digits (quote ∷ rest) hex refl) ∙ ap (bytes_in rest) decoded

-- a token that is there is scanned
pub begins_scanned : (token : Token) (here rest : List ℕ) → Begins token here rest → token_at here ≡ Some (token, rest)
begins_scanned (Word w) here rest h = word_is w here rest h
begins_scanned (Integer negative n) here rest h = integer_is negative n here rest h
begins_scanned (Text t) here rest h = text_is t here rest h
begins_scanned (Blob bytes) here rest h = blob_is bytes here rest h

-- ---- a token has a byte

letter_word : (byte : ℕ) → is_letter byte ≡ true → is_word_byte byte ≡ true
letter_word byte e = grind (arith, nat_tests)

token_some : (t : Token) (here rest : List ℕ) → Begins t here rest → (p : List ℕ) × (here ≡ p ++ rest) × (0 < length p)
token_some (Word []) [] rest (same, letter, none, all, ends) = absurd cc
token_some (Word []) (byte ∷ here) rest (same, letter, none, all, ends) =
    let no : is_word_byte byte ≡ false = subst (λ (l : List ℕ). begins is_word_byte l ≡ false) (sym same) ends in
    let yes : is_word_byte byte ≡ true = letter_word byte letter in
    absurd cc
token_some (Word (c ∷ w)) here rest (same, letter, none, all, ends) = (c ∷ w, same, omega arith)
token_some (Integer true n) here rest (digits, same, some, all, value, none, fits_it) = (45 ∷ digits, same, omega arith)
token_some (Integer false n) here rest (digits, same, some, all, value, none, fits_it) = (digits, same, some)
token_some (Text t) here rest (same, none) = (quoted t, same, omega arith)
token_some (Blob bytes) here rest (digits, same, decoded) =
    (120 ∷ quote ∷ digits ++ quote ∷ [], same ∙ ap (λ (l : List ℕ). 120 ∷ quote ∷ l) (sym (append_assoc digits (quote ∷ []) rest)), omega arith)

pub found_some : (t : Token) (here rest : List ℕ) → token_at here ≡ Some (t, rest) → (p : List ℕ) × (here ≡ p ++ rest) × (0 < length p)
found_some t here rest e = token_some t here rest (scanned_begins t here rest e)

pub token_shorter : (line : List ℕ) (token : Token) (rest : List ℕ) → token_at line ≡ Some (token, rest) → length rest < length line
token_shorter line token rest is =
    let (p, same, some) = found_some token line rest is in
    let long = ap length same in
    omega (arith, long, some, length-append p rest)
