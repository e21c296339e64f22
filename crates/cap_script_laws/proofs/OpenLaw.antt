-- What stands before the token of a fault of syntax begins a line.
use Rattle.std.proofs.Common.{◌≡◌, ◌⊎◌, inl, inr, ℕ, ◌-◌, ◌≤◌, Bool, true, false, cond, eqb, leb, List, [], ◌∷◌, ◌++◌, length, length-append, length-drop, take, drop, take-append-drop, Option, Some, None, Ok, Err, codes, refl, sym, ap, ◌∙◌, subst, arith, append_assoc, append-nil}
use Rattle.std.specs.Result.{result_err, result_map_both}
use Rattle.std.proofs.lemmas.Bool.{eqb-true}
use Rattle.std.proofs.lemmas.List.{append_cancel_right}
use Rattle.cap_value.specs.declared.refusal.Refusal.TheVariants.{TooMany}
use Rattle.cap_filter.specs.Reading.{a_filter, filter_of, keyword_of, refusal, run}
use Rattle.cap_filter.specs.Rule.{Rule, all}
use Rattle.cap_filter.specs.Tokens.{tokens_from, tokens_of}
use Rattle.cap_core.specs.declared.command.Command.{Command}
use Rattle.cap_core.specs.declared.command.Command.TheVariants.{NewSession}
use Rattle.cap_language.specs.Forms.{a_number, a_word, at_end, one_of, worker, worker_behind, worker_number}
use Rattle.cap_language.specs.Grammar.{Grammar, Read, and_then, by_end, by_sign, done, follows, misfit, on_sign, read, read_at, taken, token_then, wanted_in}
use Rattle.cap_language.specs.Scanning.{Scanned, token_at}
use Rattle.cap_language.specs.Tokens.{Token, Word, begins, behind_blanks}
use Rattle.cap_language.specs.declared.fault.LineFault.TheVariants.{Limit, Syntax}
use Rattle.cap_language.proofs.FormLaws.{goes_64}
use Rattle.cap_language.proofs.MovedLaws.{blanks_of, longer_end, same_end}
use Rattle.cap_language.proofs.PlaceLaws.{by_test, local, made, none_before, refused_so, same_left, same_rest, same_value}
use Rattle.cap_language.proofs.TokenLaws.{blanks_twice, found_some}
use Rattle.cap_script_laws.specs.FaultPlace.{BeginsLine, HasSyntaxFault, ReachesFilter}
use Rattle.cap_script.specs.Language.{Ended as Whole_line, Filtered, Opening, command, commands, ending, opening}
use Rattle.cap_script.specs.LineFaults.{filter_read, line_fault, line_of_text, with_filter}
use Rattle.cap_script.specs.declared.command.Filtering.{Filtering}
use Rattle.cap_script.specs.declared.command.Spelled.{Spelled}
use Rattle.cap_script.specs.declared.command.Spelled.TheVariants.{Filter, Whole}
use Rattle.cap_script.specs.declared.line.Show.{Show}
use Rattle.cap_script.specs.declared.line.Show.TheVariants.{Plain}
use Rattle.cap_script.proofs.FilterSize.{mapped_ok}
use Rattle.cap_script_laws.proofs.OpenForms.{Closing, closing_tail, filter_text, open_commands}
use Rattle.cap_script_laws.proofs.PlaceLaw.{fault_in_opening, fault_of}
use Rattle.cap_language.proofs.OpenGrammars.{sample_fits, word_token}
use Rattle.cap_language.proofs.OpenLaws.{Behind, Ended, Open, Reached, Sample, Tail, blanks_at, finish_of, found_tail, goes_with, only_blanks, open_next, tail_sign, weaker_sample}

-- ---- the text of a filter

-- spaces before a filter do not matter
tokens_behind : (b : Bool) (byte : ℕ) (line : List ℕ) → eqb byte 32 ≡ b → tokens_of line ≡ tokens_of (behind_blanks line) → tokens_of (byte ∷ line) ≡ tokens_of (cond b (behind_blanks line) (byte ∷ line))
unfolding tokens_from
tokens_behind true byte line is same = rw is same
tokens_behind false byte line is same = refl

tokens_blank : (line : List ℕ) → tokens_of line ≡ tokens_of (behind_blanks line)
tokens_blank [] = refl
tokens_blank (byte ∷ line) = tokens_behind (eqb byte 32) byte line refl (tokens_blank line)

filter_same : (a b : List ℕ) (r : Rule) → tokens_of a ≡ tokens_of b → filter_of a ≡ Ok r → filter_of b ≡ Ok r
unfolding filter_of
filter_same a b r same e =
    let found = mapped_ok (refusal a) (run (a_filter []) 1000 (tokens_of a)) r e in
    ap (λ tokens. result_map_both (λ r. r) (refusal b) (run (a_filter []) 1000 tokens)) (sym same) ∙ ap (result_map_both (λ r. r) (refusal b)) found

all_read : filter_of filter_text ≡ Ok all
unfolding filter_of run keyword_of tokens_from
all_read = refl

filter_behind : (rest : List ℕ) → behind_blanks rest ≡ behind_blanks filter_text → filter_of rest ≡ Ok all
filter_behind rest same = filter_same filter_text rest all (tokens_blank filter_text ∙ ap tokens_of (sym same) ∙ sym (tokens_blank rest)) all_read

-- ---- workers

abbrev number : List ℕ → Read (Option ℕ)
number = read worker_number

abbrev at_sign : List ℕ → Read (Option ℕ)
at_sign = by_sign 64 number (λ here. Ok (None, here))

abbrev spaced_number : ℕ → List ℕ → Read (Option ℕ)
spaced_number n = by_sign 32 (λ rest. Ok (Some n, rest)) (λ here. Err (misfit here))

-- what is made of a number, and of the space behind it
number_parts : (b : Bool) (n : ℕ) (w : Option ℕ) (here r rest : List ℕ) → read_at true (worker_behind b n) here r ≡ Ok (w, rest) → (b ≡ true) × (w ≡ Some n) × (r ≡ 32 ∷ rest)
number_parts false n w here r rest e = absurd cc
number_parts true n w here [] rest e = absurd cc
number_parts true n w here (byte ∷ r) rest e =
    by_test (eqb byte 32) r (λ rest. made (Some n) rest) (Err (misfit (byte ∷ r))) (λ o. o ≡ Ok (w, rest) → (true ≡ true) × (w ≡ Some n) × (byte ∷ r ≡ 32 ∷ rest))
    (λ is f. (refl, sym (same_value (Some n) w r rest f), ap (λ (c : ℕ). c ∷ r) (eqb-true byte 32 is) ∙ ap (λ (l : List ℕ). 32 ∷ l) (same_rest (Some n) w r rest f))) (λ is f. absurd cc) e

number_again : (n : ℕ) (here rest : List ℕ) (t : Token) → token_at here ≡ Some (t, 32 ∷ rest) → a_number t ≡ Some n → leb n 63 ≡ true → number here ≡ Ok (Some n, rest)
number_again n here rest t is fits few =
    ap (λ (found : Scanned). token_then here (wanted_in a_number found) (λ n behind. read_at true (worker_behind (leb n 63) n) here behind)) is
    ∙ ap (λ (o : Option ℕ). token_then here (taken o (32 ∷ rest)) (λ n behind. read_at true (worker_behind (leb n 63) n) here behind)) fits
    ∙ ap (λ (b : Bool). read_at true (worker_behind b n) here (32 ∷ rest)) few

number_found : (front q behind line r : List ℕ) (w : Option ℕ) (t : Token) (o : Option ℕ) → a_number t ≡ o → Tail line → token_at (front ++ behind) ≡ Some (t, r) → token_then (front ++ behind) (taken o r) (λ n rest. read_at true (worker_behind (leb n 63) n) (front ++ behind) rest) ≡ Ok (w, q ++ behind)
    → number (front ++ line) ≡ Ok (w, q ++ line)
number_found front q behind line r w t None fits tail is e = absurd cc
number_found front q behind line r w t (Some n) fits tail is e =
    let (few, w_is, end) = number_parts (leb n 63) n w (front ++ behind) r (q ++ behind) e in
    let (p, whole, some) = found_some t (front ++ behind) r is in
    let long = ap length whole in
    let tail_long = ap length end in
    let moved = found_tail t front (32 ∷ q) behind line (omega (arith, long, tail_long, some, length-append front behind, length-append p r, length-append q behind)) tail (is ∙ ap (λ (l : List ℕ). Some (t, l)) end) in
    number_again n (front ++ line) (q ++ line) t moved fits few ∙ ap (λ (v : Option ℕ). made v (q ++ line)) (sym w_is)

number_moved : (front q behind line : List ℕ) (w : Option ℕ) (found : Scanned) → Tail line → token_at (front ++ behind) ≡ found → token_then (front ++ behind) (wanted_in a_number found) (λ n rest. read_at true (worker_behind (leb n 63) n) (front ++ behind) rest) ≡ Ok (w, q ++ behind) → number (front ++ line) ≡ Ok (w, q ++ line)
number_moved front q behind line w None tail is e = absurd cc
number_moved front q behind line w (Some (t, r)) tail is e = number_found front q behind line r w t (a_number t) refl tail is e

no_at_sign : (here : List ℕ) → begins goes_with here ≡ false → at_sign here ≡ Ok (None, here)
no_at_sign [] e = refl
no_at_sign (byte ∷ here) e = rw (goes_64 byte e) refl

sign_moved : (c : ℕ) (p q behind line : List ℕ) (w : Option ℕ) → Tail line → at_sign (c ∷ p ++ behind) ≡ Ok (w, q ++ behind) → at_sign (c ∷ p ++ line) ≡ Ok (w, q ++ line)
sign_moved c p q behind line w tail e =
    by_test (eqb c 64) (p ++ behind) number (made None (c ∷ p ++ behind)) (λ o. o ≡ Ok (w, q ++ behind) → at_sign (c ∷ p ++ line) ≡ Ok (w, q ++ line))
    (λ is f. rw is (number_moved p q behind line w (token_at (p ++ behind)) tail refl f))
    (λ is f. rw is (ap (λ (l : List ℕ). made None (l ++ line)) (append_cancel_right (c ∷ p) q behind (same_rest None w (c ∷ p ++ behind) (q ++ behind) f)) ∙ ap (λ (v : Option ℕ). made v (q ++ line)) (same_value None w (c ∷ p ++ behind) (q ++ behind) f))) e

idle_worker : (behind : List ℕ) (w : Option ℕ) → at_sign behind ≡ Ok (w, behind) → None ≡ w
idle_worker [] w e = same_value None w [] [] e
idle_worker (byte ∷ behind) w e =
    by_test (eqb byte 64) behind number (made None (byte ∷ behind)) (λ o. o ≡ Ok (w, byte ∷ behind) → None ≡ w)
    (λ is f. let inside = local worker_number in let (front, same) = inside.ends behind (byte ∷ behind) w f in let long = ap length same in absurd (omega (arith, long, length-append front (byte ∷ behind))))
    (λ is f. same_value None w (byte ∷ behind) (byte ∷ behind) f) e

worker_by : (front q behind line before : List ℕ) (w : Option ℕ) → Tail line → behind_blanks (front ++ behind) ≡ (before ++ q) ++ behind → at_sign (behind_blanks (front ++ behind)) ≡ Ok (w, q ++ behind) → Reached w (read worker (front ++ line)) (q ++ line)
unfolding worker
worker_by front [] behind line [] w tail at e =
    (behind_blanks line, ap at_sign (only_blanks front behind line at) ∙ no_at_sign (behind_blanks line) (tail_sign line tail) ∙ ap (λ (v : Option ℕ). made v (behind_blanks line)) (idle_worker behind w (sym (ap at_sign at) ∙ e)), blanks_twice line)
worker_by front (c ∷ q) behind line [] w tail at e =
    (c ∷ q ++ line, ap at_sign (blanks_at front behind line c q at) ∙ sign_moved c q (c ∷ q) behind line w tail (sym (ap at_sign at) ∙ e), refl)
worker_by front q behind line (c ∷ before) w tail at e =
    (q ++ line, ap at_sign (blanks_at front behind line c (before ++ q) at) ∙ sign_moved c (before ++ q) q behind line w tail (sym (ap at_sign at) ∙ e), refl)

worker_moved : (front q behind line : List ℕ) (w : Option ℕ) → Tail line → read worker (front ++ behind) ≡ Ok (w, q ++ behind) → Reached w (read worker (front ++ line)) (q ++ line)
unfolding worker
worker_moved front q behind line w tail e =
    let inside = local (on_sign 64 worker_number (done None)) in
    let (before, at) = inside.ends (behind_blanks (front ++ behind)) (q ++ behind) w e in
    worker_by front q behind line before w tail (at ∙ sym (append_assoc before q behind)) e

-- ---- a worker that does not fit

abbrev session_text : List ℕ
session_text = 32 ∷ codes "session"

session_tail : Tail session_text
session_tail = (refl, refl)

zero_first : number (48 ∷ session_text) ≡ Ok (Some 0, codes "session")
unfolding token_at
zero_first = refl

-- there is a text with which a number and its space are read, and then a command
abbrev NumberDone : List ℕ → Type 0
NumberDone front = (more : List ℕ) × (w : Option ℕ) × (number (front ++ more) ≡ Ok (w, codes "session"))

from_nothing : (front : List ℕ) → front ≡ [] → NumberDone front
from_nothing front empty = (48 ∷ session_text, Some 0, ap (λ (l : List ℕ). number (l ++ 48 ∷ session_text)) empty ∙ zero_first)

space_missing : (n : ℕ) (here r : List ℕ) (left : ℕ) → read_at true (worker_behind true n) here r ≡ Err (Syntax left) → length r ≡ left
space_missing n here [] left e = same_left (Option ℕ) 0 left e
space_missing n here (byte ∷ r) left e =
    by_test (eqb byte 32) r (λ rest. made (Some n) rest) (Err (misfit (byte ∷ r))) (λ o. o ≡ Err (Syntax left) → length (byte ∷ r) ≡ left)
    (λ is f. absurd cc) (λ is f. same_left (Option ℕ) (length (byte ∷ r)) left f) e

number_by : (front behind r : List ℕ) (t : Token) (n : ℕ) (b : Bool) → a_number t ≡ Some n → leb n 63 ≡ b → token_at (front ++ behind) ≡ Some (t, r) → read_at true (worker_behind b n) (front ++ behind) r ≡ Err (Syntax (length behind)) → NumberDone front
number_by front behind r t n false fits few is e = from_nothing front (none_before front behind (same_left (Option ℕ) (length (front ++ behind)) (length behind) e))
number_by front behind r t n true fits few is e =
    let long = space_missing n (front ++ behind) r (length behind) e in
    let (p, whole, some) = found_some t (front ++ behind) r is in
    let (q, at) = longer_end front p behind r whole (omega (arith, long)) in
    let empty : q ≡ [] = same_end q behind r at long in
    let whole_long = ap length whole in
    let moved = found_tail t front [] behind session_text (omega (arith, whole_long, long, some, length-append front behind, length-append p r)) session_tail (is ∙ ap (λ (l : List ℕ). Some (t, l)) (at ∙ ap (λ (l : List ℕ). l ++ behind) empty)) in
    (session_text, Some n, number_again n (front ++ session_text) (codes "session") t moved fits few)

number_taken : (front behind r : List ℕ) (t : Token) (o : Option ℕ) → a_number t ≡ o → token_at (front ++ behind) ≡ Some (t, r) → token_then (front ++ behind) (taken o r) (λ n rest. read_at true (worker_behind (leb n 63) n) (front ++ behind) rest) ≡ Err (Syntax (length behind)) → NumberDone front
number_taken front behind r t None fits is e = from_nothing front (none_before front behind (same_left (Option ℕ) (length (front ++ behind)) (length behind) e))
number_taken front behind r t (Some n) fits is e = number_by front behind r t n (leb n 63) fits refl is e

number_done : (front behind : List ℕ) (found : Scanned) → token_at (front ++ behind) ≡ found → token_then (front ++ behind) (wanted_in a_number found) (λ n rest. read_at true (worker_behind (leb n 63) n) (front ++ behind) rest) ≡ Err (Syntax (length behind)) → NumberDone front
number_done front behind None is e = from_nothing front (none_before front behind (same_left (Option ℕ) (length (front ++ behind)) (length behind) e))
number_done front behind (Some (t, r)) is e = number_taken front behind r t (a_number t) refl is e

abbrev WorkerDone : List ℕ → Type 0
WorkerDone front = (more : List ℕ) × (w : Option ℕ) × (read worker (front ++ more) ≡ Ok (w, codes "session"))

sign_done : (c : ℕ) (front behind : List ℕ) → at_sign (c ∷ front ++ behind) ≡ Err (Syntax (length behind)) → (more : List ℕ) × (w : Option ℕ) × (at_sign (c ∷ front ++ more) ≡ Ok (w, codes "session"))
sign_done c front behind e =
    by_test (eqb c 64) (front ++ behind) number (made None (c ∷ front ++ behind)) (λ o. o ≡ Err (Syntax (length behind)) → (more : List ℕ) × (w : Option ℕ) × (at_sign (c ∷ front ++ more) ≡ Ok (w, codes "session")))
    (λ is f. let (more, w, done_so) = number_done front behind (token_at (front ++ behind)) refl f in (more, w, rw is done_so)) (λ is f. absurd cc) e

sign_begins : (behind : List ℕ) → at_sign behind ≡ Err (Syntax (length behind)) → ⊥
sign_begins [] e = absurd cc
sign_begins (byte ∷ behind) e =
    by_test (eqb byte 64) behind number (made None (byte ∷ behind)) (λ o. o ≡ Err (Syntax (length (byte ∷ behind))) → ⊥)
    (λ is f. let inside = local worker_number in let few = inside.stops behind (length (byte ∷ behind)) f in omega (arith, few)) (λ is f. absurd cc) e

worker_done_by : (front behind p : List ℕ) → behind_blanks (front ++ behind) ≡ p ++ behind → at_sign (behind_blanks (front ++ behind)) ≡ Err (Syntax (length behind)) → WorkerDone front
unfolding worker
worker_done_by front behind [] at e = absurd (sign_begins behind (sym (ap at_sign at) ∙ e))
worker_done_by front behind (c ∷ p) at e =
    let (more, w, done_so) = sign_done c p behind (sym (ap at_sign at) ∙ e) in
    (more, w, ap at_sign (blanks_at front behind more c p at) ∙ done_so)

worker_done : (front behind : List ℕ) → read worker (front ++ behind) ≡ Err (Syntax (length behind)) → WorkerDone front
unfolding worker
worker_done front behind e =
    let inside = local (on_sign 64 worker_number (done None)) in
    let (blanks, same, skips) = blanks_of (front ++ behind) in
    let (p, at) = longer_end front blanks behind (behind_blanks (front ++ behind)) same (inside.stops (behind_blanks (front ++ behind)) (length behind) e) in
    worker_done_by front behind p at e

-- ---- lines

module _ (A : Type 0) where
  -- the line that begins so has no fault, or a 10,001st operation
  abbrev Fine : Read (Opening A) → Type 0
  Fine r = (fault_of A r ≡ None) ⊎ (fault_of A r ≡ Some (Limit TooMany))

  abbrev finished : Option ℕ → Read (Spelled A) → Read (Opening A)
  finished w o = and_then o (λ said end. read (ending w said) end)

  end_read : (rest : List ℕ) → behind_blanks rest ≡ [] → read at_end rest ≡ Ok (tt, [])
  end_read rest none = rw none refl

  filter_fine : (w : Option ℕ) (what : Filtering A) (rest : List ℕ) → filter_of rest ≡ Ok all → fault_of A (Ok (Filtered w what, rest)) ≡ None
  filter_fine w what rest is = ap (λ r. result_err (with_filter A w what (filter_read rest r))) is

  ended_fine : (w : Option ℕ) (value : Option (Spelled A)) (o : Read (Spelled A)) (line : List ℕ) → Behind Closing value line → Ended value o line → Fine (finished w o)
  ended_fine w (Some (Whole command show)) o line nil (rest, is, same) =
      inl (ap (λ p. fault_of A (finished w p)) is ∙ ap (λ r. fault_of A (and_then r (λ u end. Ok (Whole_line (record { worker = w; command = command; show = show }), end)))) (end_read rest (same ∙ ap behind_blanks nil)))
  ended_fine w (Some (Filter what)) o line text (rest, is, same) =
      inl (ap (λ p. fault_of A (finished w p)) is ∙ filter_fine w what rest (filter_behind rest (same ∙ ap behind_blanks text)))
  ended_fine w None o line nil many = inr (ap (λ p. fault_of A (finished w p)) many)

  -- ---- the command

  session_sample : Sample Closing (read (command {A = A}))
  unfolding command
  session_sample =
      weaker_sample Closing closing_tail (read (command {A = A}))
      (sample_fits a_word (one_of commands) (Word (codes "session")) 115 (101 ∷ 115 ∷ 115 ∷ 105 ∷ 111 ∷ 110 ∷ []) (codes "session") refl refl (word_token 115 (101 ∷ 115 ∷ 115 ∷ 105 ∷ 111 ∷ 110 ∷ []) refl refl refl) refl (Whole NewSession Plain) (λ before line. refl))

  open_command : Open Closing (read (command {A = A}))
  unfolding command
  open_command = open_next Closing closing_tail a_word (one_of commands) open_commands (finish_of Closing (read (command {A = A})) session_sample)

  line_for : Option (Spelled A) → List ℕ
  line_for None = []
  line_for (Some (Whole said show)) = []
  line_for (Some (Filter what)) = filter_text

  behind_for : (value : Option (Spelled A)) → Behind Closing value (line_for value)
  unfolding line_for
  behind_for None = refl
  behind_for (Some (Whole said show)) = refl
  behind_for (Some (Filter what)) = refl

  session_fine : (w : Option ℕ) → Fine (finished w (read command (codes "session")))
  unfolding command token_at
  session_fine w = inl refl

  -- the rest of a line can be said, behind a space, or all of it was said
  abbrev SaidDone : Option ℕ → List ℕ → Type 0
  SaidDone w front = (more : List ℕ) × Tail more × Fine (finished w (read command (front ++ more)))

  end_left : (here : List ℕ) (left : ℕ) → by_end {Y = Unit {0}} (Ok (tt, [])) (λ l. Err (misfit l)) here ≡ Err (Syntax left) → length here ≡ left
  end_left [] left e = absurd cc
  end_left (c ∷ here) left e = same_left (Unit {0}) (length (c ∷ here)) left e

  blank_front : (q behind mid : List ℕ) → mid ≡ q ++ behind → length (behind_blanks mid) ≡ length behind → behind_blanks q ≡ []
  blank_front q behind mid at long =
      let (blanks, same, skips) = blanks_of mid in
      let (p, here) = longer_end q blanks behind (behind_blanks mid) (sym at ∙ same) (omega (arith, long)) in
      let empty : p ≡ [] = same_end p behind (behind_blanks mid) here long in
      let end : behind_blanks (q ++ behind) ≡ behind = sym (ap behind_blanks at) ∙ here ∙ ap (λ (l : List ℕ). l ++ behind) empty in
      sym (ap behind_blanks (append-nil q)) ∙ only_blanks q behind [] end

  whole_fault : (w : Option ℕ) (command : Command A) (show : Show A) (mid : List ℕ) (left : ℕ) (r : Read (Unit {0})) → read at_end mid ≡ r → and_then r (λ u end. Ok (Whole_line (record { worker = w; command = command; show = show }), end)) ≡ Err (Syntax left) → length (behind_blanks mid) ≡ left
  whole_fault w command show mid left (Ok (u, end)) is e = absurd cc
  whole_fault w command show mid left (Err fault) is e = end_left (behind_blanks mid) left (is ∙ refused_so (Unit {0}) (Opening A) fault (Syntax left) e)

  said_done : (w : Option ℕ) (front behind : List ℕ) (o : Read (Spelled A)) → read command (front ++ behind) ≡ o → finished w o ≡ Err (Syntax (length behind)) → SaidDone w front
  said_done w front behind (Err fault) is e =
      let known = open_command in
      let more = known.finishes front behind (is ∙ refused_so (Spelled A) (Opening A) fault (Syntax (length behind)) e) in
      let line = line_for more.value in
      (32 ∷ (more.text ++ line), more.tail line (behind_for more.value), ended_fine w more.value (read command (front ++ (32 ∷ (more.text ++ line)))) line (behind_for more.value) (more.ends line (behind_for more.value)))
  said_done w front behind (Ok (Filter what, mid)) is e = absurd cc
  said_done w front behind (Ok (Whole command_made show, mid)) is e =
      let known = local (command {A = A}) in
      let (a, same) = known.ends (front ++ behind) mid (Whole command_made show) is in
      let long = whole_fault w command_made show mid (length behind) (read at_end mid) refl e in
      let (blanks, skipped, skips) = blanks_of mid in
      let skipped_long = ap length skipped in
      let (q, at) = longer_end front a behind mid same (omega (arith, long, skipped_long, length-append blanks (behind_blanks mid))) in
      let known_too = open_command in
      let reach = known_too.passes front q behind [] (Whole command_made show) refl (is ∙ ap (made (Whole command_made show)) at) in
      ([], tt, ended_fine w (Some (Whole command_made show)) (read command (front ++ [])) [] refl (reach.0, reach.1, reach.2 ∙ ap behind_blanks (append-nil q) ∙ blank_front q behind mid at long))

  -- ---- the whole line

  abbrev rest_read : Option ℕ → List ℕ → Read (Opening A)
  rest_read w rest = finished w (read command rest)

  command_skips : (a b : List ℕ) → behind_blanks a ≡ behind_blanks b → read (command {A = A}) a ≡ read command b
  unfolding command
  command_skips a b e =
      ap (λ (here : List ℕ). token_then here (wanted_in a_word (token_at here)) (λ t rest. read_at true (one_of (commands {A = A}) t) here rest)) e

  abbrev said : Option ℕ → Grammar (Opening A)
  said w = follows command (λ spelled. ending w spelled)

  line_behind : (front more q : List ℕ) (w : Option ℕ) → Reached w (read worker (front ++ more)) (q ++ more) → Fine (rest_read w (q ++ more)) → Fine (and_then (read worker (front ++ more)) rest_read)
  line_behind front more q w (rest, is, same) fine =
      subst Fine (sym (ap (λ r. and_then r rest_read) is ∙ ap (finished w) (command_skips rest (q ++ more) same))) fine

  line_done : (front behind : List ℕ) (o : Read (Option ℕ)) → read worker (front ++ behind) ≡ o → and_then o rest_read ≡ Err (Syntax (length behind)) → (more : List ℕ) × Fine (and_then (read worker (front ++ more)) rest_read)
  line_done front behind (Err fault) is e =
      let (more, w, done_so) = worker_done front behind (is ∙ refused_so (Option ℕ) (Opening A) fault (Syntax (length behind)) e) in
      (more, subst Fine (sym (ap (λ r. and_then r rest_read) done_so)) (session_fine w))
  line_done front behind (Ok (w, mid)) is e =
      let first = local worker in
      let (a, same) = first.ends (front ++ behind) mid w is in
      let few = said_stops w mid (length behind) e in
      let (q, at) = longer_end front a behind mid same few in
      let (more, tail, fine) = said_done w q behind (read command (q ++ behind)) refl (sym (ap (rest_read w) at) ∙ e) in
      (more, line_behind front more q w (worker_moved front q behind more w tail (is ∙ ap (made w) at)) fine)
    where
      said_stops : (w : Option ℕ) (mid : List ℕ) (left : ℕ) → rest_read w mid ≡ Err (Syntax left) → left ≤ length mid
      said_stops w mid left e = let whole = local (said w) in whole.stops mid left e

  pub fault_begins : (bytes : List ℕ) (left : ℕ) → HasSyntaxFault A bytes left → (ReachesFilter A bytes → ⊥) → BeginsLine A bytes left
  unfolding line_fault line_of_text BeginsLine opening
  fault_begins bytes left e none =
      let found = fault_in_opening A bytes left e none in
      let whole_line = local (opening {A = A}) in
      let few = whole_line.stops bytes left found in
      let n = length bytes - left in
      let whole : bytes ≡ take n bytes ++ drop n bytes = sym (take-append-drop n bytes) in
      let long : length (drop n bytes) ≡ left = omega (arith, few, length-drop n bytes) in
      let (more, fine) = line_done (take n bytes) (drop n bytes) (read worker (take n bytes ++ drop n bytes)) refl (ap (read opening) (sym whole) ∙ found ∙ ap (λ (m : ℕ). Err (Syntax m)) (sym long)) in
      (take n bytes, drop n bytes, whole, sym long, more, fine)
