-- What the machine does where the tokens begin as one of the reader's parts reads them.
use Rattle.std.proofs.Common.{◌≡◌, ℕ, zero, suc, ◌+◌, ◌-◌, ◌<◌, ◌≤◌, ◌⊎◌, inl, inr, Bool, true, false, List, [], ◌∷◌, length, Option, Some, None, Result, Ok, Err, refl, sym, ap, ◌∙◌, sub-one, true≢false, arith}
use Rattle.std.specs.Result.{result_map_both}
use Rattle.std.proofs.lemmas.Bool.{lt-ltb, le-ltb}
use Rattle.cap_value.specs.declared.memory.Fault.{Fault}
use Rattle.cap_value.specs.declared.memory.Fault.TheVariants.{Refused, OutOfMemory}
use Rattle.cap_value.specs.Memory.{RefusesUnlessMemory}
use Rattle.cap_filter.specs.Reading.{Frame, listed, Next, a_filter, a_text, a_list, a_member, more, an_end, list_of, behind_filter, behind_keyword, within, at_keyword, next_run, run, keyword_of, keyword_read, keyword_at, text_at, opening_at, closing_at, separator_at, end_at, refusal, filter_of}
use Rattle.cap_filter.specs.Rule.{Rule}
use Rattle.cap_filter.specs.Tokens.{word, quoted, opening, closing, comma, other, Tokens, tokens_of}
use Rattle.cap_filter.specs.declared.reading.Keyword.{Keyword}
use Rattle.cap_filter.specs.declared.reading.Stop.{Stop}
use Rattle.cap_filter.specs.declared.reading.Stop.TheVariants.{Unfit, Deep}

abbrev pub Answer : Type 0
Answer = Result Rule Stop

abbrev pub refused : {X : Type 0} → Stop → Result X Stop
refused e = Err e

abbrev pub gave : {X : Type 0} → X → Result X Stop
gave x = Ok x

-- the same refusal, of another call
same_refusal : {X Y : Type 0} (d e : Stop) → refused {X = X} d ≡ refused e → refused {X = Y} d ≡ refused e
same_refusal d e h = let same : d ≡ e = cc in ap refused same

pub ok_parts : {X Y : Type 0} (a c : X) (b d : Y) → gave {X = X × Y} (a, b) ≡ gave {X = X × Y} (c, d) → (a ≡ c) × (b ≡ d)
ok_parts {X} {Y} a c b d h = let e : ◌≡◌ {A = X × Y} (a, b) (c, d) = cc in (ap (λ (p : X × Y). p.0) e, ap (λ (p : X × Y). p.1) e)

-- ---- a filter

no_keyword_started : (frames : List Frame) (room left : ℕ) (rest : Tokens) (e : Stop) (next : Next → ℕ → Answer) (o : Option Keyword) →
    keyword_read left rest o ≡ Err e → next_run left (at_keyword frames room o) next ≡ Err e
no_keyword_started frames room left rest e next None h = same_refusal (Unfit left) e h
no_keyword_started frames room left rest e next (Some k) h = absurd cc

pub run-no_keyword : (frames : List Frame) (room : ℕ) (e : Stop) (tokens : Tokens) → keyword_at tokens ≡ Err e → run (a_filter frames) room tokens ≡ Err e
unfolding run
run-no_keyword frames room e [] h = same_refusal (Unfit 0) e h
run-no_keyword frames room e ((left, (word w)) ∷ ts) h = no_keyword_started frames room left ts e (λ n r. run n r ts) (keyword_of w) h
run-no_keyword frames room e ((left, (quoted w)) ∷ ts) h = same_refusal (Unfit left) e h
run-no_keyword frames room e ((left, opening) ∷ ts) h = same_refusal (Unfit left) e h
run-no_keyword frames room e ((left, closing) ∷ ts) h = same_refusal (Unfit left) e h
run-no_keyword frames room e ((left, comma) ∷ ts) h = same_refusal (Unfit left) e h
run-no_keyword frames room e ((left, other) ∷ ts) h = same_refusal (Unfit left) e h

is_within : (frames : List Frame) (room left : ℕ) (n : Next) (next : Next → ℕ → Answer) → 0 < room → length frames < 32 → next_run left (within frames room n) next ≡ next n (room - 1)
is_within frames zero left n next positive shallow = absurd (omega arith)
is_within frames (suc room) left n next positive shallow = rw (lt-ltb (length frames) 32 shallow, sub-one) refl

is_past : (frames : List Frame) (room left : ℕ) (n : Next) (next : Next → ℕ → Answer) → (room ≡ 0) ⊎ (32 ≤ length frames) → next_run left (within frames room n) next ≡ Err Deep
is_past frames zero left n next past = refl
is_past frames (suc room) left n next (inl none) = absurd (omega arith)
is_past frames (suc room) left n next (inr deep) = rw (le-ltb (length frames) 32 deep) refl

keyword_started : (frames : List Frame) (room left : ℕ) (rest after : Tokens) (k : Keyword) (o : Option Keyword) → keyword_read left rest o ≡ Ok (k, after) →
    0 < room → length frames < 32 → next_run left (at_keyword frames room o) (λ n r. run n r rest) ≡ run (behind_keyword k frames) (room - 1) after
keyword_started frames room left rest after k None h positive shallow = absurd cc
keyword_started frames room left rest after k (Some j) h positive shallow =
    let same = ok_parts j k rest after h in
    is_within frames room left (behind_keyword j frames) (λ n r. run n r rest) positive shallow ∙ rw (same.0, same.1) refl

keyword_past : (frames : List Frame) (room left : ℕ) (rest : Tokens) (x : Keyword × Tokens) (next : Next → ℕ → Answer) (o : Option Keyword) → keyword_read left rest o ≡ Ok x →
    (room ≡ 0) ⊎ (32 ≤ length frames) → next_run left (at_keyword frames room o) next ≡ Err Deep
keyword_past frames room left rest x next None h past = absurd cc
keyword_past frames room left rest x next (Some j) h past = is_past frames room left (behind_keyword j frames) next past

pub run-keyword : (frames : List Frame) (room : ℕ) (k : Keyword) (after tokens : Tokens) → keyword_at tokens ≡ Ok (k, after) → 0 < room → length frames < 32 → run (a_filter frames) room tokens ≡ run (behind_keyword k frames) (room - 1) after
unfolding run
run-keyword frames room k after [] h positive shallow = absurd cc
run-keyword frames room k after ((left, (word w)) ∷ ts) h positive shallow = keyword_started frames room left ts after k (keyword_of w) h positive shallow
run-keyword frames room k after ((left, (quoted w)) ∷ ts) h positive shallow = absurd cc
run-keyword frames room k after ((left, opening) ∷ ts) h positive shallow = absurd cc
run-keyword frames room k after ((left, closing) ∷ ts) h positive shallow = absurd cc
run-keyword frames room k after ((left, comma) ∷ ts) h positive shallow = absurd cc
run-keyword frames room k after ((left, other) ∷ ts) h positive shallow = absurd cc

pub run-past : (frames : List Frame) (room : ℕ) (x : Keyword × Tokens) (tokens : Tokens) → keyword_at tokens ≡ Ok x → (room ≡ 0) ⊎ (32 ≤ length frames) → run (a_filter frames) room tokens ≡ Err Deep
unfolding run
run-past frames room x [] h past = absurd cc
run-past frames room x ((left, (word w)) ∷ ts) h past = keyword_past frames room left ts x (λ n r. run n r ts) (keyword_of w) h past
run-past frames room x ((left, (quoted w)) ∷ ts) h past = absurd cc
run-past frames room x ((left, opening) ∷ ts) h past = absurd cc
run-past frames room x ((left, closing) ∷ ts) h past = absurd cc
run-past frames room x ((left, comma) ∷ ts) h past = absurd cc
run-past frames room x ((left, other) ∷ ts) h past = absurd cc

-- ---- a word or a quoted text

pub run-no_text : (make : List ℕ → Rule) (frames : List Frame) (room : ℕ) (e : Stop) (tokens : Tokens) → text_at tokens ≡ Err e → run (a_text make frames) room tokens ≡ Err e
unfolding run
run-no_text make frames room e [] h = same_refusal (Unfit 0) e h
run-no_text make frames room e ((left, (word w)) ∷ ts) h = absurd cc
run-no_text make frames room e ((left, (quoted w)) ∷ ts) h = absurd cc
run-no_text make frames room e ((left, opening) ∷ ts) h = same_refusal (Unfit left) e h
run-no_text make frames room e ((left, closing) ∷ ts) h = same_refusal (Unfit left) e h
run-no_text make frames room e ((left, comma) ∷ ts) h = same_refusal (Unfit left) e h
run-no_text make frames room e ((left, other) ∷ ts) h = same_refusal (Unfit left) e h

pub run-text : (make : List ℕ → Rule) (frames : List Frame) (room : ℕ) (text : List ℕ) (after tokens : Tokens) → text_at tokens ≡ Ok (text, after) → run (a_text make frames) room tokens ≡ run (behind_filter (make text) frames) room after
unfolding run
run-text make frames room text after [] h = absurd cc
run-text make frames room text after ((left, (word w)) ∷ ts) h = let same = ok_parts w text ts after h in rw (same.0, same.1) refl
run-text make frames room text after ((left, (quoted w)) ∷ ts) h = let same = ok_parts w text ts after h in rw (same.0, same.1) refl
run-text make frames room text after ((left, opening) ∷ ts) h = absurd cc
run-text make frames room text after ((left, closing) ∷ ts) h = absurd cc
run-text make frames room text after ((left, comma) ∷ ts) h = absurd cc
run-text make frames room text after ((left, other) ∷ ts) h = absurd cc

-- ---- a list

pub run-no_opening : (every : Bool) (frames : List Frame) (room : ℕ) (e : Stop) (tokens : Tokens) → opening_at tokens ≡ Err e → run (a_list every frames) room tokens ≡ Err e
unfolding run
run-no_opening every frames room e [] h = same_refusal (Unfit 0) e h
run-no_opening every frames room e ((left, (word w)) ∷ ts) h = same_refusal (Unfit left) e h
run-no_opening every frames room e ((left, (quoted w)) ∷ ts) h = same_refusal (Unfit left) e h
run-no_opening every frames room e ((left, opening) ∷ ts) h = absurd cc
run-no_opening every frames room e ((left, closing) ∷ ts) h = same_refusal (Unfit left) e h
run-no_opening every frames room e ((left, comma) ∷ ts) h = same_refusal (Unfit left) e h
run-no_opening every frames room e ((left, other) ∷ ts) h = same_refusal (Unfit left) e h

pub run-opening : (every : Bool) (frames : List Frame) (room : ℕ) (after tokens : Tokens) → opening_at tokens ≡ Ok after → run (a_list every frames) room tokens ≡ run (a_member every frames) room after
unfolding run
run-opening every frames room after [] h = absurd cc
run-opening every frames room after ((left, (word w)) ∷ ts) h = absurd cc
run-opening every frames room after ((left, (quoted w)) ∷ ts) h = absurd cc
run-opening every frames room after ((left, opening) ∷ ts) h = let same_rest : ts ≡ after = cc in rw same_rest refl
run-opening every frames room after ((left, closing) ∷ ts) h = absurd cc
run-opening every frames room after ((left, comma) ∷ ts) h = absurd cc
run-opening every frames room after ((left, other) ∷ ts) h = absurd cc

pub run-closing : (every : Bool) (frames : List Frame) (room : ℕ) (after tokens : Tokens) → closing_at tokens ≡ Some after → run (a_member every frames) room tokens ≡ run (behind_filter (list_of every []) frames) room after
unfolding run
run-closing every frames room after [] h = absurd cc
run-closing every frames room after ((left, (word w)) ∷ ts) h = absurd cc
run-closing every frames room after ((left, (quoted w)) ∷ ts) h = absurd cc
run-closing every frames room after ((left, opening) ∷ ts) h = absurd cc
run-closing every frames room after ((left, closing) ∷ ts) h = let same_rest : ts ≡ after = cc in rw same_rest refl
run-closing every frames room after ((left, comma) ∷ ts) h = absurd cc
run-closing every frames room after ((left, other) ∷ ts) h = absurd cc

pub run-member : (every : Bool) (frames : List Frame) (room : ℕ) (tokens : Tokens) → closing_at tokens ≡ None → run (a_member every frames) room tokens ≡ run (a_filter (listed every [] ∷ frames)) room tokens
unfolding run
run-member every frames room [] h = refl
run-member every frames room ((left, (word w)) ∷ ts) h = refl
run-member every frames room ((left, (quoted w)) ∷ ts) h = refl
run-member every frames room ((left, opening) ∷ ts) h = refl
run-member every frames room ((left, closing) ∷ ts) h = absurd cc
run-member every frames room ((left, comma) ∷ ts) h = refl
run-member every frames room ((left, other) ∷ ts) h = refl

pub run-no_separator : (every : Bool) (members : List Rule) (frames : List Frame) (room : ℕ) (e : Stop) (tokens : Tokens) → separator_at tokens ≡ Err e → run (more every members frames) room tokens ≡ Err e
unfolding run
run-no_separator every members frames room e [] h = same_refusal (Unfit 0) e h
run-no_separator every members frames room e ((left, (word w)) ∷ ts) h = same_refusal (Unfit left) e h
run-no_separator every members frames room e ((left, (quoted w)) ∷ ts) h = same_refusal (Unfit left) e h
run-no_separator every members frames room e ((left, opening) ∷ ts) h = same_refusal (Unfit left) e h
run-no_separator every members frames room e ((left, closing) ∷ ts) h = absurd cc
run-no_separator every members frames room e ((left, comma) ∷ ts) h = absurd cc
run-no_separator every members frames room e ((left, other) ∷ ts) h = same_refusal (Unfit left) e h

pub run-comma : (every : Bool) (members : List Rule) (frames : List Frame) (room : ℕ) (after tokens : Tokens) → separator_at tokens ≡ Ok (true, after) → run (more every members frames) room tokens ≡ run (a_filter (listed every members ∷ frames)) room after
unfolding run
run-comma every members frames room after [] h = absurd cc
run-comma every members frames room after ((left, (word w)) ∷ ts) h = absurd cc
run-comma every members frames room after ((left, (quoted w)) ∷ ts) h = absurd cc
run-comma every members frames room after ((left, opening) ∷ ts) h = absurd cc
run-comma every members frames room after ((left, closing) ∷ ts) h = absurd (true≢false (sym (ok_parts false true ts after h).0))
run-comma every members frames room after ((left, comma) ∷ ts) h = rw (ok_parts true true ts after h).1 refl
run-comma every members frames room after ((left, other) ∷ ts) h = absurd cc

pub run-last : (every : Bool) (members : List Rule) (frames : List Frame) (room : ℕ) (after tokens : Tokens) → separator_at tokens ≡ Ok (false, after) → run (more every members frames) room tokens ≡ run (behind_filter (list_of every members) frames) room after
unfolding run
run-last every members frames room after [] h = absurd cc
run-last every members frames room after ((left, (word w)) ∷ ts) h = absurd cc
run-last every members frames room after ((left, (quoted w)) ∷ ts) h = absurd cc
run-last every members frames room after ((left, opening) ∷ ts) h = absurd cc
run-last every members frames room after ((left, closing) ∷ ts) h = rw (ok_parts false false ts after h).1 refl
run-last every members frames room after ((left, comma) ∷ ts) h = absurd (true≢false (ok_parts true false ts after h).0)
run-last every members frames room after ((left, other) ∷ ts) h = absurd cc

-- ---- the end

pub run-no_end : (r : Rule) (room : ℕ) (e : Stop) (tokens : Tokens) → end_at tokens ≡ Err e → run (an_end r) room tokens ≡ Err e
unfolding run
run-no_end r room e [] h = absurd cc
run-no_end r room e ((left, (word w)) ∷ ts) h = same_refusal (Unfit left) e h
run-no_end r room e ((left, (quoted w)) ∷ ts) h = same_refusal (Unfit left) e h
run-no_end r room e ((left, opening) ∷ ts) h = same_refusal (Unfit left) e h
run-no_end r room e ((left, closing) ∷ ts) h = same_refusal (Unfit left) e h
run-no_end r room e ((left, comma) ∷ ts) h = same_refusal (Unfit left) e h
run-no_end r room e ((left, other) ∷ ts) h = same_refusal (Unfit left) e h

pub run-end : (r : Rule) (room : ℕ) (u : Unit {0}) (tokens : Tokens) → end_at tokens ≡ Ok u → run (an_end r) room tokens ≡ Ok r
unfolding run
run-end r room u [] h = refl
run-end r room u ((left, (word w)) ∷ ts) h = absurd cc
run-end r room u ((left, (quoted w)) ∷ ts) h = absurd cc
run-end r room u ((left, opening) ∷ ts) h = absurd cc
run-end r room u ((left, closing) ∷ ts) h = absurd cc
run-end r room u ((left, comma) ∷ ts) h = absurd cc
run-end r room u ((left, other) ∷ ts) h = absurd cc

-- ---- what the reader's calls lead to

-- behind a keyword within the limits
pub run-behind_keyword : (frames : List Frame) (room levels : ℕ) (k j : Keyword) (after tokens : Tokens) → keyword_at tokens ≡ Ok (k, after) → k ≡ j → (room ≡ 0 → ⊥) → (levels ≡ 0 → ⊥) →
    length frames + levels ≡ 32 → run (a_filter frames) room tokens ≡ run (behind_keyword j frames) (room - 1) after
run-behind_keyword frames room levels k j after tokens h same some_room some_level fits =
    run-keyword frames room k after tokens h (omega arith) (omega arith) ∙ ap (λ (i : Keyword). run (behind_keyword i frames) (room - 1) after) same

-- a refusal of a part is the answer where the part decides it
pub refused_by : {Y : Type 0} (f : Fault Stop) (read : Result Y Stop) (answer : Answer) → RefusesUnlessMemory f read → ((e : Stop) → read ≡ Err e → answer ≡ Err e) → RefusesUnlessMemory f answer
refused_by (Refused e) read answer h decides = decides e h
refused_by OutOfMemory read answer h decides = tt

pub refused_through : (f : Fault Stop) (read answer : Answer) → RefusesUnlessMemory f read → answer ≡ read → RefusesUnlessMemory f answer
refused_through (Refused e) read answer h same = same ∙ h
refused_through OutOfMemory read answer h same = tt

-- ---- the whole text

pub filter_of-ok : (text : List ℕ) (r : Rule) → run (a_filter []) 1000 (tokens_of text) ≡ Ok r → filter_of text ≡ Ok r
unfolding filter_of
filter_of-ok text r h = ap (result_map_both (λ (q : Rule). q) (refusal text)) h

pub filter_of-err : (text : List ℕ) (e : Stop) → run (a_filter []) 1000 (tokens_of text) ≡ Err e → filter_of text ≡ Err (refusal text e)
unfolding filter_of
filter_of-err text e h = ap (result_map_both (λ (q : Rule). q) (refusal text)) h
