-- What is read is spelled.
use Rattle.std.proofs.Common.{◌≡◌, ℕ, zero, suc, Bool, true, false, ltb, eqb, cond, List, [], ◌∷◌, ◌++◌, length, codes, Option, Some, None, Result, Ok, Err, refl, sym, ap, ◌∙◌, subst, append_assoc, append-nil, true≢false, ◌⊎◌, inl, inr, ⊎_elim}
use Rattle.std.specs.Result.{result_map_both}
use Rattle.std.proofs.lemmas.Bool.{and_parts, eqb-true}
use Rattle.std.specs.Prelude.{IfOk}
use Rattle.cap_value.specs.Bytes.{bytes_eq}
use Rattle.cap_value.specs.Memory.{AnswersUnlessMemory}
use Rattle.cap_value.specs.declared.memory.Fault.{Fault}
use Rattle.cap_value.specs.declared.refusal.Refusal.{Refusal}
use Rattle.cap_filter.specs.Grammar.{Begins, BeginsWord, Spelled, SpelledMembers, SpelledMore, Spells}
use Rattle.cap_filter.specs.Reading.{Frame, negated, listed, Next, a_filter, a_text, a_list, a_member, more, an_end, behind_filter, list_of, behind_keyword, Move, on, unfit, too_deep, within, at_keyword, step, whole_filter, next_run, run, keyword_of, refusal, filter_of}
use Rattle.cap_filter.specs.Rule.{Rule, all, nothing, is, starts, ends, negation, conjunction, disjunction, Rules, no_rules, rule}
use Rattle.cap_filter.specs.Tokens.{Token, word, quoted, opening, closing, comma, other, Tokens, tokens_of, text_of}
use Rattle.cap_filter.specs.declared.reading.Keyword.{Keyword}
use Rattle.cap_filter.specs.declared.reading.Keyword.TheVariants as keywords
use Rattle.cap_filter.proofs.RunLemmas.{Answer, gave}
use Rattle.cap_filter.proofs.SpelledLemmas.{list, rules-list, word_of}

-- the tokens close the filters that are begun around q, and give r
abbrev pub Closes : Rule → List Frame → Tokens → Rule → Type 0
Closes q [] tokens r = (tokens ≡ []) × (q ≡ r)
Closes q (negated ∷ frames) tokens r = Closes (negation q) frames tokens r
Closes q (listed every before ∷ frames) tokens r =
    (rs : Rules) × (rest : Tokens) × SpelledMore rs tokens rest × Closes (list_of every (before ++ q ∷ list rs)) frames rest r

-- the tokens are what may come next, and all that follows it, of a text that spells r
abbrev pub Means : Next → Tokens → Rule → Type 0
Means (a_filter frames) tokens r = (q : Rule) × (rest : Tokens) × Spelled q tokens rest × Closes q frames rest r
Means (a_text make frames) tokens r =
    (w : List ℕ) × (t : Token) × (rest : Tokens) × (text_of t ≡ Some w) × Begins tokens t rest × Closes (make w) frames rest r
Means (a_list every frames) tokens r =
    (rs : Rules) × (after : Tokens) × (rest : Tokens) × Begins tokens opening after × SpelledMembers rs after rest × Closes (list_of every (list rs)) frames rest r
Means (a_member every frames) tokens r =
    (rs : Rules) × (rest : Tokens) × SpelledMembers rs tokens rest × Closes (list_of every (list rs)) frames rest r
Means (more every before frames) tokens r =
    (rs : Rules) × (rest : Tokens) × SpelledMore rs tokens rest × Closes (list_of every (before ++ list rs)) frames rest r
Means (an_end q) tokens r = (tokens ≡ []) × (q ≡ r)

closes : (q : Rule) (frames : List Frame) (tokens : Tokens) (r : Rule) → Means (behind_filter q frames) tokens r → Closes q frames tokens r
closes q [] tokens r h = h
closes q (negated ∷ frames) tokens r h = closes (negation q) frames tokens r h
closes q (listed every before ∷ frames) tokens r h =
    (h.0, h.1, h.2, subst (λ (l : List Rule). Closes (list_of every l) frames h.1 r) (append_assoc before (q ∷ []) (list h.0)) h.3)

-- behind a keyword
pub begun_means : (k : Keyword) (frames : List Frame) (tokens rest : Tokens) (r : Rule) → BeginsWord tokens (word_of k) rest → Means (behind_keyword k frames) rest r → Means (a_filter frames) tokens r
begun_means keywords.All frames tokens rest r h m = (all, rest, h, closes all frames rest r m)
begun_means keywords.Nothing frames tokens rest r h m = (nothing, rest, h, closes nothing frames rest r m)
begun_means keywords.Is frames tokens rest r h m = (is m.0, m.2, (rest, h, m.1, m.3, m.4), m.5)
begun_means keywords.Starts frames tokens rest r h m = (starts m.0, m.2, (rest, h, m.1, m.3, m.4), m.5)
begun_means keywords.Ends frames tokens rest r h m = (ends m.0, m.2, (rest, h, m.1, m.3, m.4), m.5)
begun_means keywords.Not frames tokens rest r h m = (negation m.0, m.1, (rest, h, m.2), m.3)
begun_means keywords.And frames tokens rest r h m =
    (conjunction m.0, m.2, (m.1, (rest, h, m.3), m.4), subst (λ (rs : Rules). Closes (conjunction rs) frames m.2 r) (rules-list m.0) m.5)
begun_means keywords.Or frames tokens rest r h m =
    (disjunction m.0, m.2, (m.1, (rest, h, m.3), m.4), subst (λ (rs : Rules). Closes (disjunction rs) frames m.2 r) (rules-list m.0) m.5)

-- the first member of a list
pub member_means : (every : Bool) (frames : List Frame) (tokens : Tokens) (r : Rule) → Means (a_filter (listed every [] ∷ frames)) tokens r → Means (a_member every frames) tokens r
member_means every frames tokens r m = (rule m.0 m.3.0, m.3.1, (m.1, m.2, m.3.2), m.3.3)

-- ---- a keyword is its word

same_bytes : (a b : List ℕ) → bytes_eq a b ≡ true → a ≡ b
same_bytes [] [] e = refl
same_bytes [] (y ∷ ys) e = absurd (true≢false (sym e))
same_bytes (x ∷ xs) [] e = absurd (true≢false (sym e))
same_bytes (x ∷ xs) (y ∷ ys) e = let parts = and_parts (eqb x y) (bytes_eq xs ys) e in rw (eqb-true x y parts.0, same_bytes xs ys parts.1) refl

chosen : {X : Type 0} (b : Bool) (x : X) (rest o : Option X) → cond b (Some x) rest ≡ o → ((b ≡ true) × (Some x ≡ o)) ⊎ (rest ≡ o)
chosen true x rest o e = inl (refl, e)
chosen false x rest o e = inr e

one_keyword : (w text : List ℕ) (j k : Keyword) (rest : Option Keyword) → text ≡ word_of j → (rest ≡ Some k → w ≡ word_of k) → cond (bytes_eq w text) (Some j) rest ≡ Some k → w ≡ word_of k
one_keyword w text j k rest same others e =
    ⊎_elim (λ both. let found : j ≡ k = cc (both.1) in same_bytes w text both.0 ∙ same ∙ ap word_of found) others (chosen (bytes_eq w text) j rest (Some k) e)

pub keyword_word : (w : List ℕ) (k : Keyword) → keyword_of w ≡ Some k → w ≡ word_of k
unfolding keyword_of
keyword_word w k e =
    one_keyword w (codes "all") keywords.All k _ refl
    (one_keyword w (codes "nothing") keywords.Nothing k _ refl
    (one_keyword w (codes "is") keywords.Is k _ refl
    (one_keyword w (codes "starts") keywords.Starts k _ refl
    (one_keyword w (codes "ends") keywords.Ends k _ refl
    (one_keyword w (codes "not") keywords.Not k _ refl
    (one_keyword w (codes "and") keywords.And k _ refl
    (one_keyword w (codes "or") keywords.Or k _ refl (λ none. absurd cc)))))))) e

-- ---- step by step

-- what a token leads to, if it leads on
abbrev pub Moved : Move → (Next → Type 0) → Type 0
Moved (on n room) P = P n
Moved unfit P = ⊥
Moved too_deep P = ⊥

module _ (tokens : Tokens) (r : Rule) where
  abbrev Behind : Next → Type 0
  Behind n = Means n tokens r

  goes_on : (b : Bool) (n : Next) (room : ℕ) → Moved (cond b (on n room) too_deep) Behind → Means n tokens r
  goes_on true n room h = h
  goes_on false n room h = absurd h

  within_means : (frames : List Frame) (room left : ℕ) (w : List ℕ) (k : Keyword) → keyword_of w ≡ Some k → Moved (within frames room (behind_keyword k frames)) Behind →
      Means (a_filter frames) ((left, word w) ∷ tokens) r
  within_means frames zero left w k e h = absurd h
  within_means frames (suc room) left w k e h =
      let known : (left, word w) ∷ tokens ≡ (left, word (word_of k)) ∷ tokens = ap (λ (l : List ℕ). (left, word l) ∷ tokens) (keyword_word w k e) in
      begun_means k frames ((left, word w) ∷ tokens) tokens r (left, known) (goes_on (ltb (length frames) 32) (behind_keyword k frames) room h)

  word_means : (frames : List Frame) (room left : ℕ) (w : List ℕ) (o : Option Keyword) → keyword_of w ≡ o → Moved (at_keyword frames room o) Behind →
      Means (a_filter frames) ((left, word w) ∷ tokens) r
  word_means frames room left w None e h = absurd h
  word_means frames room left w (Some k) e h = within_means frames room left w k e h

  pub step_means : (next : Next) (room left : ℕ) (t : Token) → Moved (step next room t) Behind → Means next ((left, t) ∷ tokens) r
  step_means (a_filter frames) room left (word w) h = word_means frames room left w (keyword_of w) refl h
  step_means (a_filter frames) room left (quoted w) h = absurd h
  step_means (a_filter frames) room left opening h = absurd h
  step_means (a_filter frames) room left closing h = absurd h
  step_means (a_filter frames) room left comma h = absurd h
  step_means (a_filter frames) room left other h = absurd h
  step_means (a_text make frames) room left (word w) h = (w, word w, tokens, refl, (left, refl), closes (make w) frames tokens r h)
  step_means (a_text make frames) room left (quoted w) h = (w, quoted w, tokens, refl, (left, refl), closes (make w) frames tokens r h)
  step_means (a_text make frames) room left opening h = absurd h
  step_means (a_text make frames) room left closing h = absurd h
  step_means (a_text make frames) room left comma h = absurd h
  step_means (a_text make frames) room left other h = absurd h
  step_means (a_list every frames) room left (word w) h = absurd h
  step_means (a_list every frames) room left (quoted w) h = absurd h
  step_means (a_list every frames) room left opening h = (h.0, tokens, h.1, (left, refl), h.2, h.3)
  step_means (a_list every frames) room left closing h = absurd h
  step_means (a_list every frames) room left comma h = absurd h
  step_means (a_list every frames) room left other h = absurd h
  step_means (a_member every frames) room left (word w) h = member_means every frames _ r (word_means (listed every [] ∷ frames) room left w (keyword_of w) refl h)
  step_means (a_member every frames) room left (quoted w) h = absurd h
  step_means (a_member every frames) room left opening h = absurd h
  step_means (a_member every frames) room left closing h = (no_rules, tokens, (left, refl), closes (list_of every []) frames tokens r h)
  step_means (a_member every frames) room left comma h = absurd h
  step_means (a_member every frames) room left other h = absurd h
  step_means (more every before frames) room left (word w) h = absurd h
  step_means (more every before frames) room left (quoted w) h = absurd h
  step_means (more every before frames) room left opening h = absurd h
  step_means (more every before frames) room left closing h =
      let ended_list = closes (list_of every before) frames tokens r h in
      (no_rules, tokens, (left, refl), subst (λ (l : List Rule). Closes (list_of every l) frames tokens r) (sym (append-nil before)) ended_list)
  step_means (more every before frames) room left comma h = (rule h.0 h.3.0, h.3.1, (tokens, (left, refl), h.1, h.2, h.3.2), h.3.3)
  step_means (more every before frames) room left other h = absurd h
  step_means (an_end q) room left (word w) h = absurd h
  step_means (an_end q) room left (quoted w) h = absurd h
  step_means (an_end q) room left opening h = absurd h
  step_means (an_end q) room left closing h = absurd h
  step_means (an_end q) room left comma h = absurd h
  step_means (an_end q) room left other h = absurd h

moved : (m : Move) (left : ℕ) (P : Next → Type 0) (f : Next → ℕ → Answer) (r : Rule) → ((n : Next) (room : ℕ) → f n room ≡ gave r → P n) → next_run left m f ≡ gave r → Moved m P
moved (on n room) left P f r behind h = behind n room h
moved unfit left P f r behind h = absurd cc
moved too_deep left P f r behind h = absurd cc

ends_means : (next : Next) (r : Rule) → whole_filter next ≡ gave r → Means next [] r
ends_means (a_filter frames) r h = absurd cc
ends_means (a_text make frames) r h = absurd cc
ends_means (a_list every frames) r h = absurd cc
ends_means (a_member every frames) r h = absurd cc
ends_means (more every before frames) r h = absurd cc
ends_means (an_end q) r h = (refl, cc)

pub is_spelled : (tokens : Tokens) (r : Rule) (next : Next) (room : ℕ) → run next room tokens ≡ gave r → Means next tokens r
unfolding run
is_spelled [] r next room h = ends_means next r h
is_spelled ((left, t) ∷ tokens) r next room h =
    step_means tokens r next room left t (moved (step next room t) left (λ n. Means n tokens r) (λ n q. run n q tokens) r (is_spelled tokens r) h)

answered : (text : List ℕ) (a : Answer) (r : Rule) → result_map_both (λ (q : Rule). q) (refusal text) a ≡ Ok r → a ≡ gave r
answered text (Ok q) r h = let same : q ≡ r = cc in ap gave same
answered text (Err e) r h = absurd cc

-- what the whole text spells
pub filter_of-Spells : (text : List ℕ) (r : Rule) → filter_of text ≡ Ok r → Spells text r
unfolding filter_of Spells
filter_of-Spells text r h =
    let m = is_spelled (tokens_of text) r (a_filter []) 1000 (answered text (run (a_filter []) 1000 (tokens_of text)) r h) in
    let whole_filter : Spelled m.0 (tokens_of text) [] = subst (λ (rest : Tokens). Spelled m.0 (tokens_of text) rest) m.3.0 m.2 in
    subst (λ (q : Rule). Spelled q (tokens_of text) []) m.3.1 whole_filter

pub answer_is_spelled : (text : List ℕ) (result : Result Rule (Fault Refusal)) → AnswersUnlessMemory result (filter_of text) → IfOk result (λ r. Spells text r)
answer_is_spelled text (Ok r) h = filter_of-Spells text r h
answer_is_spelled text (Err f) h = tt
