-- What is spelled is read.
use Rattle.std.proofs.Common.{◌≡◌, ℕ, ◌+◌, ◌-◌, ◌≤◌, Bool, true, false, List, [], ◌∷◌, ◌++◌, length, codes, Some, None, Ok, refl, sym, ap, ◌∙◌, append_assoc, append-nil, arith}
use Rattle.std.proofs.Common.{leb}
use Rattle.std.proofs.lemmas.Bool.{and_parts, leb-true}
use Rattle.cap_filter.specs.Grammar.{Begins, BeginsWord, BeginsWith, BeginsList, Spelled, SpelledMembers, SpelledMore, Spells}
use Rattle.cap_filter.specs.Limits.{is_within_limits, depth, nodes, depth_of_all, nodes_of_all}
use Rattle.cap_filter.specs.Plain.{rules}
use Rattle.cap_filter.specs.Reading.{Frame, negated, listed, Next, a_filter, a_text, a_list, a_member, more, behind_filter, list_of, behind_keyword, run, keyword_of, keyword_read, keyword_at, text_read, text_at, opening_at, closing_at, separator_at, filter_of}
use Rattle.cap_filter.specs.Rule.{Rule, all, nothing, is, starts, ends, negation, conjunction, disjunction, Rules, no_rules, rule}
use Rattle.cap_filter.specs.Tokens.{Token, Tokens, tokens_of, text_of}
use Rattle.cap_filter.specs.declared.reading.Keyword.{Keyword}
use Rattle.cap_filter.specs.declared.reading.Keyword.TheVariants as keywords
use Rattle.cap_filter.proofs.RunLemmas.{gave, run-keyword, run-text, run-opening, run-closing, run-member, run-comma, run-last, filter_of-ok}

-- the members of a list
abbrev pub list : Rules → List Rule
list no_rules = []
list (rule r rs) = r ∷ list rs

pub rules-list : (rs : Rules) → rules (list rs) ≡ rs
rules-list no_rules = refl
rules-list (rule r rs) = ap (rule r) (rules-list rs)

-- the word that a keyword is
abbrev pub word_of : Keyword → List ℕ
word_of keywords.All = codes "all"
word_of keywords.Nothing = codes "nothing"
word_of keywords.Is = codes "is"
word_of keywords.Starts = codes "starts"
word_of keywords.Ends = codes "ends"
word_of keywords.Not = codes "not"
word_of keywords.And = codes "and"
word_of keywords.Or = codes "or"

pub keyword_of-word : (k : Keyword) → keyword_of (word_of k) ≡ Some k
unfolding keyword_of
keyword_of-word keywords.All = refl
keyword_of-word keywords.Nothing = refl
keyword_of-word keywords.Is = refl
keyword_of-word keywords.Starts = refl
keyword_of-word keywords.Ends = refl
keyword_of-word keywords.Not = refl
keyword_of-word keywords.And = refl
keyword_of-word keywords.Or = refl

pub at_keyword : (k : Keyword) (tokens rest : Tokens) → BeginsWord tokens (word_of k) rest → keyword_at tokens ≡ Ok (k, rest)
at_keyword k tokens rest h = ap keyword_at h.1 ∙ ap (keyword_read h.0 rest) (keyword_of-word k)

pub at_text : (t : Token) (w : List ℕ) (tokens rest : Tokens) → text_of t ≡ Some w → Begins tokens t rest → text_at tokens ≡ Ok (w, rest)
at_text t w tokens rest e h = ap text_at h.1 ∙ ap (text_read h.0 rest) e

-- behind a keyword
after_keyword : (k : Keyword) (frames : List Frame) (room : ℕ) (tokens rest : Tokens) → BeginsWord tokens (word_of k) rest → length frames + 1 ≤ 32 → 1 ≤ room →
    run (a_filter frames) room tokens ≡ run (behind_keyword k frames) (room - 1) rest
after_keyword k frames room tokens rest h shallow some = run-keyword frames room k rest tokens (at_keyword k tokens rest h) (omega arith) (omega arith)

behind_text : (k : Keyword) (make : List ℕ → Rule) → ((frames : List Frame) → behind_keyword k frames ≡ a_text make frames) → (frames : List Frame) (room : ℕ) (w : List ℕ) (tokens rest : Tokens) →
    BeginsWith tokens (word_of k) w rest → length frames + 1 ≤ 32 → 1 ≤ room → run (a_filter frames) room tokens ≡ run (behind_filter (make w) frames) (room - 1) rest
behind_text k make same frames room w tokens rest h shallow some =
    after_keyword k frames room tokens h.0 h.1 shallow some ∙ ap (λ (n : Next). run n (room - 1) h.0) (same frames)
    ∙ run-text make frames (room - 1) w rest h.0 (at_text h.2 w h.0 rest h.3 h.4)

in_list : (k : Keyword) (every : Bool) → ((frames : List Frame) → behind_keyword k frames ≡ a_list every frames) → (frames : List Frame) (room : ℕ) (tokens rest : Tokens) →
    BeginsList tokens (word_of k) rest → length frames + 1 ≤ 32 → 1 ≤ room → run (a_filter frames) room tokens ≡ run (a_member every frames) (room - 1) rest
in_list k every same frames room tokens rest h shallow some =
    after_keyword k frames room tokens h.0 h.1 shallow some ∙ ap (λ (n : Next). run n (room - 1) h.0) (same frames)
    ∙ run-opening every frames (room - 1) rest h.0 (ap opening_at h.2.1)

-- a filter begins with a word
abbrev pub FirstWord : Tokens → Type 0
FirstWord tokens = (w : List ℕ) × (rest : Tokens) × BeginsWord tokens w rest

pub first_word : (r : Rule) (tokens rest : Tokens) → Spelled r tokens rest → FirstWord tokens
first_word all tokens rest h = (codes "all", rest, h)
first_word nothing tokens rest h = (codes "nothing", rest, h)
first_word (is w) tokens rest h = (codes "is", h.0, h.1)
first_word (starts w) tokens rest h = (codes "starts", h.0, h.1)
first_word (ends w) tokens rest h = (codes "ends", h.0, h.1)
first_word (negation r) tokens rest h = (codes "not", h.0, h.1)
first_word (conjunction rs) tokens rest h = (codes "and", h.1.0, h.1.1)
first_word (disjunction rs) tokens rest h = (codes "or", h.1.0, h.1.1)

no_closing_first : (tokens : Tokens) → FirstWord tokens → closing_at tokens ≡ None
no_closing_first tokens h = ap closing_at h.2.1

same_run : (r s : Rule) (frames : List Frame) (m n : ℕ) (rest : Tokens) → r ≡ s → m ≡ n → run (behind_filter r frames) m rest ≡ run (behind_filter s frames) n rest
same_run r s frames m n rest e f = rw (e, f) refl

mutual
  pub is_read : (r : Rule) (frames : List Frame) (room : ℕ) (tokens rest : Tokens) → Spelled r tokens rest → length frames + depth r ≤ 32 → nodes r ≤ room →
      run (a_filter frames) room tokens ≡ run (behind_filter r frames) (room - nodes r) rest
  is_read all frames room tokens rest h shallow some = after_keyword keywords.All frames room tokens rest h shallow some
  is_read nothing frames room tokens rest h shallow some = after_keyword keywords.Nothing frames room tokens rest h shallow some
  is_read (is w) frames room tokens rest h shallow some = behind_text keywords.Is is (λ f. refl) frames room w tokens rest h shallow some
  is_read (starts w) frames room tokens rest h shallow some = behind_text keywords.Starts starts (λ f. refl) frames room w tokens rest h shallow some
  is_read (ends w) frames room tokens rest h shallow some = behind_text keywords.Ends ends (λ f. refl) frames room w tokens rest h shallow some
  is_read (negation r) frames room tokens rest h shallow some =
      after_keyword keywords.Not frames room tokens h.0 h.1 (omega arith) (omega arith)
      ∙ is_read r (negated ∷ frames) (room - 1) h.0 rest h.2 (omega arith) (omega arith)
      ∙ same_run (negation r) (negation r) frames (room - 1 - nodes r) (room - (nodes r + 1)) rest refl (omega arith)
  is_read (conjunction rs) frames room tokens rest h shallow some =
      in_list keywords.And true (λ f. refl) frames room tokens h.0 h.1 (omega arith) (omega arith)
      ∙ members_are_read rs true frames (room - 1) h.0 rest h.2 (omega arith) (omega arith)
      ∙ same_run (conjunction (rules (list rs))) (conjunction rs) frames (room - 1 - nodes_of_all rs) (room - (nodes_of_all rs + 1)) rest (ap conjunction (rules-list rs)) (omega arith)
  is_read (disjunction rs) frames room tokens rest h shallow some =
      in_list keywords.Or false (λ f. refl) frames room tokens h.0 h.1 (omega arith) (omega arith)
      ∙ members_are_read rs false frames (room - 1) h.0 rest h.2 (omega arith) (omega arith)
      ∙ same_run (disjunction (rules (list rs))) (disjunction rs) frames (room - 1 - nodes_of_all rs) (room - (nodes_of_all rs + 1)) rest (ap disjunction (rules-list rs)) (omega arith)

  pub members_are_read : (rs : Rules) (every : Bool) (frames : List Frame) (room : ℕ) (tokens rest : Tokens) → SpelledMembers rs tokens rest →
      length frames + 1 + depth_of_all rs ≤ 32 → nodes_of_all rs ≤ room →
      run (a_member every frames) room tokens ≡ run (behind_filter (list_of every (list rs)) frames) (room - nodes_of_all rs) rest
  members_are_read no_rules every frames room tokens rest h shallow some =
      run-closing every frames room rest tokens (ap closing_at h.1) ∙ same_run _ _ frames room (room - 0) rest refl (omega arith)
  members_are_read (rule r rs) every frames room tokens rest h shallow some =
      run-member every frames room tokens (no_closing_first tokens (first_word r tokens h.0 h.1))
      ∙ is_read r (listed every [] ∷ frames) room tokens h.0 h.1 (omega arith) (omega arith)
      ∙ more_are_read rs every (r ∷ []) frames (room - nodes r) h.0 rest h.2 (omega arith) (omega arith)
      ∙ same_run _ _ frames (room - nodes r - nodes_of_all rs) (room - (nodes r + nodes_of_all rs)) rest refl (omega arith)

  pub more_are_read : (rs : Rules) (every : Bool) (before : List Rule) (frames : List Frame) (room : ℕ) (tokens rest : Tokens) → SpelledMore rs tokens rest →
      length frames + 1 + depth_of_all rs ≤ 32 → nodes_of_all rs ≤ room →
      run (more every before frames) room tokens ≡ run (behind_filter (list_of every (before ++ list rs)) frames) (room - nodes_of_all rs) rest
  more_are_read no_rules every before frames room tokens rest h shallow some =
      run-last every before frames room rest tokens (ap separator_at h.1)
      ∙ same_run (list_of every before) (list_of every (before ++ [])) frames room (room - 0) rest (ap (list_of every) (sym (append-nil before))) (omega arith)
  more_are_read (rule r rs) every before frames room tokens rest h shallow some =
      run-comma every before frames room h.0 tokens (ap separator_at h.1.1)
      ∙ is_read r (listed every before ∷ frames) room h.0 h.2 h.3 (omega arith) (omega arith)
      ∙ more_are_read rs every (before ++ r ∷ []) frames (room - nodes r) h.2 rest h.4 (omega arith) (omega arith)
      ∙ same_run (list_of every ((before ++ r ∷ []) ++ list rs)) (list_of every (before ++ r ∷ list rs)) frames (room - nodes r - nodes_of_all rs) (room - (nodes r + nodes_of_all rs)) rest
      (ap (list_of every) (append_assoc before (r ∷ []) (list rs))) (omega arith)

whole_filter : (r : Rule) (room : ℕ) → run (behind_filter r []) room [] ≡ gave r
unfolding run
whole_filter r room = refl

pub within_is_read : (r : Rule) (tokens : Tokens) → Spelled r tokens [] → is_within_limits r ≡ true → run (a_filter []) 1000 tokens ≡ gave r
within_is_read r tokens h fits =
    let limits = and_parts (leb (depth r) 32) (leb (nodes r) 1000) fits in
    let deep = leb-true (depth r) 32 limits.0 in
    let many = leb-true (nodes r) 1000 limits.1 in
    is_read r [] 1000 tokens [] h (omega arith) many ∙ whole_filter r (1000 - nodes r)

-- what the whole text spells
pub Spells-read : (text : List ℕ) (r : Rule) → Spells text r → is_within_limits r ≡ true → filter_of text ≡ Ok r
unfolding Spells
Spells-read text r h fits = filter_of-ok text r (within_is_read r (tokens_of text) h fits)
