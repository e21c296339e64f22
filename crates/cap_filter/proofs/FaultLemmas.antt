-- Where the machine stops, the text stops being a filter's.
use Rattle.std.proofs.Common.{◌≡◌, ℕ, zero, suc, ◌-◌, Bool, true, false, ltb, cond, List, [], ◌∷◌, ◌++◌, length, codes, Option, Some, None, Ok, Err, refl, sym, ap, ◌∙◌, subst, append_assoc, append-nil}
use Rattle.std.specs.Result.{result_map_both}
use Rattle.cap_value.specs.declared.refusal.Refusal.TheVariants.{BadFilter, TooDeep}
use Rattle.cap_filter.specs.Faults.{Fits, StopsAt, IsUnfitAt, IsPastLimits}
use Rattle.cap_filter.specs.Grammar.{Begins, BeginsWord, Spelled, SpelledMembers, SpelledMore}
use Rattle.cap_filter.specs.Reading.{Frame, negated, listed, Next, a_filter, a_text, a_list, a_member, more, an_end, behind_filter, list_of, behind_keyword, Move, on, unfit, too_deep, within, at_keyword, start, behind_text, step, whole_filter, next_run, run, keyword_of, refusal, filter_of}
use Rattle.cap_filter.specs.Rule.{Rule, all, nothing, is, starts, ends, negation, conjunction, disjunction, Rules, no_rules, rule}
use Rattle.cap_filter.specs.Tokens.{Token, word, quoted, opening, closing, comma, other, Tokens, tokens_of, text_of}
use Rattle.cap_filter.specs.declared.reading.Keyword.{Keyword}
use Rattle.cap_filter.specs.declared.reading.Keyword.TheVariants as keywords
use Rattle.cap_filter.specs.declared.reading.Stop.TheVariants.{Unfit, Deep}
use Rattle.cap_filter.proofs.RunLemmas.{Answer, gave, refused}
use Rattle.cap_filter.proofs.SoundLemmas.{Closes, Means, Moved, begun_means, keyword_word, member_means, step_means}
use Rattle.cap_filter.proofs.SpelledLemmas.{list, rules-list, word_of, keyword_of-word, first_word, within_is_read}
use Rattle.cap_filter.proofs.UniqueLemmas.{same_begin}

-- ---- what a token leads to, from the spelling behind it

-- no token that fits is refused as unfit
abbrev Allowed : Move → (Next → Type 0) → Type 0
Allowed (on n room) P = P n
Allowed unfit P = ⊥
Allowed too_deep P = Unit {0}

placed_means : (q : Rule) (frames : List Frame) (tokens : Tokens) (r : Rule) → Closes q frames tokens r → Means (behind_filter q frames) tokens r
placed_means q [] tokens r h = h
placed_means q (negated ∷ frames) tokens r h = placed_means (negation q) frames tokens r h
placed_means q (listed every before ∷ frames) tokens r h =
    (h.0, h.1, h.2, subst (λ (l : List Rule). Closes (list_of every l) frames h.1 r) (sym (append_assoc before (q ∷ []) (list h.0))) h.3)

-- the keyword of a filter, and the tokens behind it
abbrev Opened : Rule → Tokens → Tokens → Type 0
Opened q tokens rest =
    (k : Keyword) × (after : Tokens) × BeginsWord tokens (word_of k) after × ((frames : List Frame) (r : Rule) → Closes q frames rest r → Means (behind_keyword k frames) after r)

opened : (q : Rule) (tokens rest : Tokens) → Spelled q tokens rest → Opened q tokens rest
opened all tokens rest h = (keywords.All, rest, h, λ frames r c. placed_means all frames rest r c)
opened nothing tokens rest h = (keywords.Nothing, rest, h, λ frames r c. placed_means nothing frames rest r c)
opened (is w) tokens rest h = (keywords.Is, h.0, h.1, λ frames r c. (w, h.2, rest, h.3, h.4, c))
opened (starts w) tokens rest h = (keywords.Starts, h.0, h.1, λ frames r c. (w, h.2, rest, h.3, h.4, c))
opened (ends w) tokens rest h = (keywords.Ends, h.0, h.1, λ frames r c. (w, h.2, rest, h.3, h.4, c))
opened (negation q) tokens rest h = (keywords.Not, h.0, h.1, λ frames r c. (q, rest, h.2, c))
opened (conjunction rs) tokens rest h =
    (keywords.And, h.1.0, h.1.1, λ frames r c. (rs, h.0, rest, h.1.2, h.2, subst (λ (l : Rules). Closes (conjunction l) frames rest r) (sym (rules-list rs)) c))
opened (disjunction rs) tokens rest h =
    (keywords.Or, h.1.0, h.1.1, λ frames r c. (rs, h.0, rest, h.1.2, h.2, subst (λ (l : Rules). Closes (disjunction l) frames rest r) (sym (rules-list rs)) c))

module _ (left : ℕ) (t : Token) (tokens : Tokens) (r : Rule) where
  abbrev Behind : Next → Type 0
  Behind n = Means n tokens r

  abbrev Here : Tokens
  Here = (left, t) ∷ tokens

  begins_as : (u : Token) (rest : Tokens) → Begins Here u rest → (t ≡ u) × (tokens ≡ rest)
  begins_as u rest h = same_begin Here t u tokens rest (left, refl) h

  limited : (b : Bool) (n : Next) (room : ℕ) → Means n tokens r → Allowed (cond b (on n room) too_deep) Behind
  limited true n room h = h
  limited false n room h = tt

  within_allowed : (frames : List Frame) (room : ℕ) (n : Next) → Means n tokens r → Allowed (within frames room n) Behind
  within_allowed frames zero n h = tt
  within_allowed frames (suc room) n h = limited (ltb (length frames) 32) n room h

  filter_back : (frames : List Frame) (room : ℕ) → Means (a_filter frames) Here r → Allowed (start frames room t) Behind
  filter_back frames room m =
      let o = opened m.0 Here m.1 m.2 in
      let same = begins_as (word (word_of o.0)) o.1 o.2 in
      let next : Means (behind_keyword o.0 frames) tokens r = subst (λ (l : Tokens). Means (behind_keyword o.0 frames) l r) (sym same.1) (o.3 frames r m.3) in
      let known : Allowed (start frames room (word (word_of o.0))) Behind =
      subst (λ (k : Option Keyword). Allowed (at_keyword frames room k) Behind) (sym (keyword_of-word o.0)) (within_allowed frames room (behind_keyword o.0 frames) next)
      in
      subst (λ (u : Token). Allowed (start frames room u) Behind) (sym same.0) known

  text_back : (make : List ℕ → Rule) (frames : List Frame) (room : ℕ) → Means (a_text make frames) Here r → Allowed (step (a_text make frames) room t) Behind
  text_back make frames room m =
      let same = begins_as m.1 m.2 m.4 in
      let text : text_of t ≡ Some m.0 = ap text_of same.0 ∙ m.3 in
      let next = placed_means (make m.0) frames tokens r (subst (λ (l : Tokens). Closes (make m.0) frames l r) (sym same.1) m.5) in
      subst (λ (o : Option (List ℕ)). Allowed (behind_text make frames room o) Behind) (sym text) next

  list_back : (every : Bool) (frames : List Frame) (room : ℕ) → Means (a_list every frames) Here r → Allowed (step (a_list every frames) room t) Behind
  list_back every frames room m =
      let same = begins_as opening m.1 m.3 in
      let members = subst (λ (l : Tokens). SpelledMembers m.0 l m.2) (sym same.1) m.4 in
      subst (λ (u : Token). Allowed (step (a_list every frames) room u) Behind) (sym same.0) (m.0, m.2, members, m.5)

  member_back : (every : Bool) (frames : List Frame) (room : ℕ) (rs : Rules) (rest : Tokens) → SpelledMembers rs Here rest → Closes (list_of every (list rs)) frames rest r →
      Allowed (step (a_member every frames) room t) Behind
  member_back every frames room no_rules rest h c =
      let same = begins_as closing rest h in
      let next = placed_means (list_of every []) frames tokens r (subst (λ (l : Tokens). Closes (list_of every []) frames l r) (sym same.1) c) in
      subst (λ (u : Token). Allowed (step (a_member every frames) room u) Behind) (sym same.0) next
  member_back every frames room (rule q rs) rest h c =
      let first = first_word q Here h.0 h.1 in
      let same = begins_as (word first.0) first.1 first.2 in
      let as_filter = filter_back (listed every [] ∷ frames) room (q, h.0, h.1, (rs, rest, h.2, c)) in
      let as_word = subst (λ (u : Token). Allowed (start (listed every [] ∷ frames) room u) Behind) same.0 as_filter in
      subst (λ (u : Token). Allowed (step (a_member every frames) room u) Behind) (sym same.0) as_word

  more_back : (every : Bool) (before : List Rule) (frames : List Frame) (room : ℕ) (rs : Rules) (rest : Tokens) → SpelledMore rs Here rest → Closes (list_of every (before ++ list rs)) frames rest r →
      Allowed (step (more every before frames) room t) Behind
  more_back every before frames room no_rules rest h c =
      let same = begins_as closing rest h in
      let ended_list = subst (λ (l : List Rule). Closes (list_of every l) frames rest r) (append-nil before) c in
      let next = placed_means (list_of every before) frames tokens r (subst (λ (l : Tokens). Closes (list_of every before) frames l r) (sym same.1) ended_list) in
      subst (λ (u : Token). Allowed (step (more every before frames) room u) Behind) (sym same.0) next
  more_back every before frames room (rule q rs) rest h c =
      let same = begins_as comma h.0 h.1 in
      let member = subst (λ (l : Tokens). Spelled q l h.2) (sym same.1) h.3 in
      subst (λ (u : Token). Allowed (step (more every before frames) room u) Behind) (sym same.0) (q, h.2, member, (rs, rest, h.4, c))

  step_back : (next : Next) (room : ℕ) → Means next Here r → Allowed (step next room t) Behind
  step_back (a_filter frames) room m = filter_back frames room m
  step_back (a_text make frames) room m = text_back make frames room m
  step_back (a_list every frames) room m = list_back every frames room m
  step_back (a_member every frames) room m = member_back every frames room m.0 m.1 m.2 m.3
  step_back (more every before frames) room m = more_back every before frames room m.0 m.1 m.2 m.3
  step_back (an_end q) room m = let impossible = m.0 in absurd cc

-- ---- at the end of the text

no_first : (t : Token) (rest : Tokens) → Begins [] t rest → ⊥
no_first t rest h = let impossible = h.1 in absurd cc

no_filter : (q : Rule) (rest : Tokens) → Spelled q [] rest → ⊥
no_filter q rest h = let first = first_word q [] rest h in no_first (word first.0) first.1 first.2

no_members : (rs : Rules) (rest : Tokens) → SpelledMembers rs [] rest → ⊥
no_members no_rules rest h = no_first closing rest h
no_members (rule q rs) rest h = no_filter q h.0 h.1

no_more : (rs : Rules) (rest : Tokens) → SpelledMore rs [] rest → ⊥
no_more no_rules rest h = no_first closing rest h
no_more (rule q rs) rest h = no_first comma h.0 h.1

end_back : (next : Next) (r : Rule) → Means next [] r → whole_filter next ≡ gave r
end_back (a_filter frames) r m = absurd (no_filter m.0 m.1 m.2)
end_back (a_text make frames) r m = absurd (no_first m.1 m.2 m.4)
end_back (a_list every frames) r m = absurd (no_first opening m.1 m.3)
end_back (a_member every frames) r m = absurd (no_members m.0 m.1 m.2)
end_back (more every before frames) r m = absurd (no_more m.0 m.1 m.2)
end_back (an_end q) r m = ap gave m.1

-- ---- every place in a text can be gone on from

closes_some : (q : Rule) (frames : List Frame) → (tokens : Tokens) × (r : Rule) × Closes q frames tokens r
closes_some q [] = ([], q, (refl, refl))
closes_some q (negated ∷ frames) = closes_some (negation q) frames
closes_some q (listed every before ∷ frames) =
    let c = closes_some (list_of every (before ++ q ∷ [])) frames in ((0, closing) ∷ c.0, c.1, (no_rules, c.0, (0, refl), c.2))

means_some : (next : Next) → (tokens : Tokens) × (r : Rule) × Means next tokens r
means_some (a_filter frames) = let c = closes_some all frames in ((0, word (codes "all")) ∷ c.0, c.1, (all, c.0, (0, refl), c.2))
means_some (a_text make frames) = let c = closes_some (make []) frames in ((0, word []) ∷ c.0, c.1, ([], word [], c.0, refl, (0, refl), c.2))
means_some (a_list every frames) =
    let c = closes_some (list_of every []) frames in ((0, opening) ∷ (0, closing) ∷ c.0, c.1, (no_rules, (0, closing) ∷ c.0, c.0, (0, refl), (0, refl), c.2))
means_some (a_member every frames) = let c = closes_some (list_of every []) frames in ((0, closing) ∷ c.0, c.1, (no_rules, c.0, (0, refl), c.2))
means_some (more every before frames) = let c = closes_some (list_of every (before ++ [])) frames in ((0, closing) ∷ c.0, c.1, (no_rules, c.0, (0, refl), c.2))
means_some (an_end q) = ([], q, (refl, refl))

-- also from a filter that passes a limit
abbrev GoesOn : Next → ℕ → Token → Type 0
GoesOn next left t = (tokens : Tokens) × (r : Rule) × Means next ((left, t) ∷ tokens) r

started_goes_on : (frames : List Frame) (room left : ℕ) (w : List ℕ) (o : Option Keyword) → keyword_of w ≡ o → at_keyword frames room o ≡ too_deep → GoesOn (a_filter frames) left (word w)
started_goes_on frames room left w None e h = absurd cc
started_goes_on frames room left w (Some k) e h =
    let c = means_some (behind_keyword k frames) in
    let known : (left, word w) ∷ c.0 ≡ (left, word (word_of k)) ∷ c.0 = ap (λ (l : List ℕ). (left, word l) ∷ c.0) (keyword_word w k e) in
    (c.0, c.1, begun_means k frames ((left, word w) ∷ c.0) c.0 c.1 (left, known) c.2)

deep_goes_on : (next : Next) (room left : ℕ) (t : Token) → step next room t ≡ too_deep → GoesOn next left t
deep_goes_on (a_filter frames) room left (word w) h = started_goes_on frames room left w (keyword_of w) refl h
deep_goes_on (a_filter frames) room left (quoted w) h = absurd cc
deep_goes_on (a_filter frames) room left opening h = absurd cc
deep_goes_on (a_filter frames) room left closing h = absurd cc
deep_goes_on (a_filter frames) room left comma h = absurd cc
deep_goes_on (a_filter frames) room left other h = absurd cc
deep_goes_on (a_text make frames) room left (word w) h = absurd cc
deep_goes_on (a_text make frames) room left (quoted w) h = absurd cc
deep_goes_on (a_text make frames) room left opening h = absurd cc
deep_goes_on (a_text make frames) room left closing h = absurd cc
deep_goes_on (a_text make frames) room left comma h = absurd cc
deep_goes_on (a_text make frames) room left other h = absurd cc
deep_goes_on (a_list every frames) room left (word w) h = absurd cc
deep_goes_on (a_list every frames) room left (quoted w) h = absurd cc
deep_goes_on (a_list every frames) room left opening h = absurd cc
deep_goes_on (a_list every frames) room left closing h = absurd cc
deep_goes_on (a_list every frames) room left comma h = absurd cc
deep_goes_on (a_list every frames) room left other h = absurd cc
deep_goes_on (a_member every frames) room left (word w) h = let m = started_goes_on (listed every [] ∷ frames) room left w (keyword_of w) refl h in (m.0, m.1, member_means every frames ((left, word w) ∷ m.0) m.1 m.2)
deep_goes_on (a_member every frames) room left (quoted w) h = absurd cc
deep_goes_on (a_member every frames) room left opening h = absurd cc
deep_goes_on (a_member every frames) room left closing h = absurd cc
deep_goes_on (a_member every frames) room left comma h = absurd cc
deep_goes_on (a_member every frames) room left other h = absurd cc
deep_goes_on (more every before frames) room left (word w) h = absurd cc
deep_goes_on (more every before frames) room left (quoted w) h = absurd cc
deep_goes_on (more every before frames) room left opening h = absurd cc
deep_goes_on (more every before frames) room left closing h = absurd cc
deep_goes_on (more every before frames) room left comma h = absurd cc
deep_goes_on (more every before frames) room left other h = absurd cc
deep_goes_on (an_end q) room left (word w) h = absurd cc
deep_goes_on (an_end q) room left (quoted w) h = absurd cc
deep_goes_on (an_end q) room left opening h = absurd cc
deep_goes_on (an_end q) room left closing h = absurd cc
deep_goes_on (an_end q) room left comma h = absurd cc
deep_goes_on (an_end q) room left other h = absurd cc

-- ---- a place that was reached

-- behind the front of a text: what may come next is exactly what completes the front to a spelling
record IsReached (front : Tokens) (next : Next) (room : ℕ) : Type 0 where
  spells : (tokens : Tokens) (r : Rule) → Means next tokens r → Spelled r (front ++ tokens) []
  means : (tokens : Tokens) (r : Rule) → Spelled r (front ++ tokens) [] → Means next tokens r
  runs : (tokens : Tokens) → run (a_filter []) 1000 (front ++ tokens) ≡ run next room tokens

IsReached-start : IsReached [] (a_filter []) 1000
IsReached-start = record {
  spells = λ tokens r m. subst (λ (q : Rule). Spelled q tokens []) m.3.1 (subst (λ (rest : Tokens). Spelled m.0 tokens rest) m.3.0 m.2);
  means = λ tokens r h. (r, [], h, (refl, refl));
  runs = λ tokens. refl;
}

one_more : (front : Tokens) (x : ℕ × Token) (rest : Tokens) → (front ++ x ∷ []) ++ rest ≡ front ++ x ∷ rest
one_more front x rest = append_assoc front (x ∷ []) rest

run_on : (next : Next) (room left : ℕ) (t : Token) (n : Next) (q : ℕ) (tokens : Tokens) → step next room t ≡ on n q → run next room ((left, t) ∷ tokens) ≡ run n q tokens
unfolding run
run_on next room left t n q tokens e = rw e refl

IsReached-on : (front : Tokens) (next : Next) (room left : ℕ) (t : Token) (n : Next) (q : ℕ) → IsReached front next room → step next room t ≡ on n q → IsReached (front ++ (left, t) ∷ []) n q
IsReached-on front next room left t n q reached e = record {
  spells = λ tokens r m.
      let moved = subst (λ (v : Move). Moved v (λ k. Means k tokens r)) (sym e) m in
      subst (λ (l : Tokens). Spelled r l []) (sym (one_more front (left, t) tokens)) (reached.spells ((left, t) ∷ tokens) r (step_means tokens r next room left t moved));
  means = λ tokens r h.
      let m = reached.means ((left, t) ∷ tokens) r (subst (λ (l : Tokens). Spelled r l []) (one_more front (left, t) tokens) h) in
      subst (λ (v : Move). Allowed v (λ k. Means k tokens r)) e (step_back left t tokens r next room m);
  runs = λ tokens. ap (run (a_filter []) 1000) (one_more front (left, t) tokens) ∙ reached.runs ((left, t) ∷ tokens) ∙ run_on next room left t n q tokens e;
}

Fits-reached : (front : Tokens) (next : Next) (room : ℕ) → IsReached front next room → Fits front
Fits-reached front next room reached = let c = means_some next in (c.0, c.1, reached.spells c.0 c.1 c.2)

-- ---- the first token that does not fit

abbrev UnfitIn : Tokens → ℕ → Type 0
UnfitIn tokens left = (front : Tokens) × (rest : Tokens) × (tokens ≡ front ++ rest) × Fits front × StopsAt front rest left

not_gave : (next : Next) (left : ℕ) (r : Rule) → whole_filter next ≡ refused (Unfit left) → whole_filter next ≡ gave r → ⊥
not_gave next left r h e = let both : gave r ≡ refused (Unfit left) = sym e ∙ h in absurd cc

ends_at_zero : (next : Next) (left : ℕ) → whole_filter next ≡ refused (Unfit left) → left ≡ 0
ends_at_zero (a_filter frames) left h = cc
ends_at_zero (a_text make frames) left h = cc
ends_at_zero (a_list every frames) left h = cc
ends_at_zero (a_member every frames) left h = cc
ends_at_zero (more every before frames) left h = cc
ends_at_zero (an_end q) left h = absurd cc

unfit_end : (front : Tokens) (next : Next) (room left : ℕ) → IsReached front next room → whole_filter next ≡ refused (Unfit left) → UnfitIn (front ++ []) left
unfit_end front next room left reached h = (
  front,
  [],
  refl,
  Fits-reached front next room reached,
  (ends_at_zero next left h, λ r s. not_gave next left r h (end_back next r (reached.means [] r (subst (λ (l : Tokens). Spelled r l []) (sym (append-nil front)) s)))),
)

unfit_token : (front : Tokens) (next : Next) (room left : ℕ) (t : Token) (rest : Tokens) → IsReached front next room → step next room t ≡ unfit → UnfitIn (front ++ (left, t) ∷ rest) left
unfit_token front next room left t rest reached e = (
  front,
  (left, t) ∷ rest,
  refl,
  Fits-reached front next room reached,
  (
    refl,
    λ fits.
        let m = reached.means ((left, t) ∷ fits.0) fits.1 (subst (λ (l : Tokens). Spelled fits.1 l []) (one_more front (left, t) fits.0) fits.2) in
        subst (λ (v : Move). Allowed v (λ k. Means k fits.0 fits.1)) e (step_back left t fits.0 fits.1 next room m),
  ),
)

unfit_step : (m : Move) (front : Tokens) (next : Next) (room left place : ℕ) (t : Token) (rest : Tokens) → IsReached front next room → step next room t ≡ m →
    ((n : Next) (q : ℕ) → IsReached (front ++ (place, t) ∷ []) n q → run n q rest ≡ refused (Unfit left) → UnfitIn ((front ++ (place, t) ∷ []) ++ rest) left) →
    next_run place m (λ n q. run n q rest) ≡ refused (Unfit left) → UnfitIn (front ++ (place, t) ∷ rest) left
unfit_step (on n q) front next room left place t rest reached e others h =
    subst (λ (l : Tokens). UnfitIn l left) (one_more front (place, t) rest) (others n q (IsReached-on front next room place t n q reached e) h)
unfit_step unfit front next room left place t rest reached e others h =
    let same : place ≡ left = cc in subst (λ (n : ℕ). UnfitIn (front ++ (place, t) ∷ rest) n) same (unfit_token front next room place t rest reached e)
unfit_step too_deep front next room left place t rest reached e others h = absurd cc

unfit_in : (tokens front : Tokens) (next : Next) (room left : ℕ) → IsReached front next room → run next room tokens ≡ refused (Unfit left) → UnfitIn (front ++ tokens) left
unfolding run
unfit_in [] front next room left reached h = unfit_end front next room left reached h
unfit_in ((place, t) ∷ rest) front next room left reached h =
    unfit_step (step next room t) front next room left place t rest reached refl (λ n q. unfit_in rest (front ++ (place, t) ∷ []) n q left) h

-- ---- the first filter that passes a limit

abbrev DeepIn : Tokens → Type 0
DeepIn tokens =
    (front : Tokens) × (rest : Tokens) × (tokens ≡ front ++ rest) × Fits front
    × ((more_tokens : Tokens) → run (a_filter []) 1000 (front ++ more_tokens) ≡ refused Deep)

run_deep : (next : Next) (room left : ℕ) (t : Token) (tokens : Tokens) → step next room t ≡ too_deep → run next room ((left, t) ∷ tokens) ≡ refused Deep
unfolding run
run_deep next room left t tokens e = rw e refl

deep_token : (front : Tokens) (next : Next) (room left : ℕ) (t : Token) (rest : Tokens) → IsReached front next room → step next room t ≡ too_deep → DeepIn (front ++ (left, t) ∷ rest)
deep_token front next room left t rest reached e =
    let c = deep_goes_on next room left t e in (
      front ++ (left, t) ∷ [],
      rest,
      sym (one_more front (left, t) rest),
      (c.0, c.1, subst (λ (l : Tokens). Spelled c.1 l []) (sym (one_more front (left, t) c.0)) (reached.spells ((left, t) ∷ c.0) c.1 c.2)),
      λ tokens. ap (run (a_filter []) 1000) (one_more front (left, t) tokens) ∙ reached.runs ((left, t) ∷ tokens) ∙ run_deep next room left t tokens e,
    )

deep_step : (m : Move) (front : Tokens) (next : Next) (room place : ℕ) (t : Token) (rest : Tokens) → IsReached front next room → step next room t ≡ m →
    ((n : Next) (q : ℕ) → IsReached (front ++ (place, t) ∷ []) n q → run n q rest ≡ refused Deep → DeepIn ((front ++ (place, t) ∷ []) ++ rest)) →
    next_run place m (λ n q. run n q rest) ≡ refused Deep → DeepIn (front ++ (place, t) ∷ rest)
deep_step (on n q) front next room place t rest reached e others h =
    subst DeepIn (one_more front (place, t) rest) (others n q (IsReached-on front next room place t n q reached e) h)
deep_step unfit front next room place t rest reached e others h = absurd cc
deep_step too_deep front next room place t rest reached e others h = deep_token front next room place t rest reached e

no_deep_end : (next : Next) → whole_filter next ≡ refused Deep → ⊥
no_deep_end (a_filter frames) h = absurd cc
no_deep_end (a_text make frames) h = absurd cc
no_deep_end (a_list every frames) h = absurd cc
no_deep_end (a_member every frames) h = absurd cc
no_deep_end (more every before frames) h = absurd cc
no_deep_end (an_end q) h = absurd cc

deep_in : (tokens front : Tokens) (next : Next) (room : ℕ) → IsReached front next room → run next room tokens ≡ refused Deep → DeepIn (front ++ tokens)
unfolding run
deep_in [] front next room reached h = absurd (no_deep_end next h)
deep_in ((place, t) ∷ rest) front next room reached h =
    deep_step (step next room t) front next room place t rest reached refl (λ n q. deep_in rest (front ++ (place, t) ∷ []) n q) h

-- ---- the whole text

refused_unfit : (text : List ℕ) (a : Answer) (at : ℕ) → result_map_both (λ (q : Rule). q) (refusal text) a ≡ Err (BadFilter at) → (left : ℕ) × (a ≡ refused (Unfit left)) × (at ≡ length text - left)
refused_unfit text (Ok r) at h = absurd cc
refused_unfit text (Err (Unfit left)) at h = let same : BadFilter (length text - left) ≡ BadFilter at = cc in let place : length text - left ≡ at = cc in (left, refl, sym place)
refused_unfit text (Err Deep) at h = absurd cc

refused_deep : (text : List ℕ) (a : Answer) → result_map_both (λ (q : Rule). q) (refusal text) a ≡ Err TooDeep → a ≡ refused Deep
refused_deep text (Ok r) h = absurd cc
refused_deep text (Err (Unfit left)) h = absurd cc
refused_deep text (Err Deep) h = refl

not_both : (r : Rule) → gave r ≡ refused Deep → ⊥
not_both r h = absurd cc

pub IsUnfitAt-filter_of : (text : List ℕ) (at : ℕ) → filter_of text ≡ Err (BadFilter at) → IsUnfitAt text at
unfolding filter_of IsUnfitAt
IsUnfitAt-filter_of text at h =
    let stop = refused_unfit text (run (a_filter []) 1000 (tokens_of text)) at h in
    let found = unfit_in (tokens_of text) [] (a_filter []) 1000 stop.0 IsReached-start stop.1 in
    (stop.0, stop.2, found.0, found.1, found.2, found.3, found.4)

pub IsPastLimits-filter_of : (text : List ℕ) → filter_of text ≡ Err TooDeep → IsPastLimits text
unfolding filter_of IsPastLimits
IsPastLimits-filter_of text h =
    let found = deep_in (tokens_of text) [] (a_filter []) 1000 IsReached-start (refused_deep text (run (a_filter []) 1000 (tokens_of text)) h) in
    (found.0, found.1, found.2, found.3, λ r rest s fits. not_both r (sym (within_is_read r (found.0 ++ rest) s fits) ∙ found.4 rest))
