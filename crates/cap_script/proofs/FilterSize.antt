-- A filter that is read is within the limits.
use Rattle.std.proofs.Common.{◌≡◌, ℕ, zero, suc, ◌+◌, ◌<◌, ◌≤◌, max, subst, Bool, true, false, ltb, List, [], ◌∷◌, ◌++◌, length, Option, Some, None, Result, Ok, Err, codes, refl, ap, arith, le-leb}
use Rattle.std.specs.Prelude.{IsTrue, ⊤}
use Rattle.std.specs.Result.{result_map_both}
use Rattle.std.proofs.lemmas.Bool.{cond_both, ltb-true}
use Rattle.cap_value.specs.Bytes.{bytes_eq}
use Rattle.cap_value.specs.declared.refusal.Refusal.{Refusal}
use Rattle.cap_filter.specs.Limits.{depth, depth_of_all, is_within_limits, nodes, nodes_of_all}
use Rattle.cap_filter.specs.Plain.{rules}
use Rattle.cap_filter.specs.Reading.{Frame, negated, listed, Next, a_filter, a_text, a_list, a_member, more, an_end, Move, on, unfit, too_deep, at_keyword, behind_filter, behind_text, filter_of, keyword_of, list_of, next_run, refusal, run, start, step, whole_filter, within}
use Rattle.cap_filter.specs.Rule.{Rule, all, nothing, is, starts, ends, negation}
use Rattle.cap_filter.specs.Tokens.{Token, word, quoted, opening, closing, comma, other, Tokens, text_of, tokens_of}

-- one more filter at the end of a list

depth_push : (rs : List Rule) (r : Rule) → depth_of_all (rules (rs ++ r ∷ [])) ≡ max (depth_of_all (rules rs)) (depth r)
depth_push [] r = omega arith
depth_push (s ∷ rs) r = omega (arith, depth_push rs r)

nodes_push : (rs : List Rule) (r : Rule) → nodes_of_all (rules (rs ++ r ∷ [])) ≡ nodes_of_all (rules rs) + nodes r
nodes_push [] r = omega arith
nodes_push (s ∷ rs) r = omega (arith, nodes_push rs r)

list_depth : (every : Bool) (rs : List Rule) → depth (list_of every rs) ≡ depth_of_all (rules rs) + 1
list_depth true rs = refl
list_depth false rs = refl

list_nodes : (every : Bool) (rs : List Rule) → nodes (list_of every rs) ≡ nodes_of_all (rules rs) + 1
list_nodes true rs = refl
list_nodes false rs = refl

-- ---- what is begun

-- the nodes that are begun
abbrev begun : List Frame → ℕ
begun [] = 0
begun (negated ∷ frames) = 1 + begun frames
begun (listed every members ∷ frames) = 1 + nodes_of_all (rules members) + begun frames

-- each member is on one of the levels
abbrev Shallow : List Frame → Type 0
Shallow [] = ⊤
Shallow (negated ∷ frames) = (length frames + 1 ≤ 32) × Shallow frames
Shallow (listed every members ∷ frames) = (length frames + 1 + depth_of_all (rules members) ≤ 32) × Shallow frames

-- there is room for so many more nodes
abbrev Fit : Next → ℕ → Type 0
Fit (a_filter frames) room = Shallow frames × (begun frames + room ≤ 1000)
Fit (a_text make frames) room = (Shallow frames × (length frames + 1 ≤ 32) × (begun frames + 1 + room ≤ 1000)) × ((w : List ℕ) → (depth (make w) ≡ 1) × (nodes (make w) ≡ 1))
Fit (a_list every frames) room = Shallow frames × (length frames + 1 ≤ 32) × (begun frames + 1 + room ≤ 1000)
Fit (a_member every frames) room = Shallow frames × (length frames + 1 ≤ 32) × (begun frames + 1 + room ≤ 1000)
Fit (more every members frames) room = Shallow frames × (length frames + 1 + depth_of_all (rules members) ≤ 32) × (begun frames + 1 + nodes_of_all (rules members) + room ≤ 1000)
Fit (an_end r) room = (depth r ≤ 32) × (nodes r + room ≤ 1000)

-- behind a whole filter
behind_fit : (r : Rule) (frames : List Frame) (room : ℕ) → Shallow frames → length frames + depth r ≤ 32 → begun frames + nodes r + room ≤ 1000 → Fit (behind_filter r frames) room
behind_fit r [] room shallow deep many = (omega (arith, deep), omega (arith, many))
behind_fit r (negated ∷ frames) room (low, shallow) deep many = behind_fit (negation r) frames room shallow (omega (arith, deep)) (omega (arith, many))
behind_fit r (listed every members ∷ frames) room (low, shallow) deep many =
    (shallow, omega (arith, low, deep, depth_push members r), omega (arith, many, nodes_push members r))

-- ---- a token

abbrev MoveFit : Move → Type 0
MoveFit (on next room) = Fit next room
MoveFit unfit = ⊤
MoveFit too_deep = ⊤

within_fit : (next : Next) (frames : List Frame) (room : ℕ) → ((left : ℕ) → room ≡ suc left → length frames < 32 → Fit next left) → MoveFit (within frames room next)
within_fit next frames zero fit = tt
within_fit next frames (suc room) fit = cond_both (ltb (length frames) 32) (on next room) too_deep MoveFit (λ e. fit room refl (ltb-true (length frames) 32 e)) (λ e. tt)

module _ (frames : List Frame) (room : ℕ) (shallow : Shallow frames) (many : begun frames + room ≤ 1000) where
  whole_fit : (r : Rule) → depth r ≡ 1 → nodes r ≡ 1 → MoveFit (within frames room (behind_filter r frames))
  whole_fit r deep size = within_fit (behind_filter r frames) frames room (λ left same low. behind_fit r frames left shallow (omega (arith, low, deep)) (omega (arith, many, same, size)))

  a_text_fit : (make : List ℕ → Rule) → ((w : List ℕ) → (depth (make w) ≡ 1) × (nodes (make w) ≡ 1)) → MoveFit (within frames room (a_text make frames))
  a_text_fit make sized = within_fit (a_text make frames) frames room (λ left same low. ((shallow, omega (arith, low), omega (arith, many, same)), sized))

  a_list_fit : (every : Bool) → MoveFit (within frames room (a_list every frames))
  a_list_fit every = within_fit (a_list every frames) frames room (λ left same low. (shallow, omega (arith, low), omega (arith, many, same)))

  negated_fit : MoveFit (within frames room (a_filter (negated ∷ frames)))
  negated_fit = within_fit (a_filter (negated ∷ frames)) frames room (λ left same low. ((omega (arith, low), shallow), omega (arith, many, same)))

  word_fit : (w : List ℕ) → MoveFit (at_keyword frames room (keyword_of w))
  unfolding keyword_of
  word_fit w =
      cond_both (bytes_eq w (codes "all")) _ _ (λ o. MoveFit (at_keyword frames room o)) (λ e. whole_fit all refl refl)
      (λ e. cond_both (bytes_eq w (codes "nothing")) _ _ (λ o. MoveFit (at_keyword frames room o)) (λ e. whole_fit nothing refl refl)
      (λ e. cond_both (bytes_eq w (codes "is")) _ _ (λ o. MoveFit (at_keyword frames room o)) (λ e. a_text_fit is (λ v. (refl, refl)))
      (λ e. cond_both (bytes_eq w (codes "starts")) _ _ (λ o. MoveFit (at_keyword frames room o)) (λ e. a_text_fit starts (λ v. (refl, refl)))
      (λ e. cond_both (bytes_eq w (codes "ends")) _ _ (λ o. MoveFit (at_keyword frames room o)) (λ e. a_text_fit ends (λ v. (refl, refl)))
      (λ e. cond_both (bytes_eq w (codes "not")) _ _ (λ o. MoveFit (at_keyword frames room o)) (λ e. negated_fit)
      (λ e. cond_both (bytes_eq w (codes "and")) _ _ (λ o. MoveFit (at_keyword frames room o)) (λ e. a_list_fit true)
      (λ e. cond_both (bytes_eq w (codes "or")) _ _ (λ o. MoveFit (at_keyword frames room o)) (λ e. a_list_fit false) (λ e. tt))))))))

start_fit : (frames : List Frame) (room : ℕ) (t : Token) → Shallow frames → begun frames + room ≤ 1000 → MoveFit (start frames room t)
start_fit frames room (word w) shallow many = word_fit frames room shallow many w
start_fit frames room (quoted w) shallow many = tt
start_fit frames room opening shallow many = tt
start_fit frames room closing shallow many = tt
start_fit frames room comma shallow many = tt
start_fit frames room other shallow many = tt

text_fit : (make : List ℕ → Rule) (frames : List Frame) (room : ℕ) (o : Option (List ℕ)) → Fit (a_text make frames) room → MoveFit (behind_text make frames room o)
text_fit make frames room None fit = tt
text_fit make frames room (Some w) ((shallow, low, many), sized) =
    let (deep, size) = sized w in
    behind_fit (make w) frames room shallow (omega (arith, low, deep)) (omega (arith, many, size))

list_fit : (every : Bool) (rs : List Rule) (frames : List Frame) (room : ℕ) → Shallow frames → length frames + 1 + depth_of_all (rules rs) ≤ 32 → begun frames + 1 + nodes_of_all (rules rs) + room ≤ 1000 → Fit (behind_filter (list_of every rs) frames) room
list_fit every rs frames room shallow low many =
    behind_fit (list_of every rs) frames room shallow (omega (arith, low, list_depth every rs)) (omega (arith, many, list_nodes every rs))

member_fit : (every : Bool) (frames : List Frame) (room : ℕ) (t : Token) → Fit (a_member every frames) room → MoveFit (start (listed every [] ∷ frames) room t)
member_fit every frames room t (shallow, low, many) = start_fit (listed every [] ∷ frames) room t shallow_too many_too
  where
    shallow_too : Shallow (listed every [] ∷ frames)
    shallow_too = (omega (arith, low), shallow)

    many_too : begun (listed every [] ∷ frames) + room ≤ 1000
    many_too = omega (arith, many)

step_fit : (next : Next) (room : ℕ) (t : Token) → Fit next room → MoveFit (step next room t)
step_fit (a_filter frames) room t (shallow, many) = start_fit frames room t shallow many
step_fit (a_text make frames) room t fit = text_fit make frames room (text_of t) fit
step_fit (a_list every frames) room opening fit = fit
step_fit (a_list every frames) room (word w) fit = tt
step_fit (a_list every frames) room (quoted w) fit = tt
step_fit (a_list every frames) room closing fit = tt
step_fit (a_list every frames) room comma fit = tt
step_fit (a_list every frames) room other fit = tt
step_fit (a_member every frames) room closing (shallow, low, many) = list_fit every [] frames room shallow (omega (arith, low)) (omega (arith, many))
step_fit (a_member every frames) room (word w) fit = member_fit every frames room (word w) fit
step_fit (a_member every frames) room (quoted w) fit = tt
step_fit (a_member every frames) room opening fit = tt
step_fit (a_member every frames) room comma fit = tt
step_fit (a_member every frames) room other fit = tt
step_fit (more every members frames) room comma (shallow, low, many) = ((low, shallow), omega (arith, many))
step_fit (more every members frames) room closing (shallow, low, many) = list_fit every members frames room shallow low many
step_fit (more every members frames) room (word w) fit = tt
step_fit (more every members frames) room (quoted w) fit = tt
step_fit (more every members frames) room opening fit = tt
step_fit (more every members frames) room other fit = tt
step_fit (an_end r) room t fit = tt

-- ---- the whole text

end_fit : (next : Next) (room : ℕ) (r : Rule) → Fit next room → whole_filter next ≡ Ok r → (depth r ≤ 32) × (nodes r ≤ 1000)
end_fit (an_end q) room r (deep, many) e =
    let same : q ≡ r = cc in
    (subst (λ (p : Rule). depth p ≤ 32) same deep, subst (λ (p : Rule). nodes p ≤ 1000) same (omega (arith, many)))
end_fit (a_filter frames) room r fit e = absurd cc
end_fit (a_text make frames) room r fit e = absurd cc
end_fit (a_list every frames) room r fit e = absurd cc
end_fit (a_member every frames) room r fit e = absurd cc
end_fit (more every members frames) room r fit e = absurd cc

run_fit : (tokens : Tokens) (next : Next) (room : ℕ) (r : Rule) → Fit next room → run next room tokens ≡ Ok r → (depth r ≤ 32) × (nodes r ≤ 1000)
unfolding run
run_fit [] next room r fit e = end_fit next room r fit e
run_fit ((left, t) ∷ rest) next room r fit e = by (step next room t) (step_fit next room t fit) (λ n m f g. run_fit rest n m r f g) e
  where
    by : (move : Move) → MoveFit move → ((n : Next) (m : ℕ) → Fit n m → run n m rest ≡ Ok r → (depth r ≤ 32) × (nodes r ≤ 1000)) → next_run left move (λ n m. run n m rest) ≡ Ok r → (depth r ≤ 32) × (nodes r ≤ 1000)
    by (on n m) f others g = others n m f g
    by unfit f others g = absurd cc
    by too_deep f others g = absurd cc

pub mapped_ok : {S : Type 0} (why : S → Refusal) (o : Result Rule S) (r : Rule) → result_map_both (λ q. q) why o ≡ Ok r → o ≡ Ok r
mapped_ok why (Ok q) r e = let same : q ≡ r = cc in ap (λ (p : Rule). Ok p) same
mapped_ok why (Err stop) r e = absurd cc

pub read_within : (text : List ℕ) (r : Rule) → filter_of text ≡ Ok r → IsTrue (is_within_limits r)
unfolding filter_of
read_within text r e =
    let (deep, many) = run_fit (tokens_of text) (a_filter []) 1000 r (tt, omega arith) (mapped_ok (refusal text) (run (a_filter []) 1000 (tokens_of text)) r e) in
    rw (le-leb (depth r) 32 deep, le-leb (nodes r) 1000 many) refl
