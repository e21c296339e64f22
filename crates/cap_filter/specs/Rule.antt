-- A filter as plain data, without its place in memory.
use Rattle.std.specs.Prelude.{◌≡◌, ℕ, List, [], ◌∷◌, ◌==◌, if◌then◌else◌}
use Rattle.std.proofs.Common.{refl, ◌∙◌}
use Rattle.std.specs.Coded.{Coded, code_by, coded×, coded_ℕ, coded_list}

mutual
  pub data Rule : Type 0 where
    all : Rule
    nothing : Rule
    is : List ℕ → Rule
    starts : List ℕ → Rule
    ends : List ℕ → Rule
    negation : Rule → Rule
    conjunction : Rules → Rule
    disjunction : Rules → Rule

  pub data Rules : Type 0 where
    no_rules : Rules
    rule : Rule → Rules → Rules

-- The code of a rule is the list of steps that build it, on a stack of rules and a stack of lists of rules.
abbrev Steps : Type 0
Steps = List (ℕ × List ℕ)

abbrev mutual
  steps : Rule → Steps → Steps
  steps all after = (0, []) ∷ after
  steps nothing after = (1, []) ∷ after
  steps (is w) after = (2, w) ∷ after
  steps (starts w) after = (3, w) ∷ after
  steps (ends w) after = (4, w) ∷ after
  steps (negation r) after = steps r ((5, []) ∷ after)
  steps (conjunction rs) after = list_steps rs ((6, []) ∷ after)
  steps (disjunction rs) after = list_steps rs ((7, []) ∷ after)

  list_steps : Rules → Steps → Steps
  list_steps no_rules after = (8, []) ∷ after
  list_steps (rule r rs) after = list_steps rs (steps r ((9, []) ∷ after))

abbrev Stacks : Type 0
Stacks = List Rule × List Rules

abbrev top : List Rule → Rule
top [] = all
top (r ∷ rest) = r

abbrev top_list : List Rules → Rules
top_list [] = no_rules
top_list (rs ∷ rest) = rs

abbrev below : {X : Type 0} → List X → List X
below [] = []
below (x ∷ rest) = rest

abbrev after_step : ℕ × List ℕ → Stacks → Stacks
after_step s (rules, lists) =
    if s.0 == 0 then (all ∷ rules, lists)
    else if s.0 == 1 then (nothing ∷ rules, lists)
    else if s.0 == 2 then (is s.1 ∷ rules, lists)
    else if s.0 == 3 then (starts s.1 ∷ rules, lists)
    else if s.0 == 4 then (ends s.1 ∷ rules, lists)
    else if s.0 == 5 then (negation (top rules) ∷ below rules, lists)
    else if s.0 == 6 then (conjunction (top_list lists) ∷ rules, below lists)
    else if s.0 == 7 then (disjunction (top_list lists) ∷ rules, below lists)
    else if s.0 == 8 then (rules, no_rules ∷ lists)
    else (below rules, rule (top rules) (top_list lists) ∷ below lists)

abbrev built : Steps → Stacks → Rule
built [] stacks = top stacks.0
built (s ∷ rest) stacks = built rest (after_step s stacks)

mutual
  pub built-steps : (r : Rule) (after : Steps) (stacks : Stacks)
      → built (steps r after) stacks ≡ built after (r ∷ stacks.0, stacks.1)
  built-steps all after stacks = refl
  built-steps nothing after stacks = refl
  built-steps (is w) after stacks = refl
  built-steps (starts w) after stacks = refl
  built-steps (ends w) after stacks = refl
  built-steps (negation r) after stacks = built-steps r ((5, []) ∷ after) stacks
  built-steps (conjunction rs) after stacks = built-list_steps rs ((6, []) ∷ after) stacks
  built-steps (disjunction rs) after stacks = built-list_steps rs ((7, []) ∷ after) stacks

  pub built-list_steps : (rs : Rules) (after : Steps) (stacks : Stacks)
      → built (list_steps rs after) stacks ≡ built after (stacks.0, rs ∷ stacks.1)
  built-list_steps no_rules after stacks = refl
  built-list_steps (rule r rs) after stacks =
      built-list_steps rs (steps r ((9, []) ∷ after)) stacks
      ∙ built-steps r ((9, []) ∷ after) (stacks.0, rs ∷ stacks.1)

abbrev pub coded_rule : Coded Rule
coded_rule =
    code_by Steps (coded_list (coded× coded_ℕ (coded_list coded_ℕ))) (λ r. steps r []) (λ s. built s ([], []))
    (λ r. built-steps r [] ([], []))
