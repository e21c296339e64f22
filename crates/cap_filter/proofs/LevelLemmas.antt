-- The equations of `rule_of`, one for each variant.
use Rattle.std.proofs.Common.{◌≡◌, ℕ, ◌+◌, ◌<◌, List, [], ◌∷◌, ◌++◌, max, length, get_or, drop, map, Vec, Box, refl, sym, ap, ◌∙◌, add-one, drop-cons, arith}
use Rattle.cap_filter.specs.Rule.{Rule, all, nothing, is, starts, ends, negation, conjunction, disjunction, rule}
use Rattle.cap_filter.specs.Limits.{depth, nodes, depth_of_all, nodes_of_all}
use Rattle.cap_filter.specs.Plain.{rules, level, rule_of}
use Rattle.cap_filter.specs.declared.filter.Filter.{Filter, Filter-F, fold-roll-Filter}
use Rattle.cap_filter.specs.declared.filter.Filter.TheVariants.{All, Nothing, Is, StartsWith, EndsWith, Not, And, Or, rolls-All, rolls-Nothing, rolls-Is, rolls-StartsWith, rolls-EndsWith, rolls-Not, rolls-And, rolls-Or}

module _ (A : Type 0) where
  pub rule_of-All : rule_of {A = A} All ≡ all
  rule_of-All = ap rule_of (sym rolls-All) ∙ fold-roll-Filter A Rule level Filter-F.All

  pub rule_of-Nothing : rule_of {A = A} Nothing ≡ nothing
  rule_of-Nothing = ap rule_of (sym rolls-Nothing) ∙ fold-roll-Filter A Rule level Filter-F.Nothing

  pub rule_of-Is : (w : List ℕ) → rule_of {A = A} (Is w) ≡ is w
  rule_of-Is w = ap rule_of (sym (rolls-Is w)) ∙ fold-roll-Filter A Rule level (Filter-F.Is w)

  pub rule_of-StartsWith : (w : List ℕ) → rule_of {A = A} (StartsWith w) ≡ starts w
  rule_of-StartsWith w = ap rule_of (sym (rolls-StartsWith w)) ∙ fold-roll-Filter A Rule level (Filter-F.StartsWith w)

  pub rule_of-EndsWith : (w : List ℕ) → rule_of {A = A} (EndsWith w) ≡ ends w
  rule_of-EndsWith w = ap rule_of (sym (rolls-EndsWith w)) ∙ fold-roll-Filter A Rule level (Filter-F.EndsWith w)

  pub rule_of-Not : (f : Box (Filter A) A) → rule_of (Not f) ≡ negation (rule_of f.value)
  rule_of-Not f = ap rule_of (sym (rolls-Not f)) ∙ fold-roll-Filter A Rule level (Filter-F.Not f)

  pub rule_of-And : (fs : Vec (Filter A) A) → rule_of (And fs) ≡ conjunction (rules (map rule_of fs.items))
  rule_of-And fs = ap rule_of (sym (rolls-And fs)) ∙ fold-roll-Filter A Rule level (Filter-F.And fs)

  pub rule_of-Or : (fs : Vec (Filter A) A) → rule_of (Or fs) ≡ disjunction (rules (map rule_of fs.items))
  rule_of-Or fs = ap rule_of (sym (rolls-Or fs)) ∙ fold-roll-Filter A Rule level (Filter-F.Or fs)

  -- what the filters from the i-th on say
  pub rules_at : (fs : List (Filter A)) (i : ℕ) (f : Filter A) → i < length fs → f ≡ get_or fs i f →
      rules (map rule_of (drop i fs)) ≡ rule (rule_of f) (rules (map rule_of (drop (i + 1) fs)))
  rules_at fs i f lt same =
      let e : drop i fs ≡ f ∷ drop (i + 1) fs = rw (add-one, drop-cons fs i f, ← same) refl in
      ap (λ (l : List (Filter A)). rules (map rule_of l)) e

-- one more filter at the end

pub depth_push : (rs : List Rule) (r : Rule) → depth_of_all (rules (rs ++ r ∷ [])) ≡ max (depth_of_all (rules rs)) (depth r)
depth_push [] r = omega arith
depth_push (s ∷ rs) r = omega (arith, depth_push rs r)

pub nodes_push : (rs : List Rule) (r : Rule) → nodes_of_all (rules (rs ++ r ∷ [])) ≡ nodes_of_all (rules rs) + nodes r
nodes_push [] r = omega arith
nodes_push (s ∷ rs) r = omega (arith, nodes_push rs r)
