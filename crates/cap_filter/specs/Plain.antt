-- A filter in memory as plain data.
use Rattle.std.specs.Prelude.{List, [], ◌∷◌}
use Rattle.cap_filter.specs.Rule.{Rule, all, nothing, is, starts, ends, negation, conjunction, disjunction}
use Rattle.cap_filter.specs.Rule.{Rules, no_rules, rule}
use Rattle.cap_filter.specs.declared.filter.Filter.{Filter}
use Rattle.cap_filter.specs.declared.filter.Filter.TheOpen.{Filter-F}
use Rattle.cap_filter.specs.declared.filter.Filter.TheFolds.{fold-Filter}

abbrev pub rules : List Rule → Rules
rules [] = no_rules
rules (r ∷ rs) = rule r (rules rs)

module _ {A : Type 0} where
  -- one level of a filter, with the rules of the filters inside it
  abbrev pub level : Filter-F A Rule → Rule
  level Filter-F.All = all
  level Filter-F.Nothing = nothing
  level (Filter-F.Is w) = is w
  level (Filter-F.StartsWith w) = starts w
  level (Filter-F.EndsWith w) = ends w
  level (Filter-F.Not f) = negation f.value
  level (Filter-F.And fs) = conjunction (rules fs.items)
  level (Filter-F.Or fs) = disjunction (rules fs.items)

  abbrev pub rule_of : Filter A → Rule
  rule_of = fold-Filter A Rule level
