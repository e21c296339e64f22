-- Entries in order under which each key finds the same are the same.
use Rattle.std.proofs.Common.{◌≡◌, cond, List, [], ◌∷◌, true, T, refl, ap, sym, subst, ◌∙◌}
use Rattle.std.specs.declared.cmp.Ordering.{Ordering}
use Rattle.std.specs.declared.cmp.Ordering.TheVariants.{Less, Equal}
use Rattle.std.specs.Cmp.{IsTotalOrder}
use Rattle.std.specs.Ordering.{eq_by_cmp, is_lt}
use Rattle.std.specs.FinMap.Entries.{below_all, find, is_sorted, same_entries}
use Rattle.std.specs.List.{AllByRecursion}
use Rattle.std.specs.List.Sorted.{IsStrictlySortedBy}
use Rattle.std.specs.Map.{keys_of}
use Rattle.std.proofs.lemmas.Bool.{and_from}
use Rattle.std.specs.Prelude.{Some}
use Rattle.cap_tree.specs.Tree.{IsOrdered, get}

module _ {K X : Type 0} (R : K → K → Ordering) where
  below_each : (k : K) (es : List (K × X)) → AllByRecursion (λ y. R k y ≡ Less) (keys_of es) → below_all R k es ≡ true
  below_each k [] above = refl
  below_each k (e ∷ es) above = and_from (is_lt (R k e.0)) (below_all R k es) (ap is_lt above.0) (below_each k es above.1)

  sorted_from : (es : List (K × X)) → IsOrdered R es → is_sorted R es ≡ true
  unfolding IsStrictlySortedBy
  sorted_from [] ordered = refl
  sorted_from (e ∷ es) ordered = and_from (below_all R e.0 es) (is_sorted R es) (below_each e.0 es ordered.0) (sorted_from es ordered.1)

  get-find : (es : List (K × X)) (q : K) → get R es q ≡ find R q es
  get-find [] q = refl
  get-find (e ∷ es) q = ap (cond (eq_by_cmp R q e.0) (Some e.1)) (get-find es q)

  pub same_by_get : IsTotalOrder R → ((x y : K) → R x y ≡ Equal → x ≡ y) → (es fs : List (K × X)) → IsOrdered R es → IsOrdered R fs → ((q : K) → get R es q ≡ get R fs q) → es ≡ fs
  same_by_get o same es fs sorted sorted' found =
      same_entries R o same es fs (subst T (sym (sorted_from es sorted)) tt) (subst T (sym (sorted_from fs sorted')) tt) (λ q. sym (get-find es q) ∙ found q ∙ get-find fs q)
