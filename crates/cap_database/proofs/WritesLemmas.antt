-- Writes to a list of entries in the order of their keys: each puts an entry or takes one away.
use Rattle.std.proofs.Common.{◌≡◌, true, cond, Option, Some, None, List, [], ◌∷◌, refl, sym, ap, subst, ◌∙◌, arith, Ordering, T}
use Rattle.std.specs.List.{AllByRecursion}
use Rattle.std.specs.BTreeMap.{is_at}
use Rattle.std.specs.Ordering.{eq_by_cmp}
use Rattle.std.specs.Cmp.{IsTotalOrder, eq_by_cmp_equiv}
use Rattle.std.specs.FinMap.{IsAntisymmetric}
use Rattle.std.specs.FinMap.Entries.{below_all, find, is_sorted, same_entries}
use Rattle.cap_tree.specs.Tree.{get, put_entry, take_entry}
use Rattle.cap_tree.proofs.EntryLemmas.{put_entry-Updates}
use Rattle.cap_table.proofs.KeptLemmas.{sorted-put, sorted-remove}
use Rattle.cap_table.proofs.TableLemmas.{tied}

module _ {K X : Type 0} (R : K → K → Ordering) (o : IsTotalOrder R) (same : IsAntisymmetric R) where
  pub get-find : (es : List (K × X)) (q : K) → get R es q ≡ find R q es
  get-find [] q = refl
  get-find (e ∷ es) q = ap (cond (eq_by_cmp R q e.0) (Some e.1)) (get-find es q)

  pub get-put : (es : List (K × X)) (k : K) (x : X) (q : K) → get R (put_entry R es k x) q ≡ cond (eq_by_cmp R q k) (Some x) (get R es q)
  get-put es k x q = put_entry-Updates R o k x es q ∙ ap (λ b. cond b (Some x) (get R es q)) ((eq_by_cmp_equiv o).symm k q)

  absent-below : (x : K) (es : List (K × X)) → below_all R x es ≡ true → get R es x ≡ None
  absent-below x [] below = refl
  absent-below x (e ∷ es) below = grind (arith, absent-below x es)

  get-take : (es : List (K × X)) (k q : K) → is_sorted R es ≡ true → get R (take_entry R es k) q ≡ cond (eq_by_cmp R q k) None (get R es q)
  get-take [] k q s = grind arith
  get-take (e ∷ es) k q s = grind (arith, get-take es k q, absent-below e.0 es, tied R k e.0 same, tied R q k same)

  -- an entry at a key, or none
  abbrev pub set_at : List (K × X) → K → Option X → List (K × X)
  set_at es k None = take_entry R es k
  set_at es k (Some x) = put_entry R es k x

  pub sorted-set : (es : List (K × X)) (k : K) (x : Option X) → is_sorted R es ≡ true → is_sorted R (set_at es k x) ≡ true
  sorted-set es k None s = sorted-remove R (is_at (R k)) es s
  sorted-set es k (Some x) s = sorted-put R o same es k x s

  pub get-set : (es : List (K × X)) (k : K) (x : Option X) (q : K) → is_sorted R es ≡ true → get R (set_at es k x) q ≡ cond (eq_by_cmp R q k) x (get R es q)
  get-set es k None q s = get-take es k q s
  get-set es k (Some x) q s = get-put es k x q

  find-twice : (es : List (K × X)) (k j : K) (x y : Option X) (q : K) → is_sorted R es ≡ true → find R q (set_at (set_at es k x) j y) ≡ cond (eq_by_cmp R q j) y (cond (eq_by_cmp R q k) x (get R es q))
  find-twice es k j x y q s = sym (get-find (set_at (set_at es k x) j y) q) ∙ get-set (set_at es k x) j y q (sorted-set es k x s) ∙ ap (cond (eq_by_cmp R q j) y) (get-set es k x q s)

  set-set : (es : List (K × X)) (k j : K) (x y : Option X) → (k ≡ j → ⊥) → is_sorted R es ≡ true → set_at (set_at es k x) j y ≡ set_at (set_at es j y) k x
  set-set es k j x y apart s =
      same_entries R o same (set_at (set_at es k x) j y) (set_at (set_at es j y) k x)
      (subst T (sym (sorted-set (set_at es k x) j y (sorted-set es k x s))) tt)
      (subst T (sym (sorted-set (set_at es j y) k x (sorted-set es j y s))) tt)
      (λ q. grind (arith, find-twice es k j x y q s, find-twice es j k y x q s, tied R q j same, tied R q k same, apart))

  -- one write after another
  abbrev pub sets : List (K × X) → List (K × Option X) → List (K × X)
  sets es [] = es
  sets es (w ∷ ws) = sets (set_at es w.0 w.1) ws

  -- what no write is at stays
  pub get-sets : (es : List (K × X)) (ws : List (K × Option X)) (q : K) → is_sorted R es ≡ true → AllByRecursion (λ w. w.0 ≡ q → ⊥) ws → get R (sets es ws) q ≡ get R es q
  get-sets es [] q s apart = refl
  get-sets es (w ∷ ws) q s apart =
      get-sets (set_at es w.0 w.1) ws q (sorted-set es w.0 w.1 s) apart.1
      ∙ get-set es w.0 w.1 q s
      ∙ grind (arith, tied R q w.0 same, apart.0)

  -- a write past others
  past : (es : List (K × X)) (k : K) (x : Option X) (ws : List (K × Option X)) → AllByRecursion (λ w. k ≡ w.0 → ⊥) ws → is_sorted R es ≡ true → sets (set_at es k x) ws ≡ set_at (sets es ws) k x
  past es k x [] apart s = refl
  past es k x (w ∷ ws) apart s =
      ap (λ l. sets l ws) (set-set es k w.0 x w.1 apart.0 s) ∙ past (set_at es w.0 w.1) k x ws apart.1 (sorted-set es w.0 w.1 s)

  -- writes at different keys, in either order
  pub sets-commute : (es : List (K × X)) (ws vs : List (K × Option X)) → AllByRecursion (λ w. AllByRecursion (λ v. w.0 ≡ v.0 → ⊥) vs) ws → is_sorted R es ≡ true → sets (sets es ws) vs ≡ sets (sets es vs) ws
  sets-commute es [] vs apart s = refl
  sets-commute es (w ∷ ws) vs apart s =
      sets-commute (set_at es w.0 w.1) ws vs apart.1 (sorted-set es w.0 w.1 s) ∙ ap (λ l. sets l ws) (past es w.0 w.1 vs apart.0 s)
