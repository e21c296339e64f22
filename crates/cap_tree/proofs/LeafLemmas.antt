-- The place of a key among entries in order.
use Rattle.std.proofs.Common.{◌≡◌, ℕ, zero, suc, ◌+◌, ◌<◌, List, [], ◌∷◌, ◌++◌, length, take, drop, get_or, set, refl, sym, ap, subst, ◌∙◌, arith}
use Rattle.std.specs.Prelude.{Some, None, slice_get, ◌-◌}
use Rattle.std.proofs.lemmas.List.{take-append-drop, set_split, get_or_default}
use Rattle.std.proofs.Math.Seq.{drop-cons, take-length}
use Rattle.std.specs.declared.cmp.Ordering.{Ordering}
use Rattle.std.specs.declared.cmp.Ordering.TheVariants.{Less, Equal, Greater}
use Rattle.std.specs.List.{insert, remove}
use Rattle.std.specs.List.Sorted.{IsStrictlySortedBy}
use Rattle.std.specs.Cmp.{IsTotalOrder}
use Rattle.cap_tree.specs.Tree.{IsOrdered, get, put_entry, take_entry}
use Rattle.cap_tree.proofs.EntryLemmas.{Each, reversed, get-below, get-past, put_entry-past, take_entry-past, less_than_back}

-- the entries around the one at i
parted : {X : Type 0} (es : List X) (i : ℕ) (d : X) → i < length es → es ≡ take i es ++ get_or es i d ∷ drop (suc i) es
parted es i d within = sym (take-append-drop i es) ∙ ap (λ t. take i es ++ t) (drop-cons es i d within)

module _ {K V : Type 0} (cmp : K → K → Ordering) where
  pub put_less : (k : K) (v : V) (es : List (K × V)) (i : ℕ) (d : K × V) → i < length es → Each cmp Greater k (take i es) → cmp k (get_or es i d).0 ≡ Less → put_entry cmp es k v ≡ insert es i (k, v)
  put_less k v es i d within h here = grind (arith, parted es i d within, put_entry-past cmp k v (take i es) (get_or es i d ∷ drop (suc i) es) h, drop-cons es i d within)

  pub put_equal : (k : K) (v : V) (es : List (K × V)) (i : ℕ) (d : K × V) → i < length es → Each cmp Greater k (take i es) → cmp k (get_or es i d).0 ≡ Equal → put_entry cmp es k v ≡ set es i (k, v)
  put_equal k v es i d within h here = grind (arith, parted es i d within, put_entry-past cmp k v (take i es) (get_or es i d ∷ drop (suc i) es) h, set_split es i (k, v) within)

  pub get_equal : (k : K) (es : List (K × V)) (i : ℕ) (d x : K × V) → i < length es → Each cmp Greater k (take i es) → cmp k (get_or es i x).0 ≡ Equal → get cmp es k ≡ Some (get_or es i d).1
  get_equal k es i d x within h here = grind (arith, parted es i x within, get-past cmp k (take i es) (get_or es i x ∷ drop (suc i) es) h, get_or_default es i x d within)

  pub get_less : IsTotalOrder cmp → (k : K) (es : List (K × V)) (i : ℕ) (d : K × V) → IsOrdered cmp es → i < length es → Each cmp Greater k (take i es) → cmp k (get_or es i d).0 ≡ Less → get cmp es k ≡ None
  get_less o k es i d s within h here =
      let rest = less_than_back cmp o k (take i es) (get_or es i d) (drop (suc i) es) (subst (IsOrdered cmp) (parted es i d within) s) here in
      ap (λ l. get cmp l k) (parted es i d within) ∙ get-past cmp k (take i es) (get_or es i d ∷ drop (suc i) es) h ∙ get-below cmp k (get_or es i d ∷ drop (suc i) es) (here, rest)

  pub put_end : (k : K) (v : V) (es : List (K × V)) (i : ℕ) → i ≡ length es → Each cmp Greater k (take i es) → put_entry cmp es k v ≡ insert es i (k, v)
  put_end k v [] zero is h = refl
  put_end k v [] (suc i) is h = absurd (omega arith)
  put_end k v (e ∷ es) zero is h = absurd (omega arith)
  put_end k v (e ∷ es) (suc i) is h = rw h.0 (ap (λ t. e ∷ t) (put_end k v es i (omega arith) h.1))

  pub get_end : (k : K) (es : List (K × V)) (i : ℕ) → i ≡ length es → Each cmp Greater k (take i es) → get cmp es k ≡ None
  get_end k [] i is h = refl
  get_end k (e ∷ es) zero is h = absurd (omega arith)
  get_end k (e ∷ es) (suc i) is h = rw h.0 (get_end k es i (omega arith) h.1)

  -- the key is above all entries
  pub past_all : (k : K) (es : List (K × V)) → Each cmp Greater k es → Each cmp Greater k (take (length es) es)
  past_all k es h = rw take-length h

  pub take_equal : (k : K) (es : List (K × V)) (i : ℕ) (x : K × V) → i < length es → Each cmp Greater k (take i es) → cmp k (get_or es i x).0 ≡ Equal → take_entry cmp es k ≡ remove es i
  take_equal k es i x within h here = grind (arith, parted es i x within, take_entry-past cmp k (take i es) (get_or es i x ∷ drop (suc i) es) h)

  -- a key above the last one is above each
  pub past_last : IsTotalOrder cmp → (k : K) (es : List (K × V)) (x : K × V) → IsOrdered cmp es → slice_get es (length es - 1) ≡ Some x → cmp k x.0 ≡ Greater → Each cmp Greater k es
  unfolding IsStrictlySortedBy
  past_last o k [] x s is h = tt
  past_last o k (e ∷ []) x s is h = let same : e ≡ x = cc in (rw same h, tt)
  past_last o k (e ∷ f ∷ fs) x s is h =
      let less : suc (suc (length fs)) - 1 ≡ suc (suc (length fs) - 1) = omega arith in
      let rest = past_last o k (f ∷ fs) x s.1 (rw less at is) h in
      (reversed o e.0 k Less (o.trans e.0 f.0 k s.0.0 (reversed o k f.0 Greater rest.0)), rest)
