-- A list of entries in order, after one is put: the value at each key.
use Rattle.std.proofs.Common.{◌≡◌, false, Some, List, [], ◌∷◌, arith, Ordering, Equal, is_eq}
use Rattle.cap_tree.specs.Tree.{get, put_entry}

module _ {K V : Type 0} (cmp : K → K → Ordering) where
  pub get_put : (k : K) (v : V) → cmp k k ≡ Equal → (es : List (K × V)) → get cmp (put_entry cmp es k v) k ≡ Some v
  get_put k v self [] = rw self
  get_put k v self (e ∷ es) = let rest = get_put k v self es in grind (arith, self, rest)

  pub get_put_other : ((x y : K) → cmp x y ≡ Equal → x ≡ y) → (k : K) (v : V) (q : K) → is_eq (cmp q k) ≡ false → (es : List (K × V)) →
      get cmp (put_entry cmp es k v) q ≡ get cmp es q
  get_put_other same k v q apart [] = rw apart
  get_put_other same k v q apart (e ∷ es) =
      let rest = get_put_other same k v q apart es in
      let keys = same k e.0 in
      grind (arith, apart, rest, keys)
