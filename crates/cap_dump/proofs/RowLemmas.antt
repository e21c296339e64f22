-- The rows of a table that have a key, as the differences from an empty table, and what is found under a name or a key.
use Rattle.std.proofs.Common.{◌≡◌, Bool, true, false, cond, Option, Some, None, List, [], ◌∷◌, length, map, refl, sym, ap, subst, ◌∙◌, T, nat_eq, arith}
use Rattle.std.specs.declared.cmp.Ordering.{Ordering}
use Rattle.std.specs.declared.cmp.Ordering.TheVariants.{Less, Equal, Greater}
use Rattle.std.specs.Cmp.{Equal-is, IsTotalOrder}
use Rattle.std.specs.FinMap.{IsAntisymmetric, nat_cmp-IsAntisymmetric, slice_cmp-IsAntisymmetric}
use Rattle.std.specs.FinMap.Entries.{below_all, find, is_sorted, same_entries}
use Rattle.std.specs.List.{AllByRecursion, list_all}
use Rattle.std.specs.List.Sorted.{IsStrictlySortedBy}
use Rattle.std.specs.Map.{keys_of}
use Rattle.std.specs.Ordering.{eq_by_cmp, is_lt}
use Rattle.std.specs.Option.{is_some}
use Rattle.std.proofs.lemmas.Bool.{and_parts, and_from}
use Rattle.std.proofs.lemmas.Bool.Decides.{nat_tests}
use Rattle.cap_value.specs.Bytes.{bytes_cmp}
use Rattle.cap_row.specs.Fields.{Fields}
use Rattle.cap_row.specs.Key.{fields_cmp, fields_cmp-Equal, fields_eq_decides, key_of}
use Rattle.cap_tree.specs.Tree.{IsOrdered, get}
use Rattle.cap_table.specs.Operation.{empty_table}
use Rattle.cap_table.specs.Sound.{is_key_of, is_keyed_row}
use Rattle.cap_table.specs.Table.{TableState}
use Rattle.cap_changes.specs.Change.{IsKeyedRow}
use Rattle.cap_apply.specs.Difference.{AreApart, Difference, HoldAfter, HoldBefore}
use Rattle.cap_dump.specs.Dump.{insert_of}

-- ---- entries in order

is_Less : (r : Ordering) → is_lt r ≡ true → r ≡ Less
is_Less Less is = refl
is_Less Equal is = cc
is_Less Greater is = cc

module _ {K X : Type 0} (R : K → K → Ordering) where
  pub first_below : (k : K) (e : K × X) (es : List (K × X)) → below_all R k (e ∷ es) ≡ true → (R k e.0 ≡ Less) × (below_all R k es ≡ true)
  first_below k e es below = let parts = and_parts (is_lt (R k e.0)) (below_all R k es) below in (is_Less (R k e.0) parts.0, parts.1)

  pub sorted_parts : (e : K × X) (es : List (K × X)) → is_sorted R (e ∷ es) ≡ true → (below_all R e.0 es ≡ true) × (is_sorted R es ≡ true)
  sorted_parts e es sorted = and_parts (below_all R e.0 es) (is_sorted R es) sorted

  -- both forms of the order of entries
  below_each : (k : K) (es : List (K × X)) → AllByRecursion (λ y. R k y ≡ Less) (keys_of es) → below_all R k es ≡ true
  below_each k [] above = refl
  below_each k (e ∷ es) above = and_from (is_lt (R k e.0)) (below_all R k es) (ap is_lt above.0) (below_each k es above.1)

  pub sorted_from : (es : List (K × X)) → IsOrdered R es → is_sorted R es ≡ true
  unfolding IsStrictlySortedBy
  sorted_from [] ordered = refl
  sorted_from (e ∷ es) ordered = and_from (below_all R e.0 es) (is_sorted R es) (below_each e.0 es ordered.0) (sorted_from es ordered.1)

  pub get-find : (es : List (K × X)) (q : K) → get R es q ≡ find R q es
  get-find [] q = refl
  get-find (e ∷ es) q = ap (cond (eq_by_cmp R q e.0) (Some e.1)) (get-find es q)

  -- entries in order under which each key finds the same are the same
  pub same_by_get : IsTotalOrder R → IsAntisymmetric R → (es fs : List (K × X)) → is_sorted R es ≡ true → is_sorted R fs ≡ true → ((q : K) → get R es q ≡ get R fs q) → es ≡ fs
  same_by_get o same es fs sorted sorted' found =
      same_entries R o same es fs (subst T (sym sorted) tt) (subst T (sym sorted') tt) (λ q. sym (get-find es q) ∙ found q ∙ get-find fs q)

pub names_same : IsAntisymmetric bytes_cmp
names_same = slice_cmp-IsAntisymmetric nat_cmp-IsAntisymmetric

-- ---- the rows of a table

module _ {A : Type 0} where
  pub keys_same : IsAntisymmetric (fields_cmp {A = A})
  keys_same a b = (fields_cmp-Equal a b).0

  own_key : (own : Option (Fields A)) (key : Fields A) → is_key_of own key ≡ true → own ≡ Some key
  own_key None key is = cc
  own_key (Some own) key is = ap Some ((fields_eq_decides own key).0 is)

  pub stands_under : (schema : List Bool) (key row : Fields A) → is_keyed_row schema key row ≡ true → (length row ≡ length schema) × (key_of schema row ≡ Some key)
  stands_under schema key row is =
      let parts = and_parts (nat_eq (length row) (length schema)) (is_key_of (key_of schema row) key) is in
      (let wide = parts.0 in grind (arith, nat_tests), own_key (key_of schema row) key parts.1)

  pub keyed_row : (schema : List Bool) (key row : Fields A) → is_keyed_row schema key row ≡ true → IsKeyedRow schema row
  keyed_row schema key row is = let under = stands_under schema key row is in record { wide = under.0; keyed = ap is_some under.1 }

  -- a row that was not there
  abbrev pub new_row_of : Fields A × Fields A → Difference A
  new_row_of row = record { key = row.0; before = None; after = Some row.1; change = insert_of row.1 }

  abbrev AllStand : List Bool → List (Fields A × Fields A) → Type 0
  AllStand schema rows = list_all (λ row. is_keyed_row schema row.0 row.1) rows ≡ true

  apart_above : (key : Fields A) (rows : List (Fields A × Fields A)) → below_all fields_cmp key rows ≡ true → AreApart key (map new_row_of rows)
  apart_above key [] below = tt
  apart_above key (row ∷ rows) below =
      let first = first_below fields_cmp key row rows below in
      (λ same. let tie : fields_cmp key row.0 ≡ Equal = (fields_cmp-Equal key row.0).1 same in absurd cc, apart_above key rows first.1)

  -- the rows are the differences from a table without rows
  pub new_rows : (schema : List Bool) (rows : List (Fields A × Fields A)) → AllStand schema rows → is_sorted fields_cmp rows ≡ true → HoldBefore schema (empty_table schema) (map new_row_of rows)
  new_rows schema [] stand sorted = tt
  new_rows schema (row ∷ rows) stand sorted =
      let parts = and_parts (is_keyed_row schema row.0 row.1) (list_all (λ r. is_keyed_row schema r.0 r.1) rows) stand in
      let order = sorted_parts fields_cmp row rows sorted in
      (record { before = tt; after = stands_under schema row.0 row.1 parts.0; change = (false, refl) }, refl, apart_above row.0 rows order.0, new_rows schema rows parts.1 order.1)

  -- what is found under a key, where the rows stand and no other
  pub found_under : (rows : List (Fields A × Fields A)) (found : TableState A) (q : Fields A) → HoldAfter found (map new_row_of rows) → (AreApart q (map new_row_of rows) → get fields_cmp found.keyed q ≡ None)
      → get fields_cmp found.keyed q ≡ get fields_cmp rows q
  found_under [] found q stand others = others tt
  found_under (row ∷ rows) found q stand others =
      elim (eq_by_cmp fields_cmp q row.0) as (λ b. eq_by_cmp fields_cmp q row.0 ≡ b → get fields_cmp found.keyed q ≡ cond b (Some row.1) (get fields_cmp rows q)) [
        | true ↦ λ is. let same : q ≡ row.0 = keys_same q row.0 ((Equal-is (fields_cmp q row.0)).0 is) in ap (get fields_cmp found.keyed) same ∙ stand.0
        | false ↦ λ is. found_under rows found q stand.1
            (λ apart. others (λ same. let tie : fields_cmp q row.0 ≡ Equal = (fields_cmp-Equal q row.0).1 same in let clash : false ≡ true = sym is ∙ (Equal-is (fields_cmp q row.0)).1 tie in absurd cc, apart))
      ] refl
