-- Rows that stand where they belong, after a row is put and after one is taken.
use Rattle.std.proofs.Common.{◌≡◌, ℕ, ◌+◌, ◌^◌, ◌<◌, ◌≤◌, Bool, true, Option, Some, None, List, [], ◌∷◌, ◌&&◌, length, refl, sym, ap, ◌∙◌, arith, Ordering, Bor}
use Rattle.std.specs.Prelude.{is_some, IfSome}
use Rattle.std.specs.Option.{option_copied}
use Rattle.std.specs.List.{list_all}
use Rattle.std.specs.Map.{remove_entry}
use Rattle.std.specs.BTreeMap.{is_at}
use Rattle.std.specs.Ordering.{eq_by_cmp, nat_cmp}
use Rattle.std.specs.FinMap.{IsAntisymmetric, nat_cmp-IsAntisymmetric}
use Rattle.std.specs.Cmp.{Equal-is, tied_itself}
use Rattle.std.proofs.lemmas.Bool.{and_from, and_parts}
use Rattle.std.proofs.lemmas.Bool.Decides.{nat_tests}
use Rattle.cap_row.specs.Fields.{Fields}
use Rattle.cap_row.specs.Key.{fields_cmp, fields_cmp_total, fields_cmp-Equal, key_of}
use Rattle.cap_tree.specs.Tree.{get, put_entry, take_entry}
use Rattle.cap_table.specs.Sound.{is_key_of, is_keyed_row, is_loose_row, IsTable}
use Rattle.cap_table.specs.Operation.{row_of}
use Rattle.cap_table.specs.Table.{TableState}
use Rattle.cap_table.specs.declared.row_ref.RowRef.{RowRef}
use Rattle.cap_table.specs.declared.row_ref.RowRef.TheVariants.{Key, Loose}

pub both : (a b : Bool) → a ≡ true → b ≡ true → (a && b) ≡ true
both = and_from

pub first : (a b : Bool) → (a && b) ≡ true → a ≡ true
first a b p = (and_parts a b p).0

pub second : (a b : Bool) → (a && b) ≡ true → b ≡ true
second a b p = (and_parts a b p).1

pub tied : {K : Type 0} (R : K → K → Ordering) (x y : K) → IsAntisymmetric R → eq_by_cmp R x y ≡ true → x ≡ y
tied R x y same t = same x y ((Equal-is (R x y)).0 t)

module _ {K X : Type 0} (R : K → K → Ordering) (test : K × X → Bool) where
  -- what passes the test of a list passes it after a put of what passes it
  list_all-put_entry : (es : List (K × X)) (k : K) (v : X) → list_all test es ≡ true → test (k, v) ≡ true → list_all test (put_entry R es k v) ≡ true
  list_all-put_entry [] k v all new = grind arith
  list_all-put_entry (e ∷ es) k v all new = let rest = list_all-put_entry es k v in grind (arith, rest)

  list_all-remove : (gone : K → Bool) (es : List (K × X)) → list_all test es ≡ true → list_all test (remove_entry gone es) ≡ true
  list_all-remove gone [] all = refl
  list_all-remove gone (e ∷ es) all = let rest = list_all-remove gone es in grind (arith, rest)

  -- what is found passes
  pub found-passes : IsAntisymmetric R → (es : List (K × X)) (k : K) (v : X) → list_all test es ≡ true → get R es k ≡ Some v → test (k, v) ≡ true
  found-passes same [] k v all found = cc
  found-passes same (e ∷ es) k v all found = grind (arith, tied R k e.0 same, found-passes same es k v)

  list_all-weaker : (check : K × X → Bool) → ((x : K × X) → test x ≡ true → check x ≡ true) → (xs : List (K × X)) → list_all test xs ≡ true → list_all check xs ≡ true
  list_all-weaker check keeps [] all = refl
  list_all-weaker check keeps (x ∷ xs) all = let rest = list_all-weaker check keeps xs in grind (arith, keeps, rest)

module _ {A : Type 0} where
  pub fields_same : IsAntisymmetric (fields_cmp {A = A})
  fields_same a b = (fields_cmp-Equal a b).0

  own_key : (own : Option (Fields A)) (key : Fields A) → own ≡ Some key → is_key_of own key ≡ true
  own_key own key is = ap (λ o. is_key_of o key) is ∙ (Equal-is (fields_cmp key key)).1 (tied_itself fields_cmp_total key)

  pub is_keyed_row-own : (schema : List Bool) (key row : Fields A) → length row ≡ length schema → key_of schema row ≡ Some key → is_keyed_row schema key row ≡ true
  is_keyed_row-own schema key row width is = let own = own_key (key_of schema row) key is in grind (arith, nat_tests)

  pub is_loose_row-own : (schema : List Bool) (next id : ℕ) (row : Fields A) → length row ≡ length schema → key_of schema row ≡ None → 1 ≤ id → id < next → is_loose_row schema next id row ≡ true
  is_loose_row-own schema next id row width none p l = grind (arith, nat_tests)

  -- a table with other rows that stand where they belong
  with_keyed : (t : TableState A) (rows : List (Fields A × Fields A)) → IsTable t → list_all (λ row. is_keyed_row t.schema row.0 row.1) rows ≡ true → IsTable (record t { keyed = rows })
  with_keyed t rows h all = record { keyed = all; loose = h.loose; first = h.first; last = h.last }

  with_loose : (t : TableState A) (rows : List (ℕ × Fields A)) → IsTable t → list_all (λ row. is_loose_row t.schema t.next_id row.0 row.1) rows ≡ true → IsTable (record t { loose = rows })
  with_loose t rows h all = record { keyed = h.keyed; loose = all; first = h.first; last = h.last }

  pub put_keyed : (t : TableState A) (key row : Fields A) → IsTable t → length row ≡ length t.schema → key_of t.schema row ≡ Some key → IsTable (record t { keyed = put_entry fields_cmp t.keyed key row })
  put_keyed t key row h width is = with_keyed t _ h (list_all-put_entry fields_cmp _ t.keyed key row h.keyed (is_keyed_row-own t.schema key row width is))

  pub take_keyed : (t : TableState A) (key : Fields A) → IsTable t → IsTable (record t { keyed = take_entry fields_cmp t.keyed key })
  take_keyed t key h = with_keyed t _ h (list_all-remove fields_cmp _ (is_at (fields_cmp key)) t.keyed h.keyed)

  pub put_loose : (t : TableState A) (id : ℕ) (row : Fields A) → IsTable t → 1 ≤ id → id < t.next_id → length row ≡ length t.schema → key_of t.schema row ≡ None → IsTable (record t { loose = put_entry nat_cmp t.loose id row })
  put_loose t id row h p l width none = with_loose t _ h (list_all-put_entry nat_cmp _ t.loose id row h.loose (is_loose_row-own t.schema t.next_id id row width none p l))

  pub take_loose : (t : TableState A) (id : ℕ) → IsTable t → IsTable (record t { loose = take_entry nat_cmp t.loose id })
  take_loose t id h = with_loose t _ h (list_all-remove nat_cmp _ (is_at (nat_cmp id)) t.loose h.loose)

  loose_more : (schema : List Bool) (next id : ℕ) (row : Fields A) → is_loose_row schema next id row ≡ true → is_loose_row schema (next + 1) id row ≡ true
  loose_more schema next id row h = grind (arith, nat_tests)

  -- one id more is given
  one_id_more : (t : TableState A) → IsTable t → t.next_id < 2 ^ 63 → IsTable (record t { next_id = t.next_id + 1 })
  one_id_more t h l = record {
    keyed = h.keyed;
    loose = list_all-weaker nat_cmp (λ row. is_loose_row t.schema t.next_id row.0 row.1) (λ row. is_loose_row t.schema (t.next_id + 1) row.0 row.1) (λ row. loose_more t.schema t.next_id row.0 row.1) t.loose h.loose;
    first = omega (arith, h.first);
    last = omega (arith, l);
  }

  pub put_next : (t : TableState A) (row : Fields A) → IsTable t → t.next_id < 2 ^ 63 → length row ≡ length t.schema → key_of t.schema row ≡ None → IsTable (record t { loose = put_entry nat_cmp t.loose t.next_id row; next_id = t.next_id + 1 })
  put_next t row h l width none = put_loose (record t { next_id = t.next_id + 1 }) t.next_id row (one_id_more t h l) h.first (omega arith) width none

  loose-stands : (t : TableState A) (id : ℕ) (row : Fields A) → IsTable t → get nat_cmp t.loose id ≡ Some row → is_loose_row t.schema t.next_id id row ≡ true
  loose-stands t id row h is = found-passes nat_cmp (λ row. is_loose_row t.schema t.next_id row.0 row.1) nat_cmp-IsAntisymmetric t.loose id row h.loose is

  -- the id of a loose row was given
  id_is_given : (t : TableState A) (id : ℕ) → IsTable t → is_some (get nat_cmp t.loose id) ≡ true → (1 ≤ id) × (id < t.next_id)
  id_is_given t id h there = given (get nat_cmp t.loose id) refl there
    where
      given : (found : Option (Fields A)) → get nat_cmp t.loose id ≡ found → is_some found ≡ true → (1 ≤ id) × (id < t.next_id)
      given None is there = cc
      given (Some row) is there = let stands = loose-stands t id row h is in grind (arith, nat_tests)

  pub was_given : (t : TableState A) (id : ℕ) → IsTable t → is_some (get nat_cmp t.loose id) ≡ true → id < t.next_id
  was_given t id h there = (id_is_given t id h there).1

  pub given_from_1 : (t : TableState A) (id : ℕ) → IsTable t → is_some (get nat_cmp t.loose id) ≡ true → 1 ≤ id
  given_from_1 t id h there = (id_is_given t id h there).0

  pub keyed-stands : (t : TableState A) (key row : Fields A) → IsTable t → get fields_cmp t.keyed key ≡ Some row → is_keyed_row t.schema key row ≡ true
  keyed-stands t key row h is = found-passes fields_cmp (λ row. is_keyed_row t.schema row.0 row.1) fields_same t.keyed key row h.keyed is

  -- each row has the table's width
  pub found-wide : (t : TableState A) (name : RowRef A) (row : Fields A) → IsTable t → row_of t name ≡ Some row → length row ≡ length t.schema
  found-wide t (Key key) row h is = let stands = keyed-stands t key row h is in grind (arith, nat_tests)
  found-wide t (Loose id) row h is = let stands = loose-stands t id row h is in grind (arith, nat_tests)

  pub width-found : (t : TableState A) (name : RowRef A) (found : Option (Bor (Fields A))) → IsTable t → option_copied found ≡ row_of t name → IfSome found (λ row. length row.now ≡ length t.schema)
  width-found t name None h is = tt
  width-found t name (Some row) h is = found-wide t name row.now h (sym is)
