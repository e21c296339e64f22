-- What an operation keeps of a table: its columns, the order of keys and ids, and that rows stand where they belong.
use Rattle.std.proofs.Common.{◌≡◌, ℕ, ◌+◌, ◌^◌, ◌<◌, ◌≤◌, Bool, true, false, Option, Some, None, List, [], ◌∷◌, length, refl, sym, ap, subst, ◌∙◌, arith, Ordering, T}
use Rattle.std.specs.Prelude.{IfOk, is_some}
use Rattle.std.specs.List.{enumerate_from}
use Rattle.std.specs.Map.{remove_entry}
use Rattle.std.specs.BTreeMap.{is_at}
use Rattle.std.specs.Ordering.{nat_cmp}
use Rattle.std.specs.Cmp.{IsTotalOrder}
use Rattle.std.specs.FinMap.{IsAntisymmetric, nat_cmp-IsAntisymmetric}
use Rattle.std.specs.FinMap.Entries.{below_all, is_sorted, is_sorted-put, put}
use Rattle.std.proofs.lemmas.Bool.Decides.{nat_tests}
use Rattle.std.proofs.lemmas.Cmp.{nat_cmp_total}
use Rattle.std.proofs.lemmas.List.{length-map}
use Rattle.std.proofs.lemmas.List.FromFn.{length-enumerate_from}
use Rattle.cap_value.specs.declared.value.Value.{Value}
use Rattle.cap_row.specs.Fields.{Fields}
use Rattle.cap_row.specs.Key.{fields_cmp, fields_cmp_total, key_of}
use Rattle.cap_row.specs.Row.{new_value, row_with}
use Rattle.cap_tree.specs.Tree.{get, put_entry}
use Rattle.cap_table.specs.declared.row_ref.RowRef.{RowRef}
use Rattle.cap_table.specs.declared.row_ref.RowRef.TheVariants.{Key, Loose}
use Rattle.cap_table.specs.Operation.{delete_row, empty_table, insert_row, moved, placed, row_of, under_key, under_next_id, updated, update_row, with_id, with_key, without}
use Rattle.cap_table.specs.Sound.{IsRising}
use Rattle.cap_table.specs.Table.{TableState}
use Rattle.cap_table.proofs.TableLemmas.{fields_same, found-wide, given_from_1, put_keyed, put_loose, put_next, take_keyed, take_loose, was_given}

truth : (b : Bool) → T b → b ≡ true
truth true t = refl
truth false t = absurd t

-- ---- keys that rise

module _ {K X : Type 0} (R : K → K → Ordering) where
  pub put_entry-put : IsAntisymmetric R → (es : List (K × X)) (k : K) (v : X) → put_entry R es k v ≡ put R k v es
  put_entry-put same [] k v = refl
  put_entry-put same (e ∷ es) k v = grind (arith, same k e.0, put_entry-put same es k v)

  pub sorted-put : IsTotalOrder R → IsAntisymmetric R → (es : List (K × X)) (k : K) (v : X) → is_sorted R es ≡ true → is_sorted R (put_entry R es k v) ≡ true
  sorted-put o same es k v s = ap (is_sorted R) (put_entry-put same es k v) ∙ truth _ (is_sorted-put R o k v es (subst T (sym s) tt))

  below-remove : (x : K) (gone : K → Bool) (es : List (K × X)) → below_all R x es ≡ true → below_all R x (remove_entry gone es) ≡ true
  below-remove x gone [] below = refl
  below-remove x gone (e ∷ es) below = let rest = below-remove x gone es in grind (arith, rest)

  pub sorted-remove : (gone : K → Bool) (es : List (K × X)) → is_sorted R es ≡ true → is_sorted R (remove_entry gone es) ≡ true
  sorted-remove gone [] s = refl
  sorted-remove gone (e ∷ es) s = grind (arith, sorted-remove gone es, below-remove e.0 gone es)

module _ {A : Type 0} where
  -- ---- one row more, or less

  pub with_key-rises : (t : TableState A) (key row : Fields A) → IsRising t → length row ≡ length t.schema → key_of t.schema row ≡ Some key → IsRising (with_key t key row)
  with_key-rises t key row h wide own = record {
    sound = put_keyed t key row h.sound wide own;
    keys = sorted-put fields_cmp fields_cmp_total fields_same t.keyed key row h.keys;
    ids = h.ids;
  }

  with_id-rises : (t : TableState A) (id : ℕ) (row : Fields A) → IsRising t → 1 ≤ id → id < t.next_id → length row ≡ length t.schema → key_of t.schema row ≡ None → IsRising (with_id t id row)
  with_id-rises t id row h from_1 given wide none = record {
    sound = put_loose t id row h.sound from_1 given wide none;
    keys = h.keys;
    ids = sorted-put nat_cmp nat_cmp_total nat_cmp-IsAntisymmetric t.loose id row h.ids;
  }

  pub without-rises : (t : TableState A) (name : RowRef A) → IsRising t → IsRising (without t name)
  without-rises t (Key key) h = record {
    sound = take_keyed t key h.sound;
    keys = sorted-remove fields_cmp (is_at (fields_cmp key)) t.keyed h.keys;
    ids = h.ids;
  }
  without-rises t (Loose id) h = record {
    sound = take_loose t id h.sound;
    keys = h.keys;
    ids = sorted-remove nat_cmp (is_at (nat_cmp id)) t.loose h.ids;
  }

  -- a row more under the next id, which is then given
  next_id-rises : (t : TableState A) (row : Fields A) → IsRising t → t.next_id < 2 ^ 63 → length row ≡ length t.schema → key_of t.schema row ≡ None → IsRising (record (with_id t t.next_id row) { next_id = t.next_id + 1 })
  next_id-rises t row h few wide none = record {
    sound = put_next t row h.sound few wide none;
    keys = h.keys;
    ids = sorted-put nat_cmp nat_cmp_total nat_cmp-IsAntisymmetric t.loose t.next_id row h.ids;
  }

  under_key-rises : (taken : Bool) (t : TableState A) (key row : Fields A) → IsRising t → length row ≡ length t.schema → key_of t.schema row ≡ Some key → IfOk (under_key taken t key row) IsRising
  under_key-rises taken t key row h wide own = grind (arith, with_key-rises)

  under_next_id-rises : (t : TableState A) (row : Fields A) → IsRising t → length row ≡ length t.schema → key_of t.schema row ≡ None → IfOk (under_next_id t row) IsRising
  under_next_id-rises t row h wide none = grind (arith, nat_tests, next_id-rises t row h)

  -- ---- an insert

  placed-rises : (t : TableState A) (row : Fields A) (key : Option (Fields A)) → IsRising t → length row ≡ length t.schema → key_of t.schema row ≡ key → IfOk (placed t row key) IsRising
  placed-rises t row (Some key) h wide own = under_key-rises (is_some (get fields_cmp t.keyed key)) t key row h wide own
  placed-rises t row None h wide none = under_next_id-rises t row h wide none

  pub insert-rises : (t : TableState A) (row : Fields A) → IsRising t → IfOk (insert_row t row) IsRising
  insert-rises t row h = grind (arith, nat_tests, placed-rises)

  -- ---- an update

  row_with-wide : (changes : List (ℕ × Value A)) (row : Fields A) → length (row_with changes row) ≡ length row
  row_with-wide changes row = length-map (enumerate_from 0 row) (λ field. new_value changes field.0 field.1) ∙ length-enumerate_from 0 row

  moved-rises : (t : TableState A) (name : RowRef A) (row : Fields A) (key : Option (Fields A)) → IsRising t → is_some (row_of t name) ≡ true → length row ≡ length t.schema → key_of t.schema row ≡ key → IfOk (moved t name row key) IsRising
  moved-rises t (Key old) row (Some new) h there wide own = grind (arith, with_key-rises t new row h wide own, under_key-rises (is_some (get fields_cmp t.keyed new)) (without t (Key old)) new row (without-rises t (Key old) h) wide own)
  moved-rises t (Key old) row None h there wide none = under_next_id-rises (without t (Key old)) row (without-rises t (Key old) h) wide none
  moved-rises t (Loose id) row (Some new) h there wide own = under_key-rises (is_some (get fields_cmp t.keyed new)) (without t (Loose id)) new row (without-rises t (Loose id) h) wide own
  moved-rises t (Loose id) row None h there wide none = with_id-rises t id row h (given_from_1 t id h.sound there) (was_given t id h.sound there) wide none

  updated-rises : (t : TableState A) (name : RowRef A) (changes : List (ℕ × Value A)) (found : Option (Fields A)) → IsRising t → row_of t name ≡ found → IfOk (updated t name changes found) IsRising
  updated-rises t name changes None h is = tt
  updated-rises t name changes (Some row) h is =
      moved-rises t name (row_with changes row) (key_of t.schema (row_with changes row)) h (ap is_some is) (row_with-wide changes row ∙ found-wide t name row h.sound is) refl

  pub update-rises : (t : TableState A) (name : RowRef A) (changes : List (ℕ × Value A)) → IsRising t → IfOk (update_row t name changes) IsRising
  update-rises t name changes h = grind (arith, updated-rises)

  -- ---- a delete

  pub delete-rises : (t : TableState A) (name : RowRef A) → IsRising t → IfOk (delete_row t name) IsRising
  delete-rises t name h = grind (arith, without-rises)

  pub empty-rises : (schema : List Bool) → IsRising (empty_table {A = A} schema)
  empty-rises schema = record { sound = record { keyed = refl; loose = refl; first = omega arith; last = omega arith }; keys = refl; ids = refl }
  -- ---- columns
