-- A row that is found under a key, and a key under which no row is.
use Rattle.std.proofs.Common.{◌≡◌, true, false, Option, Some, None, List, [], ◌∷◌, length, refl, ap, ◌∙◌, arith}
use Rattle.std.specs.Prelude.{◌==◌, not}
use Rattle.std.specs.Cmp.{eq_by_cmp_equiv}
use Rattle.std.specs.Ordering.{eq_by_cmp, nat_cmp}
use Rattle.cap_row.specs.Fields.{Fields}
use Rattle.cap_row.specs.Key.{fields_cmp, fields_cmp_total, fields_eq, key_of}
use Rattle.cap_tree.specs.Tree.{get, take_entry}
use Rattle.cap_table.specs.Operation.{moved, placed, row_of, without}
use Rattle.cap_table.specs.Sound.{IsRising, IsTable, is_key_of}
use Rattle.cap_table.specs.Table.{TableState}
use Rattle.cap_table.specs.declared.row_ref.RowRef.{RowRef}
use Rattle.cap_table.specs.declared.row_ref.RowRef.TheVariants.{Key, Loose}
use Rattle.cap_tree.proofs.EntryLemmas.{take_entry-absent}
use Rattle.cap_table.proofs.TableLemmas.{fields_same, found-wide, keyed-stands, second, tied}

module _ {A : Type 0} where
  its-own : (own : Option (Fields A)) (key : Fields A) → is_key_of own key ≡ true → own ≡ Some key
  its-own None key is = cc
  its-own (Some own) key is = ap Some (tied fields_cmp own key fields_same is)

  -- a row that is found has the table's width and the key that it is found under
  pub own-row : (t : TableState A) (key row : Fields A) → IsTable t → get fields_cmp t.keyed key ≡ Some row → (length row ≡ length t.schema) × (key_of t.schema row ≡ Some key)
  own-row t key row sound found = (found-wide t (Key key) row sound found, its-own (key_of t.schema row) key (second (length row == length t.schema) _ (keyed-stands t key row sound found)))

  pub found-own : (t : TableState A) (key row : Fields A) → IsRising t → get fields_cmp t.keyed key ≡ Some row → (length row ≡ length t.schema) × (key_of t.schema row ≡ Some key)
  found-own t key row rises found = own-row t key row rises.sound found

  pub none-taken : (t : TableState A) (name : RowRef A) → row_of t name ≡ None → without t name ≡ t
  none-taken t (Key key) none = ap (λ rows. record t { keyed = rows }) (take_entry-absent fields_cmp key t.keyed none)
  none-taken t (Loose id) none = ap (λ rows. record t { loose = rows }) (take_entry-absent nat_cmp id t.loose none)

  -- what is taken from under another key leaves the row
  pub get-take-other : (es : List (Fields A × Fields A)) (key q : Fields A) → eq_by_cmp fields_cmp q key ≡ false → get fields_cmp (take_entry fields_cmp es key) q ≡ get fields_cmp es q
  get-take-other [] key q apart = refl
  get-take-other (e ∷ es) key q apart = grind (arith, tied fields_cmp key e.0 fields_same, get-take-other es key q)

  -- a row that changes its key is placed where the old one was taken out
  pub moved-apart : (t : TableState A) (old new row : Fields A) → not (fields_eq old new) ≡ true → moved t (Key old) row (Some new) ≡ placed (without t (Key old)) row (Some new)
  moved-apart t old new row apart =
      let off : fields_eq old new ≡ false = grind arith in
      let other = get-take-other t.keyed old new ((eq_by_cmp_equiv fields_cmp_total).symm new old ∙ off) in
      grind arith
