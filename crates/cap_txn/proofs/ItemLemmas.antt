-- Items: those that the order does not tell apart are one, and each stands once in a footprint.
use Rattle.std.proofs.Common.{◌≡◌, ℕ, Bool, true, false, cond, ◌||◌, Option, Some, None, List, [], ◌∷◌, ◌++◌, refl, sym, ap, subst, ◌∙◌, arith, Ordering, Less, Equal, Greater}
use Rattle.std.specs.Prelude.{◌&&◌, ◌==◌, is_some, length, not}
use Rattle.std.specs.List.{AllByRecursion, list_any}
use Rattle.std.specs.Ordering.{eq_by_cmp, nat_cmp, on, ordering_then}
use Rattle.std.specs.Cmp.{Equal-is}
use Rattle.std.specs.FinMap.{IsAntisymmetric, nat_cmp-IsAntisymmetric, slice_cmp-IsAntisymmetric}
use Rattle.cap_value.specs.Bytes.{bytes_cmp}
use Rattle.cap_row.specs.Fields.{Fields}
use Rattle.cap_row.specs.Key.{fields_cmp, key_of}
use Rattle.cap_row.specs.Row.{row_with}
use Rattle.cap_database.specs.Assigned.{Assigned}
use Rattle.cap_table.specs.KeptKey.{keeps_key}
use Rattle.cap_table.specs.Operation.{key_of_name, row_of}
use Rattle.cap_table.specs.Sound.{IsTable, is_given, is_loose_row}
use Rattle.cap_table.specs.Table.{TableState}
use Rattle.cap_table.specs.declared.row_ref.RowRef.{RowRef}
use Rattle.cap_table.proofs.BackLemmas.{own-row}
use Rattle.cap_table.proofs.KeptKeyLemmas.{same_key}
use Rattle.cap_txn.specs.Footprint.{id_in, item_cmp, item_eq, key_in, kind_of, table_named, with_items}
use Rattle.cap_txn.specs.OrderedSet.{with_each, with_item}
use Rattle.cap_txn.specs.declared.item.Item.{Item}
use Rattle.cap_txn.specs.declared.item.Item.TheVariants.{Table, Row, Scan, NextId}
use Rattle.cap_table.specs.declared.row_ref.RowRef.TheVariants.{Key, Loose}
use Rattle.cap_table.proofs.TableLemmas.{fields_same, first, found-passes, second}

parts_Equal : (a b : Ordering) → ordering_then a b ≡ Equal → (a ≡ Equal) × (b ≡ Equal)
parts_Equal Less b e = absurd (cc)
parts_Equal Equal b e = (refl, e)
parts_Equal Greater b e = absurd (cc)

module _ {A : Type 0} where
  same_parts : (a b : Item A) → kind_of a ≡ kind_of b → table_named a ≡ table_named b → key_in a ≡ key_in b → id_in a ≡ id_in b → a ≡ b
  same_parts (Table m) (Table n) k t f i = ap Table t
  same_parts (Row m (Key x)) (Row n (Key y)) k t f i = ap (λ (name : List ℕ). Row name (Key x)) t ∙ ap (λ (key : Fields A). Row n (Key key)) f
  same_parts (Row m (Loose x)) (Row n (Loose y)) k t f i = ap (λ (name : List ℕ). Row name (Loose x)) t ∙ ap (λ (id : ℕ). Row n (Loose id)) i
  same_parts (Scan m) (Scan n) k t f i = ap Scan t
  same_parts (NextId m) (NextId n) k t f i = ap NextId t
  same_parts (Table m) (Row n (Key y)) k t f i = absurd (omega arith)
  same_parts (Table m) (Row n (Loose y)) k t f i = absurd (omega arith)
  same_parts (Table m) (Scan n) k t f i = absurd (omega arith)
  same_parts (Table m) (NextId n) k t f i = absurd (omega arith)
  same_parts (Row m (Key x)) (Table n) k t f i = absurd (omega arith)
  same_parts (Row m (Key x)) (Row n (Loose y)) k t f i = absurd (omega arith)
  same_parts (Row m (Key x)) (Scan n) k t f i = absurd (omega arith)
  same_parts (Row m (Key x)) (NextId n) k t f i = absurd (omega arith)
  same_parts (Row m (Loose x)) (Table n) k t f i = absurd (omega arith)
  same_parts (Row m (Loose x)) (Row n (Key y)) k t f i = absurd (omega arith)
  same_parts (Row m (Loose x)) (Scan n) k t f i = absurd (omega arith)
  same_parts (Row m (Loose x)) (NextId n) k t f i = absurd (omega arith)
  same_parts (Scan m) (Table n) k t f i = absurd (omega arith)
  same_parts (Scan m) (Row n (Key y)) k t f i = absurd (omega arith)
  same_parts (Scan m) (Row n (Loose y)) k t f i = absurd (omega arith)
  same_parts (Scan m) (NextId n) k t f i = absurd (omega arith)
  same_parts (NextId m) (Table n) k t f i = absurd (omega arith)
  same_parts (NextId m) (Row n (Key y)) k t f i = absurd (omega arith)
  same_parts (NextId m) (Row n (Loose y)) k t f i = absurd (omega arith)
  same_parts (NextId m) (Scan n) k t f i = absurd (omega arith)

  pub item_cmp-IsAntisymmetric : IsAntisymmetric (item_cmp {A = A})
  item_cmp-IsAntisymmetric a b e =
      let one = parts_Equal (nat_cmp (kind_of a) (kind_of b)) (ordering_then (bytes_cmp (table_named a) (table_named b)) (ordering_then (fields_cmp (key_in a) (key_in b)) (nat_cmp (id_in a) (id_in b)))) e in
      let two = parts_Equal (bytes_cmp (table_named a) (table_named b)) (ordering_then (fields_cmp (key_in a) (key_in b)) (nat_cmp (id_in a) (id_in b))) one.1 in
      let three = parts_Equal (fields_cmp (key_in a) (key_in b)) (nat_cmp (id_in a) (id_in b)) two.1 in
      same_parts a b (nat_cmp-IsAntisymmetric (kind_of a) (kind_of b) one.0) (slice_cmp-IsAntisymmetric nat_cmp-IsAntisymmetric (table_named a) (table_named b) two.0)
      (fields_same (key_in a) (key_in b) three.0) (nat_cmp-IsAntisymmetric (id_in a) (id_in b) three.1)

  pub same_item : (a b : Item A) → item_eq a b ≡ true → a ≡ b
  same_item a b t = item_cmp-IsAntisymmetric a b ((Equal-is (item_cmp a b)).0 t)

  -- what is so of each item of a footprint is so of each item that was looked at
  module _ (P : Item A → Type 0) where
    found-all : (items : List (Item A)) (item : Item A) → list_any (item_eq item) items ≡ true → AllByRecursion P items → P item
    found-all [] item there all = absurd (cc)
    found-all (x ∷ xs) item there all =
        elim (item_eq item x) as (λ b. item_eq item x ≡ b → (b || list_any (item_eq item) xs) ≡ true → P item) [
          | true ↦ λ e _. subst P (sym (same_item item x e)) all.0
          | false ↦ λ e more. found-all xs item more all.1
        ] refl there

    pub all-parts : (xs ys : List (Item A)) → AllByRecursion P (xs ++ ys) → AllByRecursion P xs × AllByRecursion P ys
    all-parts [] ys all = (tt, all)
    all-parts (x ∷ xs) ys all = let more = all-parts xs ys all.1 in ((all.0, more.0), more.1)

    pub all-with_item : (items : List (Item A)) (item : Item A) → AllByRecursion P (with_item item_cmp items item) → AllByRecursion P items × P item
    all-with_item items item all =
        elim (list_any (item_eq item) items) as (λ b. list_any (item_eq item) items ≡ b → AllByRecursion P (cond b items (items ++ item ∷ [])) → AllByRecursion P items × P item) [
          | true ↦ λ there all. (all, found-all items item there all)
          | false ↦ λ _ all. let parts = all-parts items (item ∷ []) all in (parts.0, parts.1.0)
        ] refl all

    pub all-with_items : (items more : List (Item A)) → AllByRecursion P (with_items items more) → AllByRecursion P items × AllByRecursion P more
    all-with_items items [] all = (all, tt)
    all-with_items items (item ∷ more) all =
        let rest = all-with_items (with_item item_cmp items item) more all in
        let here = all-with_item items item rest.0 in
        (here.0, (here.1, rest.1))

  -- ---- an update that sets no key column leaves a row the key of its name

  no-key : (key : Option (Fields A)) → not (is_some key) ≡ true → None ≡ key
  no-key None is = refl
  no-key (Some key) is = absurd (cc)

  pub kept_key : (table : TableState A) (row : RowRef A) (fields : Assigned A) (old : Fields A) → IsTable table → row_of table row ≡ Some old → keeps_key table.schema fields ≡ true
      → key_of_name row ≡ key_of table.schema (row_with fields old)
  kept_key table (Key key) fields old sound found keeps = sym (same_key table.schema fields keeps old ∙ (own-row table key old sound found).1)
  kept_key table (Loose id) fields old sound found keeps =
      let stands = found-passes nat_cmp (λ row. is_loose_row table.schema table.next_id row.0 row.1) nat_cmp-IsAntisymmetric table.loose id old sound.loose found in
      let front = (length old == length table.schema) && not (is_some (key_of table.schema old)) in
      no-key (key_of table.schema old) (second (length old == length table.schema) _ (first front (is_given table.next_id id) stands))
      ∙ sym (same_key table.schema fields keeps old)
