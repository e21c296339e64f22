-- A row that is put under its key in one table of a database, or taken out from under it.
use Rattle.std.proofs.Common.{◌≡◌, ℕ, true, Option, Some, None, Result, Ok, Err, List, [], ◌∷◌, length, refl, sym, ap, ◌∙◌, arith, Ordering, Less}
use Rattle.std.specs.Prelude.{IfOk, IfNone, OnOk, OnErr, is_some, option_and_then}
use Rattle.std.specs.Cmp.{IsTotalOrder, tied_itself}
use Rattle.std.specs.FinMap.{IsAntisymmetric}
use Rattle.std.specs.List.Sorted.{IsStrictlySortedBy}
use Rattle.std.proofs.lemmas.Cmp.{nat_list_cmp_total}
use Rattle.cap_value.specs.Bytes.{bytes_cmp}
use Rattle.cap_row.specs.Fields.{Fields}
use Rattle.cap_row.specs.Key.{fields_cmp}
use Rattle.cap_tree.specs.Tree.{IsOrdered, get, put_entry}
use Rattle.cap_table.specs.Sound.{IsRising}
use Rattle.cap_table.specs.Table.{TableState}
use Rattle.cap_table.specs.declared.row_ref.RowRef.TheVariants.{Key}
use Rattle.cap_database.specs.Keyed.{row_set, set_in, with_row}
use Rattle.cap_database.specs.Read.{row_at}
use Rattle.cap_database.specs.Tables.{AreTables, Tables, table_of}
use Rattle.cap_table.proofs.BackLemmas.{none-taken}
use Rattle.cap_database.proofs.KeptLemmas.{each-found, names_same, put-tables}
use Rattle.cap_tree.proofs.EntryLemmas.{each_turn, get-below}

module _ {K V : Type 0} (R : K → K → Ordering) (o : IsTotalOrder R) where
  -- the last of two puts at a key stands
  pub again : (es : List (K × V)) (k : K) (v w : V) → put_entry R (put_entry R es k w) k v ≡ put_entry R es k v
  again [] k v w = grind (arith, tied_itself o k)
  again (e ∷ es) k v w = grind (arith, tied_itself o k, again es k v w)

  -- what is put in its own place leaves the list
  pub there-already : IsAntisymmetric R → (es : List (K × V)) (k : K) (v : V) → IsOrdered R es → get R es k ≡ Some v → put_entry R es k v ≡ es
  unfolding IsStrictlySortedBy
  there-already same [] k v s is = absurd cc
  there-already same (e ∷ es) k v s is =
      let none = λ (less : R k e.0 ≡ Less). get-below R k es (each_turn R (λ y. R e.0 y ≡ Less) (λ y. R k y ≡ Less) (λ y. o.trans k e.0 y less) es s.0) in
      grind (arith, none, same k e.0, there-already same es k v s.1)

module _ {A : Type 0} where
  -- the table of a name that a database has
  pub record Found (tables : Tables A) (name : List ℕ) : Type 0 where
    pub table : TableState A
    pub is : table_of tables name ≡ Some table

  pub found : (tables : Tables A) (name : List ℕ) → is_some (table_of tables name) ≡ true → Found tables name
  found tables name there = elim (table_of tables name) as (λ answer. table_of tables name ≡ answer → is_some answer ≡ true → Found tables name) [
    | None ↦ λ is there. cc
    | Some table ↦ λ is there. record { table = table; is = is }
  ] refl there

  module _ (tables new : Tables A) (h : AreTables tables) where
    -- after a call that made its change, or left all as it was
    pub left-tables : {X E : Type 0} (Made : Result X E → Type 0) (r : Result X E) → Made r → ((x : X) → Made (Ok x) → AreTables new) → OnErr r (new ≡ tables) → AreTables new
    left-tables Made (Ok x) made tell kept = tell x made
    left-tables Made (Err e) made tell kept = rw kept h

    module _ (name : List ℕ) (key : Fields A) where
      -- a row that is put or taken
      pub set-tables : (row : Option (Fields A)) → ((table : TableState A) → table_of tables name ≡ Some table → IsRising table → IsRising (with_row table key row)) → length new ≡ length tables → new ≡ row_set tables name key row → AreTables new
      set-tables row law long set = inner (table_of tables name) refl set
        where
          inner : (answer : Option (TableState A)) → table_of tables name ≡ answer → new ≡ set_in tables name key row answer → AreTables new
          inner None is set = rw set h
          inner (Some table) is set = rw set (put-tables tables name (with_row table key row) h (law table is (each-found IsRising tables name table h.each is)) (rw (← set, long) h.few))

      pub take-none : {E : Type 0} (r : Result (Option (Fields A)) E) → OnOk r (new ≡ row_set tables name key None) → IfOk r (λ before. before ≡ row_at tables name key)
          → IfOk r (λ before. IfNone before (new ≡ tables))
      take-none (Ok None) set before = inner (table_of tables name) refl set (sym before)
        where
          inner : (answer : Option (TableState A)) → table_of tables name ≡ answer → new ≡ set_in tables name key None answer → option_and_then (λ t. get fields_cmp t.keyed key) answer ≡ None → new ≡ tables
          inner None is set none = set
          inner (Some table) is set none = set ∙ ap (put_entry bytes_cmp tables name) (none-taken table (Key key) none) ∙ there-already bytes_cmp nat_list_cmp_total names_same tables name table h.ordered is
      take-none (Ok (Some old)) set before = tt
      take-none (Err e) set before = tt
