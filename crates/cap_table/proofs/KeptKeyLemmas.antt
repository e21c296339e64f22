-- An update that sets no key column leaves each row its key; and what an operation comes to by the rule on the present row.
use Rattle.std.proofs.Common.{◌≡◌, ℕ, suc, ◌+◌, Bool, true, false, Option, Some, List, Result, [], ◌∷◌, Ok, Err, length, map, get_or, refl, sym, ap, subst, ◌∙◌, arith, None}
use Rattle.std.specs.Prelude.{OnOk}
use Rattle.std.specs.Cmp.{Equal-is, tied_itself}
use Rattle.std.specs.List.{list_any, enumerate_from}
use Rattle.std.specs.Option.{option_map}
use Rattle.std.proofs.lemmas.Bool.Decides.{nat_tests}
use Rattle.std.proofs.lemmas.List.{length-map}
use Rattle.std.proofs.lemmas.List.FromFn.{length-enumerate_from}
use Rattle.cap_value.specs.declared.refusal.Refusal.{Refusal as Why}
use Rattle.cap_value.specs.declared.value.Value.{Value}
use Rattle.cap_row.specs.Fields.{Fields}
use Rattle.cap_row.specs.Key.{fields_cmp, fields_cmp_total, key_fields, key_from, key_of}
use Rattle.cap_row.specs.Row.{are_columns, columns_of, new_value, row_with}
use Rattle.cap_tree.specs.Change.{change_entry}
use Rattle.cap_tree.specs.Tree.{get}
use Rattle.cap_table.specs.KeptKey.{keeps_key, new_key}
use Rattle.cap_table.specs.Operation.{delete_row, insert_row, placed, update_row, with_key, without}
use Rattle.cap_table.specs.RowRule.{GivesByRule, refused_row}
use Rattle.cap_table.specs.WithHook.{LeavesIfAllowed}
use Rattle.cap_table.specs.declared.change_fault.ChangeFault.{ChangeFault}
use Rattle.cap_table.specs.declared.change_fault.ChangeFault.TheVariants.{Refused, OutOfMemory, Vetoed}
use Rattle.cap_table.specs.Sound.{IsTable}
use Rattle.cap_table.specs.Table.{TableState}
use Rattle.cap_table.specs.declared.row_ref.RowRef.TheVariants.{Key}
use Rattle.cap_table.proofs.BackLemmas.{own-row}
use Rattle.cap_table.proofs.TableLemmas.{put_keyed, take_keyed}

module _ {A : Type 0} where
  unset : (flags : List Bool) (c : ℕ) (v : Value A) (fields : List (ℕ × Value A)) → list_any (λ field. get_or flags field.0 false) fields ≡ false → get_or flags c false ≡ true → new_value fields c v ≡ v
  unset flags c v [] none key = refl
  unset flags c v (field ∷ fields) none key = grind (arith, nat_tests, unset flags c v fields)

  kept_fields : (fields : List (ℕ × Value A)) (flags : List Bool) (n : ℕ) (row : Fields A) → ((i : ℕ) (v : Value A) → get_or flags i false ≡ true → new_value fields (n + i) v ≡ v) → key_fields flags (map (λ (field : ℕ × Value A). new_value fields field.0 field.1) (enumerate_from n row)) ≡ key_fields flags row
  kept_fields fields [] n row h = refl
  kept_fields fields (flag ∷ flags) n [] h = refl
  kept_fields fields (flag ∷ flags) n (v ∷ row) h =
      let rest = kept_fields fields flags (n + 1) row (λ i w key. subst (λ m. new_value fields m w ≡ w) (omega arith) (h (suc i) w key)) in
      let here : flag ≡ true → new_value fields n v ≡ v = λ is. subst (λ m. new_value fields m v ≡ v) (omega arith) (h 0 v is) in
      grind (arith, rest, here)

  pub same_key : (flags : List Bool) (fields : List (ℕ × Value A)) → keeps_key flags fields ≡ true → (row : Fields A) → key_of flags (row_with fields row) ≡ key_of flags row
  same_key flags fields keeps row =
      let none : list_any (λ (field : ℕ × Value A). get_or flags field.0 false) fields ≡ false = grind arith in
      ap key_from (kept_fields fields flags 0 row (λ i v key. subst (λ m. new_value fields m v ≡ v) (omega arith) (unset flags i v fields none key)))

  -- the new row of an update has the table's width and keeps its key
  next-own : (t : TableState A) (key : Fields A) (changes : List (ℕ × Value A)) → keeps_key t.schema changes ≡ true → IsTable t → (row : Fields A) → get fields_cmp t.keyed key ≡ Some row → (length (row_with changes row) ≡ length t.schema) × (key_of t.schema (row_with changes row) ≡ Some key)
  next-own t key changes keeps h row there =
      let own = own-row t key row h there in
      (length-map _ _ ∙ length-enumerate_from 0 row ∙ own.0, same_key t.schema changes keeps row ∙ own.1)

  -- the rows with a key after an update of one of them, if it is there
  abbrev pub next_rows : TableState A → Fields A → List (ℕ × Value A) → List (Fields A × Fields A)
  next_rows t key changes = change_entry fields_cmp t.keyed key (option_map (row_with changes) (get fields_cmp t.keyed key))

  pub next_rows-stand : (t : TableState A) (key : Fields A) (changes : List (ℕ × Value A)) → keeps_key t.schema changes ≡ true → IsTable t → IsTable (record t { keyed = next_rows t key changes })
  next_rows-stand t key changes keeps h = stand (get fields_cmp t.keyed key) refl
    where
      stand : (found : Option (Fields A)) → get fields_cmp t.keyed key ≡ found → IsTable (record t { keyed = change_entry fields_cmp t.keyed key (option_map (row_with changes) found) })
      stand None is = take_keyed t key h
      stand (Some row) is = let own = next-own t key changes keeps h row is in put_keyed t key (row_with changes row) h own.0 own.1

-- ---- what an operation comes to by the rule on the present row

-- the rule's refusal, or what is left where it refuses nothing
abbrev pub ruled : {S : Type 0} → Option Why → S → Result S Why
ruled (Some why) left = Err why
ruled None left = Ok left

pub allowed : {S : Type 0} {refused : Option Why} {answer : Result S Why} {left : S} → answer ≡ ruled refused left → refused ≡ None → answer ≡ Ok left
allowed {left = left} is none = is ∙ ap (λ r. ruled r left) none

module _ {S E : Type 0} where
  pub leaves : (refused : Option Why) (result : Result (Unit {0}) (ChangeFault E)) {answer : Result S Why} (left after : S) {unasked still : Type 0} {gives told : Result (Unit {0}) E → Type 0} → answer ≡ ruled refused left → GivesByRule refused result unasked gives → OnOk result (after ≡ left) → (unasked → still) → ((a : Result (Unit {0}) E) → gives a → told a) → LeavesIfAllowed result answer after still told
  leaves (Some why) result left after is by made keep tell = rw by.0 (is, keep by.1)
  leaves None (Ok done) left after is by made keep tell = (is ∙ ap Ok (sym made), tell (Ok tt) by)
  leaves None (Err (Vetoed why)) left after is by made keep tell = (rw is refl, tell (Err why) by)
  leaves None (Err (Refused why)) left after is by made keep tell = absurd by
  leaves None (Err OutOfMemory) left after is by made keep tell = absurd by

pub none-there : {V : Type 0} (found : Option V) → refused_row true found ≡ None → found ≡ None
none-there None is = refl
none-there (Some row) is = cc

module _ {A : Type 0} where
  -- a new row that has a key has the table's width, and this key
  pub new-own : (t : TableState A) (row key : Fields A) → new_key t row ≡ Some key → (length row ≡ length t.schema) × (key_of t.schema row ≡ Some key)
  new-own t row key is = (grind (arith, nat_tests), grind (arith, nat_tests))

  pub inserted : (t : TableState A) (row key : Fields A) → new_key t row ≡ Some key → insert_row t row ≡ ruled (refused_row true (get fields_cmp t.keyed key)) (with_key t key row)
  inserted t row key is =
      let own = new-own t row key is in
      let place = ap (placed t row) own.1 in
      grind (arith, nat_tests)

  pub deleted : (t : TableState A) (key : Fields A) → delete_row t (Key key) ≡ ruled (refused_row false (get fields_cmp t.keyed key)) (without t (Key key))
  deleted t key = grind arith

  pub updated_to : (t : TableState A) (key : Fields A) (changes : List (ℕ × Value A)) → are_columns (length t.schema) (columns_of changes) ≡ true → keeps_key t.schema changes ≡ true → IsTable t → update_row t (Key key) changes ≡ ruled (refused_row false (get fields_cmp t.keyed key)) (record t { keyed = next_rows t key changes })
  updated_to t key changes columns keeps h =
      let tie = (Equal-is (fields_cmp key key)).1 (tied_itself fields_cmp_total key) in
      grind (arith, next-own t key changes keeps h)
