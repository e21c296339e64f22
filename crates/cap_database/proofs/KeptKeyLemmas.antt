-- An operation on a row that keeps its key: what its hook is shown, and its changes.
use Rattle.std.proofs.Common.{◌≡◌, ℕ, true, Option, Some, None, Ok, List, [], ◌∷◌, inl, inr, refl, sym, ap, ap₂, ◌∙◌, arith}
use Rattle.std.specs.Prelude.{option_and_then}
use Rattle.std.specs.Cmp.{Equal-is, tied_itself}
use Rattle.cap_row.specs.Fields.{Fields}
use Rattle.cap_row.specs.Key.{fields_cmp, fields_cmp_total, fields_eq, key_of}
use Rattle.cap_tree.specs.Tree.{get}
use Rattle.cap_table.specs.KeptKey.{keeps_key}
use Rattle.cap_table.specs.Operation.{row_of, updated}
use Rattle.cap_table.specs.Sound.{IsRising, IsTable, is_key_of}
use Rattle.cap_table.specs.Table.{TableState}
use Rattle.cap_table.specs.declared.row_ref.RowRef.TheVariants.{Key, Loose}
use Rattle.cap_table.proofs.KeptKeyLemmas.{same_key}
use Rattle.cap_table.proofs.BackLemmas.{own-row}
use Rattle.cap_database.specs.Assigned.{Assigned}
use Rattle.cap_database.specs.KeptKey.{AreOfKey, kept_in, kept_key}
use Rattle.cap_database.specs.Operation.{act, changed_rows, changes, changes_to, step, updated_rows}
use Rattle.cap_database.specs.Read.{row_at}
use Rattle.cap_database.specs.Tables.{EachRises, Tables, table_of}
use Rattle.cap_database.specs.declared.op.Action.{Action}
use Rattle.cap_database.specs.declared.op.Action.TheVariants.{Insert, Update, Delete}
use Rattle.cap_database.specs.declared.op.Op.{Op}
use Rattle.cap_database.proofs.KeptLemmas.{each-found, step-puts}
use Rattle.cap_database.proofs.StayLemmas.{act-carries}

module _ {A : Type 0} where
  pub row-found : (ts : Tables A) (name : List ℕ) (t : TableState A) (key : Fields A) → table_of ts name ≡ Some t → row_at ts name key ≡ get fields_cmp t.keyed key
  row-found ts name t key there = ap (option_and_then (λ t. get fields_cmp t.keyed key)) there

  pub key-found : (ts : Tables A) (op : Op A) (t : TableState A) (key : Fields A) → table_of ts op.table ≡ Some t → kept_key ts op ≡ Some key → kept_in t op.action ≡ Some key
  key-found ts op t key there kept = sym (ap (option_and_then (λ t. kept_in t op.action)) there) ∙ kept

  tied_itself-eq : (key : Fields A) → fields_eq key key ≡ true
  tied_itself-eq key = (Equal-is (fields_cmp key key)).1 (tied_itself fields_cmp_total key)

  module _ (t : TableState A) (h : IsTable t) (key : Fields A) where
    updated-twice : (fields : Assigned A) → keeps_key t.schema fields ≡ true → (found : Option (Fields A)) → get fields_cmp t.keyed key ≡ found → (after : TableState A) → updated t (Key key) fields found ≡ Ok after
        → updated_rows t (Key key) fields found ≡ (Some key, found) ∷ (Some key, None) ∷ []
    updated-twice fields keeps None there after is = absurd cc
    updated-twice fields keeps (Some row) there after is =
        ap (λ own. (Some key, Some row) ∷ (own, None) ∷ []) (same_key t.schema fields keeps row ∙ (own-row t key row h there).1)

  pub keys-kept : (op : Op A) (t : TableState A) → IsTable t → (action : Action A) (key : Fields A) → kept_in t action ≡ Some key → (after : TableState A) → act t action ≡ Ok after
      → AreOfKey op key (get fields_cmp t.keyed key) (changes_to op.table op.cause (changed_rows t action))
  keys-kept op t h (Insert row) key kept after is =
      let own : key_of t.schema row ≡ Some key = grind arith in
      let here : is_key_of (key_of t.schema row) key ≡ true = rw own (tied_itself-eq key) in
      let free = act-carries t key (Insert row) after is (key_of t.schema row, None) (rw here) in
      inl (ap₂ (λ k (b : Option (Fields A)). changes_to op.table op.cause ((k, b) ∷ [])) own free)
  keys-kept op t h (Update (Key own) fields) key kept after is =
      let keeps : keeps_key t.schema fields ≡ true = grind arith in
      let same : own ≡ key = grind arith in
      let made : updated t (Key own) fields (row_of t (Key own)) ≡ Ok after = grind arith in
      inr (rw (← same) (ap (changes_to op.table op.cause) (updated-twice t h own fields keeps (row_of t (Key own)) refl after made)))
  keys-kept op t h (Update (Loose id) fields) key kept after is = absurd cc
  keys-kept op t h (Delete (Key own)) key kept after is = let same : own ≡ key = cc in inl (rw same)
  keys-kept op t h (Delete (Loose id)) key kept after is = absurd cc

  pub changes-of-key : (ts : Tables A) → EachRises ts → (op : Op A) (key : Fields A) → kept_key ts op ≡ Some key → (left : Tables A) → step ts op ≡ Ok left → AreOfKey op key (row_at ts op.table key) (changes ts op)
  changes-of-key ts each op key kept left is = rw is at (step-puts (λ _. AreOfKey op key (row_at ts op.table key) (changes ts op)) ts op (λ t after there acts.
      rw there (keys-kept op t (each-found IsRising ts op.table t each there).sound op.action key (rw there at kept) after acts)))
