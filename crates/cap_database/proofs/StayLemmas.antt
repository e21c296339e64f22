-- A row that no change names stays as it was, and the first change that names it carries it.
use Rattle.std.proofs.Common.{◌≡◌, ℕ, Bool, true, false, cond, Option, Some, None, Result, Ok, Err, IfOk, List, [], ◌∷◌, ◌++◌, ◌&&◌, ◌||◌, refl, sym, ap, ◌∙◌, arith}
use Rattle.std.specs.Prelude.{option_and_then}
use Rattle.std.specs.List.{find, list_any}
use Rattle.std.specs.Cmp.Lexicographic.{bytes_decides}
use Rattle.std.specs.Ordering.{eq_by_cmp}
use Rattle.std.specs.Cmp.{Equal-is, eq_by_cmp_equiv}
use Rattle.std.proofs.lemmas.Bool.{or_parts}
use Rattle.std.proofs.lemmas.List.Folds.{list_any-append}
use Rattle.cap_value.specs.Bytes.{bytes_cmp, bytes_eq}
use Rattle.cap_value.specs.declared.refusal.Refusal.{Refusal}
use Rattle.cap_row.specs.Fields.{Fields}
use Rattle.cap_row.specs.Key.{fields_cmp, fields_cmp_total, key_of}
use Rattle.cap_row.specs.Row.{row_with}
use Rattle.cap_tree.specs.Tree.{get, put_entry, take_entry}
use Rattle.cap_table.specs.Operation.{key_of_name, moved, placed, row_of, updated}
use Rattle.cap_table.specs.Sound.{is_key_of}
use Rattle.cap_table.specs.Table.{TableState}
use Rattle.cap_table.specs.declared.row_ref.RowRef.{RowRef}
use Rattle.cap_table.specs.declared.row_ref.RowRef.TheVariants.{Key, Loose}
use Rattle.cap_table.proofs.BackLemmas.{get-take-other as take-other}
use Rattle.cap_table.proofs.TableLemmas.{fields_same}
use Rattle.cap_database.specs.Assigned.{Assigned}
use Rattle.cap_database.specs.Carried.{CarryFirstRows, is_of_row}
use Rattle.cap_database.specs.Operation.{Changed, act, changed_rows, changes, changes_to, goes, run, step, updated_rows}
use Rattle.cap_database.specs.Outcome.{OutcomeState}
use Rattle.cap_database.specs.Read.{row_at}
use Rattle.cap_database.specs.Tables.{Tables, table_of}
use Rattle.cap_database.specs.declared.cause.Cause.{Cause}
use Rattle.cap_database.specs.declared.change.Change.{Change}
use Rattle.cap_database.specs.declared.op.Action.{Action}
use Rattle.cap_database.specs.declared.op.Action.TheVariants.{Delete, Insert, Update}
use Rattle.cap_database.specs.declared.op.Op.{Op}
use Rattle.cap_database.proofs.KeptLemmas.{get-put as name-put, run-each, same_name, step-puts}
use Rattle.cap_database.proofs.WritesLemmas.{get-put}

-- ---- truth values

pub either_false : (a b : Bool) → (a || b) ≡ false → a ≡ false
either_false a b is = (or_parts a b is).0

pub other_false : (a b : Bool) → (a || b) ≡ false → b ≡ false
other_false a b is = (or_parts a b is).1

-- what was found
pub same_found : {X : Type 0} (a b : X) → Some a ≡ Some b → a ≡ b
same_found a b is = cc

-- an item that is found in the first list, or in the second where none is in the first
module _ {X : Type 0} (test : X → Bool) where
  pub found-in : (P : X → Type 0) (xs ys : List X) → ((x : X) → find test xs ≡ Some x → P x) → (list_any test xs ≡ false → (x : X) → find test ys ≡ Some x → P x)
      → (x : X) → find test (xs ++ ys) ≡ Some x → P x
  found-in P [] ys here later x is = later refl x is
  found-in P (y ∷ xs) ys here later x is = grind (arith, found-in P xs ys, here, later)

module _ {A : Type 0} where
  -- ---- entries at other keys

  pub get-put-other : (es : List (Fields A × Fields A)) (key row q : Fields A) → eq_by_cmp fields_cmp q key ≡ false → get fields_cmp (put_entry fields_cmp es key row) q ≡ get fields_cmp es q
  get-put-other es key row q apart = get-put fields_cmp fields_cmp_total fields_same es key row q ∙ ap (λ b. cond b (Some row) (get fields_cmp es q)) apart

  pub get-take-other : (es : List (Fields A × Fields A)) (key q : Fields A) → eq_by_cmp fields_cmp q key ≡ false → get fields_cmp (take_entry fields_cmp es key) q ≡ get fields_cmp es q
  get-take-other es key q apart = take-other es key q apart

  pub other_key : (own key : Fields A) → is_key_of (Some own) key ≡ false → eq_by_cmp fields_cmp key own ≡ false
  other_key own key apart = (eq_by_cmp_equiv fields_cmp_total).symm key own ∙ apart

  -- ---- one operation on a table

  module _ (table : TableState A) (key : Fields A) where
    -- the row under the key is as it was
    abbrev Stays : Result (TableState A) Refusal → Type 0
    Stays r = IfOk r (λ next. get fields_cmp next.keyed key ≡ get fields_cmp table.keyed key)

    put-apart : (es : List (Fields A × Fields A)) (own row : Fields A) → is_key_of (Some own) key ≡ false → get fields_cmp (put_entry fields_cmp es own row) key ≡ get fields_cmp es key
    put-apart es own row apart = get-put-other es own row key (other_key own key apart)

    take-apart : (es : List (Fields A × Fields A)) (own : Fields A) → is_key_of (Some own) key ≡ false → get fields_cmp (take_entry fields_cmp es own) key ≡ get fields_cmp es key
    take-apart es own apart = take-other es own key (other_key own key apart)

    placed-stays : (row : Fields A) (own : Option (Fields A)) → is_key_of own key ≡ false → Stays (placed table row own)
    placed-stays row None apart = grind arith
    placed-stays row (Some own) apart = grind (arith, put-apart)

    moved-stays : (name : RowRef A) (row : Fields A) (own : Option (Fields A)) → is_key_of (key_of_name name) key ≡ false → is_key_of own key ≡ false → Stays (moved table name row own)
    moved-stays (Key old) row (Some new) apart away = grind (arith, take-apart, put-apart)
    moved-stays (Key old) row None apart away = grind (arith, take-apart)
    moved-stays (Loose id) row (Some new) apart away = grind (arith, put-apart)
    moved-stays (Loose id) row None apart away = refl

    -- the change is of a row under the key
    abbrev pub is_here : Changed A → Bool
    is_here changed = is_key_of changed.0 key

    updated-stays : (name : RowRef A) (fields : Assigned A) (found : Option (Fields A)) → list_any is_here (updated_rows table name fields found) ≡ false → Stays (updated table name fields found)
    updated-stays name fields None apart = tt
    updated-stays name fields (Some row) apart = grind (arith, moved-stays name (row_with fields row) (key_of table.schema (row_with fields row)))

    pub act-stays : (action : Action A) → list_any is_here (changed_rows table action) ≡ false → Stays (act table action)
    act-stays (Insert row) apart = grind (arith, placed-stays row (key_of table.schema row))
    act-stays (Update name fields) apart = grind (arith, updated-stays name fields (row_of table name) apart)
    act-stays (Delete (Key own)) apart = grind (arith, take-apart)
    act-stays (Delete (Loose id)) apart = grind arith

    -- ---- the first change of the key carries the row

    -- the first of these changes of a row under the key has the row
    abbrev Carry : List (Changed A) → Type 0
    Carry rows = (changed : Changed A) → find is_here rows ≡ Some changed → changed.1 ≡ get fields_cmp table.keyed key

    same_key : (own : Fields A) → is_key_of (Some own) key ≡ true → own ≡ key
    same_key own here = fields_same own key ((Equal-is (fields_cmp own key)).0 here)

    placed-carries : (row : Fields A) (after : TableState A) (own : Option (Fields A)) → placed table row own ≡ Ok after → Carry ((own, None) ∷ [])
    placed-carries row after None is changed found = cc
    placed-carries row after (Some own) is changed found = grind (arith, same_key own)

    moved-carries : (name : RowRef A) (row : Fields A) (after : TableState A) (own : Option (Fields A)) → moved table name row own ≡ Ok after → Carry (goes name (row_of table name) ∷ (own, None) ∷ [])
    moved-carries (Key old) row after (Some own) is changed found = grind (arith, same_key own, same_key old)
    moved-carries (Key old) row after None is changed found = grind (arith, same_key old)
    moved-carries (Loose id) row after (Some own) is changed found = grind (arith, same_key own)
    moved-carries (Loose id) row after None is changed found = cc

    updated-carries : (name : RowRef A) (fields : Assigned A) (after : TableState A) (before : Option (Fields A)) → row_of table name ≡ before → updated table name fields before ≡ Ok after → Carry (updated_rows table name fields before)
    updated-carries name fields after None there is = cc
    updated-carries name fields after (Some row) there is = rw there at (moved-carries name (row_with fields row) after (key_of table.schema (row_with fields row)) is)

    pub act-carries : (action : Action A) (after : TableState A) → act table action ≡ Ok after → Carry (changed_rows table action)
    act-carries (Insert row) after is changed found = grind (arith, placed-carries row after (key_of table.schema row))
    act-carries (Update name fields) after is changed found = grind (arith, updated-carries name fields after (row_of table name) refl)
    act-carries (Delete (Key own)) after is changed found = grind (arith, same_key own)
    act-carries (Delete (Loose id)) after is changed found = grind arith

  -- ---- a database

  module _ (name : List ℕ) (key : Fields A) where
    pub unnamed-rows : (table : List ℕ) (cause : Cause) (rows : List (Changed A)) → name ≡ table → list_any (is_of_row name key) (changes_to table cause rows) ≡ list_any (λ row. is_key_of row.0 key) rows
    unnamed-rows table cause [] same = refl
    unnamed-rows table cause (row ∷ rows) same = grind (arith, unnamed-rows table cause rows, (bytes_decides name table).1 same)

    -- a change that names the row is of its table
    pub named-table : (table : List ℕ) (cause : Cause) (rows : List (Changed A)) → list_any (is_of_row name key) (changes_to table cause rows) ≡ true → bytes_eq name table ≡ true
    named-table table cause [] named = cc
    named-table table cause (row ∷ rows) named = grind (arith, named-table table cause rows)

    -- the first change of the row carries what the first of these rows has
    pub found-row : (P : Option (Fields A) → Type 0) (table : List ℕ) (cause : Cause) (rows : List (Changed A)) → (name ≡ table → (row : Changed A) → find (λ own. is_key_of own.0 key) rows ≡ Some row → P row.1)
        → (change : Change A) → find (is_of_row name key) (changes_to table cause rows) ≡ Some change → P change.before
    found-row P table cause [] has change is = cc
    found-row P table cause (row ∷ rows) has change is =
        let named = bytes_decides name table in
        let rest = λ (off : (bytes_eq name table && is_key_of row.0 key) ≡ false). found-row P table cause rows (λ same other at. has same other (grind (arith, named.1 same))) change in
        grind (arith, rest, named.0, has)

    -- a table in place of the one of its name
    pub put-stays : (tables : Tables A) (other : List ℕ) (table : TableState A) → (name ≡ other → option_and_then (λ t. get fields_cmp t.keyed key) (Some table) ≡ row_at tables name key)
        → row_at (put_entry bytes_cmp tables other table) name key ≡ row_at tables name key
    put-stays tables other table same =
        grind (arith, name-put tables other table name, same_name name other, same)

    -- a table of the name that was there
    row-there : (tables : Tables A) (other : List ℕ) (table : TableState A) → table_of tables other ≡ Some table → name ≡ other → get fields_cmp table.keyed key ≡ row_at tables name key
    row-there tables other table there same = ap (option_and_then (λ t. get fields_cmp t.keyed key)) (sym there) ∙ ap (λ n. row_at tables n key) (sym same)

    -- the first of these changes that names the row carries it
    abbrev pub CarriesRow : Tables A → List (Change A) → Type 0
    CarriesRow tables carried = (change : Change A) → find (is_of_row name key) carried ≡ Some change → change.before ≡ row_at tables name key

    -- what a list of operations leaves of the row, and what its changes carry
    pub record Leaves (tables : Tables A) (left : OutcomeState A) : Type 0 where
      pub stays : list_any (is_of_row name key) left.changes ≡ false → row_at left.database name key ≡ row_at tables name key
      pub carries : CarriesRow tables left.changes

    step-leaves : (tables : Tables A) (op : Op A) → IfOk (step tables op) (λ next. Leaves tables (record { database = next; changes = changes tables op }))
    step-leaves tables op = step-puts (λ next. Leaves tables (record { database = next; changes = changes tables op })) tables op (λ table after there acts. rw there (record {
      stays = λ unnamed. put-stays tables op.table after (λ same.
          let apart = sym (unnamed-rows op.table op.cause (changed_rows table op.action) same) ∙ unnamed in
          rw acts at (act-stays table key op.action apart) ∙ row-there tables op.table table there same);
      carries = found-row (λ before. before ≡ row_at tables name key) op.table op.cause (changed_rows table op.action)
          (λ same row at. act-carries table key op.action after acts row at ∙ row-there tables op.table table there same);
    }))

    pub run-leaves : (ops : List (Op A)) (tables : Tables A) → IfOk (run tables ops) (Leaves tables)
    run-leaves ops tables = run-each Leaves (λ tables. record { stays = λ _. refl; carries = λ change is. cc }) step-leaves
        (λ tables next before left one more. record {
          stays = λ unnamed.
              let parts = or_parts (list_any (is_of_row name key) before) (list_any (is_of_row name key) left.changes) (sym (list_any-append (is_of_row name key) before left.changes) ∙ unnamed) in
              more.stays parts.1 ∙ one.stays parts.0;
          carries = found-in (is_of_row name key) (λ change. change.before ≡ row_at tables name key) before left.changes one.carries (λ none change is. more.carries change is ∙ one.stays none);
        }) tables ops

  pub run-carries : (tables : Tables A) (ops : List (Op A)) → IfOk (run tables ops) (λ left. CarryFirstRows tables left.changes)
  run-carries tables ops = elim (run tables ops) as (λ r. ((name : List ℕ) (key : Fields A) → IfOk r (Leaves name key tables)) → IfOk r (λ left. CarryFirstRows tables left.changes)) [
    | Ok left ↦ λ each name key. (each name key).carries
    | Err refused ↦ λ _. tt
  ] (λ name key. run-leaves name key ops tables)
