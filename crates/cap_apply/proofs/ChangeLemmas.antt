-- One change: its table, its conflict, and what it leaves.
use Rattle.std.proofs.Common.{◌≡◌, ℕ, Bool, true, Option, Some, None, Result, Ok, List, length, refl, ap, arith, IfOk, is_some}
use Rattle.cap_apply.proofs.Common.{Fields, fields_cmp, get, TableState, Tables, table_of, Change, AppliedState, change_applied, change_at, change_in, with_row, with_row_in, Requested, conflict_of, key_record_of, key_values, row_after, columns_fit, target, ConflictKind, Policy}

module _ {A : Type 0} where
  -- the table that a group is for
  pub record HasTarget (database : Tables A) (name : List ℕ) (flags : List Bool) : Type 0 where
    pub table : TableState A
    pub there : table_of database name ≡ Some table
    pub fit : columns_fit flags table.schema ≡ true
    pub is : target database name flags ≡ Some table

  pub target_is : (database : Tables A) (name : List ℕ) (flags : List Bool) (table : TableState A) → target database name flags ≡ Some table → (table_of database name ≡ Some table) × (columns_fit flags table.schema ≡ true)
  target_is database name flags table is = grind arith

  abbrev pub the_target : (database : Tables A) (name : List ℕ) (flags : List Bool) (table : TableState A) → target database name flags ≡ Some table → HasTarget database name flags
  the_target database name flags table is = let found = target_is database name flags table is in record { table = table; there = found.0; fit = found.1; is = is }

  pub has_target : (database : Tables A) (name : List ℕ) (flags : List Bool) → is_some (target database name flags) ≡ true → HasTarget database name flags
  has_target database name flags e = elim (target database name flags) as (λ t. target database name flags ≡ t → is_some t ≡ true → HasTarget database name flags) [
    | None ↦ λ is none. cc
    | Some table ↦ λ is some. the_target database name flags table is
  ] refl e

  -- a change whose conflict is known
  pub applied_at : (policy : Policy) (number : ℕ) (name : List ℕ) (flags : List Bool) (requested : Requested A) (state : AppliedState A) (h : HasTarget state.database name flags)
      (before : Option (Fields A)) (conflict : Option ConflictKind) →
      get fields_cmp h.table.keyed (key_values flags (key_record_of requested.patch)) ≡ before → conflict_of flags requested.old requested.patch before ≡ conflict →
      change_applied policy number name flags requested state ≡ change_at policy number name requested h.table (key_values flags (key_record_of requested.patch)) before conflict state
  applied_at policy number name flags requested state h before conflict found met = rw (h.is, found, met)

  -- a row under a key changes nothing else of the table
  pub same_rest : (table : TableState A) (key : Fields A) (row : Option (Fields A)) → with_row table key row ≡ record table { keyed = (with_row table key row).keyed }
  same_rest table key row = grind arith

  pub same_columns : (table : TableState A) (key : Fields A) (row : Option (Fields A)) → (with_row table key row).schema ≡ table.schema
  same_columns table key row = ap (λ (t : TableState A). t.schema) (same_rest table key row)

  -- what holds of a database and its changes, and with the row that a change leaves, holds of what the change leaves
  module _ (Holds : Tables A → List (Change A) → Type 0) where
    abbrev IsLeft : AppliedState A → Type 0
    IsLeft state = Holds state.database state.changes

    pub change_leaves : (policy : Policy) (number : ℕ) (name : List ℕ) (flags : List Bool) (requested : Requested A) (state : AppliedState A) → IsLeft state
        → ((h : HasTarget state.database name flags) (key : Fields A) (before : Option (Fields A)) → key ≡ key_values flags (key_record_of requested.patch) → get fields_cmp h.table.keyed key ≡ before
        → IsLeft (with_row_in name h.table key before (row_after (length h.table.schema) requested.patch before) state))
        → IfOk (change_applied policy number name flags requested state) IsLeft
    change_leaves policy number name flags requested state still made =
        elim (target state.database name flags) as (λ t. target state.database name flags ≡ t → IfOk (change_in policy number name flags requested t state) IsLeft) [
          | None ↦ λ _. still
          | Some table ↦ λ is.
              let key = key_values flags (key_record_of requested.patch) in
              let before = get fields_cmp table.keyed key in
              grind (arith, still, made (the_target state.database name flags table is) key before refl refl)
        ] refl

pub same_ok : {X E : Type 0} {x y : X} (answer : Result X E) → answer ≡ Ok x → answer ≡ Ok y → x ≡ y
same_ok answer is is_too = cc
