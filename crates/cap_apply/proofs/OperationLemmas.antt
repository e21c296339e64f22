-- Operations on a table that is there, and the changes that those under a key make.
use Rattle.std.proofs.Common.{◌≡◌, ℕ, ◌≤◌, true, Some, None, Ok, List, [], ◌∷◌, length, refl, ◌∙◌, eq-eqb}
use Rattle.cap_database.specs.Assigned.{Assigned}
use Rattle.cap_database.specs.declared.op.Action.TheVariants.{Insert, Update, Delete}
use Rattle.cap_database.proofs.WriteLemmas.{one_run}
use Rattle.cap_apply.proofs.Common.{bytes_cmp, Fields, fields_cmp, fields_eq_decides, key_of, are_columns, columns_of, row_with, get, put_entry, TableState, with_key, without, Key, act, changes, table_of, RecordFields, AppliedState, with_row_in, AreRun, deletes, directly, updates, assigned_from, set_fields}
use Rattle.cap_apply.proofs.RowLemmas.{are_columns-assigned, row_with-assigned}

module _ {A : Type 0} where
  module _ (table : TableState A) (key row : Fields A) where
    pub act_insert_new : length row ≡ length table.schema → key_of table.schema row ≡ Some key → get fields_cmp table.keyed key ≡ None → act table (Insert row) ≡ Ok (with_key table key row)
    act_insert_new wide is none = rw (eq-eqb (length row) (length table.schema) wide, is, none)

    pub act_update : (fields : Assigned A) (before : Fields A) → are_columns (length table.schema) (columns_of fields) ≡ true → get fields_cmp table.keyed key ≡ Some before →
        row_with fields before ≡ row → key_of table.schema row ≡ Some key → act table (Update (Key key) fields) ≡ Ok (with_key table key row)
    act_update fields before columns found becomes is = rw (columns, found, becomes, is, (fields_eq_decides key key).1 refl)

  pub act_delete : (table : TableState A) (key before : Fields A) → get fields_cmp table.keyed key ≡ Some before → act table (Delete (Key key)) ≡ Ok (without table (Key key))
  act_delete table key before found = rw found

  -- ---- operations under a key of a table that is there

  module _ (state : AppliedState A) (name : List ℕ) (table : TableState A) (there : table_of state.database name ≡ Some table) (key : Fields A) where
    pub insert_is : (row : Fields A) → length row ≡ length table.schema → key_of table.schema row ≡ Some key → get fields_cmp table.keyed key ≡ None →
        AreRun (directly name (Insert row) ∷ []) state (with_row_in name table key None (Some row) state)
    insert_is row wide is none =
        let op = directly name (Insert row) in
        (changes state.database op, one_run state.database op (put_entry bytes_cmp state.database name (with_key table key row)) (rw (there, act_insert_new table key row wide is none)), rw (there, is))

    pub update_is : (fields : RecordFields A) (before row : Fields A) → length fields ≤ length table.schema → get fields_cmp table.keyed key ≡ Some before →
        set_fields fields before ≡ row → key_of table.schema row ≡ Some key →
        AreRun (updates name key fields) state (with_row_in name table key (Some before) (Some row) state)
    update_is fields before row few found becomes is =
        let op = directly name (Update (Key key) (assigned_from 0 fields)) in
        let set = row_with-assigned fields before ∙ becomes in
        let acts = act_update table key row (assigned_from 0 fields) before (are_columns-assigned (length table.schema) fields few) found set is in
        (changes state.database op, one_run state.database op (put_entry bytes_cmp state.database name (with_key table key row)) (rw (there, acts)), rw (there, found, set, is))

    pub delete_is : (before : Fields A) → get fields_cmp table.keyed key ≡ Some before →
        AreRun (deletes name key) state (with_row_in name table key (Some before) None state)
    delete_is before found =
        let op = directly name (Delete (Key key)) in
        (changes state.database op, one_run state.database op (put_entry bytes_cmp state.database name (without table (Key key))) (rw (there, act_delete table key before found)), rw (there, found))
