-- One change that is applied with success: the rows, the tables and the conflicts that it leaves.
use Rattle.std.proofs.Common.{◌≡◌, ℕ, Bool, true, false, cond, List, [], ◌∷◌, ◌++◌, length, Option, Some, None, Result, Ok, Err, refl, ap, sym, subst, ◌∙◌}
use Rattle.std.specs.Prelude.{option_and_then}
use Rattle.std.specs.Ordering.{is_eq}
use Rattle.std.specs.declared.cmp.Ordering.TheVariants.{Equal}
use Rattle.std.specs.Cmp.{tied_itself}
use Rattle.std.specs.Cmp.Lexicographic.{bytes_decides}
use Rattle.std.proofs.lemmas.Cmp.{nat_list_cmp_total}
use Rattle.cap_value.specs.Bytes.{bytes_cmp, bytes_cmp-Equal, bytes_eq}
use Rattle.cap_value.specs.declared.refusal.Refusal.{Refusal}
use Rattle.cap_row.specs.Fields.{Fields}
use Rattle.cap_row.specs.Key.{fields_cmp, fields_cmp_total, fields_eq, fields_eq_decides}
use Rattle.cap_tree.specs.Tree.{IsOrdered, get, put_entry}
use Rattle.cap_tree.proofs.EntryLemmas.{ordered_put, ordered_take, put_entry-Updates, take_entry-Updates}
use Rattle.cap_table.specs.Table.{TableState}
use Rattle.cap_database.specs.Read.{row_at}
use Rattle.cap_database.specs.Tables.{Tables, table_of}
use Rattle.cap_changes.specs.Fits.{change_fits}
use Rattle.cap_changes.specs.Patch.{patch_of}
use Rattle.cap_changes.specs.declared.row_change.RowChange.{RowChange}
use Rattle.cap_changes.proofs.ChangeLemmas.{other_order}
use Rattle.cap_apply.specs.Applied.{AppliedState}
use Rattle.cap_apply.specs.Apply.{change_applied, change_at, concluded, counted, left_out, noted, with_row, with_row_in}
use Rattle.cap_apply.specs.Policy.{answer_to, is_made}
use Rattle.cap_apply.specs.Requested.{requested_by_change}
use Rattle.cap_apply.specs.Row.{row_after}
use Rattle.cap_apply.specs.Target.{columns_fit, fitting}
use Rattle.cap_apply.specs.declared.conflict.Conflict.{Conflict}
use Rattle.cap_apply.specs.declared.conflict.ConflictKind.{ConflictKind}
use Rattle.cap_apply.specs.declared.policy.Policy.{Policy}
use Rattle.cap_apply_laws.proofs.CaptureLemmas.{fit_self}
use Rattle.cap_apply.proofs.ChangeLemmas.{HasTarget, applied_at}
use Rattle.cap_apply.proofs.EntryLemmas.{get_put, get_put_other}
use Rattle.cap_group.specs.ChangeKey.{change_key}
use Rattle.cap_rebase.specs.OneRow.{client_after, conflict_at}
use Rattle.cap_convergence.proofs.KeyLemmas.{append_none, applied_key}

-- the conflict that is reported
abbrev pub reported : Policy → ℕ → Option ConflictKind → List Conflict
reported policy number None = []
reported policy number (Some kind) = record { change = number; kind = kind; answer = answer_to policy kind } ∷ []

-- ---- a database after one table is put

names_same : (a b : List ℕ) → bytes_cmp a b ≡ Equal → a ≡ b
names_same a b is = (bytes_cmp-Equal a b).0 is

unequal_names : (a b : List ℕ) → bytes_eq a b ≡ false → is_eq (bytes_cmp b a) ≡ false
unequal_names a b apart = other_order (bytes_cmp b a) (λ is. let clash : true ≡ false = sym ((bytes_decides a b).1 (sym (names_same b a is))) ∙ apart in cc)

module _ {A : Type 0} where
  same_table : (database : Tables A) (name : List ℕ) (table : TableState A) → table_of (put_entry bytes_cmp database name table) name ≡ Some table
  same_table database name table = get_put bytes_cmp name table (tied_itself nat_list_cmp_total name) database

  other_table : (database : Tables A) (name other : List ℕ) (table : TableState A) → bytes_eq name other ≡ false → table_of (put_entry bytes_cmp database name table) other ≡ table_of database other
  other_table database name other table apart = get_put_other bytes_cmp names_same name table other (unequal_names name other apart) database

  -- ---- a table after one row is put or taken

  row_in : (table : TableState A) → IsOrdered fields_cmp table.keyed → (key : Fields A) (row : Option (Fields A)) (other : Fields A)
      → get fields_cmp (with_row table key row).keyed other ≡ cond (fields_eq key other) row (get fields_cmp table.keyed other)
  row_in table ordered key None other = take_entry-Updates fields_cmp fields_cmp_total key table.keyed ordered other
  row_in table ordered key (Some row) other = put_entry-Updates fields_cmp fields_cmp_total key row table.keyed other

  ordered_with : (table : TableState A) → IsOrdered fields_cmp table.keyed → (key : Fields A) (row : Option (Fields A)) → IsOrdered fields_cmp (with_row table key row).keyed
  ordered_with table ordered key None = ordered_take fields_cmp fields_cmp_total key table.keyed ordered
  ordered_with table ordered key (Some row) = ordered_put fields_cmp fields_cmp_total key row table.keyed ordered

  columns_with : (table : TableState A) (key : Fields A) (row : Option (Fields A)) → (with_row table key row).schema ≡ table.schema
  columns_with table key None = refl
  columns_with table key (Some row) = refl

  -- the database has the table, with these columns and its rows in order
  pub record Stands (name : List ℕ) (flags : List Bool) (database : Tables A) : Type 0 where
    pub table : TableState A
    pub there : table_of database name ≡ Some table
    pub columns : table.schema ≡ flags
    pub ordered : IsOrdered fields_cmp table.keyed

  pub found_row : (name : List ℕ) (database : Tables A) (table : TableState A) → table_of database name ≡ Some table → (key : Fields A) → row_at database name key ≡ get fields_cmp table.keyed key
  found_row name database table there key = ap (option_and_then (λ t. get fields_cmp t.keyed key)) there

  pub same_rows : (name : List ℕ) (a b : Tables A) → table_of a name ≡ table_of b name → (key : Fields A) → row_at a name key ≡ row_at b name key
  same_rows name a b same key = ap (option_and_then (λ t. get fields_cmp t.keyed key)) same

  -- what a database is after one row of a table of it is put or taken
  pub record RowPut (name : List ℕ) (flags : List Bool) (key : Fields A) (row : Option (Fields A)) (before after : Tables A) : Type 0 where
    pub stands : Stands name flags after
    pub here : row_at after name key ≡ row
    pub rows : (other : Fields A) → fields_eq key other ≡ false → row_at after name other ≡ row_at before name other
    pub others : (other : List ℕ) → bytes_eq name other ≡ false → table_of after other ≡ table_of before other

  module _ (name : List ℕ) (flags : List Bool) (key : Fields A) where
    pub row_put : (row : Option (Fields A)) (database : Tables A) (s : Stands name flags database) → RowPut name flags key row database (put_entry bytes_cmp database name (with_row s.table key row))
    row_put row database s =
        let table = with_row s.table key row in
        let there = same_table database name table in
        let at : (other : Fields A) → row_at (put_entry bytes_cmp database name table) name other ≡ cond (fields_eq key other) row (get fields_cmp s.table.keyed other)
        = λ other. found_row name (put_entry bytes_cmp database name table) table there other ∙ row_in s.table s.ordered key row other in
        record {
          stands = record {
            table = table;
            there = there;
            columns = columns_with s.table key row ∙ s.columns;
            ordered = ordered_with s.table s.ordered key row;
          };
          here = at key ∙ ap (λ b. cond b row (get fields_cmp s.table.keyed key)) ((fields_eq_decides key key).1 refl);
          rows = λ other apart. at other ∙ ap (λ b. cond b row (get fields_cmp s.table.keyed other)) apart ∙ sym (found_row name database s.table s.there other);
          others = λ other apart. other_table database name other table apart;
        }

    pub row_kept : (database : Tables A) → Stands name flags database → RowPut name flags key (row_at database name key) database database
    row_kept database s = record { stands = s; here = refl; rows = λ other apart. refl; others = λ other apart. refl }

  -- ---- one change

  noted_conflicts : (policy : Policy) (number : ℕ) (met : Option ConflictKind) (state : AppliedState A) → (noted policy number met state).report.conflicts ≡ state.report.conflicts ++ reported policy number met
  noted_conflicts policy number None state = append_none state.report.conflicts
  noted_conflicts policy number (Some kind) state = refl

  noted_database : (policy : Policy) (number : ℕ) (met : Option ConflictKind) (state : AppliedState A) → (noted policy number met state).database ≡ state.database
  noted_database policy number None state = refl
  noted_database policy number (Some kind) state = refl

  module _ (policy : Policy) (number : ℕ) (name : List ℕ) (flags : List Bool) (change : RowChange A) (state : AppliedState A) where
    abbrev its_key : Fields A
    its_key = change_key flags change

    abbrev its_row : Option (Fields A)
    its_row = row_at state.database name its_key

    -- the change is made or not, as the policy answers its conflict, and the conflict is reported
    pub record Moves (left : AppliedState A) : Type 0 where
      pub made : Bool
      pub so : is_made policy number (conflict_at flags change its_row) ≡ Ok made
      pub put : RowPut name flags its_key (client_after flags made change its_row) state.database left.database
      pub conflicts : left.report.conflicts ≡ state.report.conflicts ++ reported policy number (conflict_at flags change its_row)

    module _ (s : Stands name flags state.database) (fits : change_fits flags change ≡ true) where
      its_target : HasTarget state.database name flags
      its_target =
          let fit : columns_fit flags s.table.schema ≡ true = ap (columns_fit flags) s.columns ∙ fit_self flags in
          record { table = s.table; there = s.there; fit = fit; is = ap (fitting flags) s.there ∙ ap (λ b. cond b (Some s.table) None) fit }

      abbrev its_kept : AppliedState A
      its_kept = noted policy number (conflict_at flags change its_row) state

      abbrev its_made : AppliedState A
      its_made = counted (with_row_in name s.table its_key its_row (row_after (length flags) (patch_of flags change) its_row) its_kept)

      abbrev its_omitted : AppliedState A
      its_omitted = left_out number its_kept

      moved_as : change_applied policy number name flags (requested_by_change flags change) state ≡ concluded (is_made policy number (conflict_at flags change its_row)) its_made its_omitted
      unfolding its_target
      moved_as =
          let requested = requested_by_change flags change in
          let key_is = applied_key flags change fits in
          applied_at policy number name flags requested state its_target its_row (conflict_at flags change its_row) (ap (get fields_cmp s.table.keyed) key_is ∙ sym (found_row name state.database s.table s.there its_key)) refl
          ∙ (λ i. change_at policy number name requested s.table (key_is i) its_row (conflict_at flags change its_row) state)
          ∙ ap (λ (f : List Bool). concluded (is_made policy number (conflict_at flags change its_row)) (counted (with_row_in name s.table its_key its_row (row_after (length f) (patch_of flags change) its_row) its_kept)) its_omitted) s.columns

      by_answer : (left : AppliedState A) (answer : Result Bool Refusal) → is_made policy number (conflict_at flags change its_row) ≡ answer → concluded answer its_made its_omitted ≡ Ok left → Moves left
      by_answer left (Ok true) so is =
          let same : its_made ≡ left = cc in
          subst Moves same (record {
            made = true;
            so = so;
            put = subst (λ d. RowPut name flags its_key (client_after flags true change its_row) state.database (put_entry bytes_cmp d name (with_row s.table its_key (client_after flags true change its_row))))
                (sym (noted_database policy number (conflict_at flags change its_row) state)) (row_put name flags its_key (client_after flags true change its_row) state.database s);
            conflicts = noted_conflicts policy number (conflict_at flags change its_row) state;
          })
      by_answer left (Ok false) so is =
          let same : its_omitted ≡ left = cc in
          subst Moves same (record {
            made = false;
            so = so;
            put = subst (λ d. RowPut name flags its_key its_row state.database d) (sym (noted_database policy number (conflict_at flags change its_row) state)) (row_kept name flags its_key state.database s);
            conflicts = noted_conflicts policy number (conflict_at flags change its_row) state;
          })
      by_answer left (Err why) so is = cc

      pub moves : (left : AppliedState A) → change_applied policy number name flags (requested_by_change flags change) state ≡ Ok left → Moves left
      moves left is = by_answer left (is_made policy number (conflict_at flags change its_row)) refl (sym moved_as ∙ is)
