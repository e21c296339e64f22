-- A row that stands in place of a change.
use Rattle.std.proofs.Common.{◌≡◌, ℕ, inr, Bool, true, false, cond, Option, Some, None, List, length, refl, ap, subst, ◌∙◌, arith, ◌==◌}
use Rattle.std.specs.Prelude.{is_some, option_and_then}
use Rattle.std.specs.Option.{option_map}
use Rattle.std.specs.Cmp.{tied_itself}
use Rattle.std.proofs.lemmas.Bool.Decides.{nat_tests}
use Rattle.std.proofs.lemmas.Cmp.{nat_list_cmp_total}
use Rattle.std.proofs.lemmas.Option.{same_Some}
use Rattle.cap_value.specs.Bytes.{bytes_cmp}
use Rattle.cap_row.specs.Fields.{Fields}
use Rattle.cap_row.specs.Key.{fields_cmp, fields_cmp_total, fields_eq, fields_eq_decides, key_of}
use Rattle.cap_tree.specs.Tree.{get}
use Rattle.cap_table.specs.Table.{TableState}
use Rattle.cap_database.specs.Keyed.{IsOwnRow, set_in, with_row}
use Rattle.cap_database.specs.Read.{row_at}
use Rattle.cap_database.specs.Tables.{Tables, table_of}
use Rattle.cap_database.proofs.BackLemmas.{found}
use Rattle.cap_apply.proofs.EntryLemmas.{get_put}
use Rattle.cap_applier.specs.Applier.{ApplierState, merged_at}
use Rattle.cap_applier.specs.Counted.{CountsChange}
use Rattle.cap_applier.proofs.NamedLemmas.{put_stays}
use Rattle.cap_applier.specs.Merge.{refused_for, refused_key, refused_row}
use Rattle.cap_applier.specs.declared.merge.MergeRefusal.TheVariants.{WrongWidth, OtherKey}
use Rattle.cap_applier.specs.declared.row_conflict.RowConflict.{RowConflict}

same_length : (m n : ℕ) → (m == n) ≡ true → m ≡ n
same_length m n e = grind (arith, nat_tests)

module _ {A : Type 0} where
  -- ---- a row that is not refused is the key's own

  key_own : (own : Option (Fields A)) (key : Fields A) → refused_key own key ≡ None → own ≡ Some key
  key_own None key e = cc
  key_own (Some own) key e = by_test (fields_eq own key) refl e
    where
      by_test : (b : Bool) → fields_eq own key ≡ b → cond b None (Some OtherKey) ≡ None → Some own ≡ Some key
      by_test true is none = ap Some ((fields_eq_decides own key).0 is)
      by_test false is none = cc

  row_own : (flags : List Bool) (key row : Fields A) → refused_row (Some flags) key row ≡ None → (length row ≡ length flags) × (key_of flags row ≡ Some key)
  row_own flags key row e = by_test (length row == length flags) refl e
    where
      by_test : (b : Bool) → (length row == length flags) ≡ b → cond b (refused_key (key_of flags row) key) (Some WrongWidth) ≡ None → (length row ≡ length flags) × (key_of flags row ≡ Some key)
      by_test true is none = (same_length (length row) (length flags) is, key_own (key_of flags row) key none)
      by_test false is none = cc

  table_own : (key row : Fields A) (o : Option (TableState A)) → refused_row (option_map (λ table. table.schema) o) key row ≡ None
      → (is_some o ≡ true) × ((table : TableState A) → o ≡ Some table → (length row ≡ length table.schema) × (key_of table.schema row ≡ Some key))
  table_own key row None e = cc
  table_own key row (Some found) e =
      (refl, λ table is. subst (λ (t : TableState A). (length row ≡ length t.schema) × (key_of t.schema row ≡ Some key)) (same_Some found table is) (row_own found.schema key row e))

  pub accepted-there : (database : Tables A) (conflict : RowConflict A) (row : Fields A) → refused_for database (Some conflict) row ≡ None → is_some (table_of database conflict.table) ≡ true
  accepted-there database conflict row e = (table_own conflict.key row (table_of database conflict.table) e).0

  pub accepted-own : (database : Tables A) (conflict : RowConflict A) (row : Fields A) → refused_for database (Some conflict) row ≡ None → IsOwnRow database conflict.table conflict.key row
  accepted-own database conflict row e = (table_own conflict.key row (table_of database conflict.table) e).1

  -- ---- it stands at its key

  pub merged-stands : (s : ApplierState A) (conflict : RowConflict A) (row : Fields A) → is_some (table_of s.progress.applied.database conflict.table) ≡ true
      → row_at (merged_at (Some conflict) row s).progress.applied.database conflict.table conflict.key ≡ Some row
  merged-stands s conflict row there =
      let database = s.progress.applied.database in
      let name = conflict.table in
      let key = conflict.key in
      let h = found database name there in
      let table = with_row h.table key (Some row) in
      ap (λ o. row_at (set_in database name key (Some row) o) name key) h.is
      ∙ ap (option_and_then (λ (t : TableState A). get fields_cmp t.keyed key)) (get_put bytes_cmp name table (tied_itself nat_list_cmp_total name) database)
      ∙ get_put fields_cmp key row (tied_itself fields_cmp_total key) h.table.keyed

  -- and nowhere else
  pub merged-others : (s : ApplierState A) (conflict : RowConflict A) (row : Fields A) → is_some (table_of s.progress.applied.database conflict.table) ≡ true
      → (name : List ℕ) (key : Fields A) → (conflict.table ≡ name → conflict.key ≡ key → ⊥)
      → row_at (merged_at (Some conflict) row s).progress.applied.database name key ≡ row_at s.progress.applied.database name key
  merged-others s conflict row there name key apart =
      let database = s.progress.applied.database in
      let h = found database conflict.table there in
      ap (λ o. row_at (set_in database conflict.table conflict.key (Some row) o) name key) h.is
      ∙ put_stays database conflict.table h.table h.is conflict.key (Some row) name key apart

  pub merged-counts : (s : ApplierState A) (conflict : RowConflict A) (row : Fields A) → CountsChange s.progress (merged_at (Some conflict) row s).progress
  merged-counts s conflict row =
      record { number = refl; place = (refl, refl); counts = inr (record { applied = refl; omitted = refl }); skipped = refl; passed = refl }
