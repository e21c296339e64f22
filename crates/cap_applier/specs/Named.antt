-- The rows that the changes of a blob name.
use Rattle.std.specs.Prelude.{◌≡◌, ℕ, Some, List, slice_get}
use Rattle.cap_row.specs.Fields.{Fields}
use Rattle.cap_changes.specs.Entries.{TableEntries}
use Rattle.cap_codec.specs.declared.read.Contents.{Contents}
use Rattle.cap_apply.specs.Requested.{Requested, requested_of}
use Rattle.cap_apply.specs.Row.{key_record_of, key_values}
use Rattle.cap_database.specs.Read.{row_at}
use Rattle.cap_applier.specs.Applier.{ApplierState}

module _ {A : Type 0} where
  -- a change of a group names the row with this key of the group's table
  pub record Names (groups : List (TableEntries (Requested A))) (table : List ℕ) (key : Fields A) : Type 0 where
    pub place : ℕ
    pub group : TableEntries (Requested A)
    pub in_list : slice_get groups place ≡ Some group
    pub of_table : group.table ≡ table
    pub within : ℕ
    pub asked : Requested A
    pub in_group : slice_get group.changes within ≡ Some asked
    pub of_key : key_values group.schema (key_record_of asked.patch) ≡ key

  -- no change of the blob names the row
  abbrev pub IsUnnamed : Contents A → List ℕ → Fields A → Type 0
  IsUnnamed blob table key = Names (requested_of blob) table key → ⊥

  -- the row under the key is as before
  abbrev pub SameRow : List ℕ → Fields A → ApplierState A → ApplierState A → Type 0
  SameRow name key before after =
      row_at after.progress.applied.database name key ≡ row_at before.progress.applied.database name key
