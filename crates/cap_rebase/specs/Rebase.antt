-- What becomes of a local change, made without knowing of a remote change of the same row that met a conflict
-- (The Session Extension, "Rebasing changesets"). The remote change is one of a buffer: its answer is in the
-- place of its indirect flag, set for REPLACE and not for OMIT.
use Rattle.std.specs.Prelude.{Bool, List, Option, Some, None, fold, map, is_some, ◌||◌, if◌then◌else◌}
use Rattle.std.specs.List.{list_any, zip}
use Rattle.std.specs.Option.{option_map}
use Rattle.cap_value.specs.declared.value.Value.{Value}
use Rattle.cap_changes.specs.Column.{by_column}
use Rattle.cap_changes.specs.FieldRecord.{RecordFields}
use Rattle.cap_changes.specs.Invert.{inverse_of}
use Rattle.cap_changes.specs.declared.row_change.RowChange.{RowChange}
use Rattle.cap_changes.specs.declared.row_change.RowChange.TheVariants.{Insert, Update, Delete}
use Rattle.cap_group.specs.Combined.{combined}
use Rattle.cap_group.specs.Rows.{is_indirect}
use Rattle.cap_rebase.specs.Flag.{flagged}

module _ {A : Type 0} where
  -- OMIT: the remote change is undone, and then the local one is made. The flag is that of the local one.
  abbrev pub over_omitted : List Bool → RowChange A → RowChange A → Option (RowChange A)
  over_omitted flags remote local =
      option_map (flagged (is_indirect local)) (combined flags (inverse_of flags remote) local)

  -- a new field that the remote change does not modify
  abbrev pub field_left : Option (Value A) → Option (Value A) → Option (Value A)
  field_left local None = local
  field_left local (Some remote) = None

  abbrev pub new_left : RecordFields A → RecordFields A → RecordFields A
  new_left local remote = map (λ fields. field_left fields.0 fields.1) (zip local remote)

  -- the key fields, and the old fields of the columns that are left
  abbrev pub old_left : Bool → Option (Value A) → Option (Value A) → Option (Value A)
  old_left key old new = if key || is_some new then old else None

  -- an UPDATE with these new fields, none where there is no field
  abbrev pub update_left : List Bool → Bool → RecordFields A → RecordFields A → Option (RowChange A)
  update_left flags indirect old new =
      if list_any is_some new then Some (Update indirect (by_column old_left flags old new) new) else None

  -- REPLACE: of two UPDATEs the local one keeps the columns that the remote one does not modify, if there are
  -- any. Of all others nothing is left.
  abbrev pub over_replaced : List Bool → RowChange A → RowChange A → Option (RowChange A)
  over_replaced flags (Insert indirect new) local = None
  over_replaced flags (Delete indirect old) local = None
  over_replaced flags (Update indirect old new) (Insert indirect' new') = None
  over_replaced flags (Update indirect old new) (Delete indirect' old') = None
  over_replaced flags (Update indirect old new) (Update indirect' old' new') =
      update_left flags indirect' old' (new_left new' new)

  -- by the answer
  abbrev pub rebased : List Bool → RowChange A → RowChange A → Option (RowChange A)
  rebased flags remote local =
      if is_indirect remote then over_replaced flags remote local else over_omitted flags remote local

  -- over one more remote change, if anything is left
  abbrev pub rebased_next : List Bool → Option (RowChange A) → RowChange A → Option (RowChange A)
  rebased_next flags None remote = None
  rebased_next flags (Some local) remote = rebased flags remote local

  -- over remote changes of its row, one after the other
  abbrev pub rebased_over : List Bool → Option (RowChange A) → List (RowChange A) → Option (RowChange A)
  rebased_over flags local remotes = fold (rebased_next flags) local remotes
