-- The changes that a blob requests: a changeset requests those of its patchset, of rows that have its old
-- values.
use Rattle.std.specs.Prelude.{Bool, List, [], map, if◌then◌else◌}
use Rattle.cap_changes.specs.ChangeRef.{change_of}
use Rattle.cap_changes.specs.Entries.{TableEntries}
use Rattle.cap_changes.specs.Patch.{patch_of}
use Rattle.cap_changes.specs.FieldRecord.{RecordFields}
use Rattle.cap_changes.specs.declared.row_change.RowChange.{RowChange}
use Rattle.cap_changes.specs.declared.row_change.RowChange.TheVariants.{Insert, Update, Delete}
use Rattle.cap_changes.specs.declared.patch.Patch.{Patch}
use Rattle.cap_changes.specs.declared.patch.Patch.TheVariants as patched
use Rattle.cap_codec.specs.declared.read.Contents.{Contents}
use Rattle.cap_codec.specs.declared.read.Contents.TheVariants.{Changes, Patches}
use Rattle.cap_apply.specs.declared.requested_ref.RequestedRef.{RequestedRef}

-- the change as a patch, and the old fields, as far as they are known
pub record Requested (A : Type 0) : Type 0 where
  pub old : RecordFields A
  pub patch : Patch A

module _ {A : Type 0} where
  abbrev pub old_record : RowChange A → RecordFields A
  old_record (Insert indirect new) = []
  old_record (Update indirect old new) = old
  old_record (Delete indirect old) = old

  -- the record that has the key
  abbrev pub key_record : RowChange A → RecordFields A
  key_record (Insert indirect new) = new
  key_record (Update indirect old new) = old
  key_record (Delete indirect old) = old

  abbrev pub requested_by_change : List Bool → RowChange A → Requested A
  requested_by_change flags change = record { old = old_record change; patch = patch_of flags change }

  -- a patchset has no fields of the old row
  abbrev pub requested_by_patch : List Bool → Patch A → Requested A
  requested_by_patch flags patch = record { old = []; patch = patch }

  -- a patch as a change, whose old record has the key
  abbrev pub as_change : Patch A → RowChange A
  as_change (patched.Insert indirect new) = Insert indirect new
  as_change (patched.Update indirect new) = Update indirect new new
  as_change (patched.Delete indirect key) = Delete indirect key

  -- that of references
  abbrev pub requested_by : List Bool → RequestedRef A → Requested A
  requested_by flags r = record {
    old = if r.has_old then old_record (change_of r.change) else [];
    patch = patch_of flags (change_of r.change);
  }

  abbrev pub requested_in : {X : Type 0} → (List Bool → X → Requested A) → TableEntries X →
      TableEntries (Requested A)
  requested_in requested group = record {
    table = group.table;
    schema = group.schema;
    changes = map (requested group.schema) group.changes;
  }

  -- group by group, and in each change by change
  abbrev pub requested_of : Contents A → List (TableEntries (Requested A))
  requested_of (Changes list) = map (requested_in requested_by_change) list
  requested_of (Patches list) = map (requested_in requested_by_patch) list
