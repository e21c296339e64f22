-- What becomes of two changes of one row, the present one and one that is added (The Session Extension,
-- "sqlite3changegroup_add"). What they make together is indirect only where both are.
use Rattle.std.specs.Prelude.{◌≡◌, Bool, List, Option, Some, None, IfSome, IsTrue, ◌&&◌}
use Rattle.cap_row.specs.Fields.{Fields}
use Rattle.cap_changes.specs.declared.row_change.RowChange.{RowChange}
use Rattle.cap_changes.specs.declared.row_change.RowChange.TheVariants as changed
use Rattle.cap_changes.specs.declared.patch.Patch.{Patch}
use Rattle.cap_changes.specs.declared.patch.Patch.TheVariants as patched
use Rattle.cap_group.specs.Record.{record_over, update_between}

module _ {A : Type 0} where
  -- The old values of the present change come first, the new values of the added one last.
  abbrev pub combined : List Bool → RowChange A → RowChange A → Option (RowChange A)
  combined flags (changed.Insert indirect new) (changed.Insert indirect' new') =
      Some (changed.Insert indirect new)
  combined flags (changed.Insert indirect new) (changed.Update indirect' old' new') =
      Some (changed.Insert (indirect && indirect') (record_over new new'))
  combined flags (changed.Insert indirect new) (changed.Delete indirect' old') = None
  combined flags (changed.Update indirect old new) (changed.Insert indirect' new') =
      Some (changed.Update indirect old new)
  combined flags (changed.Update indirect old new) (changed.Update indirect' old' new') =
      update_between flags (indirect && indirect') (record_over old' old) (record_over new new')
  combined flags (changed.Update indirect old new) (changed.Delete indirect' old') =
      Some (changed.Delete (indirect && indirect') (record_over old' old))
  combined flags (changed.Delete indirect old) (changed.Insert indirect' new') =
      update_between flags (indirect && indirect') old new'
  combined flags (changed.Delete indirect old) (changed.Update indirect' old' new') =
      Some (changed.Delete indirect old)
  combined flags (changed.Delete indirect old) (changed.Delete indirect' old') =
      Some (changed.Delete indirect old)

  -- The same of a patchset, which has no old values: no field is seen not to differ.
  abbrev pub patches_combined : Patch A → Patch A → Option (Patch A)
  patches_combined (patched.Insert indirect new) (patched.Insert indirect' new') =
      Some (patched.Insert indirect new)
  patches_combined (patched.Insert indirect new) (patched.Update indirect' new') =
      Some (patched.Insert (indirect && indirect') (record_over new new'))
  patches_combined (patched.Insert indirect new) (patched.Delete indirect' key') = None
  patches_combined (patched.Update indirect new) (patched.Insert indirect' new') =
      Some (patched.Update indirect new)
  patches_combined (patched.Update indirect new) (patched.Update indirect' new') =
      Some (patched.Update (indirect && indirect') (record_over new new'))
  patches_combined (patched.Update indirect new) (patched.Delete indirect' key') =
      Some (patched.Delete (indirect && indirect') key')
  patches_combined (patched.Delete indirect key) (patched.Insert indirect' new') =
      Some (patched.Update (indirect && indirect') new')
  patches_combined (patched.Delete indirect key) (patched.Update indirect' new') =
      Some (patched.Delete indirect key)
  patches_combined (patched.Delete indirect key) (patched.Delete indirect' key') =
      Some (patched.Delete indirect key)

-- What two changes of one row become fits the table that both fit, is of that row, and has values where both
-- have.
pub record KeepsRow {A X : Type 0} (fits : List Bool → X → Bool) (key : List Bool → X → Fields A)
    (Values : X → Type 0) (flags : List Bool) (present added change : X) : Type 0 where
  pub fit : IsTrue (fits flags change)
  pub keyed : key flags added ≡ key flags present → key flags change ≡ key flags present
  pub values : Values present → Values added → Values change

abbrev pub KeepRows : {A X : Type 0} → (List Bool → X → Bool) → (List Bool → X → Fields A) → (X → Type 0) →
    (List Bool → X → X → Option X) → Type 0
KeepRows {X = X} fits key Values combine = (flags : List Bool) (present added : X) →
    IsTrue (fits flags present) → IsTrue (fits flags added) →
    IfSome (combine flags present added) (KeepsRow fits key Values flags present added)
