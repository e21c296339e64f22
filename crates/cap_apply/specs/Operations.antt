-- The operations that a change stands for.
use Rattle.std.specs.Prelude.{◌≡◌, ℕ, ◌+◌, ◌⊎◌, Bool, Option, Some, None, Ok, List, [], ◌∷◌, ◌++◌, length}
use Rattle.std.specs.Prelude.{map, if◌then◌else◌}
use Rattle.std.specs.List.{zip}
use Rattle.cap_row.specs.Fields.{Fields}
use Rattle.cap_row.specs.Key.{fields_cmp}
use Rattle.cap_tree.specs.Tree.{get}
use Rattle.cap_table.specs.Table.{TableState}
use Rattle.cap_table.specs.declared.row_ref.RowRef.TheVariants.{Key}
use Rattle.cap_database.specs.Operation.{run}
use Rattle.cap_database.specs.declared.cause.Cause.TheVariants.{Direct}
use Rattle.cap_database.specs.declared.change.Change.{Change}
use Rattle.cap_database.specs.declared.op.Action.{Action}
use Rattle.cap_database.specs.declared.op.Action.TheVariants.{Insert, Update, Delete}
use Rattle.cap_database.specs.declared.op.Op.{Op}
use Rattle.cap_changes.specs.FieldRecord.{RecordFields}
use Rattle.cap_changes.specs.declared.row_change.RowChange.{RowChange}
use Rattle.cap_changes.specs.declared.row_change.RowChange.TheVariants as changed
use Rattle.cap_changes.specs.declared.patch.Patch.{Patch}
use Rattle.cap_changes.specs.declared.patch.Patch.TheVariants as patched
use Rattle.cap_apply.specs.Applied.{AppliedState}
use Rattle.cap_apply.specs.Row.{assigned_from, key_values, new_row}
use Rattle.cap_apply.specs.declared.conflict.ConflictKind.{ConflictKind}
use Rattle.cap_apply.specs.declared.policy.Answer.TheVariants.{Omit}

module _ {A : Type 0} where
  -- a direct operation on the table of the name
  abbrev pub directly : List ℕ → Action A → Op A
  directly name action = record { table = name; cause = Direct; action = action }

  -- a row is inserted; a row that has its key is deleted first
  abbrev pub inserts : List ℕ → Fields A → Fields A → Option (Fields A) → List (Op A)
  inserts name key row None = directly name (Insert row) ∷ []
  inserts name key row (Some taken) = directly name (Delete (Key key)) ∷ directly name (Insert row) ∷ []

  -- the row of a new record
  abbrev pub inserts_record : List ℕ → List Bool → TableState A → RecordFields A → List (Op A)
  inserts_record name flags table new =
      inserts name (key_values flags new) (new_row (length table.schema) new)
      (get fields_cmp table.keyed (key_values flags new))

  -- the defined fields are set in the row of the key
  abbrev pub updates : List ℕ → Fields A → RecordFields A → List (Op A)
  updates name key fields = directly name (Update (Key key) (assigned_from 0 fields)) ∷ []

  -- the row of the key is deleted
  abbrev pub deletes : List ℕ → Fields A → List (Op A)
  deletes name key = directly name (Delete (Key key)) ∷ []

  -- a change of a changeset: the key of an UPDATE is in its old record
  abbrev pub operations_of_change : List ℕ → List Bool → TableState A → RowChange A → List (Op A)
  operations_of_change name flags table (changed.Insert indirect new) = inserts_record name flags table new
  operations_of_change name flags table (changed.Update indirect old new) =
      updates name (key_values flags old) new
  operations_of_change name flags table (changed.Delete indirect old) = deletes name (key_values flags old)

  -- the fields outside the key
  abbrev pub other_fields : List Bool → RecordFields A → RecordFields A
  other_fields flags fields = map (λ column. if column.0 then None else column.1) (zip flags fields)

  -- a change of a patchset: the key of an UPDATE and its new fields are in one record
  abbrev pub operations_of_patch : List ℕ → List Bool → TableState A → Patch A → List (Op A)
  operations_of_patch name flags table (patched.Insert indirect new) = inserts_record name flags table new
  operations_of_patch name flags table (patched.Update indirect new) =
      updates name (key_values flags new) (other_fields flags new)
  operations_of_patch name flags table (patched.Delete indirect key) = deletes name (key_values flags key)

  -- each operation is accepted, and they leave this database and add their changes
  abbrev pub AreRun : List (Op A) → AppliedState A → AppliedState A → Type 0
  AreRun ops before after =
      (made : List (Change A))
      × (run before.database ops ≡ Ok (record { database = after.database; changes = made }))
      × (after.changes ≡ before.changes ++ made)

  -- the change counts as applied, and its operations are run
  pub record IsMadeBy (ops : List (Op A)) (before after : AppliedState A) : Type 0 where
    pub applied : after.report.applied ≡ before.report.applied + 1
    pub omitted : after.report.omitted ≡ before.report.omitted
    pub ran : AreRun ops before after

  -- a conflict is answered with Omit: the change is omitted, and nothing is done
  pub record IsOmitted (number : ℕ) (before after : AppliedState A) : Type 0 where
    pub kind : ConflictKind
    pub conflict : after.report.conflicts
        ≡ before.report.conflicts ++ record { change = number; kind = kind; answer = Omit } ∷ []
    pub omitted : after.report.omitted ≡ before.report.omitted ++ number ∷ []
    pub applied : after.report.applied ≡ before.report.applied
    pub database : after.database ≡ before.database
    pub changes : after.changes ≡ before.changes

  -- one or the other
  abbrev pub IsMadeOrOmitted : ℕ → List (Op A) → AppliedState A → AppliedState A → Type 0
  IsMadeOrOmitted number ops before after = IsMadeBy ops before after ⊎ IsOmitted number before after
