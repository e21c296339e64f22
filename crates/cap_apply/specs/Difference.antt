-- The differences of a table's rows that a capture records.
use Rattle.std.specs.Prelude.{◌≡◌, ℕ, ◌+◌, Bool, Option, Some, None, Ok, List, [], ◌∷◌, length, map}
use Rattle.cap_row.specs.Fields.{Fields}
use Rattle.cap_row.specs.Key.{fields_cmp, key_of}
use Rattle.cap_tree.specs.Tree.{IsOrdered, get}
use Rattle.cap_table.specs.Table.{TableState}
use Rattle.cap_database.specs.Tables.{Tables, table_of}
use Rattle.cap_changes.specs.Change.{change_of}
use Rattle.cap_changes.specs.Invert.{inverse_of}
use Rattle.cap_changes.specs.Patch.{patch_of}
use Rattle.cap_changes.specs.declared.row_change.RowChange.{RowChange}
use Rattle.cap_apply.specs.Applied.{AppliedState}
use Rattle.cap_apply.specs.Apply.{changes_applied}
use Rattle.cap_apply.specs.Requested.{Requested, requested_by_change, requested_by_patch}
use Rattle.cap_apply.specs.declared.policy.Policy.{Policy}

-- a key, the row before, the row now, and the change between them
pub record Difference (A : Type 0) : Type 0 where
  pub key : Fields A
  pub before : Option (Fields A)
  pub after : Option (Fields A)
  pub change : RowChange A

module _ {A : Type 0} where
  -- a row of a table with these columns that has the key, or none
  abbrev pub IsUnder : List Bool → Fields A → Option (Fields A) → Type 0
  IsUnder flags key None = Unit {0}
  IsUnder flags key (Some row) = (length row ≡ length flags) × (key_of flags row ≡ Some key)

  -- the change is the one that a capture has for these rows, direct or indirect
  pub record IsDifference (flags : List Bool) (d : Difference A) : Type 0 where
    pub before : IsUnder flags d.key d.before
    pub after : IsUnder flags d.key d.after
    pub change : (indirect : Bool) × (change_of flags indirect d.before d.after ≡ Some d.change)

  -- no difference is under the key
  abbrev pub AreApart : Fields A → List (Difference A) → Type 0
  AreApart key [] = Unit {0}
  AreApart key (d ∷ ds) = (key ≡ d.key → ⊥) × AreApart key ds

  -- no key comes twice, and the table has the row before at each
  abbrev pub HoldBefore : List Bool → TableState A → List (Difference A) → Type 0
  HoldBefore flags table [] = Unit {0}
  HoldBefore flags table (d ∷ ds) =
      IsDifference flags d × (get fields_cmp table.keyed d.key ≡ d.before) × AreApart d.key ds
      × HoldBefore flags table ds

  -- a database has the table of the name with the rows before
  pub record RowsBefore (name : List ℕ) (table : TableState A) (ds : List (Difference A))
      (database : Tables A) : Type 0 where
    pub there : table_of database name ≡ Some table
    pub rows : HoldBefore table.schema table ds
    pub ordered : IsOrdered fields_cmp table.keyed

  -- the table has the row now at each key
  abbrev pub HoldAfter : TableState A → List (Difference A) → Type 0
  HoldAfter table [] = Unit {0}
  HoldAfter table (d ∷ ds) = (get fields_cmp table.keyed d.key ≡ d.after) × HoldAfter table ds

  -- a database has the table of the name with the rows now; all else of the table is unchanged
  pub record RowsAfter (name : List ℕ) (table : TableState A) (ds : List (Difference A))
      (database : Tables A) : Type 0 where
    pub found : TableState A
    pub there : table_of database name ≡ Some found
    pub rows : HoldAfter found ds
    pub other_rows : (key : Fields A) → AreApart key ds
        → get fields_cmp found.keyed key ≡ get fields_cmp table.keyed key
    pub loose : found.loose ≡ table.loose
    pub columns : found.schema ≡ table.schema
    pub next_id : found.next_id ≡ table.next_id
    pub ordered : IsOrdered fields_cmp found.keyed

  -- the tables of other names are unchanged
  abbrev pub OtherTables : List ℕ → Tables A → Tables A → Type 0
  OtherTables name start left =
      (other : List ℕ) → (other ≡ name → ⊥) → table_of left other ≡ table_of start other

  -- each change counts as applied, without a conflict, and nothing is omitted or skipped
  abbrev pub AllApplied : List (Difference A) → AppliedState A → AppliedState A → Type 0
  AllApplied ds state left = left.report ≡ record state.report { applied = state.report.applied + length ds }

  -- the rows before and now swapped, with the inverse change
  abbrev pub turned : List Bool → Difference A → Difference A
  turned flags d =
      record { key = d.key; before = d.after; after = d.before; change = inverse_of flags d.change }

  -- the changes that a changeset requests, and its patchset, and its inverse
  abbrev pub requested_by_changes : List Bool → List (Difference A) → List (Requested A)
  requested_by_changes flags ds = map (λ d. requested_by_change flags d.change) ds

  abbrev pub requested_by_patches : List Bool → List (Difference A) → List (Requested A)
  requested_by_patches flags ds = map (λ d. requested_by_patch flags (patch_of flags d.change)) ds

  abbrev pub requested_by_inverses : List Bool → List (Difference A) → List (Requested A)
  requested_by_inverses flags ds = map (λ d. requested_by_change flags (inverse_of flags d.change)) ds

  -- these changes of the table give the rows now
  abbrev pub GivesRowsNow : Policy → ℕ → List ℕ → TableState A → List (Difference A) → List (Requested A) →
      AppliedState A → Type 0
  GivesRowsNow policy number name table ds requested state =
      (left : AppliedState A) × (changes_applied policy number name table.schema requested state ≡ Ok left)
      × RowsAfter name table ds left.database × OtherTables name state.database left.database
      × AllApplied ds state left
