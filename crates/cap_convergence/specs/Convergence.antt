-- A hub and a client with changesets of their own, and the hub's changesets applied to the client (The
-- Session Extension, "Rebasing changesets").
use Rattle.std.specs.Prelude.{◌≡◌, ◌≤◌, ℕ, Bool, List, [], ◌∷◌, Option, Some, Ok, length}
use Rattle.cap_row.specs.Fields.{Fields}
use Rattle.cap_changes.specs.Group.{TableChanges}
use Rattle.cap_codec.specs.declared.read.Contents.TheVariants.{Changes}
use Rattle.cap_database.specs.Read.{row_at}
use Rattle.cap_database.specs.Tables.{Tables, schema_of}
use Rattle.cap_apply.specs.Applied.{AppliedState}
use Rattle.cap_apply.specs.Apply.{apply}
use Rattle.cap_apply_laws.specs.Counted.{change_count}
use Rattle.cap_apply.specs.Fitting.{FitsItsColumns}
use Rattle.cap_apply.specs.declared.policy.Policy.{Policy}
use Rattle.cap_captures.specs.Rows.{AreInARow, row_changes}
use Rattle.cap_rebase.specs.Buffer.{buffer_of}
use Rattle.cap_rebase.specs.Rebaser.{Buffers}

-- the columns of tables by name, and rows by table and key
abbrev pub Columns : Type 0
Columns = List ℕ → Option (List Bool)

abbrev pub Rows : Type 0 → Type 0
Rows A = List ℕ → Fields A → Option (Fields A)

-- a changeset of the hub, and the policy under which a client applies it
pub record RemoteChangeset (A : Type 0) : Type 0 where
  pub changes : List (TableChanges A)
  pub policy : Policy

module _ {A : Type 0} where
  -- the database has each of these tables, with these columns
  abbrev pub HasTables : Columns → Tables A → Type 0
  HasTables columns database =
      (name : List ℕ) (flags : List Bool) → columns name ≡ Some flags
      → schema_of database name ≡ Some flags

  -- the same rows in each of these tables
  abbrev pub HaveSameRows : Columns → Rows A → Rows A → Type 0
  HaveSameRows columns a b =
      (name : List ℕ) (flags : List Bool) (key : Fields A) → columns name ≡ Some flags
      → a name key ≡ b name key

  -- A changeset leads from rows to rows of these tables: each of its changes fits its table, and the changes
  -- of each row lead from what it is before to what it is after, each being the one that a capture has.
  pub record LeadsFrom (columns : Columns) (before after : Rows A) (changeset : List (TableChanges A))
      : Type 0 where
    pub fits : FitsItsColumns (Changes changeset)
    pub rows : AreInARow columns before after (changeset ∷ [])

  -- at most one change of each row
  abbrev pub HasOneChangeEach : List (TableChanges A) → Type 0
  HasOneChangeEach changeset =
      (name : List ℕ) (key : Fields A) → length (row_changes name key changeset) ≤ 1

  -- Changesets of a hub lead from its rows at first to those at last, each from the rows to which the one
  -- before it leads. A client applies them in this order, each with success, and has a buffer of each.
  abbrev pub AreAppliedInTurn : Columns → Rows A → Tables A → List (RemoteChangeset A) → Buffers A →
      Rows A → Tables A → Type 0
  AreAppliedInTurn columns hub client [] [] last_hub last_client =
      HaveSameRows columns hub last_hub × (client ≡ last_client)
  AreAppliedInTurn columns hub client [] (buffer ∷ buffers) last_hub last_client = ⊥
  AreAppliedInTurn columns hub client (remote ∷ remotes) [] last_hub last_client = ⊥
  AreAppliedInTurn columns hub client (remote ∷ remotes) (buffer ∷ buffers) last_hub last_client =
      (before next : Rows A) × HaveSameRows columns hub before
      × LeadsFrom columns before next remote.changes
      × ((left : AppliedState A)
      × (apply client (Changes remote.changes) remote.policy ≡ Ok left)
      × (buffer ≡ buffer_of remote.changes left.report.conflicts)
      × AreAppliedInTurn columns next left.database remotes buffers last_hub last_client)

  -- Applied to the database under the policy, the changeset meets no conflict, each of its changes is made,
  -- no group is skipped, and these rows are left.
  abbrev pub IsAppliedWhole : Columns → Rows A → Tables A → List (TableChanges A) → Policy → Type 0
  IsAppliedWhole columns rows database changes policy =
      (left : AppliedState A) × (apply database (Changes changes) policy ≡ Ok left)
      × (left.report ≡ record {
        applied = change_count {A = A} (Changes changes);
        conflicts = [];
        omitted = [];
        skipped = [];
      })
      × HaveSameRows columns (row_at left.database) rows
