-- A capture of several tables, applied as a blob.
use Rattle.std.specs.Prelude.{◌≡◌, ℕ, ◌+◌, List, [], ◌∷◌, Ok, IsTrue, length, map}
use Rattle.cap_table.specs.Table.{TableState}
use Rattle.cap_database.specs.Tables.{Tables, table_of}
use Rattle.cap_changes.specs.Group.{TableChanges}
use Rattle.cap_codec.specs.Writable.{has_some}
use Rattle.cap_codec.specs.declared.read.Contents.{Contents}
use Rattle.cap_apply.specs.Applied.{AppliedState}
use Rattle.cap_apply.specs.Apply.{apply}
use Rattle.cap_apply.specs.Difference.{Difference, RowsAfter, RowsBefore}
use Rattle.cap_apply.specs.declared.policy.Policy.{Policy}

-- a table's name, the table before, and its differences now
pub record TableRows (A : Type 0) : Type 0 where
  pub name : List ℕ
  pub table : TableState A
  pub differences : List (Difference A)

module _ {A : Type 0} where
  -- the changes of one table in the changeset
  abbrev pub changes_of : TableRows A → TableChanges A
  changes_of t = record {
    table = t.name;
    schema = t.table.schema;
    changes = map (λ (d : Difference A). d.change) t.differences;
  }

  -- no table has the name
  abbrev pub AreOthers : List ℕ → List (TableRows A) → Type 0
  AreOthers name [] = Unit {0}
  AreOthers name (t ∷ ts) = (name ≡ t.name → ⊥) × AreOthers name ts

  -- no name comes twice, and a database has each table with the rows before
  abbrev pub AllBefore : List (TableRows A) → Tables A → Type 0
  AllBefore [] database = Unit {0}
  AllBefore (t ∷ ts) database =
      RowsBefore t.name t.table t.differences database × AreOthers t.name ts × AllBefore ts database

  -- each table has a difference
  abbrev pub AllDiffer : List (TableRows A) → Type 0
  AllDiffer [] = Unit {0}
  AllDiffer (t ∷ ts) = IsTrue (has_some t.differences) × AllDiffer ts

  -- a database has each table with the rows now
  abbrev pub AllAfter : List (TableRows A) → Tables A → Type 0
  AllAfter [] database = Unit {0}
  AllAfter (t ∷ ts) database = RowsAfter t.name t.table t.differences database × AllAfter ts database

  -- the number of changes
  abbrev pub total : List (TableRows A) → ℕ
  total [] = 0
  total (t ∷ ts) = length t.differences + total ts

  -- the blob gives the rows now, leaves all other tables, and counts each change as applied, with no conflict
  -- and nothing omitted or skipped
  abbrev pub GivesAllRowsNow : Policy → List (TableRows A) → Contents A → Tables A → Type 0
  GivesAllRowsNow policy ts blob database =
      (left : AppliedState A) × (apply database blob policy ≡ Ok left) × AllAfter ts left.database
      × ((other : List ℕ) → AreOthers other ts → table_of left.database other ≡ table_of database other)
      × (left.report ≡ record { applied = total ts; conflicts = []; omitted = []; skipped = [] })
