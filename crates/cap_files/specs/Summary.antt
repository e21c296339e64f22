-- How many changes a blob has, table by table.
use Rattle.std.specs.Prelude.{ℕ, ◌+◌, Bool, true, false, List, [], ◌∷◌, ◌++◌, codes, decimal, if◌then◌else◌}
use Rattle.std.specs.List.{flat_map}
use Rattle.cap_changes.specs.Entries.{TableEntries}
use Rattle.cap_changes.specs.declared.patch.Patch.{Patch}
use Rattle.cap_changes.specs.declared.patch.Patch.TheVariants as patched
use Rattle.cap_changes.specs.declared.row_change.RowChange.{RowChange}
use Rattle.cap_changes.specs.declared.row_change.RowChange.TheVariants as changed
use Rattle.cap_codec.specs.declared.read.Contents.{Contents}
use Rattle.cap_codec.specs.declared.read.Contents.TheVariants.{Changes, Patches}
use Rattle.cap_files.specs.declared.counts.Counted.{Counted}
use Rattle.cap_files.specs.declared.counts.Counted.TheVariants.{Deletes, Indirect, Inserts, Updates}

module _ {A : Type 0} where
  -- whether a change of a changeset is counted
  abbrev pub is_change : Counted → RowChange A → Bool
  is_change Inserts (changed.Insert indirect new) = true
  is_change Updates (changed.Update indirect old new) = true
  is_change Deletes (changed.Delete indirect old) = true
  is_change Indirect (changed.Insert indirect new) = indirect
  is_change Indirect (changed.Update indirect old new) = indirect
  is_change Indirect (changed.Delete indirect old) = indirect
  is_change counted change = false

  -- whether a change of a patchset is counted
  abbrev pub is_patch : Counted → Patch A → Bool
  is_patch Inserts (patched.Insert indirect new) = true
  is_patch Updates (patched.Update indirect new) = true
  is_patch Deletes (patched.Delete indirect key) = true
  is_patch Indirect (patched.Insert indirect new) = indirect
  is_patch Indirect (patched.Update indirect new) = indirect
  is_patch Indirect (patched.Delete indirect key) = indirect
  is_patch counted patch = false

module _ {X : Type 0} (is : Counted → X → Bool) where
  -- how many are counted
  abbrev pub count : Counted → List X → ℕ
  count counted [] = 0
  count counted (x ∷ xs) = if is counted x then 1 + count counted xs else count counted xs

  -- the line of a table
  unfoldable pub table_line : TableEntries X → List ℕ
  table_line group =
      group.table ++ (codes ": inserts " ++ (decimal (count Inserts group.changes)
      ++ (codes ", updates " ++ (decimal (count Updates group.changes)
      ++ (codes ", deletes " ++ (decimal (count Deletes group.changes)
      ++ (codes ", indirect " ++ (decimal (count Indirect group.changes) ++ 10 ∷ []))))))))

  abbrev pub table_lines : List (TableEntries X) → List ℕ
  table_lines groups = flat_map table_line groups

-- a line for each table
abbrev pub summary : {A : Type 0} → Contents A → List ℕ
summary (Changes changes) = table_lines is_change changes
summary (Patches patches) = table_lines is_patch patches
