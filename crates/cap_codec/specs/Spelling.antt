-- The grammar of blobs (The Session Extension, "Changeset Format"): the written form, where any byte but zero
-- flags a key column, any byte but zero is a set indirect flag, and a group may be empty.
use Rattle.std.specs.Prelude.{◌≡◌, ℕ, Bool, List, [], ◌∷◌, ◌++◌, length, map}
use Rattle.cap_changes.specs.Spelling.{SpellsEach, SpellsChange, SpellsPatch}
use Rattle.cap_changes.specs.Group.{TableChanges}
use Rattle.cap_changes.specs.PatchGroup.{TablePatches}
use Rattle.cap_codec.specs.declared.read.Contents.{Contents}
use Rattle.cap_codec.specs.declared.read.Contents.TheVariants.{Changes, Patches}
use Rattle.cap_field.specs.Varint.{varint_bytes}
use Rattle.cap_changes.specs.ChangeReading.{is_set}
use Rattle.cap_changes.specs.KindByte.{changeset_kind, patchset_kind}
use Rattle.cap_codec.specs.Writable.{IsTable}

-- A group: its kind, how many columns there are, a byte for each that is not zero where the column is in the
-- key, the table's name with a zero byte behind it, and its changes.
pub record SpellsGroup {X : Type 0} (kind : ℕ) (table : List ℕ) (schema : List Bool)
    (one : X → List ℕ → Type 0) (changes : List X) (bytes : List ℕ) : Type 0 where
  pub named : IsTable table schema
  pub flags : List ℕ
  pub flagged : map is_set flags ≡ schema
  pub rest : List ℕ
  pub parts : bytes ≡ kind ∷ (varint_bytes (length schema) ++ flags ++ table ++ 0 ∷ rest)
  pub each : SpellsEach one changes rest

module _ {A : Type 0} where
  abbrev pub SpellsChanges : TableChanges A → List ℕ → Type 0
  SpellsChanges group bytes =
      SpellsGroup changeset_kind group.table group.schema (SpellsChange group.schema) group.changes bytes

  abbrev pub SpellsPatches : TablePatches A → List ℕ → Type 0
  SpellsPatches group bytes =
      SpellsGroup patchset_kind group.table group.schema (SpellsPatch group.schema) group.changes bytes

  -- All groups are of one kind. An empty blob is a changeset without groups.
  abbrev pub Spells : Contents A → List ℕ → Type 0
  Spells (Changes groups) bytes = SpellsEach SpellsChanges groups bytes
  Spells (Patches groups) bytes = SpellsEach SpellsPatches groups bytes × ((groups ≡ []) → ⊥)
