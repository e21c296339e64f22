-- The bytes of a changeset (The Session Extension, "Changeset Format").
use Rattle.std.specs.Prelude.{ℕ, ◌+◌, min, Bool, false, List, [], ◌∷◌, ◌++◌, length, map, take, get_or}
use Rattle.std.specs.Prelude.{if◌then◌else◌}
use Rattle.std.specs.List.{flat_map, count_by, range_with_len}
use Rattle.cap_changes.specs.ChangeBytes.{flag_byte, change_bytes}
use Rattle.cap_changes.specs.Entries.{TableEntries}
use Rattle.cap_changes.specs.Group.{TableChanges}
use Rattle.cap_codec.specs.declared.key_flags.KeyFlags.{KeyFlags}
use Rattle.cap_codec.specs.declared.key_flags.KeyFlags.TheVariants.{Ones, Places}
use Rattle.cap_field.specs.Varint.{varint_bytes}
use Rattle.cap_changes.specs.KindByte.{changeset_kind}

-- the position of a key column within the key in one byte: 1 for the first, 255 for each from the 255th on; 0
-- for a column outside the key
abbrev pub key_place : List Bool → ℕ → ℕ
key_place schema i =
    if get_or schema i false then min (count_by (λ key. key) (take (i + 1) schema)) 255 else 0

-- the key flags, one byte for each column
abbrev pub flags_bytes : KeyFlags → List Bool → List ℕ
flags_bytes Ones schema = map flag_byte schema
flags_bytes Places schema = map (key_place schema) (range_with_len 0 (length schema))

-- the kind, how many columns there are, a key flag for each, and the table's name with a zero byte behind it
abbrev pub header_bytes : KeyFlags → ℕ → List ℕ → List Bool → List ℕ
header_bytes key_flags kind table schema =
    kind ∷ (varint_bytes (length schema) ++ flags_bytes key_flags schema ++ table ++ 0 ∷ [])

-- the bytes of changes behind a header; without changes there is no header either
abbrev pub changes_under : {X : Type 0} → (X → List ℕ) → List ℕ → List X → List ℕ
changes_under bytes header [] = []
changes_under bytes header (first ∷ others) = header ++ flat_map bytes (first ∷ others)

-- a group of this kind, whose changes have these bytes
abbrev pub entries_bytes : {X : Type 0} → KeyFlags → ℕ → (X → List ℕ) → TableEntries X → List ℕ
entries_bytes key_flags kind bytes group =
    changes_under bytes (header_bytes key_flags kind group.table group.schema) group.changes

module _ {A : Type 0} where
  -- the groups in the list's order
  abbrev pub list_bytes_with : KeyFlags → List (TableChanges A) → List ℕ
  list_bytes_with key_flags groups = flat_map (entries_bytes key_flags changeset_kind change_bytes) groups

  -- with the key flags of the documentation
  abbrev pub list_bytes : List (TableChanges A) → List ℕ
  list_bytes groups = list_bytes_with Ones groups
