-- Changesets and patchsets as text: a line for the blob, for each group and for each change.
use Rattle.std.specs.Prelude.{ℕ, Bool, List, [], ◌∷◌, ◌++◌, ◌==◌, Option, Some, None, codes, if◌then◌else◌}
use Rattle.std.specs.Fmt.{signed_decimal}
use Rattle.std.specs.List.{filter_map, flat_map, join_by}
use Rattle.hex.specs.Hex.{encode_lower}
use Rattle.cap_value.specs.declared.value.Value.{Value}
use Rattle.cap_value.specs.declared.value.Value.TheVariants.{Null, Int, Text, Blob}
use Rattle.cap_changes.specs.Entries.{TableEntries}
use Rattle.cap_changes.specs.FieldRecord.{RecordFields}
use Rattle.cap_changes.specs.declared.row_change.RowChange.{RowChange}
use Rattle.cap_changes.specs.declared.row_change.RowChange.TheVariants as changed
use Rattle.cap_changes.specs.declared.patch.Patch.{Patch}
use Rattle.cap_changes.specs.declared.patch.Patch.TheVariants as patched

-- the text with each of these quotes in it doubled
abbrev pub doubled : ℕ → List ℕ → List ℕ
doubled quote [] = []
doubled quote (byte ∷ rest) =
    if byte == quote then quote ∷ quote ∷ doubled quote rest else byte ∷ doubled quote rest

-- between two quotes
abbrev pub quoted : ℕ → List ℕ → List ℕ
quoted quote text = quote ∷ (doubled quote text ++ quote ∷ [])

-- hex digits between quotes, after an `x`
abbrev pub blob_text : List ℕ → List ℕ
blob_text bytes = codes "x'" ++ (encode_lower bytes ++ codes "'")

-- `k` for a column of the primary key, `v` for each other
abbrev pub column_text : Bool → List ℕ
column_text is_key = if is_key then codes "k" else codes "v"

-- the indirect flag of a change
abbrev pub flag_text : Bool → List ℕ
flag_text indirect = if indirect then codes "indirect" else codes "direct"

module _ {A : Type 0} where
  abbrev pub value_text : Value A → List ℕ
  value_text Null = codes "null"
  value_text (Int number) = signed_decimal number
  value_text (Text text) = quoted 39 text
  value_text (Blob bytes) = blob_text bytes

  -- a field is a value or undefined
  abbrev pub field_text : Option (Value A) → List ℕ
  field_text (Some value) = value_text value
  field_text None = codes "-"

  -- the fields of a record, with commas between them
  abbrev pub record_text : RecordFields A → List ℕ
  record_text fields = codes "(" ++ (join_by field_text (codes ",") fields ++ codes ")")

  -- its defined fields alone
  abbrev pub defined_text : RecordFields A → List ℕ
  defined_text fields =
      codes "(" ++ (join_by value_text (codes ",") (filter_map (λ field. field) fields) ++ codes ")")

  -- the line of a change of a changeset
  abbrev pub change_text : RowChange A → List ℕ
  change_text (changed.Insert indirect new) =
      codes "insert " ++ (flag_text indirect ++ (codes " " ++ (record_text new ++ 10 ∷ [])))
  change_text (changed.Update indirect old new) =
      codes "update " ++ (flag_text indirect ++ (codes " old " ++ (record_text old
      ++ (codes " new " ++ (record_text new ++ 10 ∷ [])))))
  change_text (changed.Delete indirect old) =
      codes "delete " ++ (flag_text indirect ++ (codes " " ++ (record_text old ++ 10 ∷ [])))

  -- the line of a change of a patchset
  abbrev pub patch_text : Patch A → List ℕ
  patch_text (patched.Insert indirect new) =
      codes "insert " ++ (flag_text indirect ++ (codes " " ++ (record_text new ++ 10 ∷ [])))
  patch_text (patched.Update indirect new) =
      codes "update " ++ (flag_text indirect ++ (codes " " ++ (record_text new ++ 10 ∷ [])))
  patch_text (patched.Delete indirect key) =
      codes "delete " ++ (flag_text indirect ++ (codes " " ++ (defined_text key ++ 10 ∷ [])))

-- the line of a group: its table and its columns
abbrev pub head_text : List ℕ → List Bool → List ℕ
head_text table schema =
    codes "group " ++ (table ++ (codes " " ++ (flat_map column_text schema ++ 10 ∷ [])))

module _ {X : Type 0} (one : X → List ℕ) where
  -- a line with the table and its columns, and a line for each change
  abbrev pub group_text : TableEntries X → List ℕ
  group_text group = head_text group.table group.schema ++ flat_map one group.changes

  -- a line that says what it is, and its groups
  abbrev pub list_text : List ℕ → List (TableEntries X) → List ℕ
  list_text kind [] = codes "empty" ++ 10 ∷ []
  list_text kind (group ∷ groups) = kind ++ (10 ∷ flat_map group_text (group ∷ groups))

abbrev pub changeset_text : {A : Type 0} → List (TableEntries (RowChange A)) → List ℕ
changeset_text groups = list_text change_text (codes "changeset") groups

abbrev pub patchset_text : {A : Type 0} → List (TableEntries (Patch A)) → List ℕ
patchset_text groups = list_text patch_text (codes "patchset") groups
