-- Changesets and patchsets as JSON (RFC 8259): an array with an object for each change.
use Rattle.std.specs.Prelude.{ℕ, ◌+◌, Bool, List, [], ◌∷◌, ◌++◌, Some, None, Result, OnOk, ◌≡◌}
use Rattle.std.specs.Prelude.{codes, decimal, if◌then◌else◌}
use Rattle.std.specs.Fmt.{signed_decimal}
use Rattle.std.specs.List.{flat_map}
use Rattle.hex.specs.Hex.{encode_lower}
use Rattle.json.specs.Print.{print}
use Rattle.json.specs.Token.{Token}
use Rattle.json.specs.Token as token
use Rattle.json.specs.Written.{Written}
use Rattle.cap_value.specs.declared.value.Value.{Value}
use Rattle.cap_value.specs.declared.value.Value.TheVariants.{Null, Int, Text, Blob}
use Rattle.cap_changes.specs.Entries.{TableEntries}
use Rattle.cap_changes.specs.FieldRecord.{RecordFields}
use Rattle.cap_changes.specs.declared.row_change.RowChange.{RowChange}
use Rattle.cap_changes.specs.declared.row_change.RowChange.TheVariants as changed
use Rattle.cap_changes.specs.declared.patch.Patch.{Patch}
use Rattle.cap_changes.specs.declared.patch.Patch.TheVariants as patched

-- `c` and the number of the column, from 0
abbrev pub column_name : ℕ → List ℕ
column_name column = codes "c" ++ decimal column

-- the names of the key columns, from this column on
abbrev pub key_names : ℕ → List Bool → List Token
key_names column [] = []
key_names column (flag ∷ flags) =
    if flag then token.string (column_name column) ∷ key_names (column + 1) flags
    else key_names (column + 1) flags

-- a member that is a string
unfoldable pub text_member : List ℕ → List ℕ → List Token
text_member name text = token.key name ∷ token.string text ∷ []

-- the indirect flag of a change
unfoldable pub indirect_member : Bool → List Token
indirect_member indirect = token.key (codes "indirect") ∷ token.boolean indirect ∷ []

-- the names of the key columns as a member of a change
unfoldable pub key_member : List Bool → List Token
key_member flags =
    token.key (codes "key") ∷ token.begin_array ∷ (key_names 0 flags ++ token.end_array ∷ [])

-- what each change begins with
unfoldable pub head : List ℕ → List Bool → List ℕ → Bool → List Token
head table flags op indirect =
    token.begin_object ∷ (text_member (codes "table") table ++ (text_member (codes "op") op
    ++ (indirect_member indirect ++ key_member flags)))

-- an object with the hex digits of a blob
abbrev pub blob : List ℕ → List Token
blob bytes = token.begin_object ∷ token.key (codes "blob") ∷ token.string (encode_lower bytes)
    ∷ token.end_object ∷ []

module _ {A : Type 0} where
  -- null, a number, a string, or a blob
  abbrev pub value : Value A → List Token
  value Null = token.null ∷ []
  value (Int n) = token.number (signed_decimal n) ∷ []
  value (Text text) = token.string text ∷ []
  value (Blob bytes) = blob bytes

  -- the defined fields of a record, each by the name of its column, from this column on
  abbrev pub fields : ℕ → RecordFields A → List Token
  fields column [] = []
  fields column (None ∷ others) = fields (column + 1) others
  fields column (Some v ∷ others) =
      token.key (column_name column) ∷ (value v ++ fields (column + 1) others)

  -- a record as a member of a change
  unfoldable pub member : List ℕ → RecordFields A → List Token
  member name the_record =
      token.key name ∷ token.begin_object ∷ (fields 0 the_record ++ token.end_object ∷ [])

  -- the last record of a change, and the end of its object
  unfoldable pub last : List ℕ → RecordFields A → List Token
  last name the_record = member name the_record ++ token.end_object ∷ []

  -- a change of a changeset to the table of this name and with these key flags
  abbrev pub change : List ℕ → List Bool → RowChange A → List Token
  change table flags (changed.Insert indirect new) =
      head table flags (codes "insert") indirect ++ last (codes "new") new
  change table flags (changed.Update indirect old new) =
      head table flags (codes "update") indirect ++ (member (codes "old") old ++ last (codes "new") new)
  change table flags (changed.Delete indirect old) =
      head table flags (codes "delete") indirect ++ last (codes "old") old

  -- a change of a patchset
  abbrev pub patch : List ℕ → List Bool → Patch A → List Token
  patch table flags (patched.Insert indirect new) =
      head table flags (codes "insert") indirect ++ last (codes "new") new
  patch table flags (patched.Update indirect new) =
      head table flags (codes "update") indirect ++ last (codes "new") new
  patch table flags (patched.Delete indirect key) =
      head table flags (codes "delete") indirect ++ last (codes "old") key

module _ {X : Type 0} (one : List ℕ → List Bool → X → List Token) where
  -- the changes of a table
  abbrev pub group : TableEntries X → List Token
  group entries = flat_map (one entries.table entries.schema) entries.changes

  -- the text of a list: an array of its changes, on a line
  abbrev pub list_text : List (TableEntries X) → List ℕ
  list_text groups =
      print (token.begin_array ∷ (flat_map group groups ++ token.end_array ∷ [])) ++ 10 ∷ []

-- the tokens are written behind those before
abbrev pub Appends : {E : Type 0} → Result (Unit {0}) E → Written → Written → List Token → Type 0
Appends result old new tokens =
    OnOk result ((new.tokens ≡ old.tokens ++ tokens) × (new.before ≡ old.before))
