-- An iterator over the changes of a blob, and the change at which it stands.
use Rattle.std.specs.Prelude.{◌≡◌, ℕ, ◌+◌, ◌++◌, Bool, true, false, List, [], ◌∷◌, length, slice_index_or}
use Rattle.std.specs.Prelude.{Option, Some, None, Result, Ok, Err, sum, take}
use Rattle.std.specs.Option.{option_and_then, option_map, option_map_or}
use Rattle.std.specs.Global.{Global}
use Rattle.cap_value.specs.declared.value.Value.{Value}
use Rattle.cap_apply.specs.declared.conflict.Conflict.{Conflict}
use Rattle.cap_apply.specs.declared.conflict.ConflictKind.TheVariants.{Data}
use Rattle.cap_apply.specs.declared.policy.Answer.{Answer}
use Rattle.cap_codec.specs.BlobReading.{blob_at}
use Rattle.cap_codec.specs.Changeset.{list_bytes_with}
use Rattle.cap_field.specs.declared.fault.BlobFault.{BlobFault}
use Rattle.cap_codec.specs.declared.key_flags.KeyFlags.{KeyFlags}
use Rattle.cap_codec.specs.declared.read.Contents.{Contents}
use Rattle.cap_codec.specs.declared.read.Contents.TheVariants.{Changes, Patches}
use Rattle.cap_rebase.specs.Buffer.{buffer_of}
use Rattle.cap_connection.specs.Fields.{fields_before, head_at, new_at, old_at, schema_at, table_at}
use Rattle.cap_connection.specs.Positions.{IsFirstFrom, IsNoneFrom, counts}
use Rattle.cap_connection.specs.declared.iter_fields.ChangeHead.{ChangeHead}
use Rattle.cap_connection.specs.declared.iter_position.Position.{Position}

-- What a blob spells, the change at which the iterator stands, if any, from where the next one is looked for,
-- and the conflicts that its changes met.
pub record IterState : Type 0 where
  pub contents : Contents Global
  pub current : Option Position
  pub next : Position
  pub conflicts : List Conflict

-- before the first change
abbrev pub begin : Contents Global → IterState
begin contents = record {
  contents = contents;
  current = None;
  next = record { group = 0; change = 0 };
  conflicts = [];
}

abbrev pub iter_of : Result (Contents Global) BlobFault → Result IterState BlobFault
iter_of (Ok contents) = Ok (begin contents)
iter_of (Err fault) = Err fault

-- the iterator over what the bytes spell, or their fault
abbrev pub iter_at : List ℕ → Result IterState BlobFault
iter_at bytes = iter_of (blob_at bytes)

-- right behind a change
abbrev pub behind : Position → Position
behind position = record { group = position.group; change = position.change + 1 }

-- It goes to the first change from where the next one is looked for. Where there is none it stands at no
-- change.
abbrev pub Steps : IterState → IterState → Bool → Type 0
Steps old new true = (position : Position) × IsFirstFrom (counts old.contents) old.next position
    × (new ≡ record old { current = Some position; next = behind position })
Steps old new false = IsNoneFrom (counts old.contents) old.next
    × (new ≡ record old { current = None })

abbrev pub is_patchset : Contents Global → Bool
is_patchset (Changes list) = false
is_patchset (Patches list) = true

-- the columns of the change's table
abbrev pub flags_of : IterState → Option (List Bool)
flags_of it = option_and_then (λ position. schema_at it.contents position.group) it.current

abbrev pub columns_of : IterState → ℕ
columns_of it = option_map_or length (flags_of it) 0

abbrev pub is_key : IterState → ℕ → Bool
is_key it column = option_map_or (λ flags. slice_index_or flags column false) (flags_of it) false

abbrev pub table_of : IterState → Option (List ℕ)
table_of it = option_and_then (λ position. table_at it.contents position.group) it.current

abbrev pub old_of : IterState → ℕ → Option (Value Global)
old_of it column = option_and_then (λ position. old_at it.contents position column) it.current

abbrev pub new_of : IterState → ℕ → Option (Value Global)
new_of it column = option_and_then (λ position. new_at it.contents position column) it.current

-- what the change does, and whether it is indirect
abbrev pub head_of : IterState → Option ChangeHead
head_of it = option_and_then (λ position. head_at it.contents position) it.current

-- the records of the row before the change and after it, a field for each column
abbrev pub old_record_of : IterState → Option (List ℕ)
old_record_of it = option_map (λ position. fields_before (old_at it.contents position) (columns_of it)) it.current

abbrev pub new_record_of : IterState → Option (List ℕ)
new_record_of it = option_map (λ position. fields_before (new_at it.contents position) (columns_of it)) it.current

-- ---- Conflicts

-- the number of a change, counted from 0 over the whole blob
abbrev pub number_at : Contents Global → Position → ℕ
number_at contents position = sum (take position.group (counts contents)) + position.change

-- The change at which it stands, if any, met a conflict with this answer. The kind of the conflict is not
-- known, and a buffer has none.
abbrev pub conflict_at : IterState → Answer → Position → Conflict
conflict_at it answer position = record { change = number_at it.contents position; kind = Data; answer = answer }

abbrev pub Notes : Answer → IterState → IterState → Bool → Type 0
Notes answer old new true = (position : Position) × (old.current ≡ Some position)
    × (new ≡ record old { conflicts = old.conflicts ++ conflict_at old answer position ∷ [] })
Notes answer old new false = (old.current ≡ None) × (new ≡ old)

-- the buffer of an application in which its changes met these conflicts; a patchset has none
abbrev pub buffer_in : KeyFlags → Contents Global → List Conflict → Option (List ℕ)
buffer_in key_flags (Changes list) conflicts = Some (list_bytes_with key_flags (buffer_of list conflicts))
buffer_in key_flags (Patches list) conflicts = None
