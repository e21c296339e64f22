-- The outputs for the change at which an iterator stands, and for a column of it, where there is one.
use Rattle.std.specs.Prelude.{◌≡◌, ◌⊎◌, ℕ, Bool, true, false, List, Option, Some, None, nat_lt}
use Rattle.std.specs.Prelude.{if◌then◌else◌}
use Rattle.std.specs.Option.{option_map}
use Rattle.cap_c.specs.Bits.{bit}
use Rattle.cap_apply.specs.declared.policy.Answer.{Answer}
use Rattle.cap_changes.specs.Operation.{operation_byte}
use Rattle.cap_codec.specs.declared.key_flags.KeyFlags.{KeyFlags}
use Rattle.cap_connection.specs.Iter.{IterState, Notes, buffer_in, columns_of, head_of, is_key, is_patchset}
use Rattle.cap_connection.specs.Iter.{new_of, old_of}
use Rattle.cap_c.specs.Outputs.{OutputsBytes, OutputsMade, value_bytes, value_output}
use Rattle.cap_c.specs.declared.change_info.ChangeInfo.{ChangeInfo}
use Rattle.cap_c.specs.declared.change_info.FieldValue.{FieldValue}
use Rattle.cap_c.specs.declared.status.TheConstants.{DONE, MISUSE, NOMEM, OK, PATCHSET, ROW}

-- whether there is a next change or row
abbrev pub step_status : Bool → ℕ
step_status true = ROW
step_status false = DONE

-- The operation is SQLite's number: 9, 18 or 23.
abbrev pub info_of : IterState → Option ChangeInfo
info_of it = option_map (λ head. record {
  op = operation_byte head.operation;
  indirect = bit head.indirect;
  patchset = bit (is_patchset it.contents);
  columns = columns_of it;
}) (head_of it)

abbrev pub at_column : {X : Type 0} → IterState → ℕ → X → Option X
at_column it column found = if nat_lt column (columns_of it) then Some found else None

abbrev pub key_output : IterState → ℕ → Option ℕ
key_output it column = at_column it column (bit (is_key it column))

abbrev pub old_output : IterState → ℕ → Option FieldValue
old_output it column = at_column it column (value_output (old_of it column))

abbrev pub new_output : IterState → ℕ → Option FieldValue
new_output it column = at_column it column (value_output (new_of it column))

abbrev pub old_bytes : IterState → ℕ → Option (List ℕ)
old_bytes it column = at_column it column (value_bytes (old_of it column))

abbrev pub new_bytes : IterState → ℕ → Option (List ℕ)
new_bytes it column = at_column it column (value_bytes (new_of it column))

-- whether there is a change of which a conflict was noted
abbrev pub noted_status : Bool → ℕ
noted_status true = OK
noted_status false = MISUSE

-- The conflict of the change is noted, or there is no memory for that. A number that is no answer is misuse.
abbrev pub NotesBy : Option Answer → IterState → IterState → ℕ → Type 0
NotesBy (Some answer) old new status =
    ((noted : Bool) × Notes answer old new noted × (status ≡ noted_status noted))
    ⊎ ((status ≡ NOMEM) × (new ≡ old))
NotesBy None old new status = (status ≡ MISUSE) × (new ≡ old)

-- a patchset has no buffer
abbrev pub OutputsUnlessPatches : Option (List ℕ) → ℕ → List ℕ → List ℕ → ℕ → ℕ → Type 0
OutputsUnlessPatches (Some bytes) status old new old_len len =
    OutputsMade (Some bytes) status old new old_len len
OutputsUnlessPatches None status old new old_len len =
    (status ≡ PATCHSET) × (new ≡ old) × (len ≡ old_len)

-- the buffer of the iterator's conflicts; a number that names no key flags is misuse
abbrev pub OutputsBuffer : Option KeyFlags → IterState → ℕ → List ℕ → List ℕ → ℕ → ℕ → Type 0
OutputsBuffer (Some flags) it status old new old_len len =
    OutputsUnlessPatches (buffer_in flags it.contents it.conflicts) status old new old_len len
OutputsBuffer None it status old new old_len len = OutputsBytes None status old new old_len len
