-- The changes that a group reads: judged, and put behind its own, each with its indirect flag as it is written.
use Rattle.std.specs.Prelude.{◌≡◌, ℕ, ◌+◌, ◌-◌, ◌≤◌, Bool, List, [], ◌∷◌, ◌++◌, length, take, drop, slice_index, slice_set}
use mathlib.Core.List.{IsPrefix}
use Rattle.cap_changes.specs.ChangeBytes.{flag_byte}
use Rattle.cap_changes.specs.ChangeReading.{is_set}
use Rattle.cap_changes.specs.Entries.{TableEntries}
use Rattle.cap_changes.specs.Stored.{IsKept, end_of, entries_of}

-- the bytes with the byte at this place as an indirect flag is written
abbrev pub with_flag : ℕ → List ℕ → List ℕ
with_flag place bytes = slice_set bytes place (flag_byte (is_set (slice_index bytes place)))

-- the same of each entry that begins at a place and ends at these
abbrev pub with_flags : List ℕ → ℕ → List ℕ → List ℕ
with_flags bytes start [] = bytes
with_flags bytes start (end ∷ ends) = with_flags (with_flag (start + 1) bytes) end ends

-- each has an operation byte and an indirect flag, within so many bytes
abbrev pub HaveFlags : ℕ → ℕ → List ℕ → Type 0
HaveFlags count start [] = Unit {0}
HaveFlags count start (end ∷ ends) = (start + 2 ≤ end) × (end ≤ count) × HaveFlags count end ends

-- the bytes before those that are left of them
abbrev pub front_of : List ℕ → List ℕ → List ℕ
front_of bytes rest = take (length bytes - length rest) bytes

-- the bytes of a group whose changes end at the old places, with those of the read changes behind them
abbrev pub joined : List ℕ → List ℕ → List ℕ → List ℕ → List ℕ
joined held old read ends = with_flags (held ++ read) (length held) (drop (length old) ends)

-- the group of these bytes
abbrev pub group_of : {C : Type 0} → (List Bool → List ℕ → C) → List ℕ → List Bool → List ℕ → List ℕ →
    TableEntries C
group_of stored table flags bytes ends =
    record { table = table; schema = flags; changes = entries_of stored flags bytes 0 ends }

-- the changes of a group, which end at the old places, and behind them those that were read
pub record Judged {C : Type 0} (fits_in : List Bool → C → Bool) (has_values : C → Type 0)
    (bytes_of : C → List ℕ) (stored : List Bool → List ℕ → C) (flags : List Bool)
    (held old bytes rest ends : List ℕ) : Type 0 where
  pub parts : bytes ≡ front_of bytes rest ++ rest
  pub begins : IsPrefix old ends
  pub flagged : HaveFlags (length (held ++ front_of bytes rest)) (length held) (drop (length old) ends)
  pub end : end_of (length held) (drop (length old) ends) ≡ length (held ++ front_of bytes rest)
  pub kept : IsKept fits_in has_values bytes_of stored flags (joined held old (front_of bytes rest) ends) ends
