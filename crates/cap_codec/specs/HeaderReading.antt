-- Reading the header of a group.
use Rattle.std.specs.Prelude.{ℕ, ◌+◌, Bool, List, length, take, drop, map, position, Option, Some, None}
use Rattle.std.specs.Prelude.{Result, Ok, nat_lt, nat_le, ◌==◌, ◌||◌, ◌&&◌, if◌then◌else◌}
use Rattle.std.specs.List.{list_any}
use Rattle.std.specs.Str.{is_utf8}
use Rattle.cap_changes.specs.ChangeReading.{is_set}
use Rattle.cap_field.specs.declared.fault.BlobFault.{BlobFault}
use Rattle.cap_field.specs.declared.fault.FaultKind.TheVariants.{Truncated, BadHeader, BadName}
use Rattle.cap_codec.specs.declared.header.HeaderRef.{HeaderRef}
use Rattle.cap_field.specs.Reading.{◌>>=◌, fault, place, bytes_at, varint_at}

-- a table's name, and a key flag for each column
pub record Header : Type 0 where
  pub table : List ℕ
  pub flags : List Bool

abbrev pub is_zero : ℕ → Bool
is_zero byte = byte == 0

-- the header of a reference
abbrev pub header_of : HeaderRef → Header
header_of header = record { table = header.table.now; flags = map is_set header.flags.now }

unfoldable pub count_at : ℕ → List ℕ → Result (ℕ × List ℕ) BlobFault
count_at total bytes = do
  count ← varint_at total bytes
  if (count.0 == 0) || nat_lt 2000 count.0 then fault BadHeader (place total bytes) else Ok count

unfoldable pub flags_at : ℕ → ℕ → List ℕ → Result (List ℕ × List ℕ) BlobFault
flags_at total count bytes = do
  flags ← bytes_at total count bytes
  if list_any is_set flags.0 then Ok flags else fault BadHeader (place total bytes)

-- a name of this length, where a zero byte is among the first 256
abbrev pub named_at : ℕ → List ℕ → Option ℕ → Result (List ℕ × List ℕ) BlobFault
named_at total bytes None =
    if nat_le (length bytes) 255 then fault Truncated total else fault BadName (place total bytes)
named_at total bytes (Some len) =
    if nat_lt 0 len && is_utf8 (take len bytes) then Ok (take len bytes, drop (len + 1) bytes)
    else fault BadName (place total bytes)

unfoldable pub name_at : ℕ → List ℕ → Result (List ℕ × List ℕ) BlobFault
name_at total bytes = named_at total bytes (position is_zero (take 256 bytes))

-- a header behind its kind byte
unfoldable pub header_at : ℕ → List ℕ → Result (Header × List ℕ) BlobFault
header_at total bytes = do
  count ← count_at total bytes
  flags ← flags_at total count.0 count.1
  name ← name_at total flags.1
  Ok (record { table = name.0; flags = map is_set flags.0 }, name.1)
