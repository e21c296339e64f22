-- Reading values.
use Rattle.std.specs.Prelude.{ℕ, ℤ, List, Option, Some, None, Result, Ok}
use Rattle.std.specs.Prelude.{nat_lt, ◌==◌, if◌then◌else◌}
use Rattle.std.specs.Int.{w64, from_be_bytes, cast_signed}
use Rattle.std.specs.Str.{is_utf8}
use Rattle.cap_value.specs.declared.value.Value.{Value}
use Rattle.cap_value.specs.declared.value.Value.TheVariants.{Null, Int, Text, Blob}
use Rattle.cap_field.specs.declared.fault.BlobFault.{BlobFault}
use Rattle.cap_field.specs.declared.fault.FaultKind.TheVariants.{BadField, Real, BadText, BadRecord}
use Rattle.cap_field.specs.declared.value_ref.ValueRef.{ValueRef}
use Rattle.cap_field.specs.declared.value_ref.ValueRef.TheVariants as refs
use Rattle.cap_field.specs.Reading.{◌>>=◌, fault, place, byte_at, bytes_at, varint_at}

-- bytes that are UTF-8
abbrev pub text_of : List ℕ → Option (List ℕ)
text_of bytes = if is_utf8 bytes then Some bytes else None

-- eight bytes of two's complement, the highest first
abbrev pub number_at : ℕ → List ℕ → Result (ℤ × List ℕ) BlobFault
number_at total bytes = do
  n ← bytes_at total 8 bytes
  Ok (cast_signed w64 (from_be_bytes w64 n.0), n.1)

-- a length, and that many bytes; `at` is the offset of the field's type byte
unfoldable pub sized_at : ℕ → ℕ → List ℕ → Result (List ℕ × List ℕ) BlobFault
sized_at total at bytes = do
  count ← varint_at total bytes
  if nat_lt 1000000000 count.0 then fault BadField at else bytes_at total count.0 count.1

unfoldable pub text_at : ℕ → ℕ → List ℕ → Result (List ℕ × List ℕ) BlobFault
text_at total at bytes = do
  text ← sized_at total at bytes
  if is_utf8 text.0 then Ok text else fault BadText at

module _ {A : Type 0} where
  -- the value of a reference
  abbrev pub value_of : ValueRef → Value A
  value_of refs.Null = Null
  value_of (refs.Int n) = Int n
  value_of (refs.Text text) = Text text.now
  value_of (refs.Blob bytes) = Blob bytes.now

  -- the value behind its type byte, in a record in which every field is defined
  unfoldable pub content_at : ℕ → ℕ → ℕ → List ℕ → Result (Value A × List ℕ) BlobFault
  content_at total at kind bytes =
      if kind == 1 then number_at total bytes >>= (λ n. Ok (Int n.0, n.1))
      else (if kind == 3 then text_at total at bytes >>= (λ text. Ok (Text text.0, text.1))
      else (if kind == 4 then sized_at total at bytes >>= (λ blob. Ok (Blob blob.0, blob.1))
      else (if kind == 5 then Ok (Null, bytes)
      else (if kind == 2 then fault Real at
      else (if kind == 0 then fault BadRecord at
      else fault BadField at)))))

  unfoldable pub value_at : ℕ → List ℕ → Result (Value A × List ℕ) BlobFault
  value_at total bytes = byte_at total bytes >>= (λ kind. content_at total (place total bytes) kind.0 kind.1)
