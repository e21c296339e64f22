-- Skipping the fields of a change that may be incomplete: of each only the type byte and the length are read.
use Rattle.std.specs.Prelude.{ℕ, ◌-◌, List, [], ◌∷◌, length, drop, Result, Ok, Err}
use Rattle.std.specs.Prelude.{nat_lt, ◌==◌, if◌then◌else◌}
use Rattle.cap_field.specs.declared.fault.BlobFault.{BlobFault}
use Rattle.cap_field.specs.Reading.{varint_at}

-- how many bytes the content behind this type byte has, and the bytes that it begins
abbrev pub content_len_at : ℕ → ℕ → List ℕ → Result (ℕ × List ℕ) BlobFault
content_len_at total kind bytes =
    if kind == 0 then Ok (0, bytes)
    else (if kind == 1 then Ok (8, bytes)
    else (if kind == 3 then varint_at total bytes
    else (if kind == 4 then varint_at total bytes
    else Ok (0, bytes))))

-- the bytes behind the content, or how many bytes it lacks at least
abbrev pub skip_content : Result (ℕ × List ℕ) BlobFault → Result (List ℕ) ℕ
skip_content (Ok part) =
    if nat_lt (length part.1) part.0 then Err (part.0 - length part.1) else Ok (drop part.0 part.1)
skip_content (Err fault) = Err 1

-- the bytes behind the field, or how many bytes it lacks at least
abbrev pub skip_at : ℕ → List ℕ → Result (List ℕ) ℕ
skip_at total [] = Err 1
skip_at total (kind ∷ bytes) = skip_content (content_len_at total kind bytes)
