-- Inputs that have several blobs.
use Rattle.std.specs.Prelude.{◌≡◌, ℕ, zero, suc, ◌+◌, ◌==◌, List, [], ◌∷◌, Option, Some, None, length, map}
use Rattle.std.specs.Prelude.{drop, IfSome, nat_le, take, if◌then◌else◌}
use Rattle.std.specs.Int.{from_be_bytes, w64}
use Rattle.std.specs.Option.{option_map_or}
use Rattle.cap_replies.specs.TextLines.{split_lines}
use Rattle.cap_run.specs.declared.encoding.Encoding.{Encoding}
use Rattle.cap_run.specs.declared.encoding.Encoding.TheVariants.{Binary, Hex}

-- the input has these lines, where it is known
abbrev pub HasLines : Option (List ℕ) → List (List ℕ) → Type 0
HasLines input lines = IfSome input (λ given. lines ≡ split_lines given)

-- the length of a blob, in eight bytes with the most significant first
abbrev pub frame_len : List ℕ → ℕ
frame_len bytes = from_be_bytes w64 (take 8 bytes)

-- a blob behind its length, and the bytes behind it, where there are as many
abbrev pub frame_at : List ℕ → Option (List ℕ × List ℕ)
frame_at bytes =
    if nat_le (8 + frame_len bytes) (length bytes)
    then Some (take (frame_len bytes) (drop 8 bytes), drop (frame_len bytes) (drop 8 bytes)) else None

-- Blobs, each behind its length, and none where the bytes end inside one. At most `most` of them, of which
-- bytes never have more than bytes.
abbrev pub frames : ℕ → List ℕ → List (Option (List ℕ))
frames zero bytes = []
frames (suc most) [] = []
frames (suc most) (byte ∷ bytes) =
    option_map_or (λ frame. Some frame.0 ∷ frames most frame.1) (frame_at (byte ∷ bytes)) (None ∷ [])

-- the texts of the blobs in an input: lines of hex digits, or bytes behind their length
abbrev pub texts_in : Encoding → List ℕ → List (Option (List ℕ))
texts_in Hex given = map Some (split_lines given)
texts_in Binary given = frames (length given) given
