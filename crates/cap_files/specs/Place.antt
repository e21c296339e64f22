-- The bytes around a place of a blob.
use Rattle.std.specs.Prelude.{ℕ, ◌-◌, List, [], ◌∷◌, ◌++◌, codes, drop, take}
use Rattle.std.specs.List.{flat_map}
use Rattle.hex.specs.Hex.{encode_lower}

-- a byte as two hex digits behind a space
abbrev pub spaced : ℕ → List ℕ
spaced byte = 32 ∷ encode_lower (byte ∷ [])

-- the eight bytes before the place, `|`, and the eight bytes from there on, as far as the blob has them
unfoldable pub around : ℕ → List ℕ → List ℕ
around at bytes =
    flat_map spaced (take (at - (at - 8)) (drop (at - 8) bytes)) ++ (codes " |" ++ flat_map spaced (take 8 (drop at bytes)))
