-- Hex text.
use Rattle.std.specs.Prelude.{ℕ, List, [], ◌∷◌, ◌-◌, length, take, drop, if◌then◌else◌}
use Rattle.cap_value.specs.Bytes.{bytes_eq}

-- the text without the line feed at its end, where there is one
abbrev pub digits_of : List ℕ → List ℕ
digits_of text =
    if bytes_eq (drop (length text - 1) text) (0x0a ∷ []) then take (length text - 1) text else text
