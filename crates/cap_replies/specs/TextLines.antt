-- The lines of a text.
use Rattle.std.specs.Prelude.{ℕ, ◌==◌, List, [], ◌∷◌, if◌then◌else◌}
use Rattle.std.specs.List.{onto_first}

-- the lines of a text, of which the last may lack its line feed
abbrev pub split_lines : List ℕ → List (List ℕ)
split_lines [] = []
split_lines (byte ∷ bytes) =
    if byte == 10 then [] ∷ split_lines bytes else onto_first byte (split_lines bytes)
