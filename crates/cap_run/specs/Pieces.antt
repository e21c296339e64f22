-- Bytes in pieces.
use Rattle.std.specs.Prelude.{ℕ, List, [], ◌∷◌, ◌++◌, Vec}

-- the bytes of all pieces in order
abbrev pub joined : {Z : Type 0} → List (Vec ℕ Z) → List ℕ
joined [] = []
joined (piece ∷ pieces) = piece.items ++ joined pieces
