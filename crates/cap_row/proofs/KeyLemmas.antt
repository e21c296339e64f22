-- The key of a row, column by column.
use Rattle.std.proofs.Common.{◌≡◌, List, [], ◌∷◌, Bool, refl, append-nil}
use Rattle.cap_row.specs.Key.{key_fields}

pub no_row : {A : Type 0} (flags : List Bool) → key_fields {A = A} flags [] ≡ []
no_row [] = refl
no_row (flag ∷ flags) = refl

pub ruleset no_more_row = (no_row, append-nil)
