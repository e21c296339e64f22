-- The values of a row or of a key.
use Rattle.std.specs.Prelude.{List}
use Rattle.cap_value.specs.declared.value.Value.{Value}

-- one value a column, in column order
abbrev pub Fields : Type 0 → Type 0
Fields A = List (Value A)
