-- The equations of a record, written one by one.
use Rattle.std.specs.Prelude.{Bool, true, false, List, [], ◌∷◌, ◌++◌, Option, Some, None, ℕ, if◌then◌else◌}
use Rattle.cap_value.specs.declared.value.Value.{Value}
use Rattle.cap_show.specs.Sql.{equation, is_asked, separator}

-- the value of a defined field whose column has such a flag
abbrev pub asked_value : {X : Type 0} → Bool → Bool → Option X → Option X
asked_value of_key is_key field = if is_asked of_key is_key then field else None

-- what stands before an equation
abbrev pub separator_before : Bool → Bool → List ℕ
separator_before is_first of_key = if is_first then [] else separator of_key

-- what a column adds
abbrev pub next_equation : {A : Type 0} → Bool → Bool → ℕ → Option (Value A) → List ℕ
next_equation is_first of_key column None = []
next_equation is_first of_key column (Some value) =
    separator_before is_first of_key ++ equation column value

abbrev pub is_empty : {X : Type 0} → List X → Bool
is_empty [] = true
is_empty (x ∷ xs) = false
