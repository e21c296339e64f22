-- The defined fields of a record, written one by one.
use Rattle.std.specs.Prelude.{Bool, false, List, [], ◌++◌, Option, Some, None, ℕ, codes, if◌then◌else◌}

-- what stands before a value
abbrev pub comma_text : Bool → List ℕ
comma_text is_first = if is_first then [] else codes ","

-- whether the next defined field is the first
abbrev pub is_first_after : {X : Type 0} → Bool → Option X → Bool
is_first_after is_first None = is_first
is_first_after is_first (Some value) = false

-- what a field adds, where this is the text of a value
abbrev pub next_text : {X : Type 0} → (X → List ℕ) → Bool → Option X → List ℕ
next_text text is_first None = []
next_text text is_first (Some value) = comma_text is_first ++ text value
