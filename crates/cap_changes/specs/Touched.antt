-- Whether the row of a touched key has changed, by its first image and its row now.
use Rattle.std.specs.Prelude.{Bool, true, false, not, Option, Some, None}
use Rattle.cap_row.specs.Fields.{Fields}
use Rattle.cap_row.specs.Key.{fields_eq}

module _ {A : Type 0} where
  abbrev pub is_changed : Option (Fields A) → Option (Fields A) → Bool
  is_changed None None = false
  is_changed None (Some now) = true
  is_changed (Some image) None = true
  is_changed (Some image) (Some now) = not (fields_eq image now)
