-- Changes with their keys, and what those of one row are together.
use Rattle.std.specs.Prelude.{◌≡◌, Bool, List, Option, IsTrue}
use Rattle.std.specs.declared.cmp.Ordering.{Ordering}
use Rattle.std.specs.Ordering.{is_eq}
use Rattle.cap_row.specs.Fields.{Fields}
use Rattle.cap_row.specs.Key.{fields_cmp}

-- a change and the key of its row
pub record Place (A X : Type 0) : Type 0 where
  pub key : Fields A
  pub change : X

module _ {A X : Type 0} where
  -- places are compared by their keys
  abbrev pub place_cmp : Place A X → Place A X → Ordering
  place_cmp a b = fields_cmp a.key b.key

  abbrev pub place_eq : Place A X → Place A X → Bool
  place_eq a b = is_eq (place_cmp a b)

  abbrev pub place_of : (List Bool → X → Fields A) → List Bool → X → Place A X
  place_of key flags change = record { key = key flags change; change = change }

  -- a change that fits its table, with its key
  pub record IsPlace (key : List Bool → X → Fields A) (fits : List Bool → X → Bool) (flags : List Bool)
      (place : Place A X) : Type 0 where
    pub keyed : place.key ≡ key flags place.change
    pub fit : IsTrue (fits flags place.change)

-- what changes of a row are together so far, in a table with these key flags
pub record RowSoFar (X : Type 0) : Type 0 where
  pub flags : List Bool
  pub change : Option X
