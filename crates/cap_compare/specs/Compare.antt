-- The keys at which the keyed rows of two tables differ.
use Rattle.std.specs.Prelude.{◌≡◌, Option, Some, None, Result, Ok, Err, List, map, if◌then◌else◌}
use Rattle.std.specs.List.{filter_map}
use Rattle.cap_row.specs.Schema.{flags_eq}
use Rattle.cap_value.specs.declared.refusal.Refusal.{Refusal}
use Rattle.cap_value.specs.declared.refusal.Refusal.TheVariants.{Incompatible}
use Rattle.cap_row.specs.Fields.{Fields}
use Rattle.cap_row.specs.Key.{fields_cmp, fields_eq}
use Rattle.cap_tree.specs.Tree.{IsOrdered, get}
use Rattle.cap_compare.specs.Beside.{beside}
use Rattle.cap_table.specs.Table.{TableState}
use Rattle.cap_compare.specs.declared.difference.Difference.{Difference}

module _ {A : Type 0} where
  -- where the rows of a key in the first and the second table differ: the first one, or None where there is
  -- none
  abbrev pub image_at : Option (Fields A) → Option (Fields A) → Option (Option (Fields A))
  image_at None None = None
  image_at None (Some new) = Some None
  image_at (Some old) None = Some (Some old)
  image_at (Some old) (Some new) = if fields_eq old new then None else Some (Some old)

  abbrev pub difference_at : Fields A → Option (Option (Fields A)) → Option (Difference A)
  difference_at key None = None
  difference_at key (Some image) = Some (record { key = key; image = image })

  -- the difference at every key of either list, in order, where there is one
  abbrev pub differences : List (Fields A × Fields A) → List (Fields A × Fields A) → List (Difference A)
  differences from to =
      filter_map (λ row. difference_at row.0 (image_at row.1.0 row.1.1)) (beside fields_cmp from to)

  -- a table is compared with one that has the same columns
  abbrev pub compare : Option (TableState A) → TableState A → Result (List (Difference A)) Refusal
  compare None to = Err Incompatible
  compare (Some from) to =
      if flags_eq from.schema to.schema then Ok (differences from.keyed to.keyed) else Err Incompatible

  abbrev pub image_of : Difference A → Fields A × Option (Fields A)
  image_of difference = (difference.key, difference.image)

  -- exactly the keys at which the rows differ, in order, each with its row in the first list, if any
  pub record AreDifferences (from to : List (Fields A × Fields A))
      (found : List (Difference A)) : Type 0 where
    pub ordered : IsOrdered fields_cmp (map image_of found)
    pub each : (key : Fields A) → get fields_cmp (map image_of found) key
        ≡ image_at (get fields_cmp from key) (get fields_cmp to key)
