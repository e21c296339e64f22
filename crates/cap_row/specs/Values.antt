-- The values of a key, however they are kept.
use Rattle.std.specs.Prelude.{[], ◌∷◌}
use Rattle.std.specs.Arc.{arc_value}
use Rattle.cap_row.specs.declared.key.Values.{Values}
use Rattle.cap_row.specs.declared.key.Values.TheVariants.{One, Many}
use Rattle.cap_row.specs.Fields.{Fields}

module _ {A : Type 0} where
  abbrev pub values_of : Values A → Fields A
  values_of (One value) = value ∷ []
  values_of (Many values) = (arc_value values).items
