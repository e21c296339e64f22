-- Rows and records, column by column.
use Rattle.std.specs.Prelude.{Bool, List, map}
use Rattle.std.specs.List.{zip}

-- at each column, by its key flag and the values of two rows or records
abbrev pub by_column : {X Y : Type 0} → (Bool → X → X → Y) → List Bool → List X → List X → List Y
by_column f flags old new = map (λ column. f column.0 column.1.0 column.1.1) (zip flags (zip old new))
