-- The columns of a table, one flag each: in the primary key or not.
use Rattle.std.specs.Prelude.{List, Result, Ok, Err, Bool, length, nat_le, ◌&&◌, if◌then◌else◌}
use Rattle.std.specs.Bool.{beq}
use Rattle.std.specs.Cmp.Lexicographic.{pointwise}
use Rattle.std.specs.List.{list_any}
use Rattle.cap_value.specs.declared.refusal.Refusal.{Refusal}
use Rattle.cap_value.specs.declared.refusal.Refusal.TheVariants.{BadSchema}

-- 1 to 2,000 columns
abbrev pub is_schema : List Bool → Bool
is_schema flags = nat_le 1 (length flags) && nat_le (length flags) 2000

abbrev pub schema_of : List Bool → Result (List Bool) Refusal
schema_of flags = if is_schema flags then Ok flags else Err BadSchema

-- some column is in the primary key
abbrev pub has_key : List Bool → Bool
has_key flags = list_any (λ flag. flag) flags

-- the same columns
abbrev pub flags_eq : List Bool → List Bool → Bool
flags_eq = pointwise beq
