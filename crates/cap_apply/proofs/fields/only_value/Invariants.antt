use Rattle.std.proofs.Common.{◌≡◌, ◌++◌, drop, IfSome, option_map, option_to_list}
use Rattle.cap_field.specs.FieldReading.{value_of}
use Rattle.cap_apply.proofs.Common.{IsValue, key_values}
use Rattle.cap_apply.proofs.fields.only_value.Given as goal

-- what was found, and the key fields of the columns that are left
abbrev pub invariant-loop-flag : goal.invariant-loop-flag
invariant-loop-flag g l = record {
  put : option_to_list (option_map value_of l.only) ++ key_values {A = g.row.A.Denot} (drop l.flag-index l.flags) l.rest ≡ key_values l.flags l.fields;
  fits : IfSome l.only (λ value. IsValue {A = g.row.A.Denot} (value_of value));
}
