use Rattle.std.proofs.Common.{◌≡◌, ◌++◌, drop}
use Rattle.cap_apply.specs.Row.{key_values}
use Rattle.cap_apply.proofs.fields.key_values.Given as goal

-- what was put, and the key fields of the columns that are left
abbrev pub invariant-loop-flag : goal.invariant-loop-flag
invariant-loop-flag g l = l.values.items ++ key_values (drop l.flag-index l.flags) l.rest ≡ key_values l.flags l.fields
