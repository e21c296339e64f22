use Rattle.std.proofs.Common.{◌≡◌, ◌++◌, drop}
use Rattle.cap_row.specs.Key.{key_fields}
use Rattle.cap_row.proofs.key.key_values.Given as goal

-- what was kept, and the key fields of what is left
abbrev pub invariant-loop-flag : goal.invariant-loop-flag
invariant-loop-flag g l = l.values.items ++ key_fields (drop l.flag-index l.flags) l.rest ≡ key_fields l.flags l.fn.fields
