use Rattle.std.proofs.Common.{◌≡◌, drop}
use Rattle.cap_apply.specs.Row.{has_old_values}
use Rattle.cap_apply.proofs.fields.has_old_values.Given as goal

-- it rests on the columns that are left
abbrev pub invariant-loop-key : goal.invariant-loop-key
invariant-loop-key g l = has_old_values (drop l.key-index l.flags) l.fields l.rest ≡ has_old_values l.flags l.fn.old l.fn.row
