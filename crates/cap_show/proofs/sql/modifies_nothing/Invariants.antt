use Rattle.std.proofs.Common.{◌≡◌, false, drop}
use Rattle.cap_show.specs.Code.Equations.{is_empty}
use Rattle.cap_show.specs.Sql.{equations}
use Rattle.cap_show.proofs.sql.modifies_nothing.Given as goal

-- the columns that are left decide
abbrev pub invariant-loop-is_key : goal.invariant-loop-is_key
invariant-loop-is_key g l = is_empty (equations false l.is_key-index (drop l.is_key-index l.flags) l.rest) ≡ is_empty (equations false 0 l.flags l.fields)
