use Rattle.cap_dump.specs.Limits.{HaveValues}
use Rattle.cap_dump.proofs.limits_kept.rows_have_values.Given as goal

-- the rows have values where those that are left have
abbrev pub invariant-loop-row : goal.invariant-loop-row
invariant-loop-row g l = HaveValues l.row-iterator → HaveValues l.table.keyed
