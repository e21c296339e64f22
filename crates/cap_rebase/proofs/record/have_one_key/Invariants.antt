use Rattle.std.proofs.Common.{◌≡◌, drop}
use Rattle.cap_rebase.proofs.ColumnLemmas.{are_same}
use Rattle.cap_rebase.proofs.record.have_one_key.Given as goal

-- no key field differs so far
abbrev pub invariant-loop-key : goal.invariant-loop-key
invariant-loop-key g l = are_same (drop l.key-index l.flags) l.left l.right ≡ are_same l.flags l.fn.left l.fn.right
