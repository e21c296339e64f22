use Rattle.std.proofs.Common.{sym}
use Rattle.cap_tree.proofs.child.count_up_to.Goals as goal

pub returns-then-is_up_to_last-clause-place : goal.returns-then-is_up_to_last-clause-place
returns-then-is_up_to_last-clause-place g c h is = sym (c.is_up_to_last.ensures h is c.if-is_up_to_last.true)
