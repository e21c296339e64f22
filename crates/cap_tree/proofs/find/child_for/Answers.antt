use Rattle.cap_tree.proofs.find.child_for.Goals as goal

pub returns : goal.returns
returns g c = λ h children. cc (c.count_up_to.ensures.place h children, c.saturating_sub.ensures, c.split_at.ensures.back, c.in_ok-child.ensures.cases.0)
