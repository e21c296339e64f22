use Rattle.cap_core.proofs.capture.Capture.changes.Goals as goal

pub returns : goal.returns
returns g c = rw (← c.self.view_is) (rw c.attached.ensures.tables at c.changes_of.ensures)
