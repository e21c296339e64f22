use Rattle.cap_core.proofs.capture.Capture.changeset_with.Goals as goal

pub returns : goal.returns
returns g c = rw (← c.self.view_is) (rw c.attached.ensures.tables at c.changeset_of.ensures)
