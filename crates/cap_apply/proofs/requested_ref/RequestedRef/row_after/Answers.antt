use Rattle.cap_apply.proofs.requested_ref.RequestedRef.row_after.Goals as goal

pub returns-in-Update : goal.returns-in-Update
returns-in-Update g c = rw c.in-Update.is (rw c.flags-flags.ensures.flags at c.updated.ensures)
