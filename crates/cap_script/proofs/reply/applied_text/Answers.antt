use Rattle.cap_script.proofs.reply.applied_text.Goals as goal

pub returns-in-Accepted : goal.returns-in-Accepted
returns-in-Accepted g c = rw c.in-Accepted.is c.accepted_text.ensures
