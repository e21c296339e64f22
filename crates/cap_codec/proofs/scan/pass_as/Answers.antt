use Rattle.cap_codec.proofs.scan.pass_as.Goals as goal

pub returns-in-Changes-clause-gives : goal.returns-in-Changes-clause-gives
returns-in-Changes-clause-gives g c = rw c.in-Changes.is c.pass_part.ensures.gives

pub returns-in-Patches-clause-gives : goal.returns-in-Patches-clause-gives
returns-in-Patches-clause-gives g c = rw c.in-Patches.is c.pass_part-in-Patches.ensures.gives
