use denote.Param.Send.{sendable}
use Rattle.cap_run.proofs.block.run_block.Goals as goal

pub scoped-requires : goal.scoped-requires
scoped-requires g c = search sendable depth 40 fits 100000
