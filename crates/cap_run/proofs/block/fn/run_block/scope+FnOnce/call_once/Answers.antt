use denote.Param.Send.{sendable}
use Rattle.cap_run.proofs.block.fn.run_block.scope+FnOnce.call_once.Goals as goal

pub scope-requires : goal.scope-requires
scope-requires g c = search sendable depth 40
