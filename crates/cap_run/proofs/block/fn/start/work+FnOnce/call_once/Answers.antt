use denote.Param.Send.{sendable}
use Rattle.cap_run.proofs.block.fn.start.work+FnOnce.call_once.Goals as goal

pub work-requires : goal.work-requires
work-requires g c = search sendable depth 40
