use Rattle.cap_server.proofs.Closing.{overtaken_by_any, shown_by_any}
use Rattle.cap_server.proofs.server.Server.close.Goals as goal

pub returns-in-Err-clause-refused : goal.returns-in-Err-clause-refused
returns-in-Err-clause-refused g c = shown_by_any c.in-Err.fault _ _ _ _ _ c.in-Err.ensures.refused

pub returns-in-Err-clause-overtaken : goal.returns-in-Err-clause-overtaken
returns-in-Err-clause-overtaken g c =
    overtaken_by_any c.in-Err.fault _ _ _ _ _ c.in-Err.ensures.refused c.in-Err.ensures.overtaken
