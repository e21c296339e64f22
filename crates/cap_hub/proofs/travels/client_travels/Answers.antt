use denote.Param.Send.{sendable}
use Rattle.cap_hub.proofs.Crossing.{client_send}
use Rattle.cap_hub.proofs.travels.client_travels.Goals as goal

pub travels-requires-send-T : goal.travels-requires-send-T
travels-requires-send-T c κs = search (client_send, sendable) depth 40 fits 100000
