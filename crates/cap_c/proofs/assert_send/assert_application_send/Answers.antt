use denote.Param.Send.{sendable}
use Rattle.cap_c.proofs.Crossing.{application_send}
use Rattle.cap_c.proofs.assert_send.assert_application_send.Goals as goal

pub assert_send-requires-send-T : goal.assert_send-requires-send-T
assert_send-requires-send-T c κs = search (application_send, sendable) depth 40 fits 100000
