use denote.RattleType.{RattleType}
use denote.Ref.{NamedLft}
use denote.Param.Send.{IsSend, IsSync, sendable}
use Rattle.std.proofs.Crossing.{crosses, frees, send, sync}
use Rattle.cap_core.proofs.Crossing.{reply_send}
use Rattle.cap_server.specs.declared.naming.Naming as naming
use Rattle.cap_server.proofs.seat.Seat.TheSendSync as seat
use Rattle.cap_server.proofs.Crossing.{server_sync}
use Rattle.cap_test_servers.specs.contracts.applied.SeatJob as Job
use Rattle.cap_test_servers.proofs.applied.apply_through_seats.Goals as goal

module _ (j : NamedLft) (J R : RattleType) (n : naming.Ghosts J.Denot) (js : IsSend J) (jy : IsSync J) (ry : IsSync R) where
  -- a seat goes to the thread that applies a changeset through it
  job_send : IsSend (Job.the_row j J R n)
  job_send = search (server_sync, seat.the_send, send, sync, frees, sendable, crosses) depth 40 fits 100000

pub map_vec-requires-send-J : goal.map_vec-requires-send-J
map_vec-requires-send-J g c κs = search (job_send, sendable) depth 40 fits 100000

-- it comes back with the reply
pub map_vec-requires-send-X : goal.map_vec-requires-send-X
map_vec-requires-send-X g c κs = search (seat.the_send, reply_send, send, sync, frees, sendable) depth 40 fits 100000
