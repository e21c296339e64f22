-- A connection goes from one thread to another.
use denote.Param.Send.{IsSend, sendable}
use Rattle.std.proofs.Crossing.{crosses}
use Rattle.cap_hub.proofs.Crossing.{client_send}
use Rattle.cap_connection.specs.contracts.connection.Connection as Connection

pub connection_send : IsSend Connection.the_row
connection_send = search (client_send, sendable, crosses) depth 40 fits 100000
