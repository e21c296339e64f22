-- A client may go from one thread to another, and its hub is shared.
use denote.Param.Send.{IsSend, IsSync, sendable}
use Rattle.std.proofs.Crossing.{crosses, frees, send, sync}
use Rattle.counted_slot.proofs.Counted.TheSendSync as counted
use Rattle.cap_history.proofs.front.Front.TheSendSync as front
use Rattle.cap_history.proofs.seat.Seat.TheSendSync as seat
use Rattle.cap_locked.proofs.Crossing.{locked_send, locked_sync}
use Rattle.cap_hub.specs.contracts.client.Client as Client
use Rattle.cap_hub.specs.contracts.held.Held as Held
use Rattle.cap_hub.specs.contracts.hub.Hub as Hub

held_send : IsSend Held.the_row
held_send = search (locked_send, seat.the_send, send, sync, frees, sendable, crosses) depth 40 fits 100000

held_sync : IsSync Held.the_row
held_sync = search (locked_sync, seat.the_sync, send, sync, frees, sendable, crosses) depth 40 fits 100000

pub hub_send : IsSend Hub.the_row
hub_send = search (counted.the_send, held_send, front.the_send, sendable, crosses) depth 40 fits 100000

pub hub_sync : IsSync Hub.the_row
hub_sync = search (counted.the_sync, held_send, held_sync, front.the_sync, sendable, crosses) depth 40 fits 100000

pub client_send : IsSend Client.the_row
client_send = search (hub_send, hub_sync, seat.the_send, sendable, crosses) depth 40 fits 100000
