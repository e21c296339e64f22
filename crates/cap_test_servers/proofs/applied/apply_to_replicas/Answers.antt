use denote.Ref.{NamedLft}
use denote.Param.Send.{IsSend, sendable}
use Rattle.std.proofs.Crossing.{crosses, frees, send, sync}
use Rattle.cap_database.proofs.Crossing.{database_send, snapshot_send}
use Rattle.cap_database.proofs.change.Change.TheSendSync as change
use Rattle.cap_apply.proofs.report.Report.TheSendSync as report
use Rattle.cap_test_servers.specs.contracts.applied.ReplicaJob as Job
use Rattle.cap_test_servers.proofs.applied.apply_to_replicas.Goals as goal

module _ (j : NamedLft) where
  -- a replica goes to the thread that applies a changeset to it
  job_send : IsSend (Job.the_row j)
  job_send = search (snapshot_send, send, sync, frees, sendable, crosses) depth 40 fits 100000

pub map_vec-requires-send-J : goal.map_vec-requires-send-J
map_vec-requires-send-J g c κs = search (job_send, sendable) depth 40 fits 100000

-- what is applied comes back
pub map_vec-requires-send-X : goal.map_vec-requires-send-X
map_vec-requires-send-X g c κs = search (database_send, change.the_send, report.the_send, send, sync, frees, sendable, crosses) depth 40 fits 100000
