use Rattle.std.proofs.Common.{◌≡◌, ◌++◌, take, drop}
use Rattle.cap_txn.specs.Workspace.{numbered, up_to}
use Rattle.cap_txn.proofs.workspace.place_of.Given as goal

abbrev pub invariant-loop-place : goal.invariant-loop-place
invariant-loop-place g l = record {
  found : numbered l.number l.savepoints ≡ numbered l.number (drop l.place l.savepoints);
  front : up_to l.number l.savepoints ≡ take l.place l.savepoints ++ up_to l.number (drop l.place l.savepoints);
}
