-- The commit of a transaction's batch as the last call of a history.
use Rattle.std.specs.Prelude.{◌≡◌, ℕ, List, [], ◌∷◌, ◌++◌}
use Rattle.cap_txn.specs.Batch.{BatchState, WhereRead}
use Rattle.cap_core.specs.declared.command.Command.TheVariants.{Commit}
use Rattle.cap_core.specs.declared.event.Event.{Event}
use Rattle.cap_core.specs.declared.reply.Reply.{Reply}
use Rattle.cap_core.specs.Answer.{event_by, snapshot_of, state}
use Rattle.cap_core.specs.Commit.{CommitsIfUnchanged}

module _ {A : Type 0} where
  -- The history ends with this commit, which was accepted exactly where nothing that the transaction looked
  -- at had changed in the tables that the history before it left.
  abbrev pub CommitsAt : List (Event A) → BatchState A → Reply A → Type 0
  CommitsAt history batch reply =
      (before : List (Event A)) (by : ℕ) → history ≡ before ++ event_by by (Commit batch) reply ∷ []
      → WhereRead batch.base batch.reads (CommitsIfUnchanged (snapshot_of (state before)) reply)
