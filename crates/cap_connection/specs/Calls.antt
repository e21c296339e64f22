-- What each call on a connection answers, and what it leaves.
use Rattle.std.specs.Prelude.{◌≡◌, ℕ, List, [], None, Result, IsUtf8, OnErr, OnOk}
use Rattle.std.specs.Result.{result_map_both}
use Rattle.std.specs.Global.{Global}
use Rattle.cap_value.specs.declared.memory.Fault.{Fault}
use Rattle.cap_database.specs.Snapshot.{SnapshotState}
use Rattle.cap_txn.specs.Batch.{BatchState}
use Rattle.cap_filter.specs.Reading.{filter_of}
use Rattle.cap_session.specs.declared.session_change.SessionChange.TheVariants as change
use Rattle.cap_apply.specs.declared.policy.Policy.{Policy}
use Rattle.cap_core.specs.Capture.{CaptureState}
use Rattle.cap_core.specs.declared.command.Command.{Command}
use Rattle.cap_core.specs.declared.command.Command.TheVariants as command
use Rattle.cap_core.specs.declared.session_command.SessionCommand.TheVariants as told
use Rattle.cap_records.specs.Names.{IsName}
use Rattle.cap_connection.specs.Connection.{ConnectionState}
use Rattle.cap_connection.specs.Iter.{IterState}
use Rattle.cap_connection.specs.Columns.{IsTable, key_columns}
use Rattle.cap_connection.specs.Replies.{captured_in, nothing_in, number_in, outcome_in, snapshot_in}
use Rattle.cap_connection.specs.Runs.{Gives, Means, Reads, Runs, RunsMade, UnlessMemory}
use Rattle.cap_connection.specs.declared.fault.ConnectionFault.{ConnectionFault}
use Rattle.cap_connection.specs.declared.fault.ConnectionFault.TheVariants as fault
use Rattle.cap_connection.specs.declared.replies.Applied.{Applied}

-- whether a call was carried out
abbrev pub Done : Type 0
Done = Result (Unit {0}) (Fault ConnectionFault)

-- ---- Tables and sessions

-- a name that is none, or a number of columns that no table may have, is misuse
abbrev pub CreatesTable : List ℕ → List ℕ → ConnectionState → ConnectionState →
    Result ℕ (Fault ConnectionFault) → Type 0
CreatesTable table key old new =
    Means (IsTable table key) (RunsMade number_in (command.CreateTable table (key_columns key)) old new)
    old new

abbrev pub Saves : List ℕ → ConnectionState → ConnectionState → Done → Type 0
Saves database old new =
    Means (IsName database) (RunsMade nothing_in (command.SaveAs database) old new) old new

abbrev pub Attaches : ℕ → List ℕ → ConnectionState → ConnectionState → Done → Type 0
Attaches session table old new =
    Means (IsName table) (RunsMade nothing_in (command.Session session (told.Attach table)) old new) old new

abbrev pub Diffs : ℕ → List ℕ → List ℕ → ConnectionState → ConnectionState → Done → Type 0
Diffs session from table old new = Means (IsName from × IsName table)
    (RunsMade nothing_in (command.Session session (told.Diff from table)) old new) old new

-- The filter is the one that the text spells. A text that is not UTF-8 is misuse.
abbrev pub SetsFilter : ℕ → List ℕ → ConnectionState → ConnectionState → Done → Type 0
SetsFilter session text old new = Means (IsUtf8 text) (Reads (filter_of text) fault.NoFilter (λ filter.
    RunsMade nothing_in (command.Session session (told.Change (change.SetFilter filter))) old new)
    old new) old new

-- The contents of the iterator are applied, and these sessions stay as they are. It has the conflicts that its
-- changes met. Where nothing was applied it is as it was.
pub record Applies (policy : Policy) (quiet : List ℕ) (before after : IterState) (old new : ConnectionState)
    (result : Result Applied (Fault ConnectionFault)) : Type 0 where
  pub applied : Runs outcome_in (command.Apply before.contents policy quiet) old new
      (result_map_both (λ made. (made, after.conflicts)) (λ why. why) result)
  pub kept : after ≡ record before { conflicts = after.conflicts }
  pub conflicts_kept : OnErr result (after.conflicts ≡ before.conflicts)

-- The same of sessions whose numbers are copied first. Where memory runs out all is as it was.
pub record AppliesQuiet (policy : Policy) (quiet : List ℕ) (before after : IterState)
    (old new : ConnectionState) (result : Result Applied (Fault ConnectionFault)) : Type 0 where
  pub applied : UnlessMemory (Applies policy quiet before after old new) old new result
  pub kept : OnErr result (after ≡ before)

-- ---- Snapshots, captures and batches

-- the snapshot is that of the reply
abbrev pub TakesSnapshot : ConnectionState → ConnectionState →
    Result (SnapshotState Global) (Fault ConnectionFault) → Type 0
TakesSnapshot old new = Gives snapshot_in command.Read old new

-- the changes are those of the reply
abbrev pub Captures : Command Global → ConnectionState → ConnectionState →
    Result (CaptureState Global) (Fault ConnectionFault) → Type 0
Captures asked old new = Gives captured_in asked old new

-- without operations, on any version
abbrev pub blind : BatchState Global
blind = record { base = None; ops = []; reads = None }

-- The batch is committed, and is blind after that. One that is refused, or has no reply, is as it was.
pub record Commits (before after : BatchState Global) (old new : ConnectionState)
    (result : Result ℕ (Fault ConnectionFault)) : Type 0 where
  pub committed : Runs number_in (command.Commit before) old new result
  pub emptied : OnOk result (after ≡ blind)
  pub kept : OnErr result (after ≡ before)
