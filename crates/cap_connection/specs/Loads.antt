-- A blob is loaded: the tables are looked at, a table is created for each of its groups, and it is applied.
use Rattle.std.specs.Prelude.{◌≡◌, ⊤, ℕ, Bool, List, [], ◌∷◌, Result, Ok, Err, IsOk}
use Rattle.std.specs.Global.{Global}
use Rattle.cap_value.specs.declared.memory.Fault.{Fault}
use Rattle.cap_value.specs.declared.memory.Fault.TheVariants as stop
use Rattle.cap_value.specs.declared.refusal.Refusal.{Refusal}
use Rattle.cap_database.specs.Snapshot.{SnapshotState}
use Rattle.cap_database.specs.Tables.{Tables}
use Rattle.cap_codec.specs.declared.read.Contents.{Contents}
use Rattle.cap_apply.specs.Policy.{always}
use Rattle.cap_apply.specs.declared.policy.Answer.TheVariants.{Abort}
use Rattle.cap_core.specs.Outcome.{change_refused}
use Rattle.cap_core.specs.declared.command.Command.TheVariants as command
use Rattle.cap_dump.specs.Load.{load, tables_in}
use Rattle.cap_connection.specs.Calls.{Applies, Done, TakesSnapshot}
use Rattle.cap_connection.specs.Connection.{ConnectionState}
use Rattle.cap_connection.specs.Iter.{IterState}
use Rattle.cap_connection.specs.Replies.{number_in}
use Rattle.cap_connection.specs.Runs.{RunsMade}
use Rattle.cap_connection.specs.declared.fault.ConnectionFault.{ConnectionFault}
use Rattle.cap_connection.specs.declared.fault.ConnectionFault.TheVariants as fault
use Rattle.cap_connection.specs.declared.replies.Applied.{Applied}

-- a table or an application is refused, by its refusal
abbrev pub MayLoad : Result (Tables Global) Refusal → Done → Type 0
MayLoad answer (Ok done) = IsOk answer
MayLoad answer (Err (stop.Refused told)) =
    (why : Refusal) × (answer ≡ Err why) × (told ≡ fault.Refused (change_refused why) why)
MayLoad answer (Err stop.OutOfMemory) = ⊤

-- what a load of the blob on these tables would be refused
abbrev pub Judges : Contents Global → Result (SnapshotState Global) (Fault ConnectionFault) → Done → Type 0
Judges blob (Ok snapshot) result = MayLoad (load snapshot.database blob) result
Judges blob (Err why) result = result ≡ Err why

-- a snapshot is taken, and the tables as they are take the blob
abbrev pub LooksAt : Contents Global → ConnectionState → ConnectionState → Done → Type 0
LooksAt blob old new result = (read : Result (SnapshotState Global) (Fault ConnectionFault))
    × TakesSnapshot old new read × Judges blob read result

-- the next step follows, or the fault ends them
abbrev pub Follows : {X : Type 0} → Result X (Fault ConnectionFault) → Type 0 →
    (Fault ConnectionFault → Type 0) → Type 0
Follows (Ok x) next ended = next
Follows (Err why) next ended = ended why

-- a table is created for each name and columns, up to the first that is not
abbrev pub CreatesEach : List (List ℕ × List Bool) → ConnectionState → ConnectionState → Done → Type 0
CreatesEach [] old new result = (new ≡ old) × (result ≡ Ok tt)
CreatesEach (named ∷ others) old new result =
    (mid : ConnectionState) × (first : Result ℕ (Fault ConnectionFault))
    × RunsMade number_in (command.CreateTable named.0 named.1) old mid first
    × Follows first (CreatesEach others mid new result) (λ why. (new ≡ mid) × (result ≡ Err why))

module _ (before after : IterState) (new : ConnectionState) (result : Result Applied (Fault ConnectionFault)) where
  -- it ended here, and the iterator is as it was
  abbrev pub EndsAt : ConnectionState → Fault ConnectionFault → Type 0
  EndsAt mid why = (new ≡ mid) × (after ≡ before) × (result ≡ Err why)

  -- The blob is applied to the tables that were created for it; the first conflict refuses it.
  abbrev pub Fills : ConnectionState → Type 0
  Fills looked = (made : ConnectionState) × (created : Done) × CreatesEach (tables_in before.contents) looked made created
      × Follows created (Applies (always Abort) [] before after made new result) (EndsAt made)

-- The tables as they are take the blob, and then its tables are created and it is applied to them.
abbrev pub Loads : IterState → IterState → ConnectionState → ConnectionState →
    Result Applied (Fault ConnectionFault) → Type 0
Loads before after old new result = (looked : ConnectionState) × (may : Done)
    × LooksAt before.contents old looked may
    × Follows may (Fills before after new result looked) (EndsAt before after new result looked)
