-- The language of lines: what is read behind which word, and what is made of it.
use Rattle.std.specs.Prelude.{ℕ, nat_le, Bool, true, false, ◌==◌, List, [], ◌∷◌, length, Option, Some, None}
use Rattle.std.specs.Prelude.{Result, Ok, Err, codes}
use Rattle.std.specs.Prelude.{if◌then◌else◌}
use Rattle.cap_value.specs.declared.refusal.Refusal.TheVariants.{TooLong, TooMany}
use Rattle.cap_value.specs.declared.value.Value.{Value}
use Rattle.cap_row.specs.Schema.{schema_of}
use Rattle.cap_row.specs.Fields.{Fields}
use Rattle.cap_row.specs.Key.{key_from}
use Rattle.cap_table.specs.declared.row_ref.RowRef.{RowRef}
use Rattle.cap_table.specs.declared.row_ref.RowRef.TheVariants.{Key, Loose}
use Rattle.cap_database.specs.Assigned.{Assigned}
use Rattle.cap_database.specs.declared.cause.Cause.{Cause}
use Rattle.cap_database.specs.declared.cause.Cause.TheVariants.{Direct, Cascade}
use Rattle.cap_database.specs.declared.op.Action.TheVariants.{Insert, Update, Delete}
use Rattle.cap_database.specs.declared.op.Op.{Op}
use Rattle.cap_session.specs.declared.session_change.SessionChange.{SessionChange}
use Rattle.cap_session.specs.declared.session_change.SessionChange.TheVariants as change
use Rattle.cap_codec.specs.BlobReading.{blob_at}
use Rattle.cap_field.specs.declared.fault.BlobFault.{BlobFault}
use Rattle.cap_codec.specs.declared.key_flags.KeyFlags.{KeyFlags}
use Rattle.cap_codec.specs.declared.key_flags.KeyFlags.TheVariants.{Ones, Places}
use Rattle.cap_codec.specs.declared.read.Contents.{Contents}
use Rattle.cap_apply.specs.declared.policy.Answer.{Answer}
use Rattle.cap_apply.specs.declared.policy.Answer.TheVariants.{Omit, Replace, Abort}
use Rattle.cap_apply.specs.declared.policy.Policy.{Policy}
use Rattle.cap_txn.specs.Batch.{BatchState}
use Rattle.cap_txn.specs.declared.answered_call.Asked.TheVariants as asked
use Rattle.cap_core.specs.declared.command.Command.{Command}
use Rattle.cap_core.specs.declared.command.Command.TheVariants as made
use Rattle.cap_core.specs.declared.session_command.SessionCommand.{SessionCommand}
use Rattle.cap_core.specs.declared.session_command.SessionCommand.TheVariants as told
use Rattle.cap_language.specs.Forms.{a_blob, a_word, at_end, either, keyword, name, natural, one_of}
use Rattle.cap_language.specs.Forms.{separated, sign, value}
use Rattle.cap_language.specs.Forms.{values, within, worker, Words}
use Rattle.cap_language.specs.Grammar.{Grammar, done, unfit, exceeds, no_blob, ◌>>=◌, next, where_end}
use Rattle.cap_script.specs.declared.command.Filtering.{Filtering}
use Rattle.cap_script.specs.declared.command.Filtering.TheVariants.{Application, EachConflict, Session}
use Rattle.cap_script.specs.declared.command.Spelled.{Spelled}
use Rattle.cap_script.specs.declared.command.Spelled.TheVariants.{Filter, Whole}
use Rattle.cap_script.specs.declared.line.Detail.{Detail}
use Rattle.cap_script.specs.declared.line.Detail.TheVariants.{Buffer, Counts, Report}
use Rattle.cap_script.specs.declared.line.Line.{Line}
use Rattle.cap_script.specs.declared.line.Show.{Show}
use Rattle.cap_script.specs.declared.line.Show.TheVariants as show
use Rattle.cap_script.specs.declared.step.Step.{Step}
use Rattle.cap_script.specs.declared.step.Step.TheVariants as step

-- ---- columns and flags

abbrev pub key_letter : ℕ → Option Bool
key_letter letter = if letter == 107 then Some true else if letter == 118 then Some false else None

abbrev pub with_flag : Option Bool → Option (List Bool) → Option (List Bool)
with_flag (Some flag) (Some flags) = Some (flag ∷ flags)
with_flag flag flags = None

-- `k` for a key column and `v` for another
abbrev pub flags_in : List ℕ → Option (List Bool)
flags_in [] = Some []
flags_in (letter ∷ letters) = with_flag (key_letter letter) (flags_in letters)

abbrev pub columns : Option (List Bool) → Grammar (List Bool)
columns None = unfit
columns (Some flags) = within (schema_of flags) flags

-- the columns of a table, a letter for each
unfoldable pub schema : Grammar (List Bool)
schema = next a_word (λ w. columns (flags_in w))

-- a flag's new value, or a query for it
unfoldable pub flag : Grammar (Option Bool)
flag = next a_word (one_of (
    (codes "on", done (Some true))
    ∷ (codes "off", done (Some false))
    ∷ (codes "ask", done None)
    ∷ []))

-- the key flags: nothing for `01`, or a word for places
unfoldable pub key_flags : Grammar KeyFlags
key_flags = where_end (done Ones) (keyword (codes "places") >>= λ _. done Places)

-- a session's number, and a flag's new value or a query for it
unfoldable pub session_flag : Grammar (ℕ × Option Bool)
session_flag = do session ← natural; asked ← flag; done (session, asked)

-- a session's number, and the key flags
unfoldable pub session_key_flags : Grammar (ℕ × KeyFlags)
session_key_flags = do session ← natural; flags ← key_flags; done (session, flags)

-- the numbers of sessions
unfoldable pub numbers : Grammar (List ℕ)
numbers = separated 44 (λ _. natural)

-- the answer to a conflict
unfoldable pub answer : Grammar Answer
answer = next a_word (one_of (
    (codes "omit", done Omit)
    ∷ (codes "replace", done Replace)
    ∷ (codes "abort", done Abort)
    ∷ []))

-- the answers to DATA, NOTFOUND and CONFLICT
unfoldable pub policy : Grammar Policy
policy = do
  data_answer ← answer
  notfound_answer ← answer
  conflict_answer ← answer
  done (record { on_data = data_answer; on_notfound = notfound_answer; on_conflict = conflict_answer })

-- the line's end, or a word behind which the line is the text of a filter: whether there is one
unfoldable pub filter_behind : Detail → Grammar (Detail × Bool)
filter_behind detail =
    where_end (done (detail, false)) (do _ ← keyword (codes "filter"); done (detail, true))

-- How much of the outcome of an apply is printed: nothing for its counts, or a word for its conflicts or its
-- buffer too. A filter may follow.
unfoldable pub report : Grammar (Detail × Bool)
report = where_end (done (Counts, false)) (next a_word (one_of (
    (codes "report", filter_behind Report)
    ∷ (codes "buffer", filter_behind Buffer)
    ∷ (codes "filter", done (Counts, true))
    ∷ [])))

module _ {A : Type 0} where
  -- ---- operations

  abbrev pub row_of : Option (Fields A) → RowRef A
  row_of (Some key) = Key key
  row_of None = Loose 0

  -- A key, or an id. A key with a NULL is the id 0, which no row has.
  unfoldable pub row : Grammar (RowRef A)
  row = next a_word (one_of (
      (codes "key", values >>= λ fields. done (row_of (key_from fields)))
      ∷ (codes "loose", natural >>= λ id. done (Loose id))
      ∷ []))

  -- a column and its new value
  unfoldable pub field : Grammar (ℕ × Value A)
  field = do
    column ← natural
    _ ← sign 61
    value ← value
    done (column, value)

  unfoldable pub fields : Grammar (Assigned A)
  fields = do
    _ ← keyword (codes "set")
    separated 44 (λ _. field)

  unfoldable pub insert : Cause → Grammar (Op A)
  insert cause = do
    table ← name
    row ← values
    done (record { table = table; cause = cause; action = Insert row })

  unfoldable pub update : Cause → Grammar (Op A)
  update cause = do
    table ← name
    row ← row
    fields ← fields
    done (record { table = table; cause = cause; action = Update row fields })

  unfoldable pub delete : Cause → Grammar (Op A)
  delete cause = do
    table ← name
    row ← row
    done (record { table = table; cause = cause; action = Delete row })

  -- where there is no room for it, an operation exceeds the limit
  abbrev pub where_room : Bool → Grammar (Op A) → Grammar (Op A)
  where_room is_full grammar = either is_full (exceeds TooMany grammar) grammar

  -- the operation behind the word `cascade`: a change by a trigger or a foreign key action
  unfoldable pub cascaded : Grammar (Op A)
  cascaded = next a_word (one_of (
      (codes "insert", insert Cascade)
      ∷ (codes "update", update Cascade)
      ∷ (codes "delete", delete Cascade)
      ∷ []))

  unfoldable pub operation : Bool → Grammar (Op A)
  operation is_full = next a_word (one_of (
      (codes "insert", where_room is_full (insert Direct))
      ∷ (codes "update", where_room is_full (update Direct))
      ∷ (codes "delete", where_room is_full (delete Direct))
      ∷ (codes "cascade", where_room is_full cascaded)
      ∷ []))

  -- the operation with this number, from 0; there is no room for a 10,001st
  abbrev pub nth_operation : ℕ → Grammar (Op A)
  nth_operation i = operation (nat_le 10000 i)

  -- one operation or more
  unfoldable pub operations : Grammar (List (Op A))
  operations = separated 59 nth_operation

  -- ---- commands

  abbrev pub contents_of : Result (Contents A) BlobFault → Grammar (Contents A)
  contents_of (Ok contents) = done contents
  contents_of (Err why) = no_blob why

  -- the bytes of a changeset or a patchset, at most 1,000,000,000
  unfoldable pub contents : Grammar (Contents A)
  contents = next a_blob (λ bytes.
      either (nat_le (length bytes) 1000000000) (contents_of (blob_at bytes)) (exceeds TooLong unfit))

  -- a command whose reply is printed alone
  abbrev pub plain : Command A → Grammar (Spelled A)
  plain command = done (Whole command show.Plain)

  -- without or with a base version
  unfoldable pub batch : Option ℕ → Grammar (BatchState A)
  batch base = do ops ← operations; done (record { base = base; ops = ops; reads = None })

  unfoldable pub create : Grammar (Spelled A)
  create = do table ← name; schema ← schema; plain (made.CreateTable table schema)

  unfoldable pub commit : Grammar (Spelled A)
  commit = do batch ← batch None; plain (made.Commit batch)

  unfoldable pub commit_at : Grammar (Spelled A)
  commit_at = do base ← natural; batch ← batch (Some base); plain (made.Commit batch)

  abbrev pub show_of : Detail → Show A
  show_of Counts = show.Plain
  show_of Report = show.Report
  show_of Buffer = show.Buffer

  -- an application to all tables, or to those that a filter accepts
  abbrev pub application : Contents A → Policy → List ℕ → Detail × Bool → Spelled A
  application contents policy quiet (detail, false) =
      Whole (made.Apply contents policy quiet) (show_of detail)
  application contents policy quiet (detail, true) = Filter (Application contents policy quiet detail)

  -- an application that leaves these sessions as they are
  unfoldable pub applying : List ℕ → Grammar (Spelled A)
  applying quiet = do
    contents ← contents
    policy ← policy
    detail ← report
    done (application contents policy quiet detail)

  unfoldable pub apply_quiet : Grammar (Spelled A)
  apply_quiet = do quiet ← numbers; applying quiet

  unfoldable pub get : Grammar (Spelled A)
  get = do table ← name; row ← row; done (Whole made.Read (show.Get table row))

  unfoldable pub scan : Grammar (Spelled A)
  scan = do table ← name; done (Whole made.Read (show.Scan table))

  unfoldable pub save : Grammar (Spelled A)
  save = do database ← name; plain (made.SaveAs database)

  unfoldable pub drop_database : Grammar (Spelled A)
  drop_database = do database ← name; plain (made.DropDatabase database)

  unfoldable pub attach : Grammar (Spelled A)
  attach = do session ← natural; table ← name; plain (made.Session session (told.Attach table))

  unfoldable pub diff : Grammar (Spelled A)
  diff = do session ← natural; from ← name; table ← name; plain (made.Session session (told.Diff from table))

  unfoldable pub dump : Grammar (Spelled A)
  dump = do flags ← key_flags; done (Whole made.Dump (show.Changeset flags))

  -- ---- steps of a transaction over several lines

  -- Where no transaction can be open, its line only reads.
  abbrev pub spelled_step : Step A → Spelled A
  spelled_step taken = Whole made.Read (show.Step taken)

  -- the open transaction makes this operation
  abbrev pub called : Grammar (Op A) → Grammar (Spelled A)
  called operation = operation >>= λ op. done (spelled_step (step.Call (asked.Op op)))

  -- how far back: all of it, or to a savepoint by its number
  unfoldable pub back : Grammar (Step A)
  back = where_end (done step.Rollback) (do
    _ ← keyword (codes "to")
    number ← natural
    done (step.Call (asked.BackTo (record { number = number }))))

  unfoldable pub rollback : Grammar (Spelled A)
  rollback = do taken ← back; done (spelled_step taken)

  -- ---- steps of an application that stops at each conflict

  -- to all tables, or to those that a filter accepts
  abbrev pub each_conflict : Contents A → Detail × Bool → Spelled A
  each_conflict contents (detail, false) = spelled_step (step.ApplyEach contents None)
  each_conflict contents (detail, true) = Filter (EachConflict contents)

  unfoldable pub apply_each : Grammar (Spelled A)
  apply_each = do
    contents ← contents
    behind ← filter_behind Counts
    done (each_conflict contents behind)

  -- a row that stands in place of a change
  unfoldable pub put : Grammar (Spelled A)
  put = do row ← values; done (spelled_step (step.Put row))

  -- ---- words

  -- the commands that set or query a flag of a session
  abbrev pub flagged : List (List ℕ × (Option Bool → SessionChange A))
  flagged = (codes "enable", change.Enable) ∷ (codes "indirect", change.Indirect) ∷ []

  -- the commands that capture a session, and how its changes are printed
  abbrev pub captured : List (List ℕ × (SessionCommand A × (KeyFlags → Show A)))
  captured =
      (codes "changeset", (told.Capture, show.Changeset))
      ∷ (codes "patchset", (told.Capture, show.Patchset))
      ∷ (codes "restart", (told.Change change.Restart, show.Changeset))
      ∷ []

  -- the commands that are a word and the number of a session
  abbrev pub numbered : List (List ℕ × (ℕ → Spelled A))
  numbered =
      (codes "drop", λ session. Whole (made.Session session told.Delete) show.Plain)
      ∷ (codes "attachall", λ session. Whole (made.Session session (told.Change change.AttachAll)) show.Plain)
      ∷ (codes "filter", λ session. Filter (Session session))
      ∷ (codes "isempty", λ session. Whole (made.Session session told.IsEmpty) show.Plain)
      ∷ []

  -- the commands that are a word alone
  abbrev pub alone : List (List ℕ × Spelled A)
  alone =
      (codes "session", Whole made.NewSession show.Plain)
      ∷ (codes "sessions", Whole made.Sessions show.Plain)
      ∷ (codes "databases", Whole made.Databases show.Plain)
      ∷ (codes "tables", Whole made.Tables show.Plain)
      ∷ (codes "begin", spelled_step step.Begin)
      ∷ (codes "savepoint", spelled_step (step.Call asked.Savepoint))
      ∷ (codes "end", spelled_step step.End)
      ∷ (codes "omit", spelled_step (step.Answer Omit))
      ∷ (codes "replace", spelled_step (step.Answer Replace))
      ∷ (codes "abort", spelled_step (step.Answer Abort))
      ∷ []

  abbrev pub setting : (Option Bool → SessionChange A) → Grammar (Spelled A)
  setting change_to =
      session_flag >>= λ (session, asked). plain (made.Session session (told.Change (change_to asked)))

  abbrev pub capturing : SessionCommand A × (KeyFlags → Show A) → Grammar (Spelled A)
  capturing (command, shown) =
      session_key_flags >>= λ (session, flags). done (Whole (made.Session session command) (shown flags))

  abbrev pub numbering : (ℕ → Spelled A) → Grammar (Spelled A)
  numbering of_session = natural >>= λ session. done (of_session session)

  -- these words, and what is read behind each, before other words
  abbrev pub with_words : {X : Type 0} → (X → Grammar (Spelled A)) → List (List ℕ × X) → Words (Spelled A)
      → Words (Spelled A)
  with_words grammar [] others = others
  with_words grammar ((word, x) ∷ words) others = (word, grammar x) ∷ with_words grammar words others

  -- the words from `dump` on
  abbrev pub from_dump : Words (Spelled A)
  from_dump =
      (codes "dump", dump)
      ∷ (codes "insert", called (insert Direct))
      ∷ (codes "update", called (update Direct))
      ∷ (codes "delete", called (delete Direct))
      ∷ (codes "cascade", called cascaded)
      ∷ (codes "rollback", rollback)
      ∷ (codes "put", put)
      ∷ with_words numbering numbered (with_words done alone [])

  -- the words from `diff` on
  abbrev pub from_diff : Words (Spelled A)
  from_diff = (codes "diff", diff) ∷ with_words capturing captured from_dump

  -- each command by its first word
  abbrev pub commands : Words (Spelled A)
  commands =
      (codes "create", create)
      ∷ (codes "commit", commit)
      ∷ (codes "commitat", commit_at)
      ∷ (codes "apply", applying [])
      ∷ (codes "applyquiet", apply_quiet)
      ∷ (codes "applyeach", apply_each)
      ∷ (codes "get", get)
      ∷ (codes "scan", scan)
      ∷ (codes "save", save)
      ∷ (codes "dropdatabase", drop_database)
      ∷ (codes "attach", attach)
      ∷ with_words setting flagged from_diff

  unfoldable pub command : Grammar (Spelled A)
  command = next a_word (one_of commands)

-- a line up to its end, or up to the text of a filter for this, which goes to the line's end
pub data Opening (A : Type 0) : Type 0 where
  Ended : Line A → Opening A
  Filtered : Option ℕ → Filtering A → Opening A

module _ {A : Type 0} where
  -- behind a whole command spaces to the line's end
  abbrev pub ending : Option ℕ → Spelled A → Grammar (Opening A)
  ending worker (Whole command show) =
      at_end >>= λ _. done (Ended (record { worker = worker; command = command; show = show }))
  ending worker (Filter what) = done (Filtered worker what)

  -- the worker and the command
  unfoldable pub opening : Grammar (Opening A)
  opening = worker >>= λ worker. command >>= λ spelled. ending worker spelled
