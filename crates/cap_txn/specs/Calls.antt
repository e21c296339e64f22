-- The calls of a transaction made one after another on a snapshot: their answers, what they look at, and what
-- they leave.
use Rattle.std.specs.Prelude.{◌≡◌, ℕ, Option, Some, None, Result, Ok, Err, List, [], ◌∷◌, ◌++◌}
use Rattle.cap_database.specs.Snapshot.{SnapshotState}
use Rattle.cap_row.specs.Fields.{Fields}
use Rattle.cap_txn.specs.Footprint.{op_items, read_items, with_items}
use Rattle.cap_database.specs.Read.{read, rows_of}
use Rattle.cap_txn.specs.Sound.{Leaves}
use Rattle.cap_database.specs.Tables.{Tables}
use Rattle.cap_txn.specs.Workspace.{WorkspaceState, after_back, after_op, after_savepoint, begin}
use Rattle.cap_txn.specs.declared.answered_call.Answer.{Answer}
use Rattle.cap_txn.specs.declared.answered_call.Answer.TheVariants as answer
use Rattle.cap_txn.specs.declared.answered_call.Asked.{Asked}
use Rattle.cap_txn.specs.declared.answered_call.Asked.TheVariants.{Op, Get, Scan, Savepoint, BackTo}
use Rattle.cap_txn.specs.declared.item.Item.{Item}
use Rattle.cap_txn.specs.declared.item.Item.TheVariants as item
use Rattle.cap_value.specs.declared.refusal.Refusal.{Refusal}
use Rattle.cap_table.specs.declared.row_ref.RowRef.{RowRef}

module _ {A : Type 0} where
  -- ---- one call

  abbrev pub done : Result (WorkspaceState A) Refusal → Answer A
  done (Ok txn) = answer.Done
  done (Err why) = answer.Refused why

  abbrev pub row_answer : Result (Option (Fields A)) Refusal → Answer A
  row_answer (Ok row) = answer.Row row
  row_answer (Err why) = answer.Refused why

  abbrev pub rows_answer : Result (List (RowRef A × Fields A)) Refusal → Answer A
  rows_answer (Ok rows) = answer.Rows rows
  rows_answer (Err why) = answer.Refused why

  abbrev pub mark_answer : ℕ → Result (WorkspaceState A) Refusal → Answer A
  mark_answer made (Ok txn) = answer.Mark (record { number = made })
  mark_answer made (Err why) = answer.Refused why

  -- the answer to a call
  abbrev pub answer_to : WorkspaceState A → Asked A → Answer A
  answer_to txn (Op op) = done (after_op txn op)
  answer_to txn (Get table row) = row_answer (read txn.database table row)
  answer_to txn (Scan table) = rows_answer (rows_of txn.database table)
  answer_to txn Savepoint = mark_answer txn.made (after_savepoint txn)
  answer_to txn (BackTo mark) = done (after_back txn mark.number)

  abbrev pub unless_refused : WorkspaceState A → Result (WorkspaceState A) Refusal → WorkspaceState A
  unless_refused txn (Ok next) = next
  unless_refused txn (Err why) = txn

  -- what stands after a call: where it is refused, and after a read, what stood before it
  abbrev pub after_call : WorkspaceState A → Asked A → WorkspaceState A
  after_call txn (Op op) = unless_refused txn (after_op txn op)
  after_call txn (Get table row) = txn
  after_call txn (Scan table) = txn
  after_call txn Savepoint = unless_refused txn (after_savepoint txn)
  after_call txn (BackTo mark) = unless_refused txn (after_back txn mark.number)

  -- what a call looks at in a database
  abbrev pub items_at : Tables A → Asked A → List (Item A)
  items_at tables (Op op) = op_items tables op
  items_at tables (Get table row) = read_items tables table (item.Row table row)
  items_at tables (Scan table) = read_items tables table (item.Scan table)
  items_at tables Savepoint = []
  items_at tables (BackTo mark) = []

  abbrev pub items_of : WorkspaceState A → Asked A → List (Item A)
  items_of txn call = items_at txn.database call

  -- ---- one after another

  abbrev pub answers_from : WorkspaceState A → List (Asked A) → List (Answer A)
  answers_from txn [] = []
  answers_from txn (call ∷ calls) = answer_to txn call ∷ answers_from (after_call txn call) calls

  abbrev pub items_from : WorkspaceState A → List (Asked A) → List (Item A)
  items_from txn [] = []
  items_from txn (call ∷ calls) = items_of txn call ++ items_from (after_call txn call) calls

  abbrev pub after_calls : WorkspaceState A → List (Asked A) → WorkspaceState A
  after_calls txn [] = txn
  after_calls txn (call ∷ calls) = after_calls (after_call txn call) calls

  -- the answers of the calls, made on a snapshot
  abbrev pub whole : List (Asked A) → SnapshotState A → List (Answer A)
  whole calls snapshot = answers_from (begin snapshot) calls

  -- what they look at there, each item once, in order of first look
  abbrev pub footprint : List (Asked A) → SnapshotState A → List (Item A)
  footprint calls snapshot = with_items [] (items_from (begin snapshot) calls)

  -- what they leave
  abbrev pub left : List (Asked A) → SnapshotState A → WorkspaceState A
  left calls snapshot = after_calls (begin snapshot) calls

  -- made on another snapshot, the calls are answered as they were, and the operations that stood are accepted
  pub record GoesThrough (calls : List (Asked A)) (base now : SnapshotState A) : Type 0 where
    pub answers : whole calls now ≡ whole calls base
    pub accepted : Leaves now.database (left calls base).ops (left calls now).database
