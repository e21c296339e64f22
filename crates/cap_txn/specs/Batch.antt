-- A batch: operations, the version that they were made on, if any, and what their transaction saw, if one
-- made it.
use Rattle.std.specs.Prelude.{ℕ, ⊤, Option, Some, None, Result, Ok, Err, List, [], ◌∷◌, ◌++◌, length, nat_lt}
use Rattle.std.specs.Prelude.{if◌then◌else◌}
use Rattle.cap_value.specs.declared.refusal.Refusal.{Refusal}
use Rattle.cap_value.specs.declared.refusal.Refusal.TheVariants.{TooMany}
use Rattle.cap_database.specs.declared.op.Op.{Op}
use Rattle.cap_txn.specs.ReadSet.{ReadSetState}
use Rattle.cap_txn.specs.declared.item.Item.{Item}
use Rattle.cap_txn.specs.declared.answered_call.AnsweredCall.{AnsweredCall}

pub record BatchState (A : Type 0) : Type 0 where
  pub base : Option ℕ
  pub ops : List (Op A)
  pub reads : Option (ReadSetState A)

module _ {A : Type 0} where
  -- at most 10,000 operations
  abbrev pub refused_push : List (Op A) → Option Refusal
  refused_push ops = if nat_lt (length ops) 10000 then None else Some TooMany

  abbrev pub pushed : Option Refusal → BatchState A → Op A → Result (BatchState A) Refusal
  pushed None batch op = Ok (record { base = batch.base; ops = batch.ops ++ op ∷ []; reads = None })
  pushed (Some why) batch op = Err why

  -- The operation last. What a transaction saw is dropped: the batch is no longer the transaction's.
  abbrev pub push : BatchState A → Op A → Result (BatchState A) Refusal
  push batch op = pushed (refused_push batch.ops) batch op

  -- what was looked at, and nothing in a batch that no transaction made
  abbrev pub footprint_of : Option (ReadSetState A) → List (Item A)
  footprint_of None = []
  footprint_of (Some reads) = reads.footprint

  -- the calls with their answers, and none in a batch that no transaction made
  abbrev pub trace_of : Option (ReadSetState A) → List (AnsweredCall A)
  trace_of None = []
  trace_of (Some reads) = reads.trace

  -- where a transaction made the batch, this is so of the version that it began with and of what it saw
  abbrev pub WhereRead : Option ℕ → Option (ReadSetState A) → (ℕ → ReadSetState A → Type 0) → Type 0
  WhereRead base None P = ⊤
  WhereRead None (Some reads) P = ⊥
  WhereRead (Some base) (Some reads) P = P base reads
