-- What becomes of a transaction's batch where it is committed.
use Rattle.std.specs.Prelude.{◌≡◌, ◌⊎◌, ℕ, ◌+◌, Some, None}
use Rattle.cap_value.specs.declared.refusal.Refusal.TheVariants.{Stale}
use Rattle.cap_database.specs.Snapshot.{SnapshotState}
use Rattle.cap_txn.specs.Calls.{whole}
use Rattle.cap_txn.specs.Footprint.{IsFirstChanged, Unchanged}
use Rattle.cap_txn.specs.ReadSet.{ReadSetState}
use Rattle.cap_txn.specs.Transaction.{answers_of, calls_of}
use Rattle.cap_core.specs.declared.reply.Reply.{Reply}
use Rattle.cap_core.specs.declared.reply.Reply.TheVariants.{Refused, Written}

module _ {A : Type 0} where
  -- Nothing that the transaction looked at has changed. The batch is accepted, and the transaction's calls,
  -- made whole now, are answered as they were.
  pub record IsCommitted (now : SnapshotState A) (reads : ReadSetState A) (reply : Reply A) : Type 0 where
    pub same : Unchanged reads.database now.database reads.footprint
    pub answers : answers_of reads.trace ≡ whole (calls_of reads.trace) now
    pub written : reply ≡ Written (now.version + 1)

  -- Something that it looked at has changed. The refusal names the first item that has.
  pub record IsOutOfDate (now : SnapshotState A) (base : ℕ) (reads : ReadSetState A) (reply : Reply A)
      : Type 0 where
    pub item : ℕ
    pub changed : IsFirstChanged reads.database now.database reads.footprint item
    pub refused : reply ≡ Refused None (Stale base now.version (Some item))

  -- one of the two
  abbrev pub CommitsIfUnchanged : SnapshotState A → Reply A → ℕ → ReadSetState A → Type 0
  CommitsIfUnchanged now reply base reads = IsCommitted now reads reply ⊎ IsOutOfDate now base reads reply
