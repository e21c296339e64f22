-- Whether a batch is out of date.
use Rattle.std.specs.Prelude.{◌≡◌, ℕ, Option, Some, None, List, nat_eq, if◌then◌else◌}
use Rattle.std.specs.Option.{option_map}
use Rattle.cap_value.specs.declared.refusal.Refusal.{Refusal}
use Rattle.cap_value.specs.declared.refusal.Refusal.TheVariants.{Stale}
use Rattle.cap_database.specs.Snapshot.{SnapshotState}
use Rattle.cap_database.specs.Tables.{EachRises}
use Rattle.cap_database.specs.declared.op.Op.{Op}
use Rattle.cap_txn.specs.Calls.{footprint, left, whole}
use Rattle.cap_txn.specs.Footprint.{IsFirstChanged, Unchanged, first_changed}
use Rattle.cap_txn.specs.ReadSet.{ReadSetState}
use Rattle.cap_txn.specs.Sound.{Leaves}
use Rattle.cap_txn.specs.Transaction.{answers_of, calls_of}

module _ {A : Type 0} where
  -- Why a batch is refused on a snapshot, if it is: an item of its footprint has changed, or where its base
  -- is a number alone, the version.
  abbrev pub stale : Option ℕ → Option (ReadSetState A) → SnapshotState A → Option Refusal
  stale None reads now = None
  stale (Some base) None now =
      if nat_eq base now.version then None else Some (Stale base now.version None)
  stale (Some base) (Some reads) now =
      option_map (λ item. Stale base now.version (Some item))
      (first_changed reads.database now.database reads.footprint)

  -- the snapshot that a batch was made on
  abbrev pub base_of : ℕ → ReadSetState A → SnapshotState A
  base_of version reads = record { version = version; database = reads.database }

  -- A batch of these operations is a transaction's: they are what stands after its calls on its base, with
  -- their answers and footprint.
  pub record AreOpsOf (made : List (Op A)) (base : ℕ) (reads : ReadSetState A) : Type 0 where
    pub rises : EachRises reads.database
    pub ops : made ≡ (left (calls_of reads.trace) (base_of base reads)).ops
    pub answers : answers_of reads.trace ≡ whole (calls_of reads.trace) (base_of base reads)
    pub items : reads.footprint ≡ footprint (calls_of reads.trace) (base_of base reads)

  -- What becomes of a transaction's batch on a snapshot. Where its footprint has not changed, it is not out
  -- of date, its operations are accepted, and its calls are answered there as they were. Else the refusal
  -- names the first item that has changed.
  pub record IsJudged (made : List (Op A)) (now : SnapshotState A) (base : ℕ) (reads : ReadSetState A)
      : Type 0 where
    pub fresh : Unchanged reads.database now.database reads.footprint
        → stale (Some base) (Some reads) now ≡ None
    pub accepted : stale (Some base) (Some reads) now ≡ None
        → Unchanged reads.database now.database reads.footprint
        × (answers_of reads.trace ≡ whole (calls_of reads.trace) now)
        × Leaves now.database made (left (calls_of reads.trace) now).database
    pub refused : (why : Refusal) → stale (Some base) (Some reads) now ≡ Some why
        → (item : ℕ) × (why ≡ Stale base now.version (Some item))
        × IsFirstChanged reads.database now.database reads.footprint item
