-- Blobs from readers and to writers.
use Rattle.std.specs.Prelude.{◌≡◌, ◌⊎◌, ℕ, ◌<◌, List, [], ◌++◌, Option, Result, Ok, Err}
use Rattle.std.specs.Io.KnownBytes.{Keeps, IsAtEnd}
use Rattle.cap_value.specs.declared.memory.Fault.{Fault}
use Rattle.cap_value.specs.declared.memory.Fault.TheVariants.{Refused, OutOfMemory}
use Rattle.cap_codec.specs.BlobReading.{blob_at}
use Rattle.cap_codec.specs.Pieces.{lasting}
use Rattle.cap_stream.specs.StreamCalls.{AllWent, GaveAtMost, ReadsGave}
use Rattle.cap_stream.specs.Writing.{AppendsSome, HasFailed}
use Rattle.cap_field.specs.declared.fault.BlobFault.{BlobFault}
use Rattle.cap_codec.specs.declared.read.Contents.{Contents}
use Rattle.cap_codec.specs.declared.stream.ReadFault.{ReadFault}
use Rattle.cap_codec.specs.declared.stream.ReadFault.TheVariants as read
use Rattle.cap_codec.specs.declared.stream.WriteFault.{WriteFault}
use Rattle.cap_codec.specs.declared.stream.WriteFault.TheVariants as written

abbrev pub read_fault : Fault BlobFault → ReadFault
read_fault (Refused fault) = read.Blob fault
read_fault OutOfMemory = read.Memory

-- exactly this reading or this fault, unless a read failed or memory ran out
abbrev pub IsBlobOf : {X : Type 0} → Result X ReadFault → Result X BlobFault → Type 0
IsBlobOf (Ok x) reading = reading ≡ Ok x
IsBlobOf (Err (read.Blob fault)) reading = reading ≡ Err fault
IsBlobOf (Err read.Read) reading = Unit {0}
IsBlobOf (Err read.Memory) reading = Unit {0}

module _ (A : Type 0) {R : Type 0} (remaining : R → Option (List ℕ)) (gave failed : R → R → Type 0) where
  -- this many reads of at most 4,096 bytes gave these bytes, which have no fault but that they may be cut
  abbrev pub ReadsOn : ℕ → R → R → List ℕ → Type 0
  ReadsOn n old new bytes =
      ReadsGave remaining gave 4096 n old new bytes × (lasting (blob_at {A = A} bytes) ≡ Ok tt)

  -- The last read gave nothing, and all the bytes were read.
  abbrev pub IsWhole : R → List ℕ → List ℕ → Result (Contents A) BlobFault → Type 0
  IsWhole new front piece reading =
      (piece ≡ []) × IsAtEnd (remaining new) × (blob_at front ≡ reading)

  -- What the last read gave leads to this answer: the whole blob, the fault that its bytes show or that the
  -- whole blob has, or out of memory.
  abbrev pub LastGave : Result (Contents A) ReadFault → R → List ℕ → List ℕ → Type 0
  LastGave (Ok blob) new front piece = IsWhole new front piece (Ok blob)
  LastGave (Err (read.Blob fault)) new front piece =
      (lasting (blob_at {A = A} (front ++ piece)) ≡ Err fault) ⊎ IsWhole new front piece (Err fault)
  LastGave (Err read.Memory) new front piece = Unit {0}
  LastGave (Err read.Read) new front piece = ⊥

  -- The last of at most 2^40 reads leads to the answer, and none before it: nothing is read behind it.
  abbrev pub AnswersLastRead : Result (Contents A) ReadFault → R → R → Type 0
  AnswersLastRead result old new =
      (n : ℕ) × (n < 1099511627776) × (before : R) × (front : List ℕ) × (piece : List ℕ)
      × ReadsOn n old before front × GaveAtMost remaining gave 4096 before new piece
      × LastGave result new front piece

  -- the last of at most 2^40 reads failed, and no other
  abbrev pub LastReadFailed : R → R → Type 0
  LastReadFailed old new =
      (n : ℕ) × (n < 1099511627776) × (before : R) × (front : List ℕ) × ReadsOn n old before front
      × failed before new

  -- exactly 2^40 reads came neither to the end nor to a fault
  abbrev pub LimitReached : R → R → Type 0
  LimitReached old new =
      (n : ℕ) × (n ≡ 1099511627776) × (front : List ℕ) × ReadsOn n old new front

  -- A failed read is answered where the last read failed, or at the limit of reads; every other answer is
  -- that of the last read, and no read failed.
  abbrev pub EndsReads : Result (Contents A) ReadFault → R → R → Type 0
  EndsReads (Err read.Read) old new = LastReadFailed old new ⊎ LimitReached old new
  EndsReads result old new = AnswersLastRead result old new

-- a failed write is answered where a write failed or their limit was reached, and out of memory where none was
-- made
abbrev pub EndsWrites : {X S : Type 0} → (S → S → Type 0) → (S → S → Type 0) → Result X WriteFault → S → S →
    Type 0
EndsWrites went failed (Err written.Write) old new = HasFailed went failed old new
EndsWrites went failed (Err written.Memory) old new = new ≡ old
EndsWrites went failed (Ok x) old new = AllWent went old new

-- the bytes written where the call failed
abbrev pub WritesFront : WriteFault → Option (List ℕ) → Option (List ℕ) → List ℕ → Type 0
WritesFront written.Write old new bytes = AppendsSome old new bytes
WritesFront written.Memory old new bytes = Keeps old new
