-- What was read of a reader's bytes.
use Rattle.cap_codec.proofs.Common.{◌⊎◌, ◌≡◌, ℕ, zero, suc, ◌+◌, ◌<◌, inl, inr, refl, arith, List, [], ◌++◌, Option, IfSome, Result, Ok, Err, add-one, append-nil, AnswersUnlessMemory, Fault, Refused, OutOfMemory, BlobFault, Contents, blob_at, lasting, IsBlobOf, ReadsOn, EndsReads, read_fault}
use Rattle.std.specs.Io.KnownBytes.{Consumes, IsAtEnd, Keeps}
use Rattle.std.proofs.KnownBytes.{Consumes-nil, Consumes-trans, Consumes-kept, Consumes-whole}
use Rattle.cap_codec.specs.declared.stream.ReadFault.{ReadFault}
use Rattle.cap_codec.specs.declared.stream.ReadFault.TheVariants as read
use Rattle.cap_stream.specs.StreamCalls.{GaveAtMost, ReadsGave}
use Rattle.cap_codec.proofs.Looking.{err_lasts}

module _ (A : Type 0) {R : Type 0} (remaining : R → Option (List ℕ)) (gave failed : R → R → Type 0) where
  abbrev On : ℕ → R → R → List ℕ → Type 0
  On n old new bytes = ReadsOn A remaining gave failed n old new bytes

  abbrev Gave : R → R → List ℕ → Type 0
  Gave old new piece = GaveAtMost remaining gave 4096 old new piece

  fed : (n : ℕ) (old new : R) (bytes : List ℕ) → ReadsGave remaining gave 4096 n old new bytes → Consumes (remaining old) (remaining new) bytes
  fed zero old new bytes (same, none) = rw (none, same) (Consumes-nil (remaining new))
  fed (suc n) old new bytes (before, front, piece, parts, on, last) = rw parts (Consumes-trans (remaining old) (remaining before) (remaining new) front piece (fed n old before front on) last.2)

  -- what was answered is what all the bytes read as
  pub blob_is : (result : Result (Contents A) ReadFault) (old new : R) → EndsReads A remaining gave failed result old new → IfSome (remaining old) (λ given. IsBlobOf result (blob_at given))
  blob_is (Ok blob) old new (n, lt, before, front, piece, on, last, (none, end, read)) =
      Consumes-whole (remaining old) (remaining new) (front ++ piece) (λ given. blob_at given ≡ Ok blob) (fed (suc n) old new (front ++ piece) (before, front, piece, refl, on.0, last)) end (rw (none, append-nil front) read)
  blob_is (Err (read.Blob f)) old new (n, lt, before, front, piece, on, last, given) =
      let all = fed (suc n) old new (front ++ piece) (before, front, piece, refl, on.0, last) in
      elim given [
        | inl lasts ↦ let later = λ (more : List ℕ). err_lasts A (front ++ piece) more f lasts in grind (arith, later, all)
        | inr (none, end, read) ↦ Consumes-whole (remaining old) (remaining new) (front ++ piece) (λ given. blob_at given ≡ Err f) all end (rw (none, append-nil front) read)
      ]
  blob_is (Err fault) old new ends = grind arith

  pub reads_on : (n : ℕ) (old before new : R) (front piece : List ℕ) → On n old before front → Gave before new piece → lasting (blob_at {A = A} (front ++ piece)) ≡ Ok tt
      → On (n + 1) old new (front ++ piece)
  reads_on n old before new front piece on last cut = rw add-one ((before, front, piece, refl, on.0, last), cut)

  pub reads_kept : (n : ℕ) (old before new : R) (front : List ℕ) → On n old before front → gave before new → Keeps (remaining before) (remaining new) → On (n + 1) old new front
  reads_kept n old before new front on went keeps =
      rw append-nil at (reads_on n old before new front [] on (went, omega arith, Consumes-kept (remaining before) (remaining before) (remaining new) [] (Consumes-nil (remaining before)) keeps) (rw append-nil on.1))

  -- the last piece shows a fault, or the whole blob has it, or memory is out
  pub ends_at : (fault : Fault BlobFault) (n : ℕ) (old before new : R) (front piece : List ℕ) → n < 1099511627776 → On n old before front → Gave before new piece → AnswersUnlessMemory {X = Unit {0}} (Err fault) (lasting (blob_at {A = A} (front ++ piece)))
      ⊎ ((piece ≡ []) × IsAtEnd (remaining new) × AnswersUnlessMemory {X = Contents A} (Err fault) (blob_at front)) → EndsReads A remaining gave failed (Err (read_fault fault)) old new
  ends_at (Refused f) n old before new front piece lt on last given = (n, lt, before, front, piece, on, last, given)
  ends_at OutOfMemory n old before new front piece lt on last given = (n, lt, before, front, piece, on, last, tt)
