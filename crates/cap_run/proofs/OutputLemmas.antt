-- What is known of the writes of a run's output.
use Rattle.std.proofs.Common.{◌≡◌, ℕ, zero, suc, ◌+◌, add-one, List, [], Option, Result, Ok, Err, IfErr, append-nil, inl, inr, refl, subst, sym, arith}
use Rattle.std.specs.Io.KnownBytes.{Appends, Keeps}
use Rattle.std.proofs.KnownBytes.{Appends-kept}
use Rattle.cap_stream.specs.StreamCalls.{AllWent}
use Rattle.cap_stream.proofs.CallLemmas.{failed_later, went_on}
use Rattle.cap_run.specs.Run.{Ended, run_outcome}
use Rattle.cap_stream.specs.Writing.{AppendsFront}
use Rattle.cap_run.specs.Code.Calls.{unclosed_outcome}
use Rattle.cap_run.specs.RunFault.{RunsNothing}
use Rattle.cap_run.specs.Writes.{EndsAtWriteFault, EndsWrites}
use Rattle.cap_run.specs.declared.fault.RunFault.{RunFault}
use Rattle.cap_run.specs.declared.fault.RunFault.TheVariants.{BlobList, Blob, Call, Close, NotHex, NotUtf8, OutOfMemory, Patchset, Read, Script, Write}

-- all of the bytes was written before the flush failed
pub flush_failed : {X : Type 0} (result : Result X RunFault) (a b c : Option (List ℕ)) (bytes : List ℕ) → IfErr result (λ fault. fault ≡ Write) → Appends a b bytes → Keeps b c
    → IfErr result (λ fault. (fault ≡ Write) × AppendsFront a c bytes)
flush_failed (Ok x) a b c bytes is wrote kept = tt
flush_failed (Err fault) a b c bytes is wrote kept = (is, (bytes, [], sym (append-nil bytes), Appends-kept a b c bytes wrote kept))

module _ {W : Type 0} (went failed : W → W → Type 0) where
  -- ---- how the writes ended, after calls without a failure

  pub fault_later : (fault : RunFault) (a b c : W) → AllWent went a b → EndsAtWriteFault went failed fault b c → EndsAtWriteFault went failed fault a c
  fault_later (Script fault) a b c some so = went_on went failed a b c some so
  fault_later NotUtf8 a b c some so = went_on went failed a b c some so
  fault_later NotHex a b c some so = went_on went failed a b c some so
  fault_later (Blob fault) a b c some so = went_on went failed a b c some so
  fault_later Patchset a b c some so = went_on went failed a b c some so
  fault_later (BlobList fault) a b c some so = went_on went failed a b c some so
  fault_later (Call fault) a b c some so = went_on went failed a b c some so
  fault_later Read a b c some so = went_on went failed a b c some so
  fault_later Write a b c some so = failed_later went failed a b c some so
  fault_later OutOfMemory a b c some so = went_on went failed a b c some so
  fault_later Close a b c some so = went_on went failed a b c some so

  pub writes_later : {X : Type 0} (result : Result X RunFault) (a b c : W) → AllWent went a b → EndsWrites went failed result b c → EndsWrites went failed result a c
  writes_later (Ok x) a b c some so = went_on went failed a b c some so
  writes_later (Err fault) a b c some so = fault_later fault a b c some so

  -- the fault is that of a write
  pub write_fault : (fault : RunFault) (a b : W) → fault ≡ Write → EndsAtWriteFault went failed fault a b → EndsAtWriteFault went failed Write a b
  write_fault fault a b is so = subst (λ (f : RunFault). EndsAtWriteFault went failed f a b) is so

  -- the lines ended without a failed write
  pub ended_reported : (ended : Ended) (a b : W) → AllWent went a b → EndsWrites went failed (run_outcome ended) a b
  ended_reported (Ok done) a b so = so
  ended_reported (Err fault) a b so = so

  -- the server was not closed
  pub unclosed_reported : (outcome : Result (Unit {0}) RunFault) (a b : W) → EndsWrites went failed outcome a b → EndsWrites went failed (unclosed_outcome outcome) a b
  unclosed_reported (Ok done) a b so = so
  unclosed_reported (Err fault) a b so = so

  -- nothing was run
  pub none_reported : (fault : RunFault) (a : W) → RunsNothing fault → EndsAtWriteFault went failed fault a a
  none_reported (Script fault) a early = (0, refl)
  none_reported NotUtf8 a early = (0, refl)
  none_reported NotHex a early = (0, refl)
  none_reported (Blob fault) a early = (0, refl)
  none_reported Patchset a early = (0, refl)
  none_reported (BlobList fault) a early = (0, refl)
  none_reported (Call fault) a early = absurd early
  none_reported Read a early = (0, refl)
  none_reported Write a early = absurd early
  none_reported OutOfMemory a early = (0, refl)
  none_reported Close a early = absurd early
