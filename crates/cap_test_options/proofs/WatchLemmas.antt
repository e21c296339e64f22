-- What a run reports of a stream that keeps whether a call of its failed.
use Rattle.std.proofs.Common.{◌≡◌, ◌∙◌, ℕ, zero, suc, Bool, true, false, Result, Ok, Err, ap, inl, inr, refl, sym}
use Rattle.cap_stream.specs.StreamCalls.{AllWent, Calls}
use Rattle.cap_run.specs.Reads.{EndsReads}
use Rattle.cap_run.specs.Writes.{EndsBoth, EndsWrites}
use Rattle.cap_run.specs.declared.fault.RunFault.{RunFault}
use Rattle.cap_run.specs.declared.fault.RunFault.TheVariants.{Blob, Call, Close, BlobList, NotHex, NotUtf8, OutOfMemory, Patchset, Read, Script, Write}

module _ {S : Type 0} (has_failed : S → Bool) where
  -- a call that did not fail
  abbrev pub Stays : S → S → Type 0
  Stays old new = has_failed new ≡ has_failed old

  abbrev pub Fails : S → S → Type 0
  Fails old new = has_failed new ≡ true

  stays : (n : ℕ) (a b : S) → Calls Stays n a b → Stays a b
  stays zero a b same = ap has_failed (sym same)
  stays (suc n) a b (before, calls, last) = last ∙ stays n a before calls

  none_failed : {P : Type 0} (a b : S) → AllWent Stays a b → has_failed a ≡ false → has_failed b ≡ true → P
  none_failed a b (n, calls) fresh failed =
      let same : true ≡ false = sym failed ∙ stays n a b calls ∙ fresh in
      absurd (cc same)

  pub read_reported : {X : Type 0} (result : Result X RunFault) (a b : S) → EndsReads Stays Fails result a b → has_failed a ≡ false → has_failed b ≡ true → result ≡ Err Read
  read_reported (Ok x) a b so fresh failed = none_failed a b so fresh failed
  read_reported (Err (Script fault)) a b so fresh failed = none_failed a b so fresh failed
  read_reported (Err NotUtf8) a b so fresh failed = none_failed a b so fresh failed
  read_reported (Err NotHex) a b so fresh failed = none_failed a b so fresh failed
  read_reported (Err (Blob fault)) a b so fresh failed = none_failed a b so fresh failed
  read_reported (Err Patchset) a b so fresh failed = none_failed a b so fresh failed
  read_reported (Err (BlobList fault)) a b so fresh failed = none_failed a b so fresh failed
  read_reported (Err (Call fault)) a b so fresh failed = none_failed a b so fresh failed
  read_reported (Err Read) a b so fresh failed = refl
  read_reported (Err Write) a b so fresh failed = none_failed a b so fresh failed
  read_reported (Err OutOfMemory) a b so fresh failed = none_failed a b so fresh failed
  read_reported (Err Close) a b so fresh failed = none_failed a b so fresh failed

  pub write_reported : {X : Type 0} (result : Result X RunFault) (a b : S) → EndsWrites Stays Fails result a b → has_failed a ≡ false → has_failed b ≡ true → result ≡ Err Write
  write_reported (Ok x) a b so fresh failed = none_failed a b so fresh failed
  write_reported (Err (Script fault)) a b so fresh failed = none_failed a b so fresh failed
  write_reported (Err NotUtf8) a b so fresh failed = none_failed a b so fresh failed
  write_reported (Err NotHex) a b so fresh failed = none_failed a b so fresh failed
  write_reported (Err (Blob fault)) a b so fresh failed = none_failed a b so fresh failed
  write_reported (Err Patchset) a b so fresh failed = none_failed a b so fresh failed
  write_reported (Err (BlobList fault)) a b so fresh failed = none_failed a b so fresh failed
  write_reported (Err (Call fault)) a b so fresh failed = none_failed a b so fresh failed
  write_reported (Err Read) a b so fresh failed = none_failed a b so fresh failed
  write_reported (Err Write) a b so fresh failed = refl
  write_reported (Err OutOfMemory) a b so fresh failed = none_failed a b so fresh failed
  write_reported (Err Close) a b so fresh failed = none_failed a b so fresh failed

-- ---- two writers

pub first_reported : {S T X : Type 0} (s : S → Bool) (t : T → Bool) (result : Result X RunFault) (a b : S) (x y : T) → EndsBoth (Stays s) (Fails s) (Stays t) (Fails t) result a b x y → s a ≡ false → s b ≡ true → result ≡ Err Write
first_reported s t (Ok v) a b x y so fresh failed = none_failed s a b so.0 fresh failed
first_reported s t (Err fault) a b x y (inl so) fresh failed = write_reported s (Err fault) a b so.0 fresh failed
first_reported s t (Err fault) a b x y (inr so) fresh failed = none_failed s a b so.0 fresh failed

pub second_reported : {S T X : Type 0} (s : S → Bool) (t : T → Bool) (result : Result X RunFault) (a b : S) (x y : T) → EndsBoth (Stays s) (Fails s) (Stays t) (Fails t) result a b x y → t x ≡ false → t y ≡ true → result ≡ Err Write
second_reported s t (Ok v) a b x y so fresh failed = none_failed t x y so.1 fresh failed
second_reported s t (Err fault) a b x y (inl so) fresh failed = none_failed t x y so.1 fresh failed
second_reported s t (Err fault) a b x y (inr so) fresh failed = write_reported t (Err fault) x y so.1 fresh failed
