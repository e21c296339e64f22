-- When a failed read is reported.
use Rattle.std.specs.Prelude.{◌≡◌, ◌⊎◌, ℕ, Result, Ok, Err}
use Rattle.cap_stream.specs.StreamCalls.{AllWent, Calls, LastFailed}
use Rattle.cap_run.specs.declared.fault.RunFault.{RunFault}
use Rattle.cap_run.specs.declared.fault.RunFault.TheVariants.{Read}
use Rattle.cap_run.specs.RunFault.{IsUnread}

module _ {R : Type 0} (gave failed : R → R → Type 0) where
  -- 2^40 reads came to no end
  abbrev pub LimitReached : R → R → Type 0
  LimitReached old new = (n : ℕ) × (n ≡ 1099511627776) × Calls gave n old new

  -- A failed read is reported where the last read failed, and no other, or at the limit of reads. With every
  -- other fault no read failed.
  abbrev pub EndsAtFault : RunFault → R → R → Type 0
  EndsAtFault Read old new = LastFailed gave failed old new ⊎ LimitReached old new
  EndsAtFault fault old new = AllWent gave old new

  -- the same of an outcome; where there is no fault, no read failed
  abbrev pub EndsReads : {X : Type 0} → Result X RunFault → R → R → Type 0
  EndsReads (Ok x) old new = AllWent gave old new
  EndsReads (Err fault) old new = EndsAtFault fault old new

-- the answer is what the call gave, seen by `view`, or its fault, unless the input was not read to its end
abbrev pub ShowsUnlessUnread : {X Y : Type 0} → (X → Y) → Result X RunFault → Result Y RunFault → Type 0
ShowsUnlessUnread view (Ok x) answer = answer ≡ Ok (view x)
ShowsUnlessUnread view (Err fault) answer = IsUnread fault ⊎ (answer ≡ Err fault)
