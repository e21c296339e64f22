-- When a failed write of the output is reported.
use Rattle.std.specs.Prelude.{◌⊎◌, Result, Ok, Err}
use Rattle.cap_stream.specs.StreamCalls.{AllWent}
use Rattle.cap_stream.specs.Writing.{HasFailed}
use Rattle.cap_run.specs.declared.fault.RunFault.{RunFault}
use Rattle.cap_run.specs.declared.fault.RunFault.TheVariants.{Write}

module _ {W : Type 0} (went failed : W → W → Type 0) where
  -- A failed write is reported where the last write or flush failed, and no other, or at the limit of writes.
  -- With every other fault none failed.
  abbrev pub EndsAtWriteFault : RunFault → W → W → Type 0
  EndsAtWriteFault Write old new = HasFailed went failed old new
  EndsAtWriteFault fault old new = AllWent went old new

  -- the same of an outcome; where there is no fault, none failed
  abbrev pub EndsWrites : {X : Type 0} → Result X RunFault → W → W → Type 0
  EndsWrites (Ok x) old new = AllWent went old new
  EndsWrites (Err fault) old new = EndsAtWriteFault fault old new

-- Two writers: at most one of them failed.
module _ {W E : Type 0} (went failed : W → W → Type 0) (e_went e_failed : E → E → Type 0) where
  -- a failed write is reported where one of the writers failed so, and the other did not fail
  abbrev pub EndsBoth : {X : Type 0} → Result X RunFault → W → W → E → E → Type 0
  EndsBoth (Ok x) old new e_old e_new = AllWent went old new × AllWent e_went e_old e_new
  EndsBoth (Err fault) old new e_old e_new =
      (EndsAtWriteFault went failed fault old new × AllWent e_went e_old e_new)
      ⊎ (AllWent went old new × EndsAtWriteFault e_went e_failed fault e_old e_new)
