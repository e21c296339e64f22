-- The outcomes of the calls of a reader or a writer: a relation of the states before and after one call.
use Rattle.std.specs.Prelude.{◌≡◌, ℕ, zero, suc, ◌≤◌, List, [], ◌++◌, length, Option, Result, Ok, Err}
use Rattle.std.specs.Io.KnownBytes.{Consumes}
use Rattle.std.specs.IoError.{error_kind}
use Rattle.std.specs.declared.io.Error.{Error}
use Rattle.std.specs.declared.io.ErrorKind.TheVariants.{Interrupted}

-- this many calls, each with this outcome
abbrev pub Calls : {X : Type 0} → (X → X → Type 0) → ℕ → X → X → Type 0
Calls went zero old new = old ≡ new
Calls {X} went (suc n) old new = (before : X) × Calls went n old before × went before new

-- any number of calls, each with this outcome
abbrev pub AllWent : {X : Type 0} → (X → X → Type 0) → X → X → Type 0
AllWent went old new = (n : ℕ) × Calls went n old new

-- the last of some calls failed, and no other
abbrev pub LastFailed : {X : Type 0} → (X → X → Type 0) → (X → X → Type 0) → X → X → Type 0
LastFailed {X} went failed old new = (before : X) × AllWent went old before × failed before new

module _ {R : Type 0} (remaining : R → Option (List ℕ)) (gave : R → R → Type 0) (most : ℕ) where
  -- one read gave these bytes, at most so many; one that was interrupted gave none
  abbrev pub GaveAtMost : R → R → List ℕ → Type 0
  GaveAtMost old new piece =
      gave old new × (length piece ≤ most) × Consumes (remaining old) (remaining new) piece

  -- this many reads gave these bytes one after the other, each at most so many
  abbrev pub ReadsGave : ℕ → R → R → List ℕ → Type 0
  ReadsGave zero old new bytes = (old ≡ new) × (bytes ≡ [])
  ReadsGave (suc n) old new bytes =
      (before : R) × (front : List ℕ) × (piece : List ℕ) × (bytes ≡ front ++ piece)
      × ReadsGave n old before front × GaveAtMost before new piece

-- a read fails where it answers an error other than an interruption
abbrev pub ReportsRead : {X : Type 0} → (X → X → Type 0) → (X → X → Type 0) → Result ℕ Error → X → X → Type 0
ReportsRead gave failed (Ok count) old new = gave old new
ReportsRead gave failed (Err error) old new =
    (error_kind error ≡ Interrupted → gave old new) × ((error_kind error ≡ Interrupted → ⊥) → failed old new)

-- a write of at least one byte fails where it takes none, or answers an error other than an interruption
abbrev pub ReportsWrite : {X : Type 0} → (X → X → Type 0) → (X → X → Type 0) → Result ℕ Error → X → X → Type 0
ReportsWrite went failed (Ok zero) old new = failed old new
ReportsWrite went failed (Ok (suc count)) old new = went old new
ReportsWrite went failed (Err error) old new =
    (error_kind error ≡ Interrupted → went old new) × ((error_kind error ≡ Interrupted → ⊥) → failed old new)

-- a flush fails where it answers an error
abbrev pub ReportsFlush : {X : Type 0} → (X → X → Type 0) → (X → X → Type 0) → Result (Unit {0}) Error → X → X →
    Type 0
ReportsFlush went failed (Ok done) old new = went old new
ReportsFlush went failed (Err error) old new = failed old new
