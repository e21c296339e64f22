-- What a call leaves behind a handle.
use Rattle.std.specs.Prelude.{◌≡◌, ℕ, Option, Some, None, Result, Ok}
use Rattle.cap_field.specs.declared.fault.BlobFault.{BlobFault}
use Rattle.cap_c.specs.Outputs.{Checks}
use Rattle.cap_c.specs.declared.fault.PlacedFault.{PlacedFault}
use Rattle.cap_c.specs.declared.status.TheConstants.{NOMEM, OK}

module _ {X : Type 0} where
  -- both handles are open, and this holds of what they have
  abbrev pub Between : Option X → Option X → (X → X → Type 0) → Type 0
  Between (Some old) (Some new) holds = holds old new
  Between _ _ holds = ⊥

  -- an open handle has what it had, and this holds of it
  abbrev pub Keeps : Option X → Option X → (X → Type 0) → Type 0
  Keeps old new holds = Between old new (λ had has. (has ≡ had) × holds had)

  -- a closed handle is opened on a value of which this holds, or stays closed where memory runs out
  abbrev pub OpensAs : (X → Type 0) → ℕ → Option X → Type 0
  OpensAs holds status (Some has) = (status ≡ OK) × holds has
  OpensAs holds status None = status ≡ NOMEM

  -- the same of this value
  abbrev pub OpensOn : X → ℕ → Option X → Type 0
  OpensOn value status has = OpensAs (λ it. it ≡ value) status has

  -- a closed handle is opened on what bytes spell, or stays closed
  pub record Opens (read : Result X BlobFault) (status : ℕ) (value : Option X) (old fault : PlacedFault)
      : Type 0 where
    pub checked : Checks read status old fault
    pub opened : status ≡ OK → (x : X) × (read ≡ Ok x) × (value ≡ Some x)
    pub closed : ¬ (status ≡ OK) → value ≡ None

module _ {X Y : Type 0} where
  -- two handles are open before and after, and this holds of what they have
  abbrev pub BetweenBoth : Option X → Option X → Option Y → Option Y → (X → X → Y → Y → Type 0) → Type 0
  BetweenBoth before after beside behind holds =
      Between before after (λ old new. Between beside behind (λ had has. holds old new had has))

  -- A call that opens a closed handle was not made, since there is no memory for it: the other handle has
  -- what it had.
  pub record LacksMemory (before after : Option X) (opened : Option Y) (status : ℕ) : Type 0 where
    pub status_is : status ≡ NOMEM
    pub kept : after ≡ before
    pub closed : opened ≡ None
