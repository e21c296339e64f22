-- One key is changed: a value is put at it, its value is replaced, or its entry is taken out.
use Rattle.std.specs.Prelude.{◌≡◌, Option, Some, None, Result, Ok, Err, List}
use Rattle.std.specs.declared.cmp.Ordering.{Ordering}
use Rattle.cap_value.specs.declared.memory.Fault.{Fault}
use Rattle.cap_value.specs.declared.memory.Fault.TheVariants.{Refused, OutOfMemory}
use Rattle.cap_tree.specs.Tree.{get, put_entry, take_entry}

module _ {K V : Type 0} where
  abbrev pub change_entry : (K → K → Ordering) → List (K × V) → K → Option V → List (K × V)
  change_entry cmp entries k (Some v) = put_entry cmp entries k v
  change_entry cmp entries k None = take_entry cmp entries k

module _ {K V E S : Type 0} (cmp : K → K → Ordering)
    (gives : S → Option V → Option V → Result Unit E → S → Type 0) where
  -- The value that was there is answered, and the hook allowed the change; or all is as before, and the hook
  -- was not asked or refused. It is shown the present value and the next one, which is made of it.
  abbrev pub Changes :
      Result (Option V) (Fault E) → List (K × V) → K → (Option V → Option V) → List (K × V) → S → S → Type 0
  Changes (Ok was) before key next after old new =
      (was ≡ get cmp before key) × (after ≡ change_entry cmp before key (next (get cmp before key)))
      × gives old (get cmp before key) (next (get cmp before key)) (Ok tt) new
  Changes (Err OutOfMemory) before key next after old new = (after ≡ before) × (new ≡ old)
  Changes (Err (Refused why)) before key next after old new =
      (after ≡ before) × gives old (get cmp before key) (next (get cmp before key)) (Err why) new
