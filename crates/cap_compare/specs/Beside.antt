-- Two lists of entries merged key by key.
use Rattle.std.specs.Prelude.{Option, Some, None, List, [], ◌∷◌, map, fold}
use Rattle.std.specs.declared.cmp.Ordering.{Ordering}
use Rattle.std.specs.Borrow.{Bor}
use Rattle.std.specs.Option.{option_copied}
use Rattle.std.specs.Map.Iter.{deref_pair}
use Rattle.cap_tree.specs.Tree.{get, put_entry}

-- the value of the first list in a pair, none where there is no pair
abbrev pub first_of : {V W : Type 0} → Option (Option V × Option W) → Option V
first_of None = None
first_of (Some found) = found.0

-- the values of both lists at a key, where either has one
abbrev pub both_at : {V W : Type 0} → Option V → Option W → Option (Option V × Option W)
both_at None None = None
both_at None (Some y) = Some (None, Some y)
both_at (Some x) y = Some (Some x, y)

-- an entry that an iterator gave, and the entries that it has left; no entry leaves none
abbrev pub taken : {K V : Type 0} → Option (Bor K × Bor V) → List (K × V) → List (K × V)
taken None left = []
taken (Some e) left = deref_pair e ∷ left

module _ {K V W : Type 0} where
  -- the entries of a list, each alone
  abbrev pub alone : List (K × V) → List (K × (Option V × Option W))
  alone entries = map (λ e. (e.0, (Some e.1, None))) entries

  module _ (cmp : K → K → Ordering) where
    -- an entry of the second list at its key
    abbrev pub put_beside : List (K × (Option V × Option W)) → K × W → List (K × (Option V × Option W))
    put_beside merged e = put_entry cmp merged e.0 (first_of (get cmp merged e.0), Some e.1)

    -- every key of either list in order, with its value in each
    unfoldable pub beside : List (K × V) → List (K × W) → List (K × (Option V × Option W))
    beside first second = fold put_beside (alone first) second

  -- the references to a key and its values, read
  abbrev pub values_beside : Bor K × Option (Bor V) × Option (Bor W) → K × (Option V × Option W)
  values_beside e = (e.0.now, (option_copied e.1, option_copied e.2))
