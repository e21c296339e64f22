-- The positions of the changes of a blob, in order.
use Rattle.std.specs.Prelude.{◌≡◌, ◌<◌, ◌≤◌, ℕ, List, length, map, slice_index_or}
use Rattle.cap_codec.specs.declared.read.Contents.{Contents}
use Rattle.cap_codec.specs.declared.read.Contents.TheVariants.{Changes, Patches}
use Rattle.cap_connection.specs.declared.iter_position.Position.{Position}

-- how many changes each group has
abbrev pub counts : {A : Type 0} → Contents A → List ℕ
counts (Changes list) = map (λ group. length group.changes) list
counts (Patches list) = map (λ group. length group.changes) list

-- there is a change
abbrev pub IsPosition : List ℕ → Position → Type 0
IsPosition counts position = position.change < slice_index_or counts position.group 0

-- the second is the first, or comes behind it
pub record IsFrom (from position : Position) : Type 0 where
  pub group : from.group ≤ position.group
  pub change : from.group ≡ position.group → from.change ≤ position.change

-- the first of the changes from there on
pub record IsFirstFrom (counts : List ℕ) (from found : Position) : Type 0 where
  pub is_position : IsPosition counts found
  pub is_from : IsFrom from found
  pub first : (other : Position) → IsPosition counts other → IsFrom from other → IsFrom found other

-- no change from there on
abbrev pub IsNoneFrom : List ℕ → Position → Type 0
IsNoneFrom counts from = (other : Position) → IsPosition counts other → ¬ (IsFrom from other)
