-- The order of the positions in a blob.
use Rattle.std.proofs.Common.{◌≡◌, ◌<◌, ◌+◌, ℕ, List, slice_index_or, ap, arith}
use Rattle.std.proofs.lemmas.List.{get_or_past}
use Rattle.std.specs.Prelude.{length}
use Rattle.cap_connection.specs.Positions.{IsFrom, IsPosition}
use Rattle.cap_connection.specs.declared.iter_position.Position.{Position}

pub from_itself : (position : Position) → IsFrom position position
from_itself position = record { group = omega arith; change = λ same. omega arith }

pub from_next : (from position : Position) → IsFrom from position → IsFrom from (record { group = position.group + 1; change = 0 })
from_next from position is = record { group = omega (arith, is.group); change = λ same. absurd (omega (arith, is.group, same)) }

-- Where a group has no change from here on, what is from here on is in a later group.
pub later_group : (counts : List ℕ) (position other : Position) → ¬ (position.change < slice_index_or counts position.group 0)
    → IsPosition counts other → IsFrom position other → IsFrom (record { group = position.group + 1; change = 0 }) other
later_group counts position other none is from =
    let apart : ¬ (position.group ≡ other.group) = λ same. none (omega (arith, from.change same, is, ap (λ (g : ℕ). slice_index_or counts g 0) same)) in
    record { group = omega (arith, from.group, apart); change = λ same. omega arith }

-- There is no change behind the last group.
pub no_later : (counts : List ℕ) (position other : Position) → ¬ (position.group < length counts) → IsPosition counts other
    → ¬ (IsFrom position other)
no_later counts position other behind is from =
    let none : slice_index_or counts other.group 0 ≡ 0 = get_or_past counts other.group 0 (omega (arith, behind, from.group)) in
    omega (arith, is, none)
