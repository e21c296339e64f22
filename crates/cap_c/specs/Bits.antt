-- Flags as numbers.
use Rattle.std.specs.Prelude.{ℕ, Bool, true, false}

abbrev pub bit : Bool → ℕ
bit false = 0
bit true = 1
