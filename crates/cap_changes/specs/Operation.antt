-- The byte that begins a change.
use Rattle.std.specs.Prelude.{ℕ, Bool, ◌==◌, ◌||◌}
use Rattle.cap_changes.specs.declared.operation.Operation.{Operation}
use Rattle.cap_changes.specs.declared.operation.Operation.TheVariants.{Insert, Update, Delete}

abbrev pub operation_byte : Operation → ℕ
operation_byte Insert = 0x12
operation_byte Update = 0x17
operation_byte Delete = 0x09

-- INSERT, UPDATE or DELETE
abbrev pub is_operation : ℕ → Bool
is_operation op = (op == 0x12) || (op == 0x17) || (op == 0x09)
