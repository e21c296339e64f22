-- How large a handle to an allocator is.
use Rattle.std.specs.Prelude.{◌≡◌, ◌⊎◌}
use denote.RattleType.{RattleType}
use denote.Param.{layout}
use prog.Memory.{size, align}

-- no size, or that of a reference
abbrev pub IsHandle : RattleType → Type 0
IsHandle R = ((size (layout R) ≡ 0) × (align (layout R) ≡ 1))
    ⊎ ((size (layout R) ≡ 8) × (align (layout R) ≡ 8))
