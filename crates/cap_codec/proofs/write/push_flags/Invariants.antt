use Rattle.cap_codec.proofs.Common.{◌≡◌, ℕ, ◌++◌, Bool, List, min, map, take, count_by, range_with_len, KeyFlags, Ones, Places, key_place, flags_bytes}
use Rattle.cap_codec.proofs.write.push_flags.Given as goal

-- the flags of the columns before this one
abbrev pub flags_before : KeyFlags → List Bool → ℕ → List ℕ
flags_before Ones flags i = flags_bytes Ones (take i flags)
flags_before Places flags i = map (key_place flags) (range_with_len 0 i)

abbrev pub invariant-loop-flag : goal.invariant-loop-flag
invariant-loop-flag g l = record {
  written : l.out.items ≡ l.fn.out.items ++ flags_before l.key_flags l.flags l.flag-index;
  place : l.place ≡ min (count_by (λ key. key) (take l.flag-index l.flags)) 255;
}
