-- The key flags that are written, and what they read as.
use Rattle.cap_codec.proofs.Common.{◌≡◌, Bool, false, List, [], ◌∷◌, length, map, refl, sym, ◌∙◌, arith, range_with_len, nat_tests, fill_by_all, count_by_more_yes, KeyFlags, Ones, Places, key_place, flags_bytes, is_set}
use Rattle.std.proofs.lemmas.Simd.{map-map}
use Rattle.cap_changes.proofs.Grammar.{flag_again}

-- the flags of key columns are set, and no others
pub flags_set : (key_flags : KeyFlags) (schema : List Bool) → map is_set (flags_bytes key_flags schema) ≡ schema
flags_set Ones [] = refl
flags_set Ones (key ∷ schema) = rw (flag_again key, flags_set Ones schema) refl
flags_set Places schema =
    map-map is_set (key_place schema) (range_with_len 0 (length schema)) ∙ sym (fill_by_all (λ i. is_set (key_place schema i)) schema (length schema) false refl (λ i lt. let more = count_by_more_yes (λ key. key) schema i false lt in grind (arith, nat_tests, more)))
