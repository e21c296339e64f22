-- The bytes of a capture's changes as they are written.
use Rattle.std.proofs.Common.{◌≡◌, ℕ, Bool, false, cond, Option, Some, None, List, [], ◌∷◌, ◌++◌, append_assoc, refl, length, take, nat_eq, arith}
use Rattle.std.proofs.lemmas.Bool.Decides.{nat_tests}
use Rattle.std.proofs.lemmas.List.{append-nil, length-append}
use Rattle.std.proofs.Math.Seq.{take-append_seam}
use Rattle.std.specs.List.{cons_option, flat_map}
use Rattle.cap_row.specs.Fields.{Fields}
use Rattle.cap_changes.specs.declared.row_change.RowChange.{RowChange}
use Rattle.cap_changes.specs.declared.row_change.RowChange.TheVariants as changed
use Rattle.cap_changes.specs.Change.{change_of}
use Rattle.cap_changes.specs.ChangeBytes.{change_bytes}
use Rattle.cap_changes.specs.KindByte.{changeset_kind}
use Rattle.cap_changes.specs.Touched.{is_changed}
use Rattle.cap_codec.specs.declared.key_flags.KeyFlags.{KeyFlags}
use Rattle.cap_codec.specs.Changeset.{header_bytes, list_bytes_with}
use Rattle.cap_core.specs.Capture.{group_of}

-- one item more, where there is one
pub one_more : {X : Type 0} (bytes : X → List ℕ) (out new : List ℕ) (found : Option X) (others : List X) → new ≡ out ++ flat_map bytes (cons_option found []) → new ++ flat_map bytes others ≡ out ++ flat_map bytes (cons_option found others)
one_more bytes out new None others is = grind (arith, append_assoc, append-nil out)
one_more bytes out new (Some x) others is = grind (arith, append_assoc, append-nil (bytes x))

module _ {A : Type 0} where
  -- where nothing has changed there is no change
  pub no_change : (flags : List Bool) (indirect : Bool) (image now : Option (Fields A)) → is_changed image now ≡ false → change_of flags indirect image now ≡ None
  no_change flags indirect None None same = refl
  no_change flags indirect None (Some now) same = cc
  no_change flags indirect (Some image) None same = cc
  no_change flags indirect (Some image) (Some now) same = grind arith

  -- changes have bytes
  some_bytes : (change : RowChange A) (others : List (RowChange A)) (bytes : List ℕ) → bytes ≡ flat_map change_bytes (change ∷ others) → (length bytes ≡ 0 → ⊥)
  some_bytes (changed.Insert indirect new) others bytes is = grind arith
  some_bytes (changed.Update indirect old new) others bytes is = grind arith
  some_bytes (changed.Delete indirect old) others bytes is = grind arith

  -- a header and changes, or nothing where there is no change
  pub group_pushed : (key_flags : KeyFlags) (name : List ℕ) (schema : List Bool) (changes : List (RowChange A)) (out headed new : List ℕ)
      → headed ≡ out ++ header_bytes key_flags changeset_kind name schema → new ≡ headed ++ flat_map change_bytes changes
      → cond (nat_eq (length new) (length headed)) (take (length out) new) new ≡ out ++ list_bytes_with key_flags (cons_option (group_of name schema changes) [])
  group_pushed key_flags name schema [] out headed new a b =
      grind (arith, nat_tests, append-nil headed, append-nil out, take-append_seam out (header_bytes key_flags changeset_kind name schema))
  group_pushed key_flags name schema (change ∷ changes) out headed new a b =
      let body = flat_map change_bytes (change ∷ changes) in
      let some = some_bytes change changes body refl in
      grind (arith, nat_tests, append_assoc, length-append headed body, some, append-nil body)
