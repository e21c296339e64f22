-- One change as the code applies it: what it leaves is the requested change.
use Rattle.std.proofs.Common.{arith, ◌≡◌, ℕ, Bool, true, Option, List, [], length, IfSome, is_some, refl}
use Rattle.std.specs.Option.{unwrap_or}
use Rattle.cap_database.specs.Keyed.{IsOwnRow}
use Rattle.cap_apply.proofs.Common.{Patch, Fields, fields_cmp, has_key, get, row_at, schema_of, EachRises, Tables, patch_fits, AppliedState, change_applied, concluded, counted, left_out, noted, is_made, Requested, conflict_of, key_record_of, key_values, row_after, target, Policy}
use Rattle.cap_apply.specs.Merged.{row_replaced}
use Rattle.cap_apply.proofs.ChangeLemmas.{has_target}
use Rattle.cap_apply.proofs.KeyLemmas.{patch-keyed}
use Rattle.cap_apply.proofs.OrderLemmas.{leaves-own}

module _ {A : Type 0} where
  module _ (policy : Policy) (number : ℕ) (name : List ℕ) (flags : List Bool) (asks : Requested A) (state : AppliedState A) (there : is_some (target state.database name flags) ≡ true) where
    abbrev key : Fields A
    key = key_values flags (key_record_of asks.patch)

    abbrev before : Option (Fields A)
    before = row_at state.database name key

    -- in a table of this width
    abbrev after : Option (Fields A)
    after = row_after (length (unwrap_or (schema_of state.database name) [])) asks.patch before

    abbrev judged : AppliedState A
    judged = noted policy number (conflict_of flags asks.old asks.patch before) state

    pub change_is : change_applied policy number name flags asks state ≡ concluded (is_made policy number (conflict_of flags asks.old asks.patch before)) (counted (row_replaced name key after judged)) (left_out number judged)
    change_is = let h = has_target state.database name flags there in rw (h.there, h.fit)

  pub owns : (name : List ℕ) (flags : List Bool) (patch : Patch A) (tables : Tables A) → is_some (target tables name flags) ≡ true → EachRises tables → has_key flags ≡ true → patch_fits flags patch ≡ true
      → IfSome (row_after (length (unwrap_or (schema_of tables name) [])) patch (row_at tables name (key_values flags (key_record_of patch)))) (IsOwnRow tables name (key_values flags (key_record_of patch)))
  owns name flags patch tables there each has fits =
      let h = has_target tables name flags there in
      let key = key_values flags (key_record_of patch) in
      let before = get fields_cmp h.table.keyed key in
      let own = leaves-own flags patch tables name h each has (patch-keyed flags patch fits)
      key before refl refl in
      rw h.there (grind (arith, h.there, own))
