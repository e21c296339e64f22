-- The key that a change names, by the record that has it.
use Rattle.std.proofs.Common.{arith, ◌≡◌, Bool, true, List, sym, ap, ◌∙◌}
use Rattle.cap_changes.specs.declared.record_kind.RecordKind.TheVariants as record_kinds
use Rattle.cap_changes.proofs.FitLemmas.{full_keyed}
use Rattle.cap_apply.proofs.Common.{is_key, has_key, change_fits, patch_fits, patch_of, requirements, satisfy, Patch, RowChange, patch_of-fits, key_record_of, key_values}
use Rattle.cap_apply.specs.Requested.{as_change, key_record}
use Rattle.cap_apply.proofs.RowLemmas.{alone_keyed, alone_same, is_key-key_values, record_key, update_key, update_same}

module _ {A : Type 0} where
  -- the key fields of a patch are defined
  abbrev pub Keyed : List Bool → Patch A → Type 0
  Keyed flags patch = satisfy (requirements record_kinds.Keyed flags) (key_record_of patch) ≡ true

  pub patch-keyed : (flags : List Bool) (patch : Patch A) → patch_fits flags patch ≡ true → Keyed flags patch
  patch-keyed flags patch fits = grind (arith, full_keyed {A = A} flags, alone_keyed {A = A} flags)

  pub change-keyed : (flags : List Bool) (change : RowChange A) → change_fits flags change ≡ true → Keyed flags (patch_of flags change)
  change-keyed flags change fits = patch-keyed flags (patch_of flags change) (patch_of-fits flags change fits)

  -- a patch is that of the change that it is
  pub same_patch : (flags : List Bool) (patch : Patch A) → patch_fits flags patch ≡ true → patch_of flags (as_change patch) ≡ patch
  same_patch flags patch fits = grind (arith, update_same {A = A} flags, alone_same {A = A} flags)

  -- the key of a change is that of its patch
  pub change_key : (flags : List Bool) (change : RowChange A) → patch_fits flags (patch_of flags change) ≡ true → key_values flags (key_record_of (patch_of flags change)) ≡ key_values flags (key_record change)
  change_key flags change fits = grind (arith, patch-keyed flags (patch_of flags change) fits, update_key {A = A} flags, record_key {A = A} flags)

  pub its_key : (flags : List Bool) (change : RowChange A) → has_key flags ≡ true → patch_fits flags (patch_of flags change) ≡ true → is_key (key_values flags (key_record change)) ≡ true
  its_key flags change key fits = ap is_key (sym (change_key flags change fits)) ∙ is_key-key_values flags (key_record_of (patch_of flags change)) key (patch-keyed flags (patch_of flags change) fits)

  pub change_has_key : (flags : List Bool) (change : RowChange A) → has_key flags ≡ true → change_fits flags change ≡ true → is_key (key_values flags (key_record change)) ≡ true
  change_has_key flags change key fits = its_key flags change key (patch_of-fits flags change fits)

-- what a change of a blob requests
pub ruleset requests = (patch_of-fits, same_patch)
