-- The inverse of a change that fits its table fits it too, and its inverse is the change again.
use Rattle.std.proofs.Common.{length, length-append, take, drop, ℕ, zero, suc, ◌++◌, ◌+◌, ◌≡◌, List, [], ◌∷◌, map, Bool, true, IsTrue, Result, Ok, Err, refl, ap, ◌∙◌, arith}
use Rattle.std.specs.Prelude.{IfOk}
use Rattle.std.specs.List.{AllByRecursion}
use Rattle.std.proofs.lemmas.List.Elements.{recursion_from_All}
use Rattle.cap_changes.specs.Entries.{IsFitting, AreFitting}
use Rattle.cap_changes.specs.Field.{record_bytes}
use Rattle.cap_changes.specs.FieldRecord.{RecordFields}
use Rattle.cap_changes.specs.Requirements.{requirements, new_requirements, satisfy}
use Rattle.cap_changes.specs.Fits.{change_fits}
use Rattle.cap_changes.specs.Patch.{update_record}
use Rattle.cap_changes.specs.Group.{TableChanges}
use Rattle.cap_changes.specs.Invert.{inverse_of, inverse_list_of}
use Rattle.cap_changes.specs.declared.row_change.RowChange.{RowChange}
use Rattle.cap_changes.specs.declared.row_change.RowChange.TheVariants.{Update}
use Rattle.cap_changes.specs.declared.record_kind.RecordKind.TheVariants as record_kinds
use Rattle.cap_changes.proofs.PatchLemmas.{update_fits}

-- a list of which the first items are inverted is as long
pub as_long : {X : Type 0} (f : X → X) (xs : List X) (place : ℕ) → length (map f (take place xs) ++ drop place xs) ≡ length xs
as_long f [] zero = refl
as_long f [] (suc place) = refl
as_long f (x ∷ xs) zero = refl
as_long f (x ∷ xs) (suc place) = ap suc (as_long f xs place)

module _ {A : Type 0} where
  -- two records whose fields are exchanged, but for the key fields, fit, are as many bytes, and are the same when
  -- exchanged again
  pub exchanged : (flags : List Bool) (old new : RecordFields A) → satisfy (requirements record_kinds.Keyed flags) old ≡ true → satisfy (new_requirements flags old) new ≡ true →
      (satisfy (new_requirements flags (update_record flags old new)) (update_record flags new old) ≡ true)
      × (length (record_bytes (update_record flags old new)) + length (record_bytes (update_record flags new old)) ≡ length (record_bytes old) + length (record_bytes new))
      × (update_record flags (update_record flags old new) (update_record flags new old) ≡ old)
      × (update_record flags (update_record flags new old) (update_record flags old new) ≡ new)
  exchanged (key ∷ flags) (before ∷ old) (after ∷ new) met met' = grind (arith, length-append, exchanged flags old new)
  exchanged flags old new met met' = grind arith

  pub inverse_of-fits : (flags : List Bool) (change : RowChange A) → change_fits flags change ≡ true → change_fits flags (inverse_of flags change) ≡ true
  inverse_of-fits flags (Update indirect old new) fit = grind (arith, update_fits flags old new, exchanged flags old new)
  inverse_of-fits flags change fit = fit

  pub inverse_of-back : (flags : List Bool) (change : RowChange A) → change_fits flags change ≡ true → inverse_of flags (inverse_of flags change) ≡ change
  inverse_of-back flags (Update indirect old new) fit = grind (arith, exchanged flags old new)
  inverse_of-back flags change fit = refl

  -- the inverse of the inverse of a list is the list
  changes_back : (flags : List Bool) (changes : List (RowChange A)) → AllByRecursion (λ change. IsTrue (change_fits flags change)) changes → map (inverse_of flags) (map (inverse_of flags) changes) ≡ changes
  changes_back flags [] fit = refl
  changes_back flags (change ∷ changes) (fit, fits) = λ i. inverse_of-back flags change fit i ∷ changes_back flags changes fits i

  groups_back : (groups : List (TableChanges A)) → AllByRecursion (λ group. IsFitting change_fits group) groups → inverse_list_of (inverse_list_of groups) ≡ groups
  groups_back [] fit = refl
  groups_back (group ∷ groups) (fit, fits) =
      let back = changes_back group.schema group.changes (recursion_from_All (λ change. IsTrue (change_fits group.schema change)) group.changes fit.each) in
      λ i. record { table = group.table; schema = group.schema; changes = back i } ∷ groups_back groups fits i

  pub result_back : {X E : Type 0} (view : X → List (TableChanges A)) (result : Result X E) (groups : List (TableChanges A)) → AreFitting change_fits groups → IfOk result (λ x. view x ≡ inverse_list_of groups)
      → IfOk result (λ x. inverse_list_of (view x) ≡ groups)
  result_back view (Ok x) groups fit is = ap inverse_list_of is ∙ groups_back groups (recursion_from_All (λ group. IsFitting change_fits group) groups fit)
  result_back view (Err e) groups fit is = tt
