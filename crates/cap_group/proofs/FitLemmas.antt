-- What two changes of one row are together fits their table, and is of that row.
use Rattle.std.proofs.Common.{◌≡◌, List, [], ◌∷◌, Bool, true, false, ◌&&◌, Some, None, cond, refl, ◌∙◌, arith}
use Rattle.std.specs.Prelude.{IfSome, IsTrue, is_some}
use Rattle.std.specs.Bool.{beq}
use Rattle.std.proofs.lemmas.Bool.{and_parts, and_from}
use Rattle.std.proofs.lemmas.Option.{IfSome_then}
use Rattle.cap_value.specs.declared.value.Value.{Value}
use Rattle.cap_changes.specs.Column.{by_column}
use Rattle.cap_changes.specs.FieldRecord.{RecordFields}
use Rattle.cap_changes.specs.HasValues.{AreValues, HasValues, PatchHasValues}
use Rattle.cap_changes.specs.Record.{AreFields}
use Rattle.cap_changes.specs.Requirements.{requirements, requirement_of, new_requirements, satisfies, satisfy}
use Rattle.cap_changes.specs.Fits.{change_fits, patch_fits}
use Rattle.cap_changes.specs.declared.row_change.RowChange.{RowChange}
use Rattle.cap_changes.specs.declared.row_change.RowChange.TheVariants as changed
use Rattle.cap_changes.specs.declared.patch.Patch.{Patch}
use Rattle.cap_changes.specs.declared.patch.Patch.TheVariants as patched
use Rattle.cap_changes.specs.declared.record_kind.RecordKind.{RecordKind}
use Rattle.cap_changes.specs.declared.record_kind.RecordKind.TheVariants.{Full, Keyed}
use Rattle.cap_changes.specs.declared.field_requirement.FieldRequirement.TheVariants as required
use Rattle.cap_changes.proofs.FitLemmas.{full_keyed}
use Rattle.cap_changes.proofs.ValueLemmas.{each_of, values_of}
use Rattle.cap_group.specs.ChangeKey.{change_key, key_values, patch_key}
use Rattle.cap_group.specs.Record.{record_over, differ, field_of, old_field, new_field, update_between}
use Rattle.cap_group.specs.Combined.{KeepsRow, combined, patches_combined}

if_some : {X : Type 0} (P : X → Type 0) (b : Bool) (x : X) → P x → IfSome (cond b (Some x) None) P
if_some P true x p = p
if_some P false x p = tt

module _ {A : Type 0} where
  abbrev Fit : RecordKind → List Bool → RecordFields A → Type 0
  Fit kind flags fields = satisfy (requirements kind flags) fields ≡ true

  abbrev FitNew : List Bool → RecordFields A → RecordFields A → Type 0
  FitNew flags old new = satisfy (new_requirements flags old) new ≡ true

  -- ---- a record over another

  over : (kind : RecordKind) → ((value : Value A) → satisfies (requirement_of kind false) (Some value) ≡ true) → (flags : List Bool) (below above : RecordFields A) → Fit kind flags below → Fit Keyed flags above →
      Fit kind flags (record_over below above) × (key_values flags (record_over below above) ≡ key_values flags above)
  over kind takes (key ∷ flags) (b ∷ below) (a ∷ above) fit fit' = let rest = over kind takes flags below above in (grind (arith, takes, rest), grind (arith, rest))
  over kind takes flags below above fit fit' = (grind arith, grind arith)

  -- the new record of an UPDATE over a row
  new_over : (flags : List Bool) (below old above : RecordFields A) → Fit Full flags below → Fit Keyed flags old → FitNew flags old above →
      Fit Full flags (record_over below above) × (key_values flags (record_over below above) ≡ key_values flags below)
  new_over (key ∷ flags) (b ∷ below) (o ∷ old) (a ∷ above) fit old_fit new = let rest = new_over flags below old above in (grind (arith, rest), grind (arith, rest))
  new_over flags below old above fit old_fit new = (grind arith, grind arith)

  over_each : (below above : RecordFields A) → AreFields below → AreFields above → AreFields (record_over below above)
  over_each (b ∷ below) (a ∷ above) p q = grind (arith, over_each below above)
  over_each below above p q = tt

  over_values : (below above : RecordFields A) → AreValues below → AreValues above → AreValues (record_over below above)
  over_values below above p q = values_of (record_over below above) (over_each below above (each_of below p) (each_of above q))

  -- ---- the UPDATE from one state of a row to another

  -- a field is defined in both states or in neither, and those of the key have a value
  abbrev are_alike : List Bool → RecordFields A → RecordFields A → Bool
  are_alike [] [] [] = true
  are_alike (key ∷ flags) (b ∷ before) (a ∷ after) = cond key (satisfies required.Key b) (beq (is_some b) (is_some a)) && are_alike flags before after
  are_alike flags before after = false

  rows_alike : (flags : List Bool) (before after : RecordFields A) → Fit Full flags before → Fit Full flags after → are_alike flags before after ≡ true
  rows_alike (key ∷ flags) (b ∷ before) (a ∷ after) fit fit' = grind (arith, rows_alike flags before after)
  rows_alike flags before after fit fit' = grind arith

  updates_alike : (flags : List Bool) (old new old' new' : RecordFields A) → Fit Keyed flags old → FitNew flags old new → Fit Keyed flags old' → FitNew flags old' new' → are_alike flags (record_over old' old) (record_over new new') ≡ true
  updates_alike (key ∷ flags) (o ∷ old) (n ∷ new) (o' ∷ old') (n' ∷ new') fit fits fit' fits' = grind (arith, updates_alike flags old new old' new')
  updates_alike flags old new old' new' fit fits fit' fits' = grind arith

  between : (flags : List Bool) (before after : RecordFields A) → are_alike flags before after ≡ true → let old = by_column old_field flags before after in
      Fit Keyed flags old × FitNew flags old (by_column new_field flags before after) × (key_values flags old ≡ key_values flags before)
  between (key ∷ flags) (b ∷ before) (a ∷ after) alike = let rest = between flags before after in (grind (arith, rest), grind (arith, rest), grind (arith, rest))
  between flags before after alike = (grind arith, grind arith, grind arith)

  side_each : (old : Bool) (flags : List Bool) (before after : RecordFields A) → AreFields before → AreFields after → AreFields (by_column (field_of old) flags before after)
  side_each old (key ∷ flags) (b ∷ before) (a ∷ after) p q = grind (arith, side_each old flags before after)
  side_each old flags before after p q = tt

  abbrev KeepsChangeRow : List Bool → RowChange A → RowChange A → RowChange A → Type 0
  KeepsChangeRow = KeepsRow change_fits change_key HasValues

  update_keeps : (flags : List Bool) (indirect : Bool) (before after : RecordFields A) (present added : RowChange A) → are_alike flags before after ≡ true → key_values flags before ≡ change_key flags present →
      (HasValues present → HasValues added → AreValues before × AreValues after) → IfSome (update_between flags indirect before after) (KeepsChangeRow flags present added)
  update_keeps flags indirect before after present added alike of values =
      let is = between flags before after alike in
      let side = λ (old : Bool) (p : AreValues before) (q : AreValues after). values_of _ (side_each old flags before after (each_of before p) (each_of after q)) in
      if_some (KeepsChangeRow flags present added) (differ flags before after) _ (record {
        fit = and_from _ _ is.0 is.1;
        keyed = λ same. is.2 ∙ of;
        values = λ p q. let v = values p q in (side true v.0 v.1, side false v.0 v.1);
      })

  -- ---- all changes

  pub combined_keep : (flags : List Bool) (present added : RowChange A) → change_fits flags present ≡ true → change_fits flags added ≡ true → IfSome (combined flags present added) (KeepsChangeRow flags present added)
  combined_keep flags (changed.Insert indirect new) (changed.Update indirect' old' new') fit fit' =
      let both = and_parts _ _ fit' in
      let is = new_over flags new old' new' fit both.0 both.1 in
      record { fit = is.0; keyed = λ same. is.1; values = λ p q. over_values new new' p q.1 }
  combined_keep flags (changed.Insert indirect new) (changed.Delete indirect' old') fit fit' = tt
  combined_keep flags (changed.Update indirect old new) (changed.Update indirect' old' new') fit fit' =
      let both = and_parts _ _ fit in
      let both' = and_parts _ _ fit' in
      update_keeps flags (indirect && indirect') (record_over old' old) (record_over new new') _ _ (updates_alike flags old new old' new' both.0 both.1 both'.0 both'.1) (over Keyed (λ value. refl) flags old' old both'.0 both.0).1
      (λ p q. (over_values old' old q.0 p.0, over_values new new' p.1 q.1))
  combined_keep flags (changed.Update indirect old new) (changed.Delete indirect' old') fit fit' =
      let is = over Full (λ value. refl) flags old' old fit' (and_parts _ _ fit).0 in
      record { fit = is.0; keyed = λ same. is.1; values = λ p q. over_values old' old q p.0 }
  combined_keep flags (changed.Delete indirect old) (changed.Insert indirect' new') fit fit' =
      update_keeps flags (indirect && indirect') old new' _ _ (rows_alike flags old new' fit fit') refl (λ p q. (p, q))
  combined_keep flags present added fit fit' = record { fit = fit; keyed = λ same. refl; values = λ p q. p }

  pub patches_keep : (flags : List Bool) (present added : Patch A) → patch_fits flags present ≡ true → patch_fits flags added ≡ true → IfSome (patches_combined present added) (KeepsRow patch_fits patch_key PatchHasValues flags present added)
  patches_keep flags (patched.Insert indirect new) (patched.Update indirect' new') fit fit' =
      let is = over Full (λ value. refl) flags new new' fit fit' in
      record { fit = is.0; keyed = λ same. is.1 ∙ same; values = over_values new new' }
  patches_keep flags (patched.Insert indirect new) (patched.Delete indirect' key') fit fit' = tt
  patches_keep flags (patched.Update indirect new) (patched.Update indirect' new') fit fit' =
      let is = over Keyed (λ value. refl) flags new new' fit fit' in
      record { fit = is.0; keyed = λ same. is.1 ∙ same; values = over_values new new' }
  patches_keep flags (patched.Update indirect new) (patched.Delete indirect' key') fit fit' = record { fit = fit'; keyed = λ same. same; values = λ p q. q }
  patches_keep flags (patched.Delete indirect key) (patched.Insert indirect' new') fit fit' = record { fit = full_keyed flags new' fit'; keyed = λ same. same; values = λ p q. q }
  patches_keep flags present added fit fit' = record { fit = fit; keyed = λ same. refl; values = λ p q. p }

  pub combined-fits : (flags : List Bool) (present added : RowChange A) → change_fits flags present ≡ true → change_fits flags added ≡ true → IfSome (combined flags present added) (λ one. IsTrue (change_fits flags one))
  combined-fits flags present added fit fit' = IfSome_then (combined flags present added) (combined_keep flags present added fit fit') (λ one is. is.fit)
