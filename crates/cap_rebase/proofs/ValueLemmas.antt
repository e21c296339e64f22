-- The fields of what is left of a change are values, as those of both changes are.
use Rattle.std.proofs.Common.{◌≡◌, List, [], ◌∷◌, Bool, true, false, ◌||◌, cond, is_some, Option, Some, None, IfSome, IsTrue}
use Rattle.std.specs.List.{list_any}
use Rattle.std.specs.Option.{option_map}
use Rattle.cap_value.specs.declared.value.Value.{Value}
use Rattle.cap_value.specs.Value.{IsValue}
use Rattle.cap_changes.specs.Column.{by_column}
use Rattle.cap_changes.specs.FieldRecord.{RecordFields}
use Rattle.cap_changes.specs.Fits.{change_fits}
use Rattle.cap_changes.specs.HasValues.{HasValues}
use Rattle.cap_changes.specs.Invert.{inverse_of}
use Rattle.cap_changes.specs.Record.{AreFields}
use Rattle.cap_changes.specs.declared.row_change.RowChange.{RowChange}
use Rattle.cap_changes.specs.declared.row_change.RowChange.TheVariants.{Insert, Update, Delete}
use Rattle.cap_changes.proofs.InvertLemmas.{inverse_of-fits}
use Rattle.cap_changes.proofs.ValueLemmas.{each_of, values_of, inverse_values}
use Rattle.cap_group.specs.Combined.{combined}
use Rattle.cap_group.specs.Rows.{is_indirect}
use Rattle.cap_group.proofs.ValueLemmas.{combined_values}
use Rattle.cap_rebase.specs.Flag.{flagged}
use Rattle.cap_rebase.specs.Rebase.{field_left, new_left, old_left, over_omitted, over_replaced, rebased}

if_some : {X : Type 0} (b : Bool) (x : X) (P : X → Type 0) → P x → IfSome (cond b (Some x) None) P
if_some true x P h = h
if_some false x P h = tt

either : {X : Type 0} (b : Bool) (x y : Option X) (P : X → Type 0) → IfSome x P → IfSome y P → IfSome (cond b x y) P
either true x y P h h' = h
either false x y P h h' = h'

module _ {A : Type 0} where
  chosen : (b : Bool) (field : Option (Value A)) → IfSome field IsValue → IfSome (cond b field None) IsValue
  chosen true field h = h
  chosen false field h = tt

  left_each : (local remote : RecordFields A) → AreFields local → AreFields (new_left local remote)
  left_each [] remote a = tt
  left_each (x ∷ local) [] a = tt
  left_each (x ∷ local) (None ∷ remote) a = (a.0, left_each local remote a.1)
  left_each (x ∷ local) (Some y ∷ remote) a = (tt, left_each local remote a.1)

  kept_each : (flags : List Bool) (old new : RecordFields A) → AreFields old → AreFields (by_column old_left flags old new)
  kept_each [] old new a = tt
  kept_each (key ∷ flags) [] new a = tt
  kept_each (key ∷ flags) (x ∷ old) [] a = tt
  kept_each (key ∷ flags) (x ∷ old) (y ∷ new) a = (chosen (key || is_some y) x a.0, kept_each flags old new a.1)

  replaced_values : (flags : List Bool) (remote local : RowChange A) → HasValues local → IfSome (over_replaced flags remote local) HasValues
  replaced_values flags (Insert indirect new) local v = tt
  replaced_values flags (Delete indirect old) local v = tt
  replaced_values flags (Update indirect old new) (Insert indirect' new') v = tt
  replaced_values flags (Update indirect old new) (Delete indirect' old') v = tt
  replaced_values flags (Update indirect old new) (Update indirect' old' new') v =
      if_some (list_any is_some (new_left new' new)) (Update indirect' (by_column old_left flags old' (new_left new' new)) (new_left new' new)) HasValues
      (values_of _ (kept_each flags old' (new_left new' new) (each_of old' v.0)), values_of _ (left_each new' new (each_of new' v.1)))

  pub flagged_values : (flag : Bool) (change : RowChange A) → HasValues change → HasValues (flagged flag change)
  flagged_values flag (Insert indirect new) v = v
  flagged_values flag (Update indirect old new) v = v
  flagged_values flag (Delete indirect old) v = v

  reflagged_values : (flags : List Bool) (flag : Bool) (o : Option (RowChange A)) → IfSome o (λ one. IsTrue (change_fits flags one) × HasValues one) → IfSome (option_map (flagged flag) o) HasValues
  reflagged_values flags flag None both = tt
  reflagged_values flags flag (Some change) both = flagged_values flag change both.1

  pub rebased_values : (flags : List Bool) (remote local : RowChange A) → change_fits flags remote ≡ true → change_fits flags local ≡ true → HasValues remote → HasValues local →
      IfSome (rebased flags remote local) HasValues
  rebased_values flags remote local fit fit' v w =
      either (is_indirect remote) (over_replaced flags remote local) (over_omitted flags remote local) HasValues (replaced_values flags remote local w)
      (reflagged_values flags (is_indirect local) (combined flags (inverse_of flags remote) local)
      (combined_values flags (inverse_of flags remote) local (inverse_of-fits flags remote fit) fit' (inverse_values flags remote v) w))
