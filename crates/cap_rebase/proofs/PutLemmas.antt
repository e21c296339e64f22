-- Changes that are written one piece after another.
use Rattle.std.proofs.Common.{◌≡◌, ℕ, Bool, List, [], ◌∷◌, ◌++◌, true, false, cond, is_some, Option, Some, None, Result, IfOk, refl, ap, sym, subst, ◌∙◌, append_assoc, append-nil}
use Rattle.std.specs.List.{flat_map, list_any}
use Rattle.cap_changes.specs.ChangeBytes.{flag_byte, change_bytes}
use Rattle.cap_changes.specs.Column.{by_column}
use Rattle.cap_changes.specs.Field.{record_bytes}
use Rattle.cap_changes.specs.FieldRecord.{RecordFields}
use Rattle.cap_changes.specs.declared.row_change.RowChange.{RowChange}
use Rattle.cap_changes.specs.declared.row_change.RowChange.TheVariants.{Insert, Update, Delete}
use Rattle.cap_group.specs.Put.{IsPut}
use Rattle.cap_rebase.specs.Rebase.{old_left, update_left}

one_record : (out mid new fields : List ℕ) (op flag : ℕ) → mid ≡ out ++ op ∷ flag ∷ [] → new ≡ mid ++ fields → new ≡ out ++ ((op ∷ flag ∷ fields) ++ [])
one_record out mid new fields op flag head put =
    put ∙ ap (λ (b : List ℕ). b ++ fields) head ∙ append_assoc out (op ∷ flag ∷ []) fields ∙ ap (λ (b : List ℕ). out ++ op ∷ flag ∷ b) (sym (append-nil fields))

module _ {A : Type 0} where
  -- what a call has put is this change
  pub put_as : {E : Type 0} (result : Result Bool E) (old new : List ℕ) (put change : Option (RowChange A)) → IfOk result (λ some. IsPut some old new put) → put ≡ change → IfOk result (λ some. IsPut some old new change)
  put_as result old new put change is same = subst (λ (o : Option (RowChange A)). IfOk result (λ some. IsPut some old new o)) same is

  pub put_insert : (out mid new : List ℕ) (indirect : Bool) (row : RecordFields A) → mid ≡ out ++ 0x12 ∷ flag_byte indirect ∷ [] → new ≡ mid ++ record_bytes row
      → new ≡ out ++ flat_map change_bytes (Insert indirect row ∷ [])
  put_insert out mid new indirect row head put = one_record out mid new (record_bytes row) 0x12 (flag_byte indirect) head put

  pub put_delete : (out mid new : List ℕ) (indirect : Bool) (old : RecordFields A) → mid ≡ out ++ 0x09 ∷ flag_byte indirect ∷ [] → new ≡ mid ++ record_bytes old
      → new ≡ out ++ flat_map change_bytes (Delete indirect old ∷ [])
  put_delete out mid new indirect old head put = one_record out mid new (record_bytes old) 0x09 (flag_byte indirect) head put

  pub put_update : (out mid next new : List ℕ) (indirect : Bool) (old changed : RecordFields A) → mid ≡ out ++ 0x17 ∷ flag_byte indirect ∷ [] → next ≡ mid ++ record_bytes old → new ≡ next ++ record_bytes changed
      → new ≡ out ++ flat_map change_bytes (Update indirect old changed ∷ [])
  put_update out mid next new indirect old changed head put put' =
      one_record out mid new (record_bytes old ++ record_bytes changed) 0x17 (flag_byte indirect) head
      (put' ∙ ap (λ (b : List ℕ). b ++ record_bytes changed) put ∙ append_assoc mid (record_bytes old) (record_bytes changed))

  -- what is left of an update, where a new field is left
  pub put_left : (flags : List Bool) (indirect : Bool) (old changed : RecordFields A) (out new : List ℕ) → list_any is_some changed ≡ true
      → new ≡ out ++ flat_map change_bytes (Update indirect (by_column old_left flags old changed) changed ∷ []) → IsPut true out new (update_left flags indirect old changed)
  put_left flags indirect old changed out new some put =
      subst (λ (o : Option (RowChange A)). IsPut true out new o)
      (sym (ap (λ (b : Bool). cond b (Some (Update indirect (by_column old_left flags old changed) changed)) None) some)) (put, refl)

  pub none_put : (flags : List Bool) (indirect : Bool) (old changed : RecordFields A) (out : List ℕ) → list_any is_some changed ≡ false → IsPut false out out (update_left flags indirect old changed)
  none_put flags indirect old changed out none =
      subst (λ (o : Option (RowChange A)). IsPut false out out o)
      (sym (ap (λ (b : Bool). cond b (Some (Update indirect (by_column old_left flags old changed) changed)) None) none)) (sym (append-nil out), refl)
