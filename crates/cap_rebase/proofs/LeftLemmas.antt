-- What is left of a change, as its bytes.
use Rattle.std.proofs.Common.{◌≡◌, ℕ, Bool, true, false, List, [], ◌∷◌, ◌++◌, ◌==◌, length, slice_get, Option, Some, None, Result, Ok, Err, IfOk, IfSome, IsTrue, eqb-true, refl, sym, ap, subst, ◌∙◌, append-nil, arith}
use Rattle.std.proofs.lemmas.Option.{get_or_from_slice_get, slice_get_within}
use Rattle.cap_changes.specs.ChangeBytes.{flag_byte, change_bytes}
use Rattle.cap_changes.specs.ChangeReading.{stored_change}
use Rattle.cap_changes.specs.Entries.{AllFit}
use Rattle.cap_changes.specs.Field.{record_bytes}
use Rattle.cap_changes.specs.Fits.{change_fits}
use Rattle.cap_changes.specs.HasValues.{HasValues}
use Rattle.cap_changes.specs.Stored.{IsEntry}
use Rattle.cap_changes.specs.declared.row_change.RowChange.{RowChange}
use Rattle.cap_changes.specs.declared.row_change.RowChange.TheVariants.{Insert, Update, Delete}
use Rattle.cap_changes.proofs.StoredChange.{change_entry}
use Rattle.cap_group.specs.Put.{IsPut}
use Rattle.cap_rebase.specs.Flag.{flagged}
use Rattle.cap_rebase.specs.Left.{change_in, IsLeft}
use Rattle.cap_rebase.specs.Rebase.{rebased}
use Rattle.cap_rebase.proofs.RebaseLemmas.{rebased-fits}
use Rattle.cap_rebase.proofs.ValueLemmas.{flagged_values, rebased_values}

module _ {A : Type 0} where
  -- the bytes are those of what is left
  pub record Kept (flags : List Bool) (bytes : List ℕ) (change : Option (RowChange A)) : Type 0 where
    pub is : change_in flags bytes ≡ change
    pub left : IsLeft A flags bytes

  some_bytes : (change : RowChange A) → (byte : ℕ) × (bytes : List ℕ) × (change_bytes change ≡ byte ∷ bytes)
  some_bytes (Insert indirect new) = (0x12, flag_byte indirect ∷ record_bytes new, refl)
  some_bytes (Update indirect old new) = (0x17, flag_byte indirect ∷ (record_bytes old ++ record_bytes new), refl)
  some_bytes (Delete indirect old) = (0x09, flag_byte indirect ∷ record_bytes old, refl)

  pub kept_one : (flags : List Bool) (change : RowChange A) (bytes : List ℕ) → IsTrue (change_fits flags change) → HasValues change → bytes ≡ change_bytes change → Kept flags bytes (Some change)
  kept_one flags change bytes fits values spelled =
      let (byte, others, some) = some_bytes change in
      let is = change_entry flags change (byte ∷ others) fits values (sym some) in
      subst (λ (b : List ℕ). Kept flags b (Some change)) (sym (spelled ∙ some)) (record { is = ap Some is.0; left = is.1 })

  -- what was put into no bytes
  pub kept : (flags : List Bool) (old bytes : List ℕ) (some : Bool) (change : Option (RowChange A)) → old ≡ [] → IsPut some old bytes change
      → IfSome change (λ one. IsTrue (change_fits flags one)) → IfSome change HasValues → Kept flags bytes change
  kept flags old bytes some None none put fits values =
      subst (λ (b : List ℕ). Kept flags b None) (sym (put.0 ∙ ap (λ (b : List ℕ). b ++ []) none)) (record { is = refl; left = tt })
  kept flags old bytes some (Some change) none put fits values =
      kept_one flags change bytes fits values (put.0 ∙ ap (λ (b : List ℕ). b ++ (change_bytes change ++ [])) none ∙ append-nil (change_bytes change))

  pub rebased_kept : (flags flags' : List Bool) (remote local : RowChange A) (old bytes : List ℕ) (some : Bool) → flags' ≡ flags → old ≡ [] → IsPut some old bytes (rebased flags' remote local)
      → IsTrue (change_fits flags remote) → IsTrue (change_fits flags local) → HasValues remote → HasValues local → Kept flags' bytes (rebased flags remote local)
  rebased_kept flags flags' remote local old bytes some same none put fits fits' values values' =
      let stands : Kept flags bytes (rebased flags remote local) =
      kept flags old bytes some (rebased flags remote local) none (rw same at put) (rebased-fits flags remote local fits fits') (rebased_values flags remote local fits fits' values values') in
      rw same stands

  -- the same change with another flag
  flagged_fits : (flags : List Bool) (flag : Bool) (change : RowChange A) → IsTrue (change_fits flags change) → IsTrue (change_fits flags (flagged flag change))
  flagged_fits flags flag (Insert indirect new) fits = fits
  flagged_fits flags flag (Update indirect old new) fits = fits
  flagged_fits flags flag (Delete indirect old) fits = fits

  pub flagged_kept : (flags : List Bool) (flag : Bool) (change change' : RowChange A) (old bytes : List ℕ) (some : Bool) → old ≡ [] → change' ≡ change → IsPut some old bytes (Some (flagged flag change'))
      → IsTrue (change_fits flags change) → HasValues change → Kept flags bytes (Some (flagged flag change))
  flagged_kept flags flag change change' old bytes some none is put fits values =
      kept flags old bytes some (Some (flagged flag change)) none (subst (λ (c : RowChange A). IsPut some old bytes (Some (flagged flag c))) is put) (flagged_fits flags flag change fits) (flagged_values flag change values)

  -- a change of a group with another flag fits the group's table
  pub fits_at : (flags flags' : List Bool) (xs ys : List (RowChange A)) (i : ℕ) (x : RowChange A) → flags' ≡ flags → ys ≡ xs → Some x ≡ slice_get ys i → AllFit change_fits flags xs → IsTrue (change_fits flags' x)
  fits_at flags flags' xs ys i x same is found all =
      let at : slice_get xs i ≡ Some x = ap (λ (l : List (RowChange A)). slice_get l i) (sym is) ∙ sym found in
      subst (λ (f : List Bool). IsTrue (change_fits f x)) (sym same)
      (subst (λ (y : RowChange A). IsTrue (change_fits flags y)) (get_or_from_slice_get xs i x x at) (all i x (slice_get_within xs i x at)))

  pub flagged_left_fits : {E : Type 0} (flags : List Bool) (flag : Bool) (change : RowChange A) (result : Result (Option (RowChange A)) E) → IfOk result (λ left. left ≡ Some (flagged flag change))
      → IsTrue (change_fits flags change) → IfOk result (λ left. IfSome left (λ one. IsTrue (change_fits flags one)))
  flagged_left_fits flags flag change (Ok left) is fits = subst (λ (o : Option (RowChange A)). IfSome o (λ one. IsTrue (change_fits flags one))) (sym is) (flagged_fits flags flag change fits)
  flagged_left_fits flags flag change (Err e) is fits = tt

  pub nothing_fits : (flags : List Bool) (left : Option (RowChange A)) → left ≡ None → IfSome left (λ one. IsTrue (change_fits flags one))
  nothing_fits flags left none = subst (λ (o : Option (RowChange A)). IfSome o (λ one. IsTrue (change_fits flags one))) (sym none) tt

  -- what is kept, read again
  pub none_kept : (flags : List Bool) (bytes : List ℕ) → (length bytes == 0) ≡ true → change_in {A = A} flags bytes ≡ None
  none_kept flags [] none = refl
  none_kept flags (byte ∷ bytes) none = absurd (omega (arith, eqb-true (length (byte ∷ bytes)) 0 none))

  pub some_kept : (flags : List Bool) (bytes : List ℕ) → (length bytes == 0) ≡ false → IsLeft A flags bytes
      → (change_in {A = A} flags bytes ≡ Some (stored_change flags bytes)) × IsEntry (change_fits {A = A}) HasValues change_bytes flags (stored_change flags bytes) bytes
  some_kept flags [] some left = absurd (cc some)
  some_kept flags (byte ∷ bytes) some left = (refl, left)
