-- One captured change, where its key has the row that was there first.
use Rattle.std.proofs.Common.{◌≡◌, ℕ, Bool, true, false, cond, Option, Some, None, Ok, List, [], ◌∷◌, length, refl, sym, ap, ◌∙◌, arith}
use Rattle.cap_changes.specs.Change.{change_of, full_record, new_field, old_field}
use Rattle.cap_changes.specs.Column.{by_column}
use Rattle.cap_changes.specs.Invert.{inverse_of}
use Rattle.cap_changes.specs.declared.row_change.RowChange.TheVariants.{Insert, Update, Delete}
use Rattle.cap_apply.proofs.Common.{eq_by_cmp_equiv, value_cmp_total, value_eq_decides, Fields, fields_cmp, fields_cmp_total, fields_eq, key_fields, key_of, get, TableState, table_of, update_record, RowChange, AppliedState, change_applied, counted, with_row_in, Requested, requested_by_change, Difference, IsDifference, IsUnder, turned, has_old_values, conflict_of, key_record_of, key_values, new_row, row_after, set_fields, columns_fit}
use Rattle.cap_apply.specs.declared.policy.Policy.{Policy}
use Rattle.cap_apply.proofs.ChangeLemmas.{applied_at, the_target}
use Rattle.cap_apply.proofs.RowLemmas.{record_key}

-- a table fits its own columns
pub fit_self : (flags : List Bool) → columns_fit flags flags ≡ true
fit_self [] = refl
fit_self (flag ∷ flags) = let rest = fit_self flags in grind (arith, rest)

module _ {A : Type 0} where
  -- ---- whole rows

  full_key : (flags : List Bool) (row : Fields A) → key_values flags (full_record row) ≡ key_fields flags row
  full_key (flag ∷ flags) (value ∷ row) = let rest = full_key flags row in grind (arith, rest)
  full_key flags row = cc

  full_row : (row : Fields A) → new_row (length row) (full_record row) ≡ row
  full_row [] = refl
  full_row (value ∷ row) = let rest = full_row row in grind (arith, rest)

  full_agrees : (flags : List Bool) (row : Fields A) → has_old_values flags (full_record row) row ≡ true
  full_agrees (flag ∷ flags) (value ∷ row) =
      grind (arith, full_agrees flags row, (value_eq_decides value value).1 refl)
  full_agrees flags row = cc

  -- ---- two rows under one key

  between_key : (flags : List Bool) (image now : Fields A) → length image ≡ length flags → length now ≡ length flags →
      key_values flags (update_record flags (by_column old_field flags image now) (by_column new_field flags image now)) ≡ key_fields flags image
  between_key (flag ∷ flags) (old ∷ image) (new ∷ now) wide wide' = let rest = between_key flags image now in grind (arith, rest)
  between_key flags image now wide wide' = cc

  between_agrees : (flags : List Bool) (image now : Fields A) → has_old_values flags (by_column old_field flags image now) image ≡ true
  between_agrees (flag ∷ flags) (old ∷ image) (new ∷ now) =
      grind (arith, between_agrees flags image now, (value_eq_decides old old).1 refl)
  between_agrees flags image now = cc

  between_sets : (flags : List Bool) (image now : Fields A) → length image ≡ length flags → length now ≡ length flags → key_fields flags image ≡ key_fields flags now →
      set_fields (update_record flags (by_column old_field flags image now) (by_column new_field flags image now)) image ≡ now
  between_sets [] [] [] wide wide' keys = refl
  between_sets (flag ∷ flags) (old ∷ image) (new ∷ now) wide wide' keys =
      grind (arith, between_sets flags image now, (value_eq_decides old new).0)
  between_sets flags image now wide wide' keys = cc

  -- ---- the change of rows under a key

  pub key_is : (flags : List Bool) (row key : Fields A) → key_of flags row ≡ Some key → key_fields flags row ≡ key
  key_is flags row key is = grind arith

  -- the requested change, by the rows before and now
  pub record AsksFor (flags : List Bool) (requested : Requested A) (key : Fields A) (before after : Option (Fields A)) : Type 0 where
    pub names : key_values flags (key_record_of requested.patch) ≡ key
    pub met : conflict_of flags requested.old requested.patch before ≡ None
    pub leaves : row_after (length flags) requested.patch before ≡ after

  -- what holds where a row comes, where one goes and where two differ holds of each change that a capture has
  module _ (flags : List Bool) (indirect : Bool) (Holds : Option (Fields A) → Option (Fields A) → RowChange A → Type 0) where
    pub by_rows : ((now : Fields A) → Holds None (Some now) (Insert indirect (full_record now))) → ((image : Fields A) → Holds (Some image) None (Delete indirect (full_record image)))
        → ((image now : Fields A) → fields_eq image now ≡ false → Holds (Some image) (Some now) (Update indirect (by_column old_field flags image now) (by_column new_field flags image now)))
        → (before after : Option (Fields A)) (change : RowChange A) → change_of flags indirect before after ≡ Some change → Holds before after change
    by_rows comes goes differ before after change is = grind (arith, comes, goes, differ)

  pub asks_by_change : (flags : List Bool) (indirect : Bool) (key : Fields A) (before after : Option (Fields A)) (change : RowChange A) →
      IsUnder flags key before → IsUnder flags key after → change_of flags indirect before after ≡ Some change → AsksFor flags (requested_by_change flags change) key before after
  asks_by_change flags indirect key before after change p q is =
      by_rows flags indirect (λ b a c. IsUnder flags key b → IsUnder flags key a → AsksFor flags (requested_by_change flags c) key b a)
      (λ now _ q. record { names = full_key flags now ∙ key_is flags now key q.1; met = refl; leaves = rw (sym q.0, full_row now) })
      (λ image p _. grind (arith, record_key flags (full_record image), full_key flags image, key_is flags image key p.1, full_agrees flags image))
      (λ image now _ p q.
      let same = between_sets flags image now p.0 q.0 (key_is flags image key p.1 ∙ sym (key_is flags now key q.1)) in
      grind (arith, between_key flags image now p.0 q.0, key_is flags image key p.1, between_agrees flags image now, same)) before after change is p q

  -- ---- applied

  pub captured_one : (policy : Policy) (number : ℕ) (name : List ℕ) (flags : List Bool) (requested : Requested A) (state : AppliedState A) (table : TableState A) (key : Fields A) (before after : Option (Fields A)) →
      table_of state.database name ≡ Some table → table.schema ≡ flags → get fields_cmp table.keyed key ≡ before → AsksFor flags requested key before after →
      change_applied policy number name flags requested state ≡ Ok (counted (with_row_in name table key before after state))
  captured_one policy number name flags requested state table key before after there columns found h =
      applied_at policy number name flags requested state (the_target state.database name flags table (rw (there, columns, fit_self flags))) before None (ap (get fields_cmp table.keyed) h.names ∙ found) h.met
      ∙ (λ i. Ok (counted (with_row_in name table (h.names i) before (row_after (length (columns i)) requested.patch before) state)))
      ∙ ap (λ (row : Option (Fields A)). Ok (counted (with_row_in name table key before row state))) h.leaves

  -- ---- the other way round

  turned_record : (flags : List Bool) (image now : Fields A) → length image ≡ length flags → length now ≡ length flags → key_fields flags image ≡ key_fields flags now →
      (update_record flags (by_column old_field flags image now) (by_column new_field flags image now) ≡ by_column old_field flags now image)
      × (update_record flags (by_column new_field flags image now) (by_column old_field flags image now) ≡ by_column new_field flags now image)
  turned_record [] image now wide wide' keys = (refl, refl)
  turned_record (flag ∷ flags) (old ∷ image) (new ∷ now) wide wide' keys =
      let rest = turned_record flags image now in
      let same = (eq_by_cmp_equiv value_cmp_total).symm old new in
      (grind (arith, rest, same), grind (arith, rest, same))
  turned_record flags image now wide wide' keys = cc

  pub turned_difference : (flags : List Bool) (d : Difference A) → IsDifference flags d → IsDifference flags (turned flags d)
  turned_difference flags d h =
      let turns : change_of flags h.change.0 d.after d.before ≡ Some (inverse_of flags d.change) =
      by_rows flags h.change.0 (λ b a c. IsUnder flags d.key b → IsUnder flags d.key a → change_of flags h.change.0 a b ≡ Some (inverse_of flags c)) (λ now _ _. refl) (λ image _ _. refl)
      (λ image now other p q.
      let back = turned_record flags image now p.0 q.0 (key_is flags image d.key p.1 ∙ sym (key_is flags now d.key q.1)) in
      let unequal = (eq_by_cmp_equiv fields_cmp_total).symm now image ∙ other in
      λ i. cond (unequal i) None (Some (Update h.change.0 (sym back.0 i) (sym back.1 i))))
      d.before d.after d.change h.change.1 h.before h.after in
      record { before = h.after; after = h.before; change = (h.change.0, turns) }
