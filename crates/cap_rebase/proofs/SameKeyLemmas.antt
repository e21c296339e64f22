-- Changes that fit their table are of one row exactly where they have one key.
use Rattle.std.proofs.Common.{◌≡◌, List, [], ◌∷◌, Bool, true, false, not, ◌||◌, ◌↔◌, Some, None, refl, sym, ◌∙◌}
use Rattle.std.specs.List.{list_all}
use Rattle.std.proofs.lemmas.Bool.{and_parts, and_from}
use Rattle.cap_value.specs.declared.value.Value.{Value}
use Rattle.cap_value.specs.Value.{value_eq, value_eq_decides}
use Rattle.cap_row.specs.Fields.{Fields}
use Rattle.cap_changes.specs.Column.{by_column}
use Rattle.cap_changes.specs.FieldRecord.{RecordFields}
use Rattle.cap_changes.specs.Fits.{change_fits}
use Rattle.cap_changes.specs.Requirements.{requirement_of, requirements, new_requirements, satisfies, satisfy}
use Rattle.cap_changes.specs.declared.record_kind.RecordKind.{RecordKind}
use Rattle.cap_changes.specs.declared.record_kind.RecordKind.TheVariants.{Full, Keyed}
use Rattle.cap_changes.specs.declared.row_change.RowChange.{RowChange}
use Rattle.cap_changes.specs.declared.row_change.RowChange.TheVariants.{Insert, Update, Delete}
use Rattle.cap_group.specs.ChangeKey.{change_key, key_values}
use Rattle.cap_group.specs.Record.{field_eq}
use Rattle.cap_rebase.specs.Flag.{are_of_one_row, key_record}

no_key_field : (A : Type 0) (kind : RecordKind) → satisfies {A = A} (requirement_of kind true) None ≡ true → ⊥
no_key_field A kind e = absurd (cc e)

module _ {A : Type 0} where
  abbrev same_keys : List Bool → RecordFields A → RecordFields A → Bool
  same_keys flags x y = list_all (λ same. same) (by_column (λ key a b. not key || field_eq a b) flags x y)

  same_first : {a b : Value A} {xs ys : Fields A} → (a ∷ xs) ≡ (b ∷ ys) → (a ≡ b) × (xs ≡ ys)
  same_first e = (cc, cc)

  module _ (kind kind' : RecordKind) where
    one_key : (flags : List Bool) (x y : RecordFields A) → satisfy (requirements kind flags) x ≡ true → satisfy (requirements kind' flags) y ≡ true →
        (same_keys flags x y ≡ true) ↔ (key_values flags x ≡ key_values flags y)
    one_key [] x y met met' = (λ e. refl, λ e. refl)
    one_key (key ∷ flags) [] y met met' = cc
    one_key (key ∷ flags) (a ∷ x) [] met met' = cc
    one_key (true ∷ flags) (None ∷ x) (b ∷ y) met met' = absurd (no_key_field A kind (and_parts (satisfies {A = A} (requirement_of kind true) None) (satisfy (requirements kind flags) x) met).0)
    one_key (true ∷ flags) (Some a ∷ x) (None ∷ y) met met' = absurd (no_key_field A kind' (and_parts (satisfies {A = A} (requirement_of kind' true) None) (satisfy (requirements kind' flags) y) met').0)
    one_key (true ∷ flags) (Some a ∷ x) (Some b ∷ y) met met' =
        let more = one_key flags x y (and_parts (satisfies (requirement_of kind true) (Some a)) (satisfy (requirements kind flags) x) met).1
        (and_parts (satisfies (requirement_of kind' true) (Some b)) (satisfy (requirements kind' flags) y) met').1 in (
          λ e.
              let parts = and_parts (value_eq a b) (same_keys flags x y) e in
              λ i. (value_eq_decides a b).0 parts.0 i ∷ more.0 parts.1 i,
          λ e.
              let firsts : (a ≡ b) × (key_values flags x ≡ key_values flags y) = same_first e in
              and_from (value_eq a b) (same_keys flags x y) ((value_eq_decides a b).1 firsts.0) (more.1 firsts.1),
        )
    one_key (false ∷ flags) (a ∷ x) (b ∷ y) met met' =
        one_key flags x y (and_parts (satisfies (requirement_of kind false) a) (satisfy (requirements kind flags) x) met).1
        (and_parts (satisfies (requirement_of kind' false) b) (satisfy (requirements kind' flags) y) met').1

  -- the kind of the record that has the key fields
  abbrev kind_of : RowChange A → RecordKind
  kind_of (Insert indirect new) = Full
  kind_of (Update indirect old new) = Keyed
  kind_of (Delete indirect old) = Full

  its_record : (flags : List Bool) (change : RowChange A) → change_fits flags change ≡ true → satisfy (requirements (kind_of change) flags) (key_record change) ≡ true
  its_record flags (Insert indirect new) fit = fit
  its_record flags (Update indirect old new) fit = (and_parts (satisfy (requirements Keyed flags) old) (satisfy (new_requirements flags old) new) fit).0
  its_record flags (Delete indirect old) fit = fit

  its_key : (flags : List Bool) (change : RowChange A) → change_key flags change ≡ key_values flags (key_record change)
  its_key flags (Insert indirect new) = refl
  its_key flags (Update indirect old new) = refl
  its_key flags (Delete indirect old) = refl

  pub one_row : (flags : List Bool) (a b : RowChange A) → change_fits flags a ≡ true → change_fits flags b ≡ true →
      (are_of_one_row flags a b ≡ true) ↔ (change_key flags a ≡ change_key flags b)
  one_row flags a b fit fit' =
      let both = one_key (kind_of a) (kind_of b) flags (key_record a) (key_record b) (its_record flags a fit) (its_record flags b fit') in (
        λ e. its_key flags a ∙ both.0 e ∙ sym (its_key flags b),
        λ e. both.1 (sym (its_key flags a) ∙ e ∙ its_key flags b),
      )
