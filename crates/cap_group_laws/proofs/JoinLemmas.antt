-- Two changes of one row, each between two of its states, are together the change from the first to the last.
use Rattle.std.proofs.Common.{◌≡◌, List, [], ◌∷◌, length, map, Bool, false, not, ◌&&◌, Option, Some, None, cond, refl, ap, sym, subst, ◌∙◌, arith}
use Rattle.std.specs.Prelude.{fold}
use Rattle.std.specs.List.{AllByRecursion, list_any}
use Rattle.std.proofs.lemmas.Simd.{map-map}
use Rattle.cap_value.specs.declared.value.Value.{Value}
use Rattle.cap_value.specs.Value.{value_eq_decides}
use Rattle.cap_row.specs.Fields.{Fields}
use Rattle.cap_row.specs.Key.{fields_eq, fields_eq_decides, key_fields}
use Rattle.cap_changes.specs.Column.{by_column}
use Rattle.cap_changes.specs.Change as touched
use Rattle.cap_changes.specs.Change.{change_of, full_record}
use Rattle.cap_changes.specs.FieldRecord.{RecordFields}
use Rattle.cap_changes.specs.declared.row_change.RowChange.{RowChange}
use Rattle.cap_changes.specs.declared.row_change.RowChange.TheVariants.{Update}
use Rattle.std.specs.Option.{ForSome}
use Rattle.cap_group.specs.Combined.{combined}
use Rattle.cap_group.specs.Rows.{Follow, IsRowUnder, is_indirect, together}
use Rattle.cap_group.specs.KeyedChanges.{change_after}
use Rattle.cap_group.specs.Record.{record_over, old_field, new_field, is_modified, update_between}

-- the old field of a column, the new one, and whether it is modified
abbrev Column : Type 0 → Type 0
Column A = Option (Value A) × Option (Value A) × Bool

module _ {A : Type 0} where
  -- ---- an UPDATE, column by column

  -- by the fields of two records, and by the values of two rows
  abbrev of_fields : Bool → Option (Value A) → Option (Value A) → Column A
  of_fields key before after = (old_field key before after, new_field key before after, is_modified key before after)

  abbrev of_values : Bool → Value A → Value A → Column A
  of_values key image now = (touched.old_field key image now, touched.new_field key image now, touched.is_modified key image now)

  abbrev update_of : Bool → List (Column A) → Option (RowChange A)
  update_of indirect columns = cond (list_any (λ b. b) (map (λ (c : Column A). c.2) columns)) (Some (Update indirect (map (λ (c : Column A). c.0) columns) (map (λ (c : Column A). c.1) columns))) None

  -- rows of one key differ where a column is modified
  differs : (flags : List Bool) (image now : Fields A) → length image ≡ length flags → length now ≡ length flags → key_fields flags image ≡ key_fields flags now →
      list_any (λ b. b) (by_column touched.is_modified flags image now) ≡ not (fields_eq image now)
  differs [] [] [] wide wide' keys = refl
  differs (key ∷ flags) (a ∷ image) (c ∷ now) wide wide' keys = grind (arith, value_eq_decides a c, differs flags image now)
  differs flags image now wide wide' keys = cc

  -- what two records say of the step from one row to another
  said : (flags : List Bool) (indirect : Bool) (before after : RecordFields A) (image now : Fields A) → length image ≡ length flags → length now ≡ length flags → key_fields flags image ≡ key_fields flags now →
      by_column of_fields flags before after ≡ by_column of_values flags image now → update_between flags indirect before after ≡ change_of flags indirect (Some image) (Some now)
  said flags indirect before after image now wide wide' keys says =
      (simp map-map at (ap (update_of indirect) says))
      ∙ rw (differs flags image now wide wide' keys) (grind arith)

  -- a DELETE and an INSERT
  delete_insert : (flags : List Bool) (image now : Fields A) → by_column of_fields flags (full_record image) (full_record now) ≡ by_column of_values flags image now
  delete_insert (key ∷ flags) (a ∷ image) (c ∷ now) = ap (λ (l : List (Column A)). of_values key a c ∷ l) (delete_insert flags image now)
  delete_insert flags image now = grind arith

  -- two UPDATEs
  update_update : (flags : List Bool) (image row now : Fields A) → length image ≡ length flags → length row ≡ length flags → length now ≡ length flags →
      by_column of_fields flags (record_over (by_column touched.old_field flags row now) (by_column touched.old_field flags image row))
      (record_over (by_column touched.new_field flags image row) (by_column touched.new_field flags row now)) ≡ by_column of_values flags image now
  update_update (key ∷ flags) (a ∷ image) (b ∷ row) (c ∷ now) w w' w'' = grind (arith, value_eq_decides a b, value_eq_decides b c, value_eq_decides a c, update_update flags image row now)
  update_update flags image row now w w' w'' = grind arith

  -- an UPDATE over a row
  insert_update : (flags : List Bool) (row now : Fields A) → length row ≡ length flags → length now ≡ length flags → key_fields flags row ≡ key_fields flags now →
      record_over (full_record row) (by_column touched.new_field flags row now) ≡ full_record now
  insert_update [] [] [] wide wide' keys = refl
  insert_update (key ∷ flags) (b ∷ row) (c ∷ now) wide wide' keys = grind (arith, value_eq_decides b c, insert_update flags row now)
  insert_update flags row now wide wide' keys = cc

  -- the old values of an UPDATE over the row that is deleted
  update_delete : (flags : List Bool) (image row : Fields A) → length image ≡ length flags → length row ≡ length flags →
      record_over (full_record row) (by_column touched.old_field flags image row) ≡ full_record image
  update_delete [] [] [] wide wide' = refl
  update_delete (key ∷ flags) (a ∷ image) (b ∷ row) wide wide' = grind (arith, value_eq_decides a b, update_delete flags image row)
  update_delete flags image row wide wide' = cc

  -- ---- one change after another

  module _ (flags : List Bool) where
    -- the flag of two changes, where the first step has a change or has none
    abbrev flag_of_both : Bool → Bool → Option (RowChange A) → Bool
    flag_of_both m m' None = m'
    flag_of_both m m' (Some present) = m && m'

    module _ (m m' : Bool) (key : Fields A) (added : RowChange A) where
      step : (first next last : Option (Fields A)) → ForSome first (IsRowUnder flags key) → ForSome next (IsRowUnder flags key) → ForSome last (IsRowUnder flags key) → change_of flags m' next last ≡ Some added →
          change_after combined flags (change_of flags m first next) added ≡ change_of flags (flag_of_both m m' (change_of flags m first next)) first last
      step first None None f h h' is = absurd cc
      step None None (Some now) f h h' is = sym is
      step None (Some row) None f h h' is = grind arith
      step None (Some row) (Some now) f h h' is =
          let over = insert_update flags row now (h row refl).wide (h' now refl).wide ((h row refl).under ∙ sym (h' now refl).under) in grind (arith, over)
      step (Some image) None (Some now) f h h' is =
          let whole = said flags (m && m') (full_record image) (full_record now) image now (f image refl).wide (h' now refl).wide ((f image refl).under ∙ sym (h' now refl).under) (delete_insert flags image now) in
          grind (arith, whole)
      step (Some image) (Some row) None f h h' is =
          let over = update_delete flags image row (f image refl).wide (h row refl).wide in grind (arith, over, fields_eq_decides image row)
      step (Some image) (Some row) (Some now) f h h' is =
          let old : RecordFields A = record_over (by_column touched.old_field flags row now) (by_column touched.old_field flags image row) in
          let new : RecordFields A = record_over (by_column touched.new_field flags image row) (by_column touched.new_field flags row now) in
          let whole = said flags (m && m') old new image now (f image refl).wide (h' now refl).wide ((f image refl).under ∙ sym (h' now refl).under) (update_update flags image row now (f image refl).wide (h row refl).wide (h' now refl).wide) in
          grind (arith, whole, fields_eq_decides image row)

  none_yet : (flags : List Bool) (m : Bool) (row : Option (Fields A)) → change_of flags m row row ≡ None
  none_yet flags m None = refl
  none_yet flags m (Some row) = rw ((fields_eq_decides row row).1 refl) refl

  -- changes that follow each other are the change from the first row to the last, with the flag that they have if they all have it
  follow_from : (flags : List Bool) (key : Fields A) (m : Bool) (first next : Option (Fields A)) (changes : List (RowChange A)) (last : Option (Fields A)) →
      ForSome first (IsRowUnder flags key) → ForSome next (IsRowUnder flags key) → Follow flags key next changes last →
      (flag : Bool) × (fold (change_after combined flags) (change_of flags m first next) changes ≡ change_of flags flag first last)
      × (AllByRecursion (λ change. is_indirect change ≡ m) changes → flag ≡ m)
  follow_from flags key m first next [] last f h is = (m, ap (λ (row : Option (Fields A)). change_of flags m first row) is, λ same. refl)
  follow_from flags key m first next (change ∷ changes) last f h (row, under, is, more) =
      let o = change_of flags m first next in
      let so = follow_from flags key (flag_of_both flags m (is_indirect change) o) first row changes last f under more in (
        so.0,
        ap (λ (o : Option (RowChange A)). fold (change_after combined flags) o changes) (step flags m (is_indirect change) key change first next row f h under is) ∙ so.1,
        λ same. let one : flag_of_both flags m (is_indirect change) o ≡ m = grind (arith, same.0) in so.2 (subst (λ (i : Bool). AllByRecursion (λ change. is_indirect change ≡ i) changes) (sym one) same.1) ∙ one,
      )

  -- the same from no change on
  pub follow : (flags : List Bool) (key : Fields A) (m : Bool) (first : Option (Fields A)) (changes : List (RowChange A)) (last : Option (Fields A)) → ForSome first (IsRowUnder flags key) → Follow flags key first changes last →
      (flag : Bool) × (together combined flags changes ≡ change_of flags flag first last) × (AllByRecursion (λ change. is_indirect change ≡ m) changes → flag ≡ m)
  follow flags key m first changes last f h = rw none_yet at (follow_from flags key m first first changes last f f h)

  pub followed : (flags : List Bool) (key : Fields A) (first : Option (Fields A)) (changes : List (RowChange A)) (last : Option (Fields A)) →
      ForSome first (IsRowUnder flags key) → Follow flags key first changes last → (flag : Bool) × (together combined flags changes ≡ change_of flags flag first last)
  followed flags key first changes last f h = let so = follow flags key false first changes last f h in (so.0, so.1)
