-- What a group keeps of a change that is written into it.
use Rattle.std.proofs.Common.{arith, ◌≡◌, Bool, true, false, List, [], ◌∷◌, Option, Some, None, IsTrue, refl, sym, ap, subst, ◌∙◌, append-nil, ℕ, zero, suc, ◌+◌, ◌-◌, ◌≤◌, ◌<◌, ◌++◌, length, map, take, drop, take_at, drop_at, set, get_or, slice_get, length-append, length-drop}
use Rattle.std.specs.Option.{ForSome}
use Rattle.cap_row.specs.Encoding.{AreValues}
use Rattle.cap_row.specs.Fields.{Fields}
use Rattle.cap_row.specs.Key.{fields_eq, fields_eq_decides}
use Rattle.cap_changes.specs.Change.{IsKeyedRow, full_record, old_field, new_field, side_record, change_of}
use Rattle.cap_changes.specs.Column.{by_column}
use Rattle.cap_changes.specs.Record.{AreFields}
use Rattle.cap_changes.specs.Touched.{is_changed}
use Rattle.cap_changes.specs.declared.row_change.RowChange.TheVariants.{Insert, Update, Delete}
use Rattle.cap_changes.proofs.ChangeLemmas.{full_fits, update_fits, change_of-other}
use Rattle.cap_changes.specs.ChangeBytes.{change_bytes, patch_bytes}
use Rattle.cap_changes.specs.ChangeReading.{stored_change, stored_patch}
use Rattle.cap_changes.specs.Fits.{change_fits, patch_fits}
use Rattle.cap_changes.specs.HasValues.{HasValues, PatchHasValues}
use Rattle.cap_changes.specs.Invert.{inverse_of}
use Rattle.cap_changes.specs.Patch.{patch_of, update_record}
use Rattle.cap_changes.specs.Stored.{IsEntry, IsKept, entries_of, start_of, part}
use Rattle.cap_changes.specs.declared.row_change.RowChange.{RowChange}
use Rattle.cap_changes.specs.declared.patch.Patch.{Patch}
use Rattle.cap_changes.proofs.InvertLemmas.{inverse_of-fits, exchanged}
use Rattle.cap_changes.proofs.PatchLemmas.{patch_of-fits}
use Rattle.cap_changes.proofs.StoredChange.{change_entry, patch_entry}
use Rattle.cap_changes.proofs.ValueLemmas.{inverse_values, patch_values, values_of}
use borrow.Rule.Slice.PartMut.{put_mid}
use Rattle.std.proofs.lemmas.List.{length-take-le, take_all, drop_all, take-append-drop}
use Rattle.std.proofs.lemmas.List.Edits.{map_over_more}
use Rattle.cap_changes.specs.Field.{record_bytes}
use Rattle.cap_changes.specs.FieldRecord.{RecordFields}
use Rattle.cap_changes.proofs.StoredEntries.{as_many as entries_count, Lent, lent_at, further, replaced, start_behind}

module _ {A : Type 0} where
  pub patch_again : (flags : List Bool) (change : RowChange A) → IsTrue (change_fits flags change) → HasValues change
      → (stored_patch flags (patch_bytes (patch_of flags change)) ≡ patch_of flags change)
      × IsEntry {C = Patch A} patch_fits PatchHasValues patch_bytes flags (stored_patch flags (patch_bytes (patch_of flags change))) (patch_bytes (patch_of flags change))
  patch_again flags change fits values = patch_entry flags (patch_of flags change) (patch_bytes (patch_of flags change)) (patch_of-fits flags change fits) (patch_values flags change values) refl

  -- ---- the change of a touched key

  full_values : (row : Fields A) → AreValues row → AreFields (full_record row)
  full_values [] each = tt
  full_values (value ∷ row) each = (each.0, full_values row each.1)

  side_values : (old : Bool) (flags : List Bool) (image now : Fields A) → AreValues image → AreValues now → AreFields (side_record old flags image now)
  side_values old (key ∷ flags) (a ∷ image) (b ∷ now) p q = grind (arith, side_values old flags image now)
  side_values old flags image now p q = grind arith

  -- it fits its table, and its fields are values
  pub record Recorded (flags : List Bool) (indirect : Bool) (image now : Option (Fields A)) : Type 0 where
    pub change : RowChange A
    pub is : change_of flags indirect image now ≡ Some change
    pub fits : IsTrue (change_fits flags change)
    pub values : HasValues change

  pub recorded : (flags : List Bool) (indirect : Bool) (image now : Option (Fields A)) → ForSome image (IsKeyedRow flags) → ForSome now (IsKeyedRow flags) → IsTrue (is_changed image now) → ForSome image AreValues → ForSome now AreValues
      → Recorded flags indirect image now
  recorded flags indirect None None keyed keyed' changed p q = absurd cc
  recorded flags indirect None (Some now) keyed keyed' changed p q =
      record { change = Insert indirect (full_record now); is = refl; fits = full_fits flags now (keyed' now refl); values = values_of (full_record now) (full_values now (q now refl)) }
  recorded flags indirect (Some image) None keyed keyed' changed p q =
      record { change = Delete indirect (full_record image); is = refl; fits = full_fits flags image (keyed image refl); values = values_of (full_record image) (full_values image (p image refl)) }
  recorded flags indirect (Some image) (Some now) keyed keyed' changed p q = record {
    change = Update indirect (by_column old_field flags image now) (by_column new_field flags image now);
    is = change_of-other flags indirect image now (λ e. let same : fields_eq image now ≡ true = (fields_eq_decides image now).1 e in cc (rw same at changed));
    fits = update_fits flags indirect image now (keyed image refl) (keyed' now refl);
    values = (values_of _ (side_values true flags image now (p image refl) (q now refl)), values_of _ (side_values false flags image now (p image refl) (q now refl)));
  }

-- ---- the inverse of each change, written over its bytes, which are as many

found : {X : Type 0} (xs : List X) (place : ℕ) (x : X) → Some x ≡ slice_get xs place → x ≡ get_or xs place x
found [] place x is = cc
found (y ∷ xs) zero x is = cc
found (y ∷ xs) (suc place) x is = found xs place x is

module _ {A : Type 0} where
  pub as_many : (flags : List Bool) (change : RowChange A) → IsTrue (change_fits flags change) → length (change_bytes (inverse_of flags change)) ≡ length (change_bytes change)
  as_many flags (Update indirect old new) fits = grind (arith, length-append, exchanged flags old new)
  as_many flags change fits = refl

  -- the records of the inverse of an update have the place of its own ones
  pub records_fit : (flags : List Bool) (change : RowChange A) (bytes records : List ℕ) (indirect : Bool) (old new : RecordFields A) → IsTrue (change_fits flags change) → change ≡ Update indirect old new → bytes ≡ change_bytes change
      → records ≡ record_bytes (update_record flags old new) ++ record_bytes (update_record flags new old) → length (take (length bytes - 2) (drop 2 bytes)) ≡ length records
  records_fit flags change bytes records indirect old new fits is spelled records_are =
      let count : length bytes ≡ 2 + length records = ap length spelled ∙ sym (as_many flags change fits) ∙ ap (λ (c : RowChange A). length (change_bytes (inverse_of flags c))) is ∙ omega (arith, ap length records_are) in
      length-take-le (length bytes - 2) (drop 2 bytes) (omega (arith, length-drop 2 bytes)) ∙ omega (arith, count)

-- ---- one change after another

module _ (A : Type 0) where
  -- the changes before a place are inverted, and the one there begins here
  pub record Inverted (flags : List Bool) (old ends : List ℕ) (place begin : ℕ) (bytes : List ℕ) : Type 0 where
    pub kept : IsKept (change_fits {A = A}) HasValues change_bytes stored_change flags bytes ends
    pub begins : begin ≡ start_of 0 ends place
    pub changes : ◌≡◌ {A = List (RowChange A)} (entries_of stored_change flags bytes 0 ends) (map (inverse_of flags) (take place (entries_of stored_change flags old 0 ends)) ++ drop place (entries_of stored_change flags old 0 ends))

-- a vector whose items are written over
pub written_back : {X : Type 0} (len : ℕ) (new old : List X) → length new ≡ length old → length old ≡ len → take len (new ++ drop (length new) old) ≡ new
written_back len new old same is = take_at new (drop (length new) old) len (omega (arith, same, is))

-- a part that is written as it was
pub as_it_was : (begin end : ℕ) (bytes new : List ℕ) → new ≡ part begin end bytes → put_mid begin (end - begin) bytes new ≡ bytes
as_it_was begin end bytes new is =
    ap (λ (b : List ℕ). take begin bytes ++ (b ++ drop (end - begin) (drop begin bytes))) is ∙ ap (λ (b : List ℕ). take begin bytes ++ b) (take-append-drop (end - begin) (drop begin bytes)) ∙ take-append-drop begin bytes

module _ {A : Type 0} {flags : List Bool} {old ends : List ℕ} {place begin : ℕ} {bytes : List ℕ} where
  -- the change there
  pub next_change : Inverted A flags old ends place begin bytes → place < length ends
      → Lent (change_fits {A = A}) HasValues change_bytes stored_change flags bytes begin (get_or ends place 0) (slice_get (entries_of stored_change flags bytes 0 ends) place)
  next_change i lt = rw i.begins (lent_at (change_fits {A = A}) HasValues change_bytes stored_change flags bytes 0 ends place i.kept.each lt)

  pub one_more : (piece : List ℕ) → Inverted A flags old ends place begin bytes → place < length ends → piece ≡ change_bytes (inverse_of {A = A} flags (stored_change flags (part begin (get_or ends place 0) bytes)))
      → Inverted A flags old ends (place + 1) (get_or ends place 0) (put_mid begin (get_or ends place 0 - begin) bytes piece)
  one_more piece i lt piece_is =
      let l = next_change i lt in
      let end = get_or ends place 0 in
      let change : RowChange A = stored_change flags (part begin end bytes) in
      let new = put_mid begin (end - begin) bytes piece in
      let front = take begin bytes in
      let others = piece ++ drop (end - begin) (drop begin bytes) in
      let again = change_entry flags (inverse_of flags change) piece (inverse_of-fits flags change l.is.fits) (inverse_values flags change l.is.values) piece_is in
      let count : length piece ≡ end - begin =
      ap length piece_is ∙ as_many flags change l.is.fits ∙ ap length (sym l.is.spelled) ∙ length-take-le (end - begin) (drop begin bytes) (omega (arith, length-drop begin bytes, l.within)) in
      let before : length front ≡ begin = length-take-le begin bytes (omega (arith, l.before, l.within)) in
      let behind = further begin end bytes l.before in
      let long : length new ≡ length bytes = omega (arith, length-append front others, length-append piece (drop (end - begin) (drop begin bytes)), ap length behind, length-drop end bytes, before, count, l.before, l.within) in
      let all = entries_of (stored_change {A = A}) flags old 0 ends in
      let now = entries_of (stored_change {A = A}) flags bytes 0 ends in
      let r = replaced (change_fits {A = A}) HasValues change_bytes stored_change flags bytes new piece 0 ends place i.kept.each lt again.1 long (omega (arith, i.begins, l.before, l.within))
      (subst (λ (n : ℕ). take n new ≡ take n bytes) i.begins (take_at front others begin before)) (subst (λ (n : ℕ). drop n new ≡ piece ++ drop end bytes) i.begins (drop_at front others begin before ∙ ap (λ (b : List ℕ). piece ++ b) behind)) (omega (arith, count, i.begins)) in
      record {
        kept = record { keyed = i.kept.keyed; each = r.are; end = i.kept.end ∙ sym long };
        begins = ap (λ (n : ℕ). get_or ends n 0) (omega arith) ∙ start_behind 0 ends (place + 1) (omega arith) (omega (arith, lt));
        changes = r.entries ∙ ap (set now place) again.0 ∙ map_over_more (inverse_of flags) all now place change (omega (arith, lt, entries_count (stored_change {A = A}) flags old 0 ends)) i.changes (found now place change l.lent);
      }

  pub inverted : Inverted A flags old ends place begin bytes → length ends ≤ place → ◌≡◌ {A = List (RowChange A)} (entries_of stored_change flags bytes 0 ends) (map (inverse_of flags) (entries_of stored_change flags old 0 ends))
  inverted i le =
      let all = entries_of (stored_change {A = A}) flags old 0 ends in
      let none : length all ≤ place = omega (arith, le, entries_count (stored_change {A = A}) flags old 0 ends) in
      i.changes ∙ (λ j. map (inverse_of flags) (take_all place all none j) ++ drop_all place all none j) ∙ append-nil (map (inverse_of flags) all)
