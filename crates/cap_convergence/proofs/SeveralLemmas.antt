-- Rebasing over several buffers is rebasing over one after the other.
use Rattle.std.proofs.Common.{◌≡◌, ℕ, ◌+◌, Bool, true, false, cond, ◌&&◌, ◌||◌, List, [], ◌∷◌, ◌++◌, length, map, suc, Option, Some, None, is_some, is_none, Ok, refl, ap, sym, subst, ◌∙◌}
use Rattle.std.specs.Prelude.{IfSome, filter, filter_map, flat_map}
use Rattle.std.specs.List.{AllByRecursion, cons_option, list_any, zip}
use Rattle.std.specs.Option.{option_map}
use Rattle.std.proofs.lemmas.Bool.{and_parts}
use Rattle.std.proofs.lemmas.Grind.{flat_map-append}
use Rattle.std.proofs.lemmas.List.Elements.{recursion_from_All}
use Rattle.std.proofs.lemmas.List.Folds.{list_any-append}
use Rattle.std.proofs.lemmas.List.Sums.{fold-append}
use Rattle.cap_value.specs.Bytes.{bytes_eq}
use Rattle.cap_value.specs.declared.value.Value.{Value}
use Rattle.cap_row.specs.Fields.{Fields}
use Rattle.cap_row.specs.Schema.{flags_eq}
use Rattle.cap_changes.specs.Column.{by_column}
use Rattle.cap_changes.specs.Entries.{IsFitting}
use Rattle.cap_changes.specs.FieldRecord.{RecordFields}
use Rattle.cap_changes.specs.Fits.{change_fits}
use Rattle.cap_changes.specs.Group.{TableChanges}
use Rattle.cap_changes.specs.Invert.{inverse_of}
use Rattle.cap_changes.proofs.InvertLemmas.{inverse_of-fits}
use Rattle.cap_changes.specs.Requirements.{new_requirement, new_requirements, requirements, satisfies, satisfy}
use Rattle.cap_changes.specs.declared.field_requirement.FieldRequirement.TheVariants as required
use Rattle.cap_changes.specs.declared.record_kind.RecordKind.TheVariants.{Full, Keyed}
use Rattle.cap_changes.specs.declared.row_change.RowChange.{RowChange}
use Rattle.cap_changes.specs.declared.row_change.RowChange.TheVariants.{Insert, Update, Delete}
use Rattle.cap_codec.specs.Writable.{has_some}
use Rattle.cap_codec.specs.declared.read.Contents.TheVariants.{Changes}
use Rattle.cap_apply.specs.Fitting.{FitsItsColumns}
use Rattle.cap_group.specs.ChangeKey.{change_key, key_values}
use Rattle.cap_group.specs.Combined.{combined}
use Rattle.cap_group.specs.Record.{differ, field_over, new_field, old_field, record_over, update_between}
use Rattle.cap_group.specs.Rows.{is_indirect}
use Rattle.cap_rebase.specs.Flag.{are_of_one_row, flagged}
use Rattle.cap_rebase.specs.Rebase.{field_left, new_left, old_left, over_omitted, over_replaced, rebased, rebased_next, rebased_over}
use Rattle.cap_rebase.specs.Rebaser.{Buffers, buffered, has_other_columns, of_its_row, rebase, rebased_group, rebased_in, rebased_list, refused_from, unless}
use Rattle.cap_rebase.specs.declared.refusal.RebaseRefusal.{RebaseRefusal}
use Rattle.cap_rebase.specs.declared.refusal.RebaseRefusal.TheVariants.{OtherColumns}
use Rattle.cap_rebase.proofs.RebaseLemmas.{omitted-fits, replaced-fits}
use Rattle.cap_rebase.proofs.SameKeyLemmas.{one_row}
use Rattle.cap_convergence.proofs.KeyLemmas.{all_append, all_filter, all_turn, flagged_key, same_filter, same_test}

and_true : (a b : Bool) → (a && b) ≡ true → b ≡ true
and_true a b is = (and_parts a b is).1

same_flags : (a b : List Bool) → flags_eq a b ≡ true → a ≡ b
same_flags [] [] is = refl
same_flags [] (y ∷ b) is = cc
same_flags (x ∷ a) [] is = cc
same_flags (true ∷ a) (true ∷ b) is = ap (λ l. true ∷ l) (same_flags a b is)
same_flags (true ∷ a) (false ∷ b) is = cc
same_flags (false ∷ a) (true ∷ b) is = cc
same_flags (false ∷ a) (false ∷ b) is = ap (λ l. false ∷ l) (same_flags a b is)

neither : (a b : Bool) → (a || b) ≡ false → (a ≡ false) × (b ≡ false)
neither true b is = cc
neither false b is = (refl, is)

module _ {A : Type 0} where
  -- ---- key fields of records that are made of others

  -- each key field is defined
  abbrev HasKeyFields : List Bool → RecordFields A → Type 0
  HasKeyFields [] fields = fields ≡ []
  HasKeyFields (key ∷ flags) [] = ⊥
  HasKeyFields (true ∷ flags) (field ∷ fields) = (is_some field ≡ true) × HasKeyFields flags fields
  HasKeyFields (false ∷ flags) (field ∷ fields) = HasKeyFields flags fields

  -- no key field is
  abbrev HasNoKeyField : List Bool → RecordFields A → Type 0
  HasNoKeyField [] fields = fields ≡ []
  HasNoKeyField (key ∷ flags) [] = ⊥
  HasNoKeyField (true ∷ flags) (field ∷ fields) = (is_none field ≡ true) × HasNoKeyField flags fields
  HasNoKeyField (false ∷ flags) (field ∷ fields) = HasNoKeyField flags fields

  key_defined : (field : Option (Value A)) → satisfies required.Key field ≡ true → is_some field ≡ true
  key_defined None met = cc
  key_defined (Some value) met = refl

  full_has : (flags : List Bool) (fields : RecordFields A) → satisfy (requirements Full flags) fields ≡ true → HasKeyFields flags fields
  full_has [] [] met = refl
  full_has [] (field ∷ fields) met = cc
  full_has (key ∷ flags) [] met = cc
  full_has (true ∷ flags) (field ∷ fields) met =
      let parts = and_parts (satisfies required.Key field) (satisfy (requirements Full flags) fields) met in (key_defined field parts.0, full_has flags fields parts.1)
  full_has (false ∷ flags) (field ∷ fields) met = full_has flags fields (and_parts (satisfies required.Defined field) (satisfy (requirements Full flags) fields) met).1

  keyed_has : (flags : List Bool) (fields : RecordFields A) → satisfy (requirements Keyed flags) fields ≡ true → HasKeyFields flags fields
  keyed_has [] [] met = refl
  keyed_has [] (field ∷ fields) met = cc
  keyed_has (key ∷ flags) [] met = cc
  keyed_has (true ∷ flags) (field ∷ fields) met =
      let parts = and_parts (satisfies required.Key field) (satisfy (requirements Keyed flags) fields) met in (key_defined field parts.0, keyed_has flags fields parts.1)
  keyed_has (false ∷ flags) (field ∷ fields) met = keyed_has flags fields met

  new_has_none : (flags : List Bool) (old new : RecordFields A) → HasKeyFields flags old → satisfy (new_requirements flags old) new ≡ true → HasNoKeyField flags new
  new_has_none [] [] [] has met = refl
  new_has_none [] [] (field ∷ new) has met = cc
  new_has_none [] (field ∷ old) new has met = cc
  new_has_none (key ∷ flags) [] new has met = absurd has
  new_has_none (key ∷ flags) (before ∷ old) [] has met = cc
  new_has_none (true ∷ flags) (before ∷ old) (after ∷ new) has met =
      let parts = and_parts (is_none after) (satisfy (new_requirements flags old) new) met in (parts.0, new_has_none flags old new has.1 parts.1)
  new_has_none (false ∷ flags) (before ∷ old) (after ∷ new) has met =
      new_has_none flags old new has (and_parts (satisfies (new_requirement (false, before)) after) (satisfy (new_requirements flags old) new) met).1

  -- a record that is made by column and takes key fields from the first
  first_keys : (f : Bool → Option (Value A) → Option (Value A) → Option (Value A)) → ((a b : Option (Value A)) → f true a b ≡ a) → (flags : List Bool) (a b : RecordFields A) → length a ≡ length flags → length b ≡ length flags
      → key_values flags (by_column f flags a b) ≡ key_values flags a
  first_keys f is [] a b wide wide' = refl
  first_keys f is (key ∷ flags) [] b wide wide' = cc
  first_keys f is (key ∷ flags) (x ∷ a) [] wide wide' = cc
  first_keys f is (true ∷ flags) (x ∷ a) (y ∷ b) wide wide' = λ i. cons_option (is x y i) (first_keys f is flags a b (cc) (cc) i)
  first_keys f is (false ∷ flags) (x ∷ a) (y ∷ b) wide wide' = first_keys f is flags a b (cc) (cc)

  -- the fields above where they are defined
  keys_above : (flags : List Bool) (below above : RecordFields A) → length below ≡ length flags → HasKeyFields flags above → key_values flags (record_over below above) ≡ key_values flags above
  keys_above [] below above wide has = refl
  keys_above (key ∷ flags) [] above wide has = cc
  keys_above (key ∷ flags) (x ∷ below) [] wide has = absurd has
  keys_above (true ∷ flags) (x ∷ below) (None ∷ above) wide has = absurd (nothing has.0)
    where
      nothing : false ≡ true → ⊥
      nothing e = absurd (cc e)
  keys_above (true ∷ flags) (x ∷ below) (Some y ∷ above) wide has = ap (λ (k : Fields A). y ∷ k) (keys_above flags below above (cc) has.1)
  keys_above (false ∷ flags) (x ∷ below) (y ∷ above) wide has = keys_above flags below above (cc) has

  keys_below : (flags : List Bool) (below above : RecordFields A) → length below ≡ length flags → HasNoKeyField flags above → key_values flags (record_over below above) ≡ key_values flags below
  keys_below [] below above wide has = refl
  keys_below (key ∷ flags) [] above wide has = cc
  keys_below (key ∷ flags) (x ∷ below) [] wide has = absurd has
  keys_below (true ∷ flags) (x ∷ below) (None ∷ above) wide has = ap (cons_option x) (keys_below flags below above (cc) has.1)
  keys_below (true ∷ flags) (x ∷ below) (Some y ∷ above) wide has = absurd (nothing has.0)
    where
      nothing : false ≡ true → ⊥
      nothing e = absurd (cc e)
  keys_below (false ∷ flags) (x ∷ below) (y ∷ above) wide has = keys_below flags below above (cc) has

  wide_by : (flags : List Bool) (fields : RecordFields A) → HasKeyFields flags fields → length fields ≡ length flags
  wide_by [] fields has = ap length has
  wide_by (key ∷ flags) [] has = absurd has
  wide_by (true ∷ flags) (field ∷ fields) has = ap suc (wide_by flags fields has.1)
  wide_by (false ∷ flags) (field ∷ fields) has = ap suc (wide_by flags fields has)

  wide_by_none : (flags : List Bool) (fields : RecordFields A) → HasNoKeyField flags fields → length fields ≡ length flags
  wide_by_none [] fields has = ap length has
  wide_by_none (key ∷ flags) [] has = absurd has
  wide_by_none (true ∷ flags) (field ∷ fields) has = ap suc (wide_by_none flags fields has.1)
  wide_by_none (false ∷ flags) (field ∷ fields) has = ap suc (wide_by_none flags fields has)

  wide_pairs : (f : Option (Value A) × Option (Value A) → Option (Value A)) (flags : List Bool) (a b : RecordFields A) → length a ≡ length flags → length b ≡ length flags → length (map f (zip a b)) ≡ length flags
  wide_pairs f [] [] b wide wide' = refl
  wide_pairs f [] (x ∷ a) b wide wide' = cc
  wide_pairs f (key ∷ flags) [] b wide wide' = cc
  wide_pairs f (key ∷ flags) (x ∷ a) [] wide wide' = cc
  wide_pairs f (key ∷ flags) (x ∷ a) (y ∷ b) wide wide' = ap suc (wide_pairs f flags a b (cc) (cc))

  -- ---- the key of a rebased change

  record UpdateRecords (flags : List Bool) (old new : RecordFields A) : Type 0 where
    keys : HasKeyFields flags old
    others : HasNoKeyField flags new
    old_wide : length old ≡ length flags
    new_wide : length new ≡ length flags

  update_records : (flags : List Bool) (indirect : Bool) (old new : RecordFields A) → change_fits flags (Update indirect old new) ≡ true → UpdateRecords flags old new
  update_records flags indirect old new fits =
      let parts = and_parts (satisfy (requirements Keyed flags) old) (satisfy (new_requirements flags old) new) fits in
      let keys = keyed_has flags old parts.0 in
      let others = new_has_none flags old new keys parts.1 in
      record { keys = keys; others = others; old_wide = wide_by flags old keys; new_wide = wide_by_none flags new others }

  inverse_key : (flags : List Bool) (change : RowChange A) → change_fits flags change ≡ true → change_key flags (inverse_of flags change) ≡ change_key flags change
  inverse_key flags (Insert indirect new) fits = refl
  inverse_key flags (Update indirect old new) fits =
      let records = update_records flags indirect old new fits in
      first_keys (λ key before after. cond key before after) (λ before after. refl) flags old new records.old_wide records.new_wide
  inverse_key flags (Delete indirect old) fits = refl

  between_key : (flags : List Bool) (indirect : Bool) (before after : RecordFields A) → length before ≡ length flags → length after ≡ length flags
      → IfSome (update_between flags indirect before after) (λ change. change_key flags change ≡ key_values flags before)
  between_key flags indirect before after wide wide' =
      elim (differ flags before after) as (λ b. IfSome (cond b (Some (Update indirect (by_column old_field flags before after) (by_column new_field flags before after))) None) (λ change. change_key flags change ≡ key_values flags before)) [
        | true ↦ first_keys old_field (λ a b. refl) flags before after wide wide'
        | false ↦ tt
      ]

  with_key : (flags : List Bool) (o : Option (RowChange A)) (a b : Fields A) → a ≡ b → IfSome o (λ change. change_key flags change ≡ a) → IfSome o (λ change. change_key flags change ≡ b)
  with_key flags None a b same is = tt
  with_key flags (Some change) a b same is = is ∙ same

  combined_key : (flags : List Bool) (first next : RowChange A) → change_fits flags first ≡ true → change_fits flags next ≡ true → IfSome (combined flags first next) (λ change. change_key flags change ≡ change_key flags first)
  combined_key flags (Insert indirect new) (Insert indirect' new') fits fits' = refl
  combined_key flags (Insert indirect new) (Update indirect' old' new') fits fits' =
      let has = full_has flags new fits in
      keys_below flags new new' (wide_by flags new has) (update_records flags indirect' old' new' fits').others
  combined_key flags (Insert indirect new) (Delete indirect' old') fits fits' = tt
  combined_key flags (Update indirect old new) (Insert indirect' new') fits fits' = refl
  combined_key flags (Update indirect old new) (Update indirect' old' new') fits fits' =
      let records = update_records flags indirect old new fits in
      let records' = update_records flags indirect' old' new' fits' in
      with_key flags (combined flags (Update indirect old new) (Update indirect' old' new')) (key_values flags (record_over old' old)) (key_values flags old) (keys_above flags old' old records'.old_wide records.keys)
      (between_key flags (indirect && indirect') (record_over old' old) (record_over new new')
      (wide_pairs (λ fields. field_over fields.0 fields.1) flags old' old records'.old_wide records.old_wide) (wide_pairs (λ fields. field_over fields.0 fields.1) flags new new' records.new_wide records'.new_wide))
  combined_key flags (Update indirect old new) (Delete indirect' old') fits fits' =
      keys_above flags old' old (wide_by flags old' (full_has flags old' fits')) (update_records flags indirect old new fits).keys
  combined_key flags (Delete indirect old) (Insert indirect' new') fits fits' =
      between_key flags (indirect && indirect') old new' (wide_by flags old (full_has flags old fits)) (wide_by flags new' (full_has flags new' fits'))
  combined_key flags (Delete indirect old) (Update indirect' old' new') fits fits' = refl
  combined_key flags (Delete indirect old) (Delete indirect' old') fits fits' = refl

  reflagged_key : (flags : List Bool) (flag : Bool) (key : Fields A) (o : Option (RowChange A)) → IfSome o (λ change. change_key flags change ≡ key) → IfSome (option_map (flagged flag) o) (λ change. change_key flags change ≡ key)
  reflagged_key flags flag key None is = tt
  reflagged_key flags flag key (Some change) is = flagged_key flags flag change ∙ is

  -- a change of this key that fits the table
  abbrev Keeps : List Bool → Fields A → RowChange A → Type 0
  Keeps flags key change = (change_fits flags change ≡ true) × (change_key flags change ≡ key)

  both_some : (flags : List Bool) (key : Fields A) (o : Option (RowChange A)) → IfSome o (λ change. change_fits flags change ≡ true) → IfSome o (λ change. change_key flags change ≡ key) → IfSome o (Keeps flags key)
  both_some flags key None fits is = tt
  both_some flags key (Some change) fits is = (fits, is)

  omitted_key : (flags : List Bool) (remote local : RowChange A) → change_fits flags remote ≡ true → change_fits flags local ≡ true → IfSome (over_omitted flags remote local) (λ change. change_key flags change ≡ change_key flags remote)
  omitted_key flags remote local fits fits' =
      reflagged_key flags (is_indirect local) (change_key flags remote) (combined flags (inverse_of flags remote) local)
      (with_key flags (combined flags (inverse_of flags remote) local) (change_key flags (inverse_of flags remote)) (change_key flags remote) (inverse_key flags remote fits)
      (combined_key flags (inverse_of flags remote) local (inverse_of-fits flags remote fits) fits'))

  replaced_key : (flags : List Bool) (remote local : RowChange A) → change_fits flags remote ≡ true → change_fits flags local ≡ true → IfSome (over_replaced flags remote local) (λ change. change_key flags change ≡ change_key flags local)
  replaced_key flags (Insert indirect new) local fits fits' = tt
  replaced_key flags (Delete indirect old) local fits fits' = tt
  replaced_key flags (Update indirect old new) (Insert indirect' new') fits fits' = tt
  replaced_key flags (Update indirect old new) (Delete indirect' old') fits fits' = tt
  replaced_key flags (Update indirect old new) (Update indirect' old' new') fits fits' =
      let records = update_records flags indirect old new fits in
      let records' = update_records flags indirect' old' new' fits' in
      elim (list_any is_some (new_left new' new)) as (λ b. IfSome (cond b (Some (Update indirect' (by_column old_left flags old' (new_left new' new)) (new_left new' new))) None) (λ change. change_key flags change ≡ key_values flags old')) [
        | true ↦ first_keys old_left (λ a b. refl) flags old' (new_left new' new) records'.old_wide (wide_pairs (λ fields. field_left fields.0 fields.1) flags new' new records'.new_wide records.new_wide)
        | false ↦ tt
      ]

  rebased_keeps : (flags : List Bool) (key : Fields A) (remote local : RowChange A) → Keeps flags key remote → Keeps flags key local → IfSome (rebased flags remote local) (Keeps flags key)
  rebased_keeps flags key remote local r l =
      elim (is_indirect remote) as (λ b. IfSome (cond b (over_replaced flags remote local) (over_omitted flags remote local)) (Keeps flags key)) [
        | true ↦ both_some flags key (over_replaced flags remote local) (replaced-fits flags remote local r.0 l.0)
            (with_key flags (over_replaced flags remote local) (change_key flags local) key l.1 (replaced_key flags remote local r.0 l.0))
        | false ↦ both_some flags key (over_omitted flags remote local) (omitted-fits flags remote local r.0 l.0)
            (with_key flags (over_omitted flags remote local) (change_key flags remote) key r.1 (omitted_key flags remote local r.0 l.0))
      ]

  over_keeps : (flags : List Bool) (key : Fields A) (remotes : List (RowChange A)) (local : Option (RowChange A)) → AllByRecursion (Keeps flags key) remotes → IfSome local (Keeps flags key) → IfSome (rebased_over flags local remotes) (Keeps flags key)
  over_keeps flags key [] local all is = is
  over_keeps flags key (remote ∷ remotes) None all is = over_keeps flags key remotes None all.1 tt
  over_keeps flags key (remote ∷ remotes) (Some local) all is = over_keeps flags key remotes (rebased flags remote local) all.1 (rebased_keeps flags key remote local all.0 is)

  -- ---- the buffered changes of a row

  abbrev AllChangesFit : TableChanges A → Type 0
  AllChangesFit group = AllByRecursion (λ change. change_fits group.schema change ≡ true) group.changes

  abbrev AllFit : List (TableChanges A) → Type 0
  AllFit groups = AllByRecursion AllChangesFit groups

  module _ (group : TableChanges A) (local other : RowChange A) (fits : change_fits group.schema local ≡ true) (fits' : change_fits group.schema other ≡ true) (same : change_key group.schema other ≡ change_key group.schema local) where
    same_row : (x : RowChange A) → change_fits group.schema x ≡ true → are_of_one_row group.schema other x ≡ are_of_one_row group.schema local x
    same_row x fit =
        let one = one_row group.schema other x fits' fit in
        let two = one_row group.schema local x fits fit in
        same_test (are_of_one_row group.schema other x) (are_of_one_row group.schema local x) (λ e. two.1 (sym same ∙ one.0 e)) (λ e. one.1 (same ∙ two.0 e))

    same_found : (g : TableChanges A) → AllChangesFit g → of_its_row group other g ≡ of_its_row group local g
    same_found g all =
        elim (bytes_eq group.table g.table && flags_eq group.schema g.schema) as (λ b. (bytes_eq group.table g.table && flags_eq group.schema g.schema) ≡ b
        → cond b (filter (are_of_one_row group.schema other) g.changes) [] ≡ cond b (filter (are_of_one_row group.schema local) g.changes) []) [
          | true ↦ λ is.
              let flags_are = same_flags group.schema g.schema (and_true (bytes_eq group.table g.table) (flags_eq group.schema g.schema) is) in
              same_filter (are_of_one_row group.schema other) (are_of_one_row group.schema local) g.changes
              (all_turn (λ c. change_fits group.schema c ≡ true) (λ c. are_of_one_row group.schema other c ≡ are_of_one_row group.schema local c) same_row g.changes (subst (λ s. AllByRecursion (λ c. change_fits s c ≡ true) g.changes) (sym flags_are) all))
          | false ↦ λ _. refl
        ] refl

    same_in : (buffer : List (TableChanges A)) → AllFit buffer → flat_map (of_its_row group other) buffer ≡ flat_map (of_its_row group local) buffer
    same_in [] all = refl
    same_in (g ∷ buffer) all = λ i. same_found g all.0 i ++ same_in buffer all.1 i

    same_buffered : (buffers : Buffers A) → AllByRecursion AllFit buffers → buffered buffers group other ≡ buffered buffers group local
    same_buffered [] all = refl
    same_buffered (buffer ∷ buffers) all = λ i. same_in buffer all.0 i ++ same_buffered buffers all.1 i

  module _ (group : TableChanges A) (local : RowChange A) (fits : change_fits group.schema local ≡ true) where
    abbrev its_key : Fields A
    its_key = change_key group.schema local

    filtered : (changes : List (RowChange A)) → AllByRecursion (λ c. change_fits group.schema c ≡ true) changes → AllByRecursion (Keeps group.schema its_key) (filter (are_of_one_row group.schema local) changes)
    filtered [] all = tt
    filtered (c ∷ changes) all =
        elim (are_of_one_row group.schema local c) as (λ b. are_of_one_row group.schema local c ≡ b
        → AllByRecursion (Keeps group.schema its_key) (cond b (c ∷ filter (are_of_one_row group.schema local) changes) (filter (are_of_one_row group.schema local) changes))) [
          | true ↦ λ is. ((all.0, sym ((one_row group.schema local c fits all.0).0 is)), filtered changes all.1)
          | false ↦ λ _. filtered changes all.1
        ] refl

    found_keeps : (g : TableChanges A) → AllChangesFit g → AllByRecursion (Keeps group.schema its_key) (of_its_row group local g)
    found_keeps g all =
        elim (bytes_eq group.table g.table && flags_eq group.schema g.schema) as (λ b. (bytes_eq group.table g.table && flags_eq group.schema g.schema) ≡ b
        → AllByRecursion (Keeps group.schema its_key) (cond b (filter (are_of_one_row group.schema local) g.changes) [])) [
          | true ↦ λ is.
              let flags_are = same_flags group.schema g.schema (and_true (bytes_eq group.table g.table) (flags_eq group.schema g.schema) is) in
              filtered g.changes (subst (λ s. AllByRecursion (λ c. change_fits s c ≡ true) g.changes) (sym flags_are) all)
          | false ↦ λ _. tt
        ] refl

    in_buffer_keeps : (buffer : List (TableChanges A)) → AllFit buffer → AllByRecursion (Keeps group.schema its_key) (flat_map (of_its_row group local) buffer)
    in_buffer_keeps [] all = tt
    in_buffer_keeps (g ∷ buffer) all = all_append (Keeps group.schema its_key) (of_its_row group local g) (flat_map (of_its_row group local) buffer) (found_keeps g all.0) (in_buffer_keeps buffer all.1)

    buffered_keeps : (buffers : Buffers A) → AllByRecursion AllFit buffers → AllByRecursion (Keeps group.schema its_key) (buffered buffers group local)
    buffered_keeps [] all = tt
    buffered_keeps (buffer ∷ buffers) all =
        all_append (Keeps group.schema its_key) (flat_map (of_its_row group local) buffer) (buffered buffers group local) (in_buffer_keeps buffer all.0) (buffered_keeps buffers all.1)

  -- ---- two steps

  none_over : (flags : List Bool) (remotes : List (RowChange A)) → rebased_over flags None remotes ≡ None
  none_over flags [] = refl
  none_over flags (remote ∷ remotes) = none_over flags remotes

  module _ (buffers more : Buffers A) (all : AllByRecursion AllFit buffers) (all_more : AllByRecursion AllFit more) where
    -- a change over the further buffers, if anything is left
    abbrev then_in : TableChanges A → Option (RowChange A) → Option (RowChange A)
    then_in group None = None
    then_in group (Some change) = rebased_in more group change

    one_change : (group : TableChanges A) (local : RowChange A) → change_fits group.schema local ≡ true → then_in group (rebased_in buffers group local) ≡ rebased_in (buffers ++ more) group local
    one_change group local fits =
        let flags = group.schema in
        let key = change_key flags local in
        by_left (rebased_in buffers group local) (over_keeps flags key (buffered buffers group local) (Some local) (buffered_keeps group local fits buffers all) (fits, refl))
        ∙ sym (fold-append (rebased_next flags) (Some local) (buffered buffers group local) (buffered more group local))
        ∙ ap (rebased_over flags (Some local)) (sym (flat_map-append (flat_map (of_its_row group local)) buffers more))
      where
        by_left : (o : Option (RowChange A)) → IfSome o (Keeps group.schema (change_key group.schema local)) → then_in group o ≡ rebased_over group.schema o (buffered more group local)
        by_left None is = sym (none_over group.schema (buffered more group local))
        by_left (Some other) is = ap (rebased_over group.schema (Some other)) (same_buffered group local other fits is.0 is.1 more all_more)

    kept_then : (group : TableChanges A) (o : Option (RowChange A)) (rest : List (RowChange A)) → filter_map (rebased_in more group) (cons_option o rest) ≡ cons_option (then_in group o) (filter_map (rebased_in more group) rest)
    kept_then group None rest = refl
    kept_then group (Some change) rest = refl

    in_two : (group : TableChanges A) (changes : List (RowChange A)) → AllByRecursion (λ c. change_fits group.schema c ≡ true) changes
        → filter_map (rebased_in more group) (filter_map (rebased_in buffers group) changes) ≡ filter_map (rebased_in (buffers ++ more) group) changes
    in_two group [] fits = refl
    in_two group (change ∷ changes) fits =
        kept_then group (rebased_in buffers group change) (filter_map (rebased_in buffers group) changes) ∙ (λ i. cons_option (one_change group change fits.0 i) (in_two group changes fits.1 i))

    group_in_two : (group : TableChanges A) → AllChangesFit group → rebased_group more (rebased_group buffers group) ≡ rebased_group (buffers ++ more) group
    group_in_two group fits = ap (λ cs. record group { changes = cs }) (in_two group group.changes fits)

    none_left : (group : TableChanges A) → has_some group.changes ≡ false → has_some (rebased_group more group).changes ≡ false
    none_left group is = by_changes group.changes is
      where
        by_changes : (changes : List (RowChange A)) → has_some changes ≡ false → has_some (filter_map (rebased_in more group) changes) ≡ false
        by_changes [] is = refl
        by_changes (change ∷ changes) is = cc

    list_in_two : (groups : List (TableChanges A)) → AllFit groups → rebased_list more (rebased_list buffers groups) ≡ rebased_list (buffers ++ more) groups
    list_in_two [] fits = refl
    list_in_two (group ∷ groups) fits =
        let first = rebased_group buffers group in
        let second = rebased_group more first in
        let rest = rebased_list buffers groups in
        elim (has_some first.changes) as (λ b. has_some first.changes ≡ b → rebased_list more (cond b (first ∷ rest) rest) ≡ cond (has_some second.changes) (second ∷ rebased_list more rest) (rebased_list more rest)) [
          | true ↦ λ _. refl
          | false ↦ λ none. sym (ap (λ b. cond b (second ∷ rebased_list more rest) (rebased_list more rest)) (none_left first none))
        ] refl
        ∙ (λ i. cond (has_some (group_in_two group fits.0 i).changes) (group_in_two group fits.0 i ∷ list_in_two groups fits.1 i) (list_in_two groups fits.1 i))

  -- ---- refusals

  abbrev HaveSameColumns : Buffers A → List (TableChanges A) → Type 0
  HaveSameColumns buffers groups = AllByRecursion (λ group. has_other_columns buffers group ≡ false) groups

  columns_from : (buffers : Buffers A) (place : ℕ) (groups : List (TableChanges A)) → refused_from place buffers groups ≡ None → HaveSameColumns buffers groups
  columns_from buffers place [] is = tt
  columns_from buffers place (group ∷ groups) is =
      elim (has_other_columns buffers group) as (λ b. cond b (Some (OtherColumns place)) (refused_from (place + 1) buffers groups) ≡ None → (b ≡ false) × HaveSameColumns buffers groups) [
        | true ↦ λ e. cc
        | false ↦ λ e. (refl, columns_from buffers (place + 1) groups e)
      ] is

  none_refused : (buffers : Buffers A) (place : ℕ) (groups : List (TableChanges A)) → HaveSameColumns buffers groups → refused_from place buffers groups ≡ None
  none_refused buffers place [] all = refl
  none_refused buffers place (group ∷ groups) all =
      ap (λ b. cond b (Some (OtherColumns place)) (refused_from (place + 1) buffers groups)) all.0 ∙ none_refused buffers (place + 1) groups all.1

  columns_of_all : (buffers more : Buffers A) (groups : List (TableChanges A)) → HaveSameColumns (buffers ++ more) groups → HaveSameColumns buffers groups × HaveSameColumns more groups
  columns_of_all buffers more [] all = (tt, tt)
  columns_of_all buffers more (group ∷ groups) all =
      let parts = neither (has_other_columns buffers group) (has_other_columns more group) (sym (list_any-append _ buffers more) ∙ all.0) in
      let rest = columns_of_all buffers more groups all.1 in
      ((parts.0, rest.0), (parts.1, rest.1))

  rebased_columns : (buffers more : Buffers A) (groups : List (TableChanges A)) → HaveSameColumns more groups → HaveSameColumns more (map (rebased_group buffers) groups)
  rebased_columns buffers more [] all = tt
  rebased_columns buffers more (group ∷ groups) all = (all.0, rebased_columns buffers more groups all.1)

  done : (o : Option RebaseRefusal) (list made : List (TableChanges A)) → unless o list ≡ Ok made → (o ≡ None) × (list ≡ made)
  done None list made is = (refl, cc)
  done (Some why) list made is = cc

  all_fit : (groups : List (TableChanges A)) → FitsItsColumns (Changes groups) → AllFit groups
  all_fit groups fits =
      all_turn (IsFitting change_fits) AllChangesFit (λ (group : TableChanges A) (fit : IsFitting change_fits group). recursion_from_All (λ change. change_fits group.schema change ≡ true) group.changes fit.each) groups
      (recursion_from_All (IsFitting change_fits) groups fits)

  pub one_after_the_other : (buffers more : Buffers A) (changes made : List (TableChanges A)) → AllByRecursion (λ buffer. FitsItsColumns (Changes buffer)) (buffers ++ more) → FitsItsColumns (Changes changes)
      → rebase (buffers ++ more) changes ≡ Ok made → (between : List (TableChanges A)) × (rebase buffers changes ≡ Ok between) × (rebase more between ≡ Ok made)
  one_after_the_other buffers more changes made fit fits is =
      let whole = done (refused_from 0 (buffers ++ more) changes) (rebased_list (buffers ++ more) changes) made is in
      let columns = columns_of_all buffers more changes (columns_from (buffers ++ more) 0 changes whole.0) in
      let all = all_turn (λ buffer. FitsItsColumns (Changes buffer)) AllFit all_fit (buffers ++ more) fit in
      let between = rebased_list buffers changes in
      let further = all_filter (λ group. has_other_columns more group ≡ false) (λ (group : TableChanges A). has_some group.changes) (map (rebased_group buffers) changes) (rebased_columns buffers more changes columns.1) in (
        between,
        ap (λ o. unless o between) (none_refused buffers 0 changes columns.0),
        ap (λ o. unless o (rebased_list more between)) (none_refused more 0 between further)
            ∙ ap Ok (list_in_two buffers more (first_all buffers all) (last_all buffers all) changes (all_fit changes fits) ∙ whole.1),
      )
    where
      first_all : (buffers : Buffers A) → AllByRecursion AllFit (buffers ++ more) → AllByRecursion AllFit buffers
      first_all [] all = tt
      first_all (buffer ∷ buffers) all = (all.0, first_all buffers all.1)

      last_all : (buffers : Buffers A) → AllByRecursion AllFit (buffers ++ more) → AllByRecursion AllFit more
      last_all [] all = all
      last_all (buffer ∷ buffers) all = last_all buffers all.1
