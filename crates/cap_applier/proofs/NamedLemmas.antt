-- The rows that no change names stay as they are.
use Rattle.std.proofs.Common.{◌≡◌, ℕ, Bool, true, false, cond, Option, Some, None, Result, Ok, Err, List, [], ◌∷◌, length, map, refl, sym, ap, subst, ◌∙◌}
use Rattle.std.specs.Prelude.{IfOk, is_some, option_and_then, slice_get, suc, zero}
use Rattle.std.specs.declared.cmp.Ordering.{Ordering}
use Rattle.std.specs.declared.cmp.Ordering.TheVariants.{Equal}
use Rattle.std.specs.BTreeMap.{is_at}
use Rattle.std.specs.Cmp.{Equal-is}
use Rattle.std.specs.Ordering.{eq_by_cmp, is_eq}
use Rattle.std.specs.Option.{option_map}
use Rattle.std.proofs.lemmas.Option.{slice_get-map}
use Rattle.cap_value.specs.Bytes.{bytes_cmp}
use Rattle.cap_value.specs.declared.refusal.Refusal.{Refusal}
use Rattle.cap_row.specs.Fields.{Fields}
use Rattle.cap_row.specs.Key.{fields_cmp, fields_cmp-Equal}
use Rattle.cap_tree.specs.Tree.{get, put_entry, take_entry}
use Rattle.cap_filter.specs.Rule.{Rule}
use Rattle.cap_table.specs.Table.{TableState}
use Rattle.cap_database.specs.Read.{row_at}
use Rattle.cap_database.specs.Tables.{Tables, table_of}
use Rattle.cap_database.proofs.KeptKeyLemmas.{row-found}
use Rattle.cap_database.proofs.KeptLemmas.{get-put, same_name}
use Rattle.cap_changes.specs.Entries.{TableEntries}
use Rattle.cap_changes.proofs.ChangeLemmas.{other_order}
use Rattle.cap_codec.specs.declared.read.Contents.{Contents}
use Rattle.cap_codec.specs.declared.read.Contents.TheVariants.{Changes, Patches}
use Rattle.cap_apply.specs.Applied.{AppliedState}
use Rattle.cap_apply.specs.Apply.{change_applied, concluded, counted, left_out, noted, with_row, with_row_in}
use Rattle.cap_apply.specs.Policy.{always, is_made}
use Rattle.cap_apply.specs.Requested.{Requested, requested_by_change, requested_by_patch, requested_in}
use Rattle.cap_apply.specs.Row.{conflict_of, key_record_of, key_values, row_after}
use Rattle.cap_apply.specs.Target.{target}
use Rattle.cap_apply.specs.declared.conflict.ConflictKind.{ConflictKind}
use Rattle.cap_apply.specs.declared.policy.Answer.{Answer}
use Rattle.cap_apply.specs.declared.policy.Policy.{Policy}
use Rattle.cap_apply.proofs.ChangeLemmas.{applied_at, has_target}
use Rattle.cap_apply.proofs.EntryLemmas.{get_put_other}
use Rattle.cap_applier.specs.Applier.{ApplierState, answered, blob_answered, with_progress}
use Rattle.cap_applier.specs.Named.{IsUnnamed, Names, SameRow}
use Rattle.cap_applier.specs.Progress.{ProgressState}
use Rattle.cap_applier.specs.Reach.{IsReached, IsReachedIn}
use Rattle.cap_applier.specs.Step.{accepted, answered_accepted, answered_change, answered_group, answered_target, left_by}
use Rattle.cap_apply.specs.declared.policy.Answer.TheVariants.{Omit}

-- ---- entries under other keys

module _ {K V : Type 0} (cmp : K → K → Ordering) (same : (x y : K) → cmp x y ≡ Equal → x ≡ y) where
  get_take_other : (k q : K) → is_eq (cmp q k) ≡ false → (es : List (K × V)) → get cmp (take_entry cmp es k) q ≡ get cmp es q
  get_take_other k q apart [] = refl
  get_take_other k q apart (e ∷ es) = by_test (get_take_other k q apart es) (is_at (cmp k) e.0) refl
    where
      by_test : get cmp (take_entry cmp es k) q ≡ get cmp es q → (b : Bool) → is_at (cmp k) e.0 ≡ b → get cmp (cond b es (e ∷ take_entry cmp es k)) q ≡ get cmp (e ∷ es) q
      by_test others true at =
          let other : is_eq (cmp q e.0) ≡ false = ap (λ x. is_eq (cmp q x)) (sym (same k e.0 ((Equal-is (cmp k e.0)).0 at))) ∙ apart in
          sym (ap (λ b. cond b (Some e.1) (get cmp es q)) other)
      by_test others false at = ap (λ r. cond (is_eq (cmp q e.0)) (Some e.1) r) others

module _ {A : Type 0} where
  apart_keys : (key other : Fields A) → (other ≡ key → ⊥) → is_eq (fields_cmp other key) ≡ false
  apart_keys key other apart = other_order (fields_cmp other key) (λ e. apart ((fields_cmp-Equal other key).0 e))

  row_stays : (table : TableState A) (key : Fields A) (after : Option (Fields A)) (other : Fields A) → (other ≡ key → ⊥) → get fields_cmp (with_row table key after).keyed other ≡ get fields_cmp table.keyed other
  row_stays table key None other apart = get_take_other fields_cmp (λ x y. (fields_cmp-Equal x y).0) key other (apart_keys key other apart) table.keyed
  row_stays table key (Some row) other apart = get_put_other fields_cmp (λ x y. (fields_cmp-Equal x y).0) key row other (apart_keys key other apart) table.keyed

  -- a row of another key, or of another table
  pub put_stays : (database : Tables A) (name : List ℕ) (table : TableState A) → table_of database name ≡ Some table → (key : Fields A) (after : Option (Fields A)) (other : List ℕ) (its : Fields A) → (name ≡ other → key ≡ its → ⊥)
      → row_at (put_entry bytes_cmp database name (with_row table key after)) other its ≡ row_at database other its
  put_stays database name table there key after other its apart =
      ap (option_and_then (λ (t : TableState A). get fields_cmp t.keyed its)) (get-put database name (with_row table key after) other)
      ∙ by_name (eq_by_cmp bytes_cmp other name) refl
    where
      by_name : (b : Bool) → eq_by_cmp bytes_cmp other name ≡ b
          → option_and_then (λ (t : TableState A). get fields_cmp t.keyed its) (cond b (Some (with_row table key after)) (table_of database other)) ≡ row_at database other its
      by_name true is =
          let name_is : other ≡ name = same_name other name is in
          row_stays table key after its (λ e. apart (sym name_is) (sym e))
          ∙ sym (row-found database name table its there) ∙ ap (λ n. row_at database n its) (sym name_is)
      by_name false is = refl

  -- ---- one change

  abbrev Stays : Tables A → List ℕ → Fields A → AppliedState A → Type 0
  Stays database name key after = row_at after.database name key ≡ row_at database name key

  concluded-stays : (policy : Policy) (number : ℕ) (conflict : Option ConflictKind) (name : List ℕ) (table : TableState A) (key : Fields A) (before after : Option (Fields A)) (state : AppliedState A) (answer : Result Bool Refusal)
      → table_of state.database name ≡ Some table → (other : List ℕ) (its : Fields A) → (name ≡ other → key ≡ its → ⊥)
      → IfOk (concluded answer (counted (with_row_in name table key before after (noted policy number conflict state))) (left_out number (noted policy number conflict state))) (Stays state.database other its)
  concluded-stays policy number None name table key before after state (Ok true) there other its apart = put_stays state.database name table there key after other its apart
  concluded-stays policy number None name table key before after state (Ok false) there other its apart = refl
  concluded-stays policy number (Some kind) name table key before after state (Ok true) there other its apart = put_stays state.database name table there key after other its apart
  concluded-stays policy number (Some kind) name table key before after state (Ok false) there other its apart = refl
  concluded-stays policy number conflict name table key before after state (Err why) there other its apart = tt

  pub change-stays : (policy : Policy) (number : ℕ) (name : List ℕ) (flags : List Bool) (asked : Requested A) (state : AppliedState A) → is_some (target state.database name flags) ≡ true
      → (other : List ℕ) (its : Fields A) → (name ≡ other → key_values flags (key_record_of asked.patch) ≡ its → ⊥) → IfOk (change_applied policy number name flags asked state) (Stays state.database other its)
  change-stays policy number name flags asked state there other its apart =
      let h = has_target state.database name flags there in
      let key = key_values flags (key_record_of asked.patch) in
      let before = get fields_cmp h.table.keyed key in
      let conflict = conflict_of flags asked.old asked.patch before in
      subst (λ r. IfOk r (Stays state.database other its)) (sym (applied_at policy number name flags asked state h before conflict refl refl))
      (concluded-stays policy number conflict name h.table key before (row_after (length h.table.schema) asked.patch before) state (is_made policy number conflict) h.there other its apart)

  abbrev StaysFrom : ProgressState A → List ℕ → Fields A → ProgressState A → Type 0
  StaysFrom p name key q = row_at q.applied.database name key ≡ row_at p.applied.database name key

  module _ {X : Type 0} (f : List Bool → X → Requested A) (answer : Answer) (groups : List (TableEntries X)) (p : ProgressState A) (other : List ℕ) (its : Fields A) (unnamed : Names (map (requested_in f) groups) other its → ⊥) where
    by_change : (group : TableEntries X) → slice_get groups p.group ≡ Some group → is_some (target p.applied.database group.table group.schema) ≡ true
        → (o : Option X) → slice_get group.changes p.change ≡ o → IfOk (answered_change f answer group o p) (StaysFrom p other its)
    by_change group found there None none = refl
    by_change group found there (Some x) some =
        left (change_applied (always answer) p.number group.table group.schema (f group.schema x) p.applied)
        (change-stays (always answer) p.number group.table group.schema (f group.schema x) p.applied there other its
        (λ name key. unnamed (record {
          place = p.group;
          group = requested_in f group;
          in_list = slice_get-map (requested_in f) groups p.group ∙ ap (option_map (requested_in f)) found;
          of_table = name;
          within = p.change;
          asked = f group.schema x;
          in_group = slice_get-map (f group.schema) group.changes p.change ∙ ap (option_map (f group.schema)) some;
          of_key = key;
        })))
      where
        left : (r : Result (AppliedState A) Refusal) → IfOk r (Stays p.applied.database other its) → IfOk (left_by p r) (StaysFrom p other its)
        left (Ok next) h = h
        left (Err why) h = tt

    by_target : (group : TableEntries X) → slice_get groups p.group ≡ Some group → (b : Bool) → is_some (target p.applied.database group.table group.schema) ≡ b → IfOk (answered_target f answer group b p) (StaysFrom p other its)
    by_target group found false none = refl
    by_target group found true there = by_change group found there (slice_get group.changes p.change) refl

    by_accepted : (group : TableEntries X) → slice_get groups p.group ≡ Some group → (b : Bool) → IfOk (answered_accepted f answer group b p) (StaysFrom p other its)
    by_accepted group found false = refl
    by_accepted group found true = by_target group found (is_some (target p.applied.database group.table group.schema)) refl

    by_group : (filter : Option Rule) (o : Option (TableEntries X)) → slice_get groups p.group ≡ o → IfOk (answered_group f answer filter o p) (StaysFrom p other its)
    by_group filter None none = refl
    by_group filter (Some group) found = by_accepted group found (accepted filter group.table)

  blob-stays : (answer : Answer) (filter : Option Rule) (blob : Contents A) (p : ProgressState A) (other : List ℕ) (its : Fields A) → IsUnnamed blob other its → IfOk (blob_answered answer filter blob p) (StaysFrom p other its)
  blob-stays answer filter (Changes list) p other its unnamed = by_group requested_by_change answer list p other its unnamed filter (slice_get list p.group) refl
  blob-stays answer filter (Patches list) p other its unnamed = by_group requested_by_patch answer list p other its unnamed filter (slice_get list p.group) refl

  pub step-stays : (answer : Answer) (s : ApplierState A) (other : List ℕ) (its : Fields A) → IsUnnamed s.blob other its
      → IfOk (answered answer s) (λ t. row_at t.progress.applied.database other its ≡ row_at s.progress.applied.database other its)
  step-stays answer s other its unnamed = told (blob_answered answer s.filter s.blob s.progress) (blob-stays answer s.filter s.blob s.progress other its unnamed)
    where
      told : (r : Result (ProgressState A) Refusal) → IfOk r (StaysFrom s.progress other its) → IfOk (with_progress s r) (λ t. row_at t.progress.applied.database other its ≡ row_at s.progress.applied.database other its)
      told (Ok q) h = h
      told (Err why) h = tt

  -- ---- several steps

  kept-blob : (s t : ApplierState A) (r : Result (ProgressState A) Refusal) → with_progress s r ≡ Ok t → t.blob ≡ s.blob
  kept-blob s t (Ok q) is = let same : record s { progress = q } ≡ t = cc in ap (λ (x : ApplierState A). x.blob) (sym same)
  kept-blob s t (Err why) is = cc

  reached-in-stays : (from : ApplierState A) (name : List ℕ) (key : Fields A) → IsUnnamed from.blob name key → (count : ℕ) (to : ApplierState A) → IsReachedIn count from to
      → (to.blob ≡ from.blob) × SameRow name key from to
  reached-in-stays from name key unnamed zero to is = (ap (λ (x : ApplierState A). x.blob) is, ap (λ (x : ApplierState A). row_at x.progress.applied.database name key) is)
  reached-in-stays from name key unnamed (suc count) to (mid, way, none, made) =
      let before = reached-in-stays from name key unnamed count mid way in
      let mid_unnamed : IsUnnamed mid.blob name key = subst (λ blob. IsUnnamed blob name key) (sym before.0) unnamed in
      let one : SameRow name key mid to = subst (λ r. IfOk r (SameRow name key mid)) made (step-stays Omit mid name key mid_unnamed) in
      (kept-blob mid to (blob_answered Omit mid.filter mid.blob mid.progress) made ∙ before.0, one ∙ before.1)

  pub reached-stays : (from to : ApplierState A) (name : List ℕ) (key : Fields A) → IsUnnamed from.blob name key → IsReached from to → SameRow name key from to
  reached-stays from to name key unnamed way = (reached-in-stays from name key unnamed way.0 to way.1).1
