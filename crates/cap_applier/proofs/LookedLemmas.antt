-- An application changes none but the rows that it looks at.
use Rattle.std.proofs.Common.{◌≡◌, inl, inr, ℕ, Bool, true, false, cond, Option, Some, None, Result, Ok, Err, List, [], ◌∷◌, ◌++◌, length, map, refl, sym, ap, subst, ◌∙◌}
use Rattle.std.specs.Prelude.{IfOk, flat_map, is_some, slice_get, suc, zero}
use Rattle.std.specs.Option.{option_map}
use Rattle.std.specs.Ordering.{eq_by_cmp}
use Rattle.std.proofs.lemmas.List.Concat.{flat_map-cons}
use Rattle.std.proofs.lemmas.Option.{same_Some}
use Rattle.cap_value.specs.Bytes.{bytes_cmp}
use Rattle.cap_value.specs.declared.refusal.Refusal.{Refusal}
use Rattle.cap_row.specs.Fields.{Fields}
use Rattle.cap_row.specs.Key.{fields_cmp}
use Rattle.cap_tree.specs.Tree.{get, put_entry}
use Rattle.cap_filter.specs.Rule.{Rule}
use Rattle.cap_table.specs.Table.{TableState}
use Rattle.cap_database.specs.Keyed.{set_in}
use Rattle.cap_database.specs.Read.{row_at}
use Rattle.cap_database.specs.Tables.{Tables, table_of}
use Rattle.cap_database.proofs.KeptLemmas.{get-put, same_name}
use Rattle.cap_changes.specs.Entries.{TableEntries}
use Rattle.cap_codec.specs.declared.read.Contents.{Contents}
use Rattle.cap_codec.specs.declared.read.Contents.TheVariants.{Changes, Patches}
use Rattle.cap_apply.specs.Applied.{AppliedState}
use Rattle.cap_apply.specs.Apply.{change_applied, concluded, counted, left_out, noted, with_row, with_row_in}
use Rattle.cap_apply.specs.Policy.{always, is_made}
use Rattle.cap_apply.specs.Requested.{Requested, requested_by_change, requested_by_patch}
use Rattle.cap_apply.specs.Row.{conflict_of, key_record_of, key_values, row_after}
use Rattle.cap_apply.specs.Target.{target}
use Rattle.cap_apply.specs.declared.conflict.ConflictKind.{ConflictKind}
use Rattle.cap_apply.specs.declared.policy.Answer.{Answer}
use Rattle.cap_apply.specs.declared.policy.Answer.TheVariants.{Omit}
use Rattle.cap_apply.specs.declared.policy.Policy.{Policy}
use Rattle.cap_apply.proofs.ChangeLemmas.{applied_at, has_target}
use Rattle.cap_applier.specs.Applier.{ApplierState, answered, blob_answered, blob_met, merged_at, met, with_progress}
use Rattle.cap_applier.specs.Looked.{ChangesAmong, IsAmong, KeepsTo, looked_at, looked_in, others_in, others_of, row_named, rows_of_group}
use Rattle.cap_applier.specs.Progress.{ProgressState}
use Rattle.cap_applier.specs.Reach.{IsReached, IsReachedIn}
use Rattle.cap_applier.specs.Step.{accepted, answered_accepted, answered_change, answered_group, answered_target, left_by, met_accepted, met_change, met_group, met_target, met_with}
use Rattle.cap_applier.specs.declared.row_conflict.RowConflict.{RowConflict}
use Rattle.cap_applier.proofs.NamedLemmas.{put_stays}

module _ {A : Type 0} where
  -- ---- the rows that are looked at

  among-front : (name : List ℕ) (key : Fields A) (front back : List (List ℕ × Fields A)) → IsAmong name key front → IsAmong name key (front ++ back)
  among-front name key [] back is = absurd is
  among-front name key (row ∷ front) back (inl here) = inl here
  among-front name key (row ∷ front) back (inr later) = inr (among-front name key front back later)

  among-back : (name : List ℕ) (key : Fields A) (front back : List (List ℕ × Fields A)) → IsAmong name key back → IsAmong name key (front ++ back)
  among-back name key [] back is = is
  among-back name key (row ∷ front) back is = inr (among-back name key front back is)

  among-map : {X : Type 0} (f : X → List ℕ × Fields A) (xs : List X) (place : ℕ) (x : X) → slice_get xs place ≡ Some x → IsAmong (f x).0 (f x).1 (map f xs)
  among-map f [] place x is = cc
  among-map f (y ∷ ys) zero x is = let same : y ≡ x = cc in inl (ap (λ z. (f z).0) same, ap (λ z. (f z).1) same)
  among-map f (y ∷ ys) (suc place) x is = inr (among-map f ys place x is)

  among-flat : {X : Type 0} (f : X → List (List ℕ × Fields A)) (name : List ℕ) (key : Fields A) (xs : List X) (place : ℕ) (x : X) → slice_get xs place ≡ Some x → IsAmong name key (f x) → IsAmong name key (flat_map f xs)
  among-flat f name key [] place x is among = cc
  among-flat f name key (y ∷ ys) zero x is among =
      let same : y ≡ x = cc in
      subst (IsAmong name key) (sym (flat_map-cons f y ys)) (among-front name key (f y) (flat_map f ys) (subst (λ z. IsAmong name key (f z)) (sym same) among))
  among-flat f name key (y ∷ ys) (suc place) x is among =
      subst (IsAmong name key) (sym (flat_map-cons f y ys)) (among-back name key (f y) (flat_map f ys) (among-flat f name key ys place x is among))

  module _ {X : Type 0} (f : List Bool → X → Requested A) (filter : Option Rule) (groups : List (TableEntries X)) where
    change-among : (at within : ℕ) (group : TableEntries X) (x : X) → slice_get groups at ≡ Some group → accepted filter group.table ≡ true → slice_get group.changes within ≡ Some x
        → IsAmong group.table (key_values group.schema (key_record_of (f group.schema x).patch)) (looked_in f filter groups)
    change-among at within group x found is there =
        let name = group.table in
        let key = key_values group.schema (key_record_of (f group.schema x).patch) in
        among-flat (rows_of_group f filter) name key groups at group found
        (subst (λ b. IsAmong name key (cond b (map (row_named f group) group.changes) [])) (sym is)
        (among-map (row_named f group) group.changes within x there))

  -- ---- one row is put, or taken

  same_others : (table : TableState A) (key : Fields A) (after : Option (Fields A)) → others_in (with_row table key after) ≡ others_in table
  same_others table key None = refl
  same_others table key (Some row) = refl

  pub put-others : (database : Tables A) (name : List ℕ) (table : TableState A) → table_of database name ≡ Some table → (key : Fields A) (after : Option (Fields A)) (other : List ℕ)
      → others_of (put_entry bytes_cmp database name (with_row table key after)) other ≡ others_of database other
  put-others database name table there key after other =
      ap (option_map others_in) (get-put database name (with_row table key after) other)
      ∙ by_name (eq_by_cmp bytes_cmp other name) refl
    where
      by_name : (b : Bool) → eq_by_cmp bytes_cmp other name ≡ b → option_map others_in (cond b (Some (with_row table key after)) (table_of database other)) ≡ others_of database other
      by_name true is =
          ap Some (same_others table key after)
          ∙ sym (ap (option_map others_in) (ap (table_of database) (same_name other name is) ∙ there))
      by_name false is = refl

  put-keeps : (rows : List (List ℕ × Fields A)) (base database : Tables A) (name : List ℕ) (table : TableState A) → table_of database name ≡ Some table → (key : Fields A) (after : Option (Fields A))
      → IsAmong name key rows → ChangesAmong rows base database → ChangesAmong rows base (put_entry bytes_cmp database name (with_row table key after))
  put-keeps rows base database name table there key after among h = record {
    stays = λ other its none.
        put_stays database name table there key after other its (λ e d. none (subst (λ n. IsAmong n its rows) e (subst (λ k. IsAmong name k rows) d among)))
        ∙ h.stays other its none;
    others = λ other. put-others database name table there key after other ∙ h.others other;
  }

  -- ---- one change

  abbrev Keeps : List (List ℕ × Fields A) → Tables A → AppliedState A → Type 0
  Keeps rows base after = ChangesAmong rows base after.database

  concluded-keeps : (rows : List (List ℕ × Fields A)) (base : Tables A) (policy : Policy) (number : ℕ) (conflict : Option ConflictKind) (name : List ℕ) (table : TableState A) (key : Fields A) (before after : Option (Fields A))
      (state : AppliedState A) (answer : Result Bool Refusal) → table_of state.database name ≡ Some table → IsAmong name key rows → Keeps rows base state
      → IfOk (concluded answer (counted (with_row_in name table key before after (noted policy number conflict state))) (left_out number (noted policy number conflict state))) (Keeps rows base)
  concluded-keeps rows base policy number None name table key before after state (Ok true) there among h = put-keeps rows base state.database name table there key after among h
  concluded-keeps rows base policy number None name table key before after state (Ok false) there among h = h
  concluded-keeps rows base policy number (Some kind) name table key before after state (Ok true) there among h = put-keeps rows base state.database name table there key after among h
  concluded-keeps rows base policy number (Some kind) name table key before after state (Ok false) there among h = h
  concluded-keeps rows base policy number conflict name table key before after state (Err why) there among h = tt

  change-keeps : (rows : List (List ℕ × Fields A)) (base : Tables A) (policy : Policy) (number : ℕ) (name : List ℕ) (flags : List Bool) (asked : Requested A) (state : AppliedState A) → is_some (target state.database name flags) ≡ true
      → IsAmong name (key_values flags (key_record_of asked.patch)) rows → Keeps rows base state → IfOk (change_applied policy number name flags asked state) (Keeps rows base)
  change-keeps rows base policy number name flags asked state there among keeps =
      let h = has_target state.database name flags there in
      let key = key_values flags (key_record_of asked.patch) in
      let before = get fields_cmp h.table.keyed key in
      let conflict = conflict_of flags asked.old asked.patch before in
      subst (λ r. IfOk r (Keeps rows base)) (sym (applied_at policy number name flags asked state h before conflict refl refl))
      (concluded-keeps rows base policy number conflict name h.table key before (row_after (length h.table.schema) asked.patch before) state (is_made policy number conflict) h.there among keeps)

  -- ---- one step

  module _ {X : Type 0} (f : List Bool → X → Requested A) (answer : Answer) (filter : Option Rule) (groups : List (TableEntries X)) (base : Tables A) (p : ProgressState A) (h : ChangesAmong (looked_in f filter groups) base p.applied.database) where
    abbrev KeepsOn : ProgressState A → Type 0
    KeepsOn q = ChangesAmong (looked_in f filter groups) base q.applied.database

    by_change : (group : TableEntries X) → slice_get groups p.group ≡ Some group → accepted filter group.table ≡ true → is_some (target p.applied.database group.table group.schema) ≡ true
        → (o : Option X) → slice_get group.changes p.change ≡ o → IfOk (answered_change f answer group o p) KeepsOn
    by_change group found is there None none = h
    by_change group found is there (Some x) some =
        left (change_applied (always answer) p.number group.table group.schema (f group.schema x) p.applied)
        (change-keeps (looked_in f filter groups) base (always answer) p.number group.table group.schema (f group.schema x) p.applied there (change-among f filter groups p.group p.change group x found is some) h)
      where
        left : (r : Result (AppliedState A) Refusal) → IfOk r (Keeps (looked_in f filter groups) base) → IfOk (left_by p r) KeepsOn
        left (Ok next) k = k
        left (Err why) k = tt

    by_target : (group : TableEntries X) → slice_get groups p.group ≡ Some group → accepted filter group.table ≡ true → (b : Bool) → is_some (target p.applied.database group.table group.schema) ≡ b → IfOk (answered_target f answer group b p) KeepsOn
    by_target group found is false none = h
    by_target group found is true there = by_change group found is there (slice_get group.changes p.change) refl

    by_accepted : (group : TableEntries X) → slice_get groups p.group ≡ Some group → (b : Bool) → accepted filter group.table ≡ b → IfOk (answered_accepted f answer group b p) KeepsOn
    by_accepted group found false is = h
    by_accepted group found true is = by_target group found is (is_some (target p.applied.database group.table group.schema)) refl

    by_group : (o : Option (TableEntries X)) → slice_get groups p.group ≡ o → IfOk (answered_group f answer filter o p) KeepsOn
    by_group None none = h
    by_group (Some group) found = by_accepted group found (accepted filter group.table) refl

  blob-keeps : (base : Tables A) (answer : Answer) (filter : Option Rule) (blob : Contents A) (p : ProgressState A) → ChangesAmong (looked_at filter blob) base p.applied.database
      → IfOk (blob_answered answer filter blob p) (λ q. ChangesAmong (looked_at filter blob) base q.applied.database)
  blob-keeps base answer filter (Changes list) p h = by_group requested_by_change answer filter list base p h (slice_get list p.group) refl
  blob-keeps base answer filter (Patches list) p h = by_group requested_by_patch answer filter list base p h (slice_get list p.group) refl

  pub step-keeps : (base : Tables A) (answer : Answer) (s : ApplierState A) → KeepsTo base s → IfOk (answered answer s) (KeepsTo base)
  step-keeps base answer s h = told (blob_answered answer s.filter s.blob s.progress) (blob-keeps base answer s.filter s.blob s.progress h)
    where
      told : (r : Result (ProgressState A) Refusal) → IfOk r (λ q. ChangesAmong (looked_at s.filter s.blob) base q.applied.database) → IfOk (with_progress s r) (KeepsTo base)
      told (Ok q) k = k
      told (Err why) k = tt

  reached-in-keeps : (base : Tables A) (from : ApplierState A) → KeepsTo base from → (count : ℕ) (to : ApplierState A) → IsReachedIn count from to → KeepsTo base to
  reached-in-keeps base from h zero to is = subst (KeepsTo base) (sym is) h
  reached-in-keeps base from h (suc count) to (mid, way, none, made) =
      subst (λ r. IfOk r (KeepsTo base)) made (step-keeps base Omit mid (reached-in-keeps base from h count mid way))

  pub reached-keeps : (base : Tables A) (from to : ApplierState A) → KeepsTo base from → IsReached from to → KeepsTo base to
  reached-keeps base from to h way = reached-in-keeps base from h way.0 to way.1

  -- ---- a row in place of a change

  -- the conflict is of a row that is looked at
  module _ {X : Type 0} (f : List Bool → X → Requested A) (filter : Option Rule) (groups : List (TableEntries X)) (p : ProgressState A) (conflict : RowConflict A) where
    abbrev Among : Type 0
    Among = IsAmong conflict.table conflict.key (looked_in f filter groups)

    met-with : (table : List ℕ) (key : Fields A) (row : Option (Fields A)) (kind : Option ConflictKind) → IsAmong table key (looked_in f filter groups) → met_with table key row kind ≡ Some conflict → Among
    met-with table key row None among is = cc
    met-with table key row (Some kind) among is =
        let same = same_Some (record { kind = kind; table = table; key = key; row = row }) conflict is in
        subst (λ (c : RowConflict A). IsAmong c.table c.key (looked_in f filter groups)) same among

    met-change : (group : TableEntries X) → slice_get groups p.group ≡ Some group → accepted filter group.table ≡ true → (o : Option X) → slice_get group.changes p.change ≡ o → met_change f group o p ≡ Some conflict → Among
    met-change group found is None none m = cc
    met-change group found is (Some x) some m =
        let key = key_values group.schema (key_record_of (f group.schema x).patch) in
        let row = row_at p.applied.database group.table key in
        met-with group.table key row (conflict_of group.schema (f group.schema x).old (f group.schema x).patch row) (change-among f filter groups p.group p.change group x found is some) m

    met-target : (group : TableEntries X) → slice_get groups p.group ≡ Some group → accepted filter group.table ≡ true → (b : Bool) → met_target f group b p ≡ Some conflict → Among
    met-target group found is false m = cc
    met-target group found is true m = met-change group found is (slice_get group.changes p.change) refl m

    met-accepted : (group : TableEntries X) → slice_get groups p.group ≡ Some group → (b : Bool) → accepted filter group.table ≡ b → met_accepted f group b p ≡ Some conflict → Among
    met-accepted group found false is m = cc
    met-accepted group found true is m = met-target group found is (is_some (target p.applied.database group.table group.schema)) m

    met-group : (o : Option (TableEntries X)) → slice_get groups p.group ≡ o → met_group f filter o p ≡ Some conflict → Among
    met-group None none m = cc
    met-group (Some group) found m = met-accepted group found (accepted filter group.table) refl m

  met-among : (filter : Option Rule) (blob : Contents A) (p : ProgressState A) (conflict : RowConflict A) → blob_met filter blob p ≡ Some conflict → IsAmong conflict.table conflict.key (looked_at filter blob)
  met-among filter (Changes list) p conflict m = met-group requested_by_change filter list p conflict (slice_get list p.group) refl m
  met-among filter (Patches list) p conflict m = met-group requested_by_patch filter list p conflict (slice_get list p.group) refl m

  set-keeps : (rows : List (List ℕ × Fields A)) (base database : Tables A) (name : List ℕ) (key row : Fields A) → IsAmong name key rows → ChangesAmong rows base database
      → (o : Option (TableState A)) → table_of database name ≡ o → ChangesAmong rows base (set_in database name key (Some row) o)
  set-keeps rows base database name key row among h None none = h
  set-keeps rows base database name key row among h (Some table) there = put-keeps rows base database name table there key (Some row) among h

  pub merged-keeps : (base : Tables A) (s : ApplierState A) (row : Fields A) → KeepsTo base s → KeepsTo base (merged_at (met s) row s)
  merged-keeps base s row h = by_met (met s) refl
    where
      by_met : (o : Option (RowConflict A)) → met s ≡ o → KeepsTo base (merged_at o row s)
      by_met None none = h
      by_met (Some conflict) is =
          set-keeps (looked_at s.filter s.blob) base s.progress.applied.database conflict.table conflict.key row (met-among s.filter s.blob s.progress conflict is) h
          (table_of s.progress.applied.database conflict.table) refl
