-- An applier whose conflicts are answered as a policy answers them.
use Rattle.std.proofs.Common.{◌≡◌, ℕ, zero, suc, ◌+◌, ◌-◌, ◌≤◌, Bool, true, false, Option, Some, None, Result, Ok, Err, List, [], ◌∷◌, length, map, drop, refl, sym, ap, subst, ◌∙◌, arith}
use Rattle.std.specs.Prelude.{is_some, slice_get}
use Rattle.std.specs.Option.{option_map}
use Rattle.std.proofs.lemmas.List.{drop_all, drop_more, length-drop, length-map}
use Rattle.std.proofs.lemmas.Option.{get_or_from_slice_get, none-some, same_Some, slice_get-map, slice_get_within}
use Rattle.cap_value.specs.Memory.{LeavesUnlessMemory}
use Rattle.cap_value.specs.declared.memory.Fault.{Fault}
use Rattle.cap_value.specs.declared.memory.Fault.TheVariants.{Refused, OutOfMemory}
use Rattle.cap_value.specs.declared.refusal.Refusal.{Refusal}
use Rattle.cap_row.specs.Fields.{Fields}
use Rattle.cap_row.specs.Key.{fields_cmp}
use Rattle.cap_tree.specs.Tree.{get}
use Rattle.cap_filter.specs.Rule.{Rule}
use Rattle.cap_table.specs.Table.{TableState}
use Rattle.cap_database.specs.Read.{row_at}
use Rattle.cap_database.specs.Tables.{Tables}
use Rattle.cap_changes.specs.Entries.{TableEntries}
use Rattle.cap_codec.specs.declared.read.Contents.{Contents}
use Rattle.cap_codec.specs.declared.read.Contents.TheVariants.{Changes, Patches}
use Rattle.cap_database.proofs.KeptKeyLemmas.{row-found}
use Rattle.cap_apply.specs.Applied.{AppliedState}
use Rattle.cap_apply.specs.Apply.{and_then, apply, change_applied, change_at, changes_applied, concluded, counted, group_applied, groups_applied, left_out, nothing_applied, skipped, skipped_unless, with_row_in}
use Rattle.cap_apply.specs.Merged.{answered_with}
use Rattle.cap_apply.specs.Policy.{always, answer_to, made_anyway}
use Rattle.cap_apply.specs.Requested.{Requested, requested_by_change, requested_by_patch, requested_in, requested_of}
use Rattle.cap_apply.specs.Row.{conflict_of, key_record_of, key_values, row_after}
use Rattle.cap_apply.specs.Target.{target}
use Rattle.cap_apply.specs.declared.conflict.ConflictKind.{ConflictKind}
use Rattle.cap_apply.specs.declared.conflict.ConflictKind.TheVariants.{Data, NotFound, Conflict}
use Rattle.cap_apply.specs.declared.policy.Answer.{Answer}
use Rattle.cap_apply.specs.declared.policy.Answer.TheVariants.{Omit}
use Rattle.cap_apply.specs.declared.policy.Policy.{Policy}
use Rattle.cap_apply.proofs.ChangeLemmas.{applied_at, has_target}
use Rattle.cap_apply.proofs.GroupLemmas.{changes_skipped, target_stays}
use Rattle.cap_applier.specs.Applier.{ApplierState, IsAtEnd, answered, begun, blob_answered, blob_met, group_count, met, with_progress}
use Rattle.cap_applier.specs.Progress.{ProgressState}
use Rattle.cap_applier.specs.Reach.{IsReached, IsReachedIn}
use Rattle.cap_applier.specs.Remaining.{AcceptsAll, from_change, remaining, remaining_in}
use Rattle.cap_applier.specs.Step.{answered_accepted, answered_change, answered_group, answered_in, answered_target, behind, left_by, met_accepted, met_by, met_change, met_group, met_in, met_target, met_with, one_further, skipped_over}
use Rattle.cap_applier.specs.declared.row_conflict.RowConflict.{RowConflict}

-- ---- lists from a place on

drop_found : {X : Type 0} (xs : List X) (i : ℕ) (x : X) → slice_get xs i ≡ Some x → drop i xs ≡ x ∷ drop (i + 1) xs
drop_found xs i x is =
    drop_more xs i x (slice_get_within xs i x is) ∙ ap (λ y. y ∷ drop (i + 1) xs) (get_or_from_slice_get xs i x x is)

drop_none : {X : Type 0} (xs : List X) (i : ℕ) → slice_get xs i ≡ None → drop i xs ≡ []
drop_none [] zero none = refl
drop_none [] (suc i) none = refl
drop_none (x ∷ xs) zero none = cc
drop_none (x ∷ xs) (suc i) none = drop_none xs i none

from_first : {X : Type 0} (groups : List (TableEntries X)) → from_change 0 groups ≡ groups
from_first [] = refl
from_first (group ∷ groups) = refl

found_in : {X Y : Type 0} (f : X → Y) (xs : List X) (i : ℕ) (x : X) → slice_get xs i ≡ Some x → slice_get (map f xs) i ≡ Some (f x)
found_in f xs i x is = slice_get-map f xs i ∙ ap (option_map f) is

none_in : {X Y : Type 0} (f : X → Y) (xs : List X) (i : ℕ) → slice_get xs i ≡ None → slice_get (map f xs) i ≡ None
none_in f xs i is = slice_get-map f xs i ∙ ap (option_map f) is

-- ---- one answer in place of a policy

always_answers : (answer : Answer) (kind : ConflictKind) → answer_to (always answer) kind ≡ answer
always_answers answer Data = refl
always_answers answer NotFound = refl
always_answers answer Conflict = refl

module _ {A : Type 0} where
  same_at : (policy : Policy) (answer : Answer) (number : ℕ) (name : List ℕ) (requested : Requested A) (table : TableState A) (key : Fields A) (before : Option (Fields A)) (state : AppliedState A)
      (conflict : Option ConflictKind) → ((kind : ConflictKind) → conflict ≡ Some kind → answer ≡ answer_to policy kind)
      → change_at policy number name requested table key before conflict state ≡ change_at (always answer) number name requested table key before conflict state
  same_at policy answer number name requested table key before state None agrees = refl
  same_at policy answer number name requested table key before state (Some kind) agrees =
      ap (λ a. concluded (made_anyway number kind a) (counted (with_row_in name table key before (row_after (length table.schema) requested.patch before) (answered_with number kind a state))) (left_out number (answered_with number kind a state)))
      (sym (agrees kind refl) ∙ sym (always_answers answer kind))

  -- the change as the policy has it, where the answer is the policy's
  same_change : (policy : Policy) (answer : Answer) (number : ℕ) (name : List ℕ) (flags : List Bool) (asked : Requested A) (state : AppliedState A) → is_some (target state.database name flags) ≡ true
      → ((conflict : RowConflict A) → met_by state.database name flags asked ≡ Some conflict → answer ≡ answer_to policy conflict.kind)
      → change_applied policy number name flags asked state ≡ change_applied (always answer) number name flags asked state
  same_change policy answer number name flags asked state there agrees =
      let h = has_target state.database name flags there in
      let key = key_values flags (key_record_of asked.patch) in
      let before = get fields_cmp h.table.keyed key in
      let found : row_at state.database name key ≡ before = row-found state.database name h.table key h.there in
      let conflict = conflict_of flags asked.old asked.patch before in
      let kinds : (kind : ConflictKind) → conflict ≡ Some kind → answer ≡ answer_to policy kind =
      λ kind is. agrees (record { kind = kind; table = name; key = key; row = before })
      ((λ i. met_with name key (found i) (conflict_of flags asked.old asked.patch (found i))) ∙ ap (met_with name key before) is) in
      applied_at policy number name flags asked state h before conflict refl refl
      ∙ same_at policy answer number name asked h.table key before state conflict kinds
      ∙ sym (applied_at (always answer) number name flags asked state h before conflict refl refl)

  -- ---- a policy on the groups that are left

  module _ (policy : Policy) where
    group_there : (place number : ℕ) (group : TableEntries (Requested A)) (state : AppliedState A) → is_some (target state.database group.table group.schema) ≡ true
        → group_applied policy place number group state ≡ changes_applied policy number group.table group.schema group.changes state
    group_there place number group state e = ap (λ b. changes_applied policy number group.table group.schema group.changes (skipped_unless b place state)) e

    group_absent : (place number : ℕ) (group : TableEntries (Requested A)) (state : AppliedState A) → is_some (target state.database group.table group.schema) ≡ false
        → group_applied policy place number group state ≡ Ok (skipped place state)
    group_absent place number group state e =
        ap (λ b. changes_applied policy number group.table group.schema group.changes (skipped_unless b place state)) e
        ∙ changes_skipped policy group.table group.schema number group.changes (skipped place state) e

    module _ (asks : List (TableEntries (Requested A))) (p : ProgressState A) (group : TableEntries (Requested A)) (found : slice_get asks p.group ≡ Some group) where
      -- the group with its changes that are left
      abbrev here : TableEntries (Requested A)
      here = record group { changes = drop p.change group.changes }

      abbrev after_it : Result (AppliedState A) Refusal → Result (AppliedState A) Refusal
      after_it r = and_then r (λ next. groups_applied policy (p.group + 1) (p.number + length (drop p.change group.changes)) (drop (p.group + 1) asks) next)

      remaining-is : remaining_in policy asks p ≡ after_it (group_applied policy p.group p.number here p.applied)
      remaining-is = ap (λ l. groups_applied policy p.group p.number (from_change p.change l) p.applied) (drop_found asks p.group group found)

      -- what leaves the group behind
      behind-is : (state : AppliedState A) → group_applied policy p.group p.number here p.applied ≡ Ok state
          → remaining_in policy asks (behind (length group.changes) (record p { applied = state })) ≡ remaining_in policy asks p
      behind-is state ok =
          let numbers : p.number + (length group.changes - p.change) ≡ p.number + length (drop p.change group.changes) = ap (λ n. p.number + n) (sym (length-drop p.change group.changes)) in
          (λ i. groups_applied policy (p.group + 1) (numbers i) (from_first (drop (p.group + 1) asks) i) state)
          ∙ sym (remaining-is ∙ ap after_it ok)

      module _ (there : is_some (target p.applied.database group.table group.schema) ≡ true) where
        -- no change of the group is left
        none-left : drop p.change group.changes ≡ [] → remaining_in policy asks (behind (length group.changes) p) ≡ remaining_in policy asks p
        none-left none =
            behind-is p.applied
            (group_there p.group p.number here p.applied there
            ∙ ap (λ l. changes_applied policy p.number group.table group.schema l p.applied) none)

        module _ (asked : Requested A) (is : drop p.change group.changes ≡ asked ∷ drop (p.change + 1) group.changes) where
          abbrev later : AppliedState A → Result (AppliedState A) Refusal
          later next = changes_applied policy (p.number + 1) group.table group.schema (drop (p.change + 1) group.changes) next

          first-is : group_applied policy p.group p.number here p.applied ≡ and_then (change_applied policy p.number group.table group.schema asked p.applied) later
          first-is =
              group_there p.group p.number here p.applied there
              ∙ ap (λ l. changes_applied policy p.number group.table group.schema l p.applied) is

          change-refused : (why : Refusal) → change_applied policy p.number group.table group.schema asked p.applied ≡ Err why → remaining_in policy asks p ≡ Err why
          change-refused why e = remaining-is ∙ ap after_it (first-is ∙ ap (λ r. and_then r later) e)

          change-left : (next : AppliedState A) → change_applied policy p.number group.table group.schema asked p.applied ≡ Ok next
              → after_it (group_applied policy p.group p.number here p.applied) ≡ after_it (later next)
          change-left next ok = ap after_it (first-is ∙ ap (λ r. and_then r later) ok)

    -- one change further
    further-is : (asks : List (TableEntries (Requested A))) (p : ProgressState A) (group : TableEntries (Requested A)) (found : slice_get asks p.group ≡ Some group) (there : is_some (target p.applied.database group.table group.schema) ≡ true)
        (asked : Requested A) (is : drop p.change group.changes ≡ asked ∷ drop (p.change + 1) group.changes) (next : AppliedState A) → change_applied policy p.number group.table group.schema asked p.applied ≡ Ok next
        → remaining_in policy asks (one_further (record p { applied = next })) ≡ remaining_in policy asks p
    further-is asks p group found there asked is next ok =
        let q : ProgressState A = one_further (record p { applied = next }) in
        let there_next = target_stays policy p.number group.table group.schema asked p.applied next there ok in
        let numbers : p.number + 1 + length (drop (p.change + 1) group.changes) ≡ p.number + length (drop p.change group.changes) = omega (arith, ap length is) in
        remaining-is asks q group found
        ∙ (λ i. and_then (group_there p.group (p.number + 1) (record group { changes = drop (p.change + 1) group.changes }) next there_next i)
        (λ left. groups_applied policy (p.group + 1) (numbers i) (drop (p.group + 1) asks) left))
        ∙ sym (remaining-is asks p group found ∙ change-left asks p group found there asked is next ok)

  -- what an answer leaves, where the policy answers so
  abbrev Follows : Policy → List (TableEntries (Requested A)) → ProgressState A → Result (ProgressState A) Refusal → Type 0
  Follows policy asks p (Ok q) = remaining_in policy asks q ≡ remaining_in policy asks p
  Follows policy asks p (Err why) = remaining_in policy asks p ≡ Err why

  abbrev pub Agrees : Policy → Answer → Option (RowConflict A) → Type 0
  Agrees policy answer found = (conflict : RowConflict A) → found ≡ Some conflict → answer ≡ answer_to policy conflict.kind

  module _ {X : Type 0} (policy : Policy) (f : List Bool → X → Requested A) (answer : Answer) (groups : List (TableEntries X)) (p : ProgressState A) where
    abbrev asks : List (TableEntries (Requested A))
    asks = map (requested_in f) groups

    module _ (group : TableEntries X) (found : slice_get groups p.group ≡ Some group) where
      asked-group : slice_get asks p.group ≡ Some (requested_in f group)
      asked-group = found_in (requested_in f) groups p.group group found

      count-is : length group.changes ≡ length (map (f group.schema) group.changes)
      count-is = sym (length-map group.changes (f group.schema))

      by_change : is_some (target p.applied.database group.table group.schema) ≡ true → (o : Option X) → slice_get group.changes p.change ≡ o → Agrees policy answer (met_change f group o p)
          → Follows policy asks p (answered_change f answer group o p)
      by_change there None none agrees =
          (λ i. remaining_in policy asks (behind (count-is i) p))
          ∙ none-left policy asks p (requested_in f group) asked-group there
          (drop_none (map (f group.schema) group.changes) p.change (none_in (f group.schema) group.changes p.change none))
      by_change there (Some x) some agrees =
          by_result (change_applied (always answer) p.number group.table group.schema (f group.schema x) p.applied)
          (same_change policy answer p.number group.table group.schema (f group.schema x) p.applied there agrees)
        where
          is : drop p.change (map (f group.schema) group.changes) ≡ f group.schema x ∷ drop (p.change + 1) (map (f group.schema) group.changes)
          is = drop_found (map (f group.schema) group.changes) p.change (f group.schema x) (found_in (f group.schema) group.changes p.change x some)

          by_result : (r : Result (AppliedState A) Refusal) → change_applied policy p.number group.table group.schema (f group.schema x) p.applied ≡ r → Follows policy asks p (left_by p r)
          by_result (Ok next) ok = further-is policy asks p (requested_in f group) asked-group there (f group.schema x) is next ok
          by_result (Err why) e = change-refused policy asks p (requested_in f group) asked-group there (f group.schema x) is why e

      by_target : (b : Bool) → is_some (target p.applied.database group.table group.schema) ≡ b → Agrees policy answer (met_target f group b p)
          → Follows policy asks p (answered_target f answer group b p)
      by_target false none agrees =
          (λ i. remaining_in policy asks (skipped_over (count-is i) p))
          ∙ behind-is policy asks p (requested_in f group) asked-group (skipped p.group p.applied)
          (group_absent policy p.group p.number (record { table = group.table; schema = group.schema; changes = drop p.change (map (f group.schema) group.changes) }) p.applied none)
      by_target true there agrees = by_change there (slice_get group.changes p.change) refl agrees

    by_group : (filter : Option Rule) → AcceptsAll filter → (o : Option (TableEntries X)) → slice_get groups p.group ≡ o → Agrees policy answer (met_group f filter o p)
        → Follows policy asks p (answered_group f answer filter o p)
    by_group filter all None none agrees = refl
    by_group filter all (Some group) found agrees =
        subst (λ b. Agrees policy answer (met_accepted f group b p) → Follows policy asks p (answered_accepted f answer group b p)) (sym (all group.table))
        (by_target group found (is_some (target p.applied.database group.table group.schema)) refl) agrees

    follows : (filter : Option Rule) → AcceptsAll filter → Agrees policy answer (met_in f filter groups p) → Follows policy asks p (answered_in f answer filter groups p)
    follows filter all agrees = by_group filter all (slice_get groups p.group) refl agrees

  -- ---- an applier

  abbrev pub FollowsFrom : Policy → ApplierState A → Result (ApplierState A) Refusal → Type 0
  FollowsFrom policy s (Ok t) = (remaining policy t ≡ remaining policy s) × (t.filter ≡ s.filter)
  FollowsFrom policy s (Err why) = remaining policy s ≡ Err why

  in_blob : (policy : Policy) (answer : Answer) (blob : Contents A) (filter : Option Rule) (p : ProgressState A) → AcceptsAll filter → Agrees policy answer (blob_met filter blob p)
      → FollowsFrom policy (record { blob = blob; filter = filter; progress = p }) (with_progress (record { blob = blob; filter = filter; progress = p }) (blob_answered answer filter blob p))
  in_blob policy answer (Changes list) filter p all agrees =
      inner (answered_in requested_by_change answer filter list p) (follows policy requested_by_change answer list p filter all agrees)
    where
      inner : (r : Result (ProgressState A) Refusal) → Follows policy (map (requested_in requested_by_change) list) p r
          → FollowsFrom policy (record { blob = Changes list; filter = filter; progress = p }) (with_progress (record { blob = Changes list; filter = filter; progress = p }) r)
      inner (Ok q) h = (h, refl)
      inner (Err why) h = h
  in_blob policy answer (Patches list) filter p all agrees =
      inner (answered_in requested_by_patch answer filter list p) (follows policy requested_by_patch answer list p filter all agrees)
    where
      inner : (r : Result (ProgressState A) Refusal) → Follows policy (map (requested_in requested_by_patch) list) p r
          → FollowsFrom policy (record { blob = Patches list; filter = filter; progress = p }) (with_progress (record { blob = Patches list; filter = filter; progress = p }) r)
      inner (Ok q) h = (h, refl)
      inner (Err why) h = h

  pub answer-follows : (policy : Policy) (answer : Answer) (s : ApplierState A) → AcceptsAll s.filter → Agrees policy answer (met s) → FollowsFrom policy s (answered answer s)
  answer-follows policy answer s all agrees = in_blob policy answer s.blob s.filter s.progress all agrees

  pub reached-follows : (policy : Policy) (from : ApplierState A) → AcceptsAll from.filter → (count : ℕ) (to : ApplierState A) → IsReachedIn count from to
      → (remaining policy to ≡ remaining policy from) × (to.filter ≡ from.filter)
  reached-follows policy from all zero to is = (ap (remaining policy) is, ap (λ (s : ApplierState A). s.filter) is)
  reached-follows policy from all (suc count) to (mid, way, none, made) =
      let before = reached-follows policy from all count mid way in
      let all_mid : AcceptsAll mid.filter = subst AcceptsAll (sym before.1) all in
      let one : FollowsFrom policy mid (answered Omit mid) = answer-follows policy Omit mid all_mid (λ conflict some. absurd (none-some conflict (sym none ∙ some))) in
      let both : FollowsFrom policy mid (Ok to) = subst (FollowsFrom policy mid) made one in
      (both.0 ∙ before.0, both.1 ∙ before.1)

  pub agreed : (policy : Policy) (s : ApplierState A) (conflict : RowConflict A) → met s ≡ Some conflict → Agrees policy (answer_to policy conflict.kind) (met s)
  agreed policy s conflict is other some = ap (λ (c : RowConflict A). answer_to policy c.kind) (same_Some conflict other (sym is ∙ some))

  -- the refusal of an answer is that of the policy
  pub policy-refused : (X Y : Type 0) (policy : Policy) (answer : Answer) (s : ApplierState A) (given : Result (AppliedState A) Refusal) (fault : Fault Refusal) (left : ApplierState A) (now : AppliedState A)
      → remaining policy s ≡ given → FollowsFrom policy s (answered answer s) → LeavesUnlessMemory {X = X} (Err fault) (answered answer s) left → LeavesUnlessMemory {X = Y} (Err fault) given now
  policy-refused X Y policy answer s given (Refused why) left now same one refused =
      let known : FollowsFrom policy s (Err why) = subst (FollowsFrom policy s) refused one in sym same ∙ known
  policy-refused X Y policy answer s given OutOfMemory left now same one refused = tt

  -- ---- the law

  pub first-of : (tables : Tables A) (blob : Contents A) (policy : Policy) → remaining policy (begun tables blob None) ≡ apply tables blob policy
  first-of tables blob policy = ap (λ groups. groups_applied policy 0 0 groups (nothing_applied tables)) (from_first (requested_of blob))

  pub between-of : (policy : Policy) (from to : ApplierState A) → AcceptsAll from.filter → IsReached from to → (remaining policy to ≡ remaining policy from) × (to.filter ≡ from.filter)
  between-of policy from to all way = reached-follows policy from all way.0 to way.1

  pub answered-of : (policy : Policy) (s : ApplierState A) (conflict : RowConflict A) → AcceptsAll s.filter → met s ≡ Some conflict
      → and_then (answered (answer_to policy conflict.kind) s) (remaining policy) ≡ remaining policy s
  answered-of policy s conflict all is = told (answered (answer_to policy conflict.kind) s) (answer-follows policy (answer_to policy conflict.kind) s all (agreed policy s conflict is))
    where
      told : (r : Result (ApplierState A) Refusal) → FollowsFrom policy s r → and_then r (remaining policy) ≡ remaining policy s
      told (Ok t) h = h.0
      told (Err why) h = sym h

  asked-count : (blob : Contents A) → length (requested_of blob) ≡ group_count blob
  asked-count (Changes list) = length-map list (requested_in requested_by_change)
  asked-count (Patches list) = length-map list (requested_in requested_by_patch)

  pub last-of : (policy : Policy) (s : ApplierState A) → IsAtEnd s → remaining policy s ≡ Ok s.progress.applied
  last-of policy s end =
      let past : length (requested_of s.blob) ≤ s.progress.group = omega (arith, asked-count s.blob, end) in
      ap (λ groups. groups_applied policy s.progress.group s.progress.number (from_change s.progress.change groups) s.progress.applied) (drop_all s.progress.group (requested_of s.blob) past)
