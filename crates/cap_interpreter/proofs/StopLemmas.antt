-- An application that goes on stops where it is defined to.
use Rattle.std.proofs.Common.{◌≡◌, arith, Bor, ◌⊎◌, ◌+◌, ◌-◌, ◌≤◌, ◌<◌, ℕ, zero, suc, Bool, true, false, List, [], ◌∷◌, length, Option, Some, None, Result, Ok, Err, refl, sym, ap, subst, ◌∙◌, inl, inr}
use Rattle.std.specs.Prelude.{IfNone, IfOk, is_some, slice_get}
use Rattle.std.specs.Option.{option_copied}
use Rattle.std.proofs.lemmas.Option.{slice_get_past, slice_get_within}
use Rattle.cap_value.specs.Memory.{AnswersUnlessMemory}
use Rattle.cap_value.specs.declared.memory.Fault.{Fault}
use Rattle.cap_value.specs.declared.memory.Fault.TheVariants as fault
use Rattle.cap_value.specs.declared.refusal.Refusal.{Refusal}
use Rattle.cap_row.specs.Fields.{Fields}
use Rattle.cap_database.specs.Tables.{Tables}
use Rattle.cap_filter.specs.Rule.{Rule, all}
use Rattle.cap_changes.specs.Entries.{TableEntries}
use Rattle.cap_codec.specs.declared.read.Contents.{Contents}
use Rattle.cap_codec.specs.declared.read.Contents.TheVariants.{Changes, Patches}
use Rattle.cap_apply.specs.Applied.{AppliedState}
use Rattle.cap_apply.specs.Apply.{change_applied}
use Rattle.cap_apply.specs.Policy.{always}
use Rattle.cap_apply.specs.Requested.{Requested, requested_by_change, requested_by_patch}
use Rattle.cap_apply.specs.Target.{target}
use Rattle.cap_apply.specs.declared.policy.Answer.{Answer}
use Rattle.cap_apply.specs.declared.policy.Answer.TheVariants.{Omit}
use Rattle.cap_applier.specs.Chosen.{accepted_groups, accepted_in}
use Rattle.cap_applier.specs.Applier.{ApplierState, IsAtEnd, answered, begun, blob_answered, group_count, merged_at, met, with_progress}
use Rattle.cap_applier.specs.Looked.{KeepsTo}
use Rattle.cap_applier.specs.Progress.{ProgressState}
use Rattle.cap_applier.specs.Reach.{GoesOn, IsReached, IsReachedIn}
use Rattle.cap_applier.specs.Step.{accepted, answered_accepted, answered_change, answered_group, answered_target, behind, left_by, one_further}
use Rattle.cap_applier.specs.declared.row_conflict.RowConflict.{RowConflict}
use Rattle.cap_interpreter.specs.Application.{most_of, most_steps, one_on, step, step_from, steps, stop_from, stopped}

pub ok_same : {X E : Type 0} (a b : X) → ◌≡◌ {A = Result X E} (Ok a) (Ok b) → a ≡ b
ok_same a b e = cc

some_same : {X : Type 0} (a b : X) → ◌≡◌ {A = Option X} (Some a) (Some b) → a ≡ b
some_same a b e = cc

-- what is shown where nothing is found is the end
pub stand_end : {X : Type 0} (found : Option (Bor X)) (P : Type 0) → option_copied found ≡ None → IfNone found P → P
stand_end None P is end = end
stand_end (Some x) P is end = absurd cc

-- a filter that accepts every table leaves all of a blob
every_group : {X : Type 0} (groups : List (TableEntries X)) → accepted_groups all groups ≡ groups
every_group [] = refl
every_group (group ∷ groups) = ap (λ (l : List (TableEntries _)). group ∷ l) (every_group groups)

-- ---- how many steps are left

module _ {X : Type 0} where
  -- in these groups, from a change of the group with this number on
  abbrev left_in : List (TableEntries X) → ℕ → ℕ → ℕ
  left_in [] group change = 0
  left_in (g ∷ gs) zero change = (length g.changes - change) + 1 + most_of gs
  left_in (g ∷ gs) (suc group) change = left_in gs group change

  left_most : (gs : List (TableEntries X)) (group change : ℕ) → left_in gs group change ≤ most_of gs
  left_most [] group change = omega arith
  left_most (g ∷ gs) zero change =
      let all : most_of (g ∷ gs) ≡ (length g.changes + 1) + most_of gs = refl in
      omega (arith, all)
  left_most (g ∷ gs) (suc group) change =
      let all : most_of (g ∷ gs) ≡ (length g.changes + 1) + most_of gs = refl in
      omega (arith, all, left_most gs group change)

  left_next : (gs : List (TableEntries X)) (group change : ℕ) (g : TableEntries X) → slice_get gs group ≡ Some g → left_in gs (suc group) 0 < left_in gs group change
  left_next [] group change g is = absurd cc
  left_next (f ∷ gs) zero change g is = omega (arith, left_most gs 0 0)
  left_next (f ∷ gs) (suc group) change g is = left_next gs group change g is

  left_further : (gs : List (TableEntries X)) (group change : ℕ) (g : TableEntries X) → slice_get gs group ≡ Some g → change < length g.changes → left_in gs group (suc change) < left_in gs group change
  left_further [] group change g is less = absurd cc
  left_further (f ∷ gs) zero change g is less =
      let same = some_same f g is in
      let here : change < length f.changes = subst (λ (x : TableEntries X). change < length x.changes) (sym same) less in
      omega (arith, here)
  left_further (f ∷ gs) (suc group) change g is less = left_further gs group change g is less

  abbrev Nearer : {A : Type 0} → List (TableEntries X) → ProgressState A → ProgressState A → Type 0
  Nearer gs p q = (q ≡ p) ⊎ (left_in gs q.group q.change < left_in gs p.group p.change)

  module _ {A : Type 0} (requested : List Bool → X → Requested A) (gs : List (TableEntries X)) (p q : ProgressState A) where
    behind_nearer : (g : TableEntries X) (on : ProgressState A) → on.group ≡ p.group + 1 → on.change ≡ 0 → slice_get gs p.group ≡ Some g → ◌≡◌ {A = Result (ProgressState A) Refusal} (Ok on) (Ok q) → Nearer gs p q
    behind_nearer g on group change is made =
        let one : suc p.group ≡ on.group = omega (arith, group) in
        let next = subst (λ n. left_in gs n 0 < left_in gs p.group p.change) one (left_next gs p.group p.change g is) in
        let there = subst (λ n. left_in gs on.group n < left_in gs p.group p.change) (sym change) next in
        inr (subst (λ (r : ProgressState A). left_in gs r.group r.change < left_in gs p.group p.change) (ok_same on q made) there)

    made_nearer : (g : TableEntries X) (change : X) (left : Result (AppliedState A) Refusal) → slice_get gs p.group ≡ Some g → slice_get g.changes p.change ≡ Some change → left_by p left ≡ Ok q → Nearer gs p q
    made_nearer g change (Err why) is at made = absurd cc
    made_nearer g change (Ok left) is at made =
        let one : suc p.change ≡ p.change + 1 = omega arith in
        let next = subst (λ n. left_in gs p.group n < left_in gs p.group p.change) one (left_further gs p.group p.change g is (slice_get_within g.changes p.change change at)) in
        inr (subst (λ (r : ProgressState A). left_in gs r.group r.change < left_in gs p.group p.change) (ok_same (one_further (record p { applied = left })) q made) next)

    change_nearer : (g : TableEntries X) (found : Option X) → slice_get gs p.group ≡ Some g → slice_get g.changes p.change ≡ found → answered_change requested Omit g found p ≡ Ok q → Nearer gs p q
    change_nearer g None is at made = behind_nearer g (behind (length g.changes) p) refl refl is made
    change_nearer g (Some change) is at made =
        made_nearer g change (change_applied (always Omit) p.number g.table g.schema (requested g.schema change) p.applied) is at made

    target_nearer : (g : TableEntries X) (there : Bool) → slice_get gs p.group ≡ Some g → answered_target requested Omit g there p ≡ Ok q → Nearer gs p q
    target_nearer g false is made = behind_nearer g _ refl refl is made
    target_nearer g true is made = change_nearer g (slice_get g.changes p.change) is refl made

    accepted_nearer : (g : TableEntries X) (takes : Bool) → slice_get gs p.group ≡ Some g → answered_accepted requested Omit g takes p ≡ Ok q → Nearer gs p q
    accepted_nearer g false is made = behind_nearer g _ refl refl is made
    accepted_nearer g true is made = target_nearer g (is_some (target p.applied.database g.table g.schema)) is made

    group_nearer : (filter : Option Rule) (found : Option (TableEntries X)) → slice_get gs p.group ≡ found → answered_group requested Omit filter found p ≡ Ok q → Nearer gs p q
    group_nearer filter None is made = inl (sym (ok_same p q made))
    group_nearer filter (Some g) is made = accepted_nearer g (accepted filter g.table) is made

module _ {A : Type 0} where
  abbrev left_at : Contents A → ProgressState A → ℕ
  left_at (Changes list) p = left_in list p.group p.change
  left_at (Patches list) p = left_in list p.group p.change

  abbrev left_of : ApplierState A → ℕ
  left_of s = left_at s.blob s.progress

  left_few : (s : ApplierState A) → left_of s ≤ most_steps s.blob
  left_few s = few s.blob s.progress
    where
      few : (blob : Contents A) (p : ProgressState A) → left_at blob p ≤ most_steps blob
      few (Changes list) p = left_most list p.group p.change
      few (Patches list) p = left_most list p.group p.change

  blob_nearer : (filter : Option Rule) (blob : Contents A) (p q : ProgressState A) → blob_answered Omit filter blob p ≡ Ok q → (q ≡ p) ⊎ (left_at blob q < left_at blob p)
  blob_nearer filter (Changes list) p q made = group_nearer requested_by_change list p q filter (slice_get list p.group) refl made
  blob_nearer filter (Patches list) p q made = group_nearer requested_by_patch list p q filter (slice_get list p.group) refl made

  -- ---- steps

  steps_stay : (n : ℕ) (s : ApplierState A) → step s ≡ s → steps n s ≡ s
  steps_stay zero s is = refl
  steps_stay (suc n) s is = ap step (steps_stay n s is) ∙ is

  steps_shift : (n : ℕ) (s : ApplierState A) → steps n (step s) ≡ step (steps n s)
  steps_shift zero s = refl
  steps_shift (suc n) s = ap step (steps_shift n s)

  steps_swap : (m n : ℕ) (s : ApplierState A) → steps m (steps n s) ≡ steps n (steps m s)
  steps_swap zero n s = refl
  steps_swap (suc m) n s = ap step (steps_swap m n s) ∙ sym (steps_shift n (steps m s))

  -- a step stays, or fewer steps are left
  answer_steps : (s : ApplierState A) (r : Result (ProgressState A) Refusal) → blob_answered Omit s.filter s.blob s.progress ≡ r → (one_on (with_progress s r) s ≡ s) ⊎ (left_of (one_on (with_progress s r) s) < left_of s)
  answer_steps s (Err why) is = inl refl
  answer_steps s (Ok q) is = by (blob_nearer s.filter s.blob s.progress q is)
    where
      by : ((q ≡ s.progress) ⊎ (left_at s.blob q < left_at s.blob s.progress)) → (record s { progress = q } ≡ s) ⊎ (left_at s.blob q < left_of s)
      by (inl same) = inl (ap (λ (p : ProgressState A). record s { progress = p }) same)
      by (inr less) = inr less

  met_steps : (s : ApplierState A) (found : Option (RowConflict A)) → (step_from found s ≡ s) ⊎ (left_of (step_from found s) < left_of s)
  met_steps s (Some conflict) = inl refl
  met_steps s None = answer_steps s (blob_answered Omit s.filter s.blob s.progress) refl

  ends_now : (n : ℕ) (s : ApplierState A) → step s ≡ s → step (steps n s) ≡ steps n s
  ends_now n s is = ap step (steps_stay n s is) ∙ is ∙ sym (steps_stay n s is)

  ends_zero : (s : ApplierState A) → left_of s ≤ 0 → ((step s ≡ s) ⊎ (left_of (step s) < left_of s)) → step (steps 0 s) ≡ steps 0 s
  ends_zero s few (inl is) = ends_now 0 s is
  ends_zero s few (inr less) = absurd (omega (arith, few, less))

  ends_next : (n : ℕ) (s : ApplierState A) → left_of s ≤ suc n → ((t : ApplierState A) → left_of t ≤ n → step (steps n t) ≡ steps n t) → ((step s ≡ s) ⊎ (left_of (step s) < left_of s))
      → step (steps (suc n) s) ≡ steps (suc n) s
  ends_next n s few others (inl is) = ends_now (suc n) s is
  ends_next n s few others (inr less) =
      let fewer : left_of (step s) ≤ n = omega (arith, few, less) in
      subst (λ (t : ApplierState A). step t ≡ t) (steps_shift n s) (others (step s) fewer)

  ends : (n : ℕ) (s : ApplierState A) → left_of s ≤ n → step (steps n s) ≡ steps n s
  ends zero s few = ends_zero s few (met_steps s (met s))
  ends (suc n) s few = ends_next n s few (λ t less. ends n t less) (met_steps s (met s))

  -- ---- what is reached

  reached_by : (count : ℕ) (from to : ApplierState A) → IsReachedIn count from to → to ≡ steps count from
  reached_by zero from to is = is
  reached_by (suc count) from to (mid, reached, none, made) =
      let here : step mid ≡ to = ap (λ (found : Option (RowConflict A)). step_from found mid) none ∙ ap (λ (r : Result (ApplierState A) Refusal). one_on r mid) made in
      sym here ∙ ap step (reached_by count from mid reached)

  end_answered : (filter : Option Rule) (blob : Contents A) (p : ProgressState A) → group_count blob ≤ p.group → blob_answered Omit filter blob p ≡ Ok p
  end_answered filter (Changes list) p end = ap (λ (g : Option (TableEntries _)). answered_group requested_by_change Omit filter g p) (slice_get_past list p.group end)
  end_answered filter (Patches list) p end = ap (λ (g : Option (TableEntries _)). answered_group requested_by_patch Omit filter g p) (slice_get_past list p.group end)

  stands : (s : ApplierState A) (found : Option (RowConflict A)) → (found ≡ None → IsAtEnd s) → step_from found s ≡ s
  stands s (Some conflict) end = refl
  stands s None end =
      ap (λ (r : Result (ProgressState A) Refusal). one_on (with_progress s r) s) (end_answered s.filter s.blob s.progress (end refl))

  -- where a conflict is met or the end is reached, it is there that the application stops
  pub stops : (from to : ApplierState A) → IsReached from to → (met to ≡ None → IsAtEnd to) → to ≡ stop_from from
  unfolding stop_from
  stops from to (count, reached) end =
      let most = most_steps from.blob in
      let here = reached_by count from to reached in
      let there = ends most from (left_few from) in
      let stays : step (steps count from) ≡ steps count from = subst (λ (t : ApplierState A). step t ≡ t) here (stands to (met to) end) in
      here ∙ sym (steps_stay most (steps count from) stays) ∙ sym (steps_swap count most from) ∙ steps_stay count (steps most from) there

  -- ---- the filter stays

  progress_filter : (s : ApplierState A) (r : Result (ProgressState A) Refusal) → (one_on (with_progress s r) s).filter ≡ s.filter
  progress_filter s (Ok p) = refl
  progress_filter s (Err why) = refl

  step_filter : (s : ApplierState A) (found : Option (RowConflict A)) → (step_from found s).filter ≡ s.filter
  step_filter s (Some conflict) = refl
  step_filter s None = progress_filter s (blob_answered Omit s.filter s.blob s.progress)

  steps_filter : (n : ℕ) (s : ApplierState A) → (steps n s).filter ≡ s.filter
  steps_filter zero s = refl
  steps_filter (suc n) s = step_filter (steps n s) (met (steps n s)) ∙ steps_filter n s

  reached_filter : (from to : ApplierState A) → IsReached from to → to.filter ≡ from.filter
  reached_filter from to (count, reached) = ap (λ (s : ApplierState A). s.filter) (reached_by count from to reached) ∙ steps_filter count from

  progressed_filter : (s from : ApplierState A) (r : Result (ProgressState A) Refusal) → with_progress s r ≡ Ok from → from.filter ≡ s.filter
  progressed_filter s from (Ok p) is = ap (λ (t : ApplierState A). t.filter) (sym (ok_same (record s { progress = p }) from is))
  progressed_filter s from (Err why) is = absurd cc

  merged_filter : (s : ApplierState A) (found : Option (RowConflict A)) (row : Fields A) → (merged_at found row s).filter ≡ s.filter
  merged_filter s None row = refl
  merged_filter s (Some conflict) row = refl

  -- ---- the calls

  -- an application that has begun with copies
  pub begun_stop : (database : Tables A) (blob copy : Contents A) (filter kept : Option Rule) (to : ApplierState A) → copy ≡ blob → kept ≡ filter → IsReached (begun database copy kept) to → (met to ≡ None → IsAtEnd to)
      → (to ≡ stop_from (begun database blob filter)) × (to.filter ≡ filter)
  begun_stop database blob copy filter kept to same own reached end =
      let from : begun database copy kept ≡ begun database blob filter = ap (λ (b : Contents A). begun database b kept) same ∙ ap (λ (f : Option Rule). begun database blob f) own in
      (stops (begun database copy kept) to reached end ∙ ap stop_from from, reached_filter (begun database copy kept) to reached ∙ own)

  pub merged_stop : (s to : ApplierState A) (row : Fields A) → IsReached (merged_at (met s) row s) to → (met to ≡ None → IsAtEnd to)
      → (to ≡ stop_from (merged_at (met s) row s)) × (to.filter ≡ s.filter)
  merged_stop s to row reached end =
      (stops (merged_at (met s) row s) to reached end, reached_filter (merged_at (met s) row s) to reached ∙ merged_filter s (met s) row)

  pub answered_stop : (s to : ApplierState A) (answer : Answer) → GoesOn (answered answer s) (Ok to) → (met to ≡ None → IsAtEnd to)
      → (stopped (answered answer s) ≡ Ok to) × (to.filter ≡ s.filter)
  answered_stop s to answer (from, is, reached) end = (
    ap stopped is ∙ ap (λ (t : ApplierState A). Ok t) (sym (stops from to reached end)),
    reached_filter from to reached ∙ progressed_filter s from (blob_answered answer s.filter s.blob s.progress) is,
  )

  pub answered_keeps : ((base : Tables A) (from to : ApplierState A) → KeepsTo base from → IsReached from to → KeepsTo base to) → ((base : Tables A) (answer : Answer) (s : ApplierState A) → KeepsTo base s → IfOk (answered answer s) (KeepsTo base))
      → (base : Tables A) (s to : ApplierState A) (answer : Answer) → GoesOn (answered answer s) (Ok to) → KeepsTo base s → KeepsTo base to
  answered_keeps between law base s to answer (from, is, reached) kept =
      between base from to (subst (λ (r : Result (ApplierState A) Refusal). IfOk r (KeepsTo base)) is (law base answer s kept)) reached

  pub begun_keeps : ((base : Tables A) (from to : ApplierState A) → KeepsTo base from → IsReached from to → KeepsTo base to) → ((tables : Tables A) (blob : Contents A) (filter : Option Rule) → KeepsTo tables (begun tables blob filter))
      → (database : Tables A) (copy : Contents A) (kept : Option Rule) (to : ApplierState A) → IsReached (begun database copy kept) to → KeepsTo database to
  begun_keeps between law database copy kept to reached = between database (begun database copy kept) to (law database copy kept) reached

  pub answered_fault : (s : ApplierState A) (answer : Answer) (fault : Fault Refusal) → GoesOn (answered answer s) (Err fault) → AnswersUnlessMemory {X = ApplierState A} (Err fault) (stopped (answered answer s))
  answered_fault s answer (fault.Refused why) is = ap stopped is
  answered_fault s answer fault.OutOfMemory is = tt

  pub whole : (blob : Contents A) → accepted_in all blob ≡ blob
  whole (Changes list) = ap Changes (every_group list)
  whole (Patches list) = ap Patches (every_group list)
