-- What one step adds to the report.
use Rattle.std.proofs.Common.{◌≡◌, ℕ, inl, inr, Bool, true, false, Option, Some, None, Result, Ok, Err, List, length, refl, subst, sym}
use Rattle.std.specs.Prelude.{IfOk, is_some, slice_get}
use Rattle.cap_value.specs.declared.refusal.Refusal.{Refusal}
use Rattle.cap_row.specs.Fields.{Fields}
use Rattle.cap_row.specs.Key.{fields_cmp}
use Rattle.cap_tree.specs.Tree.{get}
use Rattle.cap_filter.specs.Rule.{Rule}
use Rattle.cap_table.specs.Table.{TableState}
use Rattle.cap_changes.specs.Entries.{TableEntries}
use Rattle.cap_codec.specs.declared.read.Contents.{Contents}
use Rattle.cap_codec.specs.declared.read.Contents.TheVariants.{Changes, Patches}
use Rattle.cap_apply.specs.Apply.{change_applied, concluded, counted, left_out, noted, with_row_in}
use Rattle.cap_apply.specs.Policy.{always, is_made}
use Rattle.cap_apply.specs.Requested.{Requested, requested_by_change, requested_by_patch}
use Rattle.cap_apply.specs.Row.{conflict_of, key_record_of, key_values, row_after}
use Rattle.cap_apply.specs.Target.{target}
use Rattle.cap_apply.specs.declared.conflict.ConflictKind.{ConflictKind}
use Rattle.cap_apply.specs.declared.policy.Answer.{Answer}
use Rattle.cap_apply.specs.declared.policy.Policy.{Policy}
use Rattle.cap_apply.proofs.ChangeLemmas.{applied_at, has_target}
use Rattle.cap_applier.specs.Applier.{ApplierState, answered, blob_answered, with_progress}
use Rattle.cap_applier.specs.Counted.{CountsOne}
use Rattle.cap_applier.specs.Progress.{ProgressState}
use Rattle.cap_applier.specs.Step.{accepted, answered_accepted, answered_change, answered_group, answered_target, left_by}

module _ {A : Type 0} (p : ProgressState A) where
  -- a change that is concluded is counted
  concluded-counts : (policy : Policy) (conflict : Option ConflictKind) (name : List ℕ) (table : TableState A) (key : Fields A) (before after : Option (Fields A)) (answer : Result Bool Refusal)
      → IfOk (left_by p (concluded answer (counted (with_row_in name table key before after (noted policy p.number conflict p.applied))) (left_out p.number (noted policy p.number conflict p.applied)))) (CountsOne p)
  concluded-counts policy None name table key before after (Ok true) =
      inr (inl (record { number = refl; place = (refl, refl); counts = inl (record { applied = refl; omitted = refl }); skipped = refl; passed = refl }))
  concluded-counts policy None name table key before after (Ok false) =
      inr (inl (record { number = refl; place = (refl, refl); counts = inr (record { applied = refl; omitted = refl }); skipped = refl; passed = refl }))
  concluded-counts policy (Some kind) name table key before after (Ok true) =
      inr (inl (record { number = refl; place = (refl, refl); counts = inl (record { applied = refl; omitted = refl }); skipped = refl; passed = refl }))
  concluded-counts policy (Some kind) name table key before after (Ok false) =
      inr (inl (record { number = refl; place = (refl, refl); counts = inr (record { applied = refl; omitted = refl }); skipped = refl; passed = refl }))
  concluded-counts policy conflict name table key before after (Err why) = tt

  change-counts : (policy : Policy) (name : List ℕ) (flags : List Bool) (asked : Requested A) → is_some (target p.applied.database name flags) ≡ true
      → IfOk (left_by p (change_applied policy p.number name flags asked p.applied)) (CountsOne p)
  change-counts policy name flags asked there =
      let h = has_target p.applied.database name flags there in
      let key = key_values flags (key_record_of asked.patch) in
      let before = get fields_cmp h.table.keyed key in
      let conflict = conflict_of flags asked.old asked.patch before in
      subst (λ r. IfOk (left_by p r) (CountsOne p)) (sym (applied_at policy p.number name flags asked p.applied h before conflict refl refl))
      (concluded-counts policy conflict name h.table key before (row_after (length h.table.schema) asked.patch before) (is_made policy p.number conflict))

  module _ {X : Type 0} (f : List Bool → X → Requested A) (answer : Answer) where
    by_change : (group : TableEntries X) → is_some (target p.applied.database group.table group.schema) ≡ true → (o : Option X) → IfOk (answered_change f answer group o p) (CountsOne p)
    by_change group there None = inr (inr (record { place = (refl, refl); applied = refl; omitted = refl; counts = inr (inr (refl, refl)) }))
    by_change group there (Some x) = change-counts (always answer) group.table group.schema (f group.schema x) there

    by_target : (group : TableEntries X) (b : Bool) → is_some (target p.applied.database group.table group.schema) ≡ b → IfOk (answered_target f answer group b p) (CountsOne p)
    by_target group false none = inr (inr (record { place = (refl, refl); applied = refl; omitted = refl; counts = inl (refl, refl) }))
    by_target group true there = by_change group there (slice_get group.changes p.change)

    by_accepted : (group : TableEntries X) (b : Bool) → IfOk (answered_accepted f answer group b p) (CountsOne p)
    by_accepted group false = inr (inr (record { place = (refl, refl); applied = refl; omitted = refl; counts = inr (inl (refl, refl)) }))
    by_accepted group true = by_target group (is_some (target p.applied.database group.table group.schema)) refl

    by_group : (filter : Option Rule) (o : Option (TableEntries X)) → IfOk (answered_group f answer filter o p) (CountsOne p)
    by_group filter None = inl refl
    by_group filter (Some group) = by_accepted group (accepted filter group.table)

  pub blob-counts : (answer : Answer) (filter : Option Rule) (blob : Contents A) → IfOk (blob_answered answer filter blob p) (CountsOne p)
  blob-counts answer filter (Changes list) = by_group requested_by_change answer filter (slice_get list p.group)
  blob-counts answer filter (Patches list) = by_group requested_by_patch answer filter (slice_get list p.group)

module _ {A : Type 0} where
  pub step-counts : (answer : Answer) (s : ApplierState A) → IfOk (answered answer s) (λ t. CountsOne s.progress t.progress)
  step-counts answer s = told (blob_answered answer s.filter s.blob s.progress) (blob-counts s.progress answer s.filter s.blob)
    where
      told : (r : Result (ProgressState A) Refusal) → IfOk r (CountsOne s.progress) → IfOk (with_progress s r) (λ t. CountsOne s.progress t.progress)
      told (Ok q) h = h
      told (Err why) h = tt
