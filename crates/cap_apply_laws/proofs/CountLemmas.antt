-- Each change of a blob is applied, omitted or in a skipped group, and no change and no group comes twice in a report.
use Rattle.std.proofs.Common.{◌≡◌, ℕ, ◌+◌, ◌<◌, ◌≤◌, inl, inr, Bool, true, Some, None, Result, List, [], ◌∷◌, ◌++◌, length, map, take, drop, get_or, refl, sym, ap, subst, ◌∙◌, arith, length-append, IfOk, is_some, sum, take-take}
use Rattle.std.proofs.lemmas.List.Sums.{sum_by-take-drop, sum_by-take-le, sum_by_more, sum_by_push}
use Rattle.cap_tree.proofs.EntryLemmas.{all_append}
use Rattle.cap_apply.proofs.Common.{AllByRecursion, drop_more, length-map, IfOk-weaker, map-map, Refusal, fields_cmp, get, Tables, TableEntries, taken, Contents, Changes, Patches, AppliedState, apply, change_applied, changes_applied, concluded, counted, group_applied, groups_applied, left_out, noted, nothing_applied, skipped, with_row_in, Requested, requested_of, is_made, conflict_of, key_record_of, key_values, row_after, target}
use Rattle.cap_apply.specs.declared.policy.Policy.{Policy}
use Rattle.cap_apply.proofs.ChangeLemmas.{applied_at, has_target}
use Rattle.cap_apply.proofs.GroupLemmas.{both_keep, changes_keep, changes_skipped, target_stays}
use Rattle.cap_apply_laws.specs.Counted.{IsOutside, RiseWithin, change_count, changes_in_groups, first_of, group_sizes}

-- ---- numbers that rise

bounds-rise : (low high : ℕ) (numbers : List ℕ) → RiseWithin low high numbers → low ≤ high
bounds-rise low high [] rise = rise
bounds-rise low high (number ∷ numbers) rise = let above = bounds-rise (number + 1) high numbers rise.1 in omega (arith, above, rise.0)

rise-wider : (low high wide : ℕ) (numbers : List ℕ) → RiseWithin low high numbers → high ≤ wide → RiseWithin low wide numbers
rise-wider low high wide [] rise l = omega (arith, rise, l)
rise-wider low high wide (number ∷ numbers) rise l = (rise.0, rise-wider (number + 1) high wide numbers rise.1 l)

rise-more : (low last : ℕ) (numbers : List ℕ) → RiseWithin low last numbers → RiseWithin low (last + 1) (numbers ++ last ∷ [])
rise-more low last [] rise = (rise, omega arith)
rise-more low last (number ∷ numbers) rise = (rise.0, rise-more (number + 1) last numbers rise.1)

rise-each : (P : ℕ → Type 0) (low high : ℕ) (numbers : List ℕ) → RiseWithin low high numbers → ((number : ℕ) → number < high → P number) → AllByRecursion P numbers
rise-each P low high [] rise says = tt
rise-each P low high (number ∷ numbers) rise says =
    let above = bounds-rise (number + 1) high numbers rise.1 in (says number (omega (arith, above)), rise-each P (number + 1) high numbers rise.1 says)

module _ {A : Type 0} where
  abbrev size : TableEntries (Requested A) → ℕ
  size group = length group.changes

  sizes-are : (blob : Contents A) → group_sizes blob ≡ map size (requested_of blob)
  sizes-are (Changes list) = simp (map-map, length-map)
  sizes-are (Patches list) = simp (map-map, length-map)

module _ {A : Type 0} (blob : Contents A) where
  -- ---- the groups of a blob

  first-later : (place later : ℕ) → place ≤ later → first_of blob place ≤ first_of blob later
  first-later place later l = subst (λ front. sum front ≤ first_of blob later) (take-take place later (group_sizes blob) l) (sum_by-take-le (λ m. m) (take later (group_sizes blob)) place)

  -- the group at a place, and the first change behind it
  size-at : (place n : ℕ) (rest : List ℕ) → drop place (group_sizes blob) ≡ n ∷ rest
      → (get_or (group_sizes blob) place 0 ≡ n) × (drop (place + 1) (group_sizes blob) ≡ rest) × (first_of blob (place + 1) ≡ first_of blob place + n)
  size-at place n rest is =
      let left = taken (group_sizes blob) place n rest is in
      let within : place < length (group_sizes blob) = omega (arith, left.within) in
      let here : get_or (group_sizes blob) place 0 ≡ n = let both = sym (drop_more (group_sizes blob) place 0 within) ∙ is in cc in
      (here, sym left.left, sum_by_more (λ m. m) (group_sizes blob) place 0 within ∙ ap (λ m. first_of blob place + m) here)

  -- a change of a group is outside those before it
  apart-more : (place number low : ℕ) (omitted places : List ℕ) → first_of blob place ≤ number → RiseWithin low place places
      → AllByRecursion (λ at. AllByRecursion (IsOutside blob at) omitted) places → AllByRecursion (λ at. AllByRecursion (IsOutside blob at) (omitted ++ number ∷ [])) places
  apart-more place number low omitted [] l rise apart = tt
  apart-more place number low omitted (at ∷ places) l rise apart =
      let behind = first-later (at + 1) place (bounds-rise (at + 1) place places rise.1) in
      (all_append (IsOutside blob at) omitted (number ∷ []) apart.0 (inr (omega (arith, behind, l)), tt), apart-more place number (at + 1) omitted places l rise.1 apart.1)

  -- ---- a report, up to this group and this change

  pub record Told (place number applied : ℕ) (omitted skipped : List ℕ) : Type 0 where
    pub counted : applied + length omitted + changes_in_groups blob skipped ≡ number
    pub changes : RiseWithin 0 number omitted
    pub groups : RiseWithin 0 place skipped
    pub apart : AllByRecursion (λ at. AllByRecursion (IsOutside blob at) omitted) skipped

  abbrev pub IsTold : ℕ → ℕ → AppliedState A → Type 0
  IsTold place number state = Told place number state.report.applied state.report.omitted state.report.skipped

  told-skipped : (place number count : ℕ) (state : AppliedState A) → IsTold place number state → number ≡ first_of blob place → get_or (group_sizes blob) place 0 ≡ count → IsTold (place + 1) (number + count) (skipped place state)
  told-skipped place number count state told from is = record {
    counted = omega (arith, told.counted, sum_by_push (λ at. get_or (group_sizes blob) at 0) state.report.skipped place, is);
    changes = rise-wider 0 number (number + count) state.report.omitted told.changes (omega arith);
    groups = rise-more 0 place state.report.skipped told.groups;
    apart = all_append (λ at. AllByRecursion (IsOutside blob at) state.report.omitted) state.report.skipped (place ∷ []) told.apart
        (rise-each (IsOutside blob place) 0 number state.report.omitted told.changes (λ change l. inl (omega (arith, l, from))), tt);
  }

  module _ (policy : Policy) (name : List ℕ) (flags : List Bool) (place : ℕ) where
    concluded-told : (number : ℕ) (made kept : AppliedState A) (answer : Result Bool Refusal) → first_of blob place ≤ number → IsTold place number kept → made.report ≡ record kept.report { applied = kept.report.applied + 1 }
        → IfOk (concluded answer made (left_out number kept)) (IsTold place (number + 1))
    concluded-told number made kept answer from told is =
        let wider = rise-wider 0 number (number + 1) kept.report.omitted told.changes (omega arith) in
        let more = rise-more 0 number kept.report.omitted told.changes in
        let apart = apart-more place number 0 kept.report.omitted kept.report.skipped from told.groups told.apart in
        grind (arith, told.counted, told.groups, told.apart, wider, more, apart, length-append kept.report.omitted (number ∷ []), is)

    -- in a group that is there
    abbrev IsWithin : ℕ → AppliedState A → Type 0
    IsWithin number state = (is_some (target state.database name flags) ≡ true) × (first_of blob place ≤ number) × IsTold place number state

    change-told : (number : ℕ) (requested : Requested A) (state : AppliedState A) → IsWithin number state → IfOk (change_applied policy number name flags requested state) (IsWithin (number + 1))
    change-told number requested state (there, from, told) =
        let h = has_target state.database name flags there in
        let key = key_values flags (key_record_of requested.patch) in
        let before = get fields_cmp h.table.keyed key in
        let conflict = conflict_of flags requested.old requested.patch before in
        let kept = noted policy number conflict state in
        let kept_told : IsTold place number kept = elim conflict as (λ k. IsTold place number (noted policy number k state)) [ None ↦ told | Some kind ↦ told ] in
        let more = subst (λ r. IfOk r (IsTold place (number + 1))) (sym (applied_at policy number name flags requested state h before conflict refl refl))
        (concluded-told number (counted (with_row_in name h.table key before (row_after (length h.table.schema) requested.patch before) kept)) kept (is_made policy number conflict) from kept_told refl) in
        grind (arith, there, from, more, target_stays policy number name flags requested state)

  group-told : (policy : Policy) (place number : ℕ) (group : TableEntries (Requested A)) (state : AppliedState A) → number ≡ first_of blob place → get_or (group_sizes blob) place 0 ≡ size group → IsTold place number state
      → IfOk (group_applied policy place number group state) (IsTold (place + 1) (number + size group))
  group-told policy place number group state from is told =
      let applied = λ (there : is_some (target state.database group.table group.schema) ≡ true).
      IfOk-weaker (changes_applied policy number group.table group.schema group.changes state) (IsWithin policy group.table group.schema place (number + size group)) (IsTold (place + 1) (number + size group))
      (λ left within. let wider = rise-wider 0 place (place + 1) left.report.skipped within.2.groups (omega arith) in grind (arith, within.2, wider))
      (changes_keep policy group.table group.schema (λ _. Unit {0}) (IsWithin policy group.table group.schema place) (λ n requested next _. change-told policy group.table group.schema place n requested next)
      group.changes number (number + size group) state refl (λ _ _ _. tt) (there, omega (arith, from), told)) in
      let skips = told-skipped place number (size group) state told from is in
      let none = changes_skipped policy group.table group.schema number group.changes (skipped place state) in
      grind (arith, applied, skips, none)

  abbrev pub IsToldWhole : AppliedState A → Type 0
  IsToldWhole state = IsTold (length (group_sizes blob)) (change_count blob) state

  groups-told : (policy : Policy) (groups : List (TableEntries (Requested A))) (place number : ℕ) (state : AppliedState A) → drop place (group_sizes blob) ≡ map size groups → place + length groups ≡ length (group_sizes blob)
      → number ≡ first_of blob place → IsTold place number state → IfOk (groups_applied policy place number groups state) IsToldWhole
  groups-told policy [] place number state are left from told =
      grind (arith, told, sum_by-take-drop (λ m. m) (group_sizes blob) place, ap sum are)
  groups-told policy (group ∷ groups) place number state are left from told =
      let here = size-at place (size group) (map size groups) are in
      both_keep (IsTold (place + 1) (number + size group)) IsToldWhole (group_applied policy place number group state) (λ next. groups_applied policy (place + 1) (number + length group.changes) groups next)
      (group-told policy place number group state from here.0 told)
      (λ next _. groups-told policy groups (place + 1) (number + size group) next here.1 (omega (arith, left)) (omega (arith, from, here.2)))

  pub blob_told : (tables : Tables A) (policy : Policy) → IfOk (apply tables blob policy) IsToldWhole
  blob_told tables policy =
      let all : 0 + length (requested_of blob) ≡ length (group_sizes blob) = omega (arith, ap length (sizes-are blob), length-map (requested_of blob) size) in
      groups-told policy (requested_of blob) 0 0 (nothing_applied tables) (sizes-are blob) all refl (record { counted = refl; changes = omega arith; groups = omega arith; apart = tt })
