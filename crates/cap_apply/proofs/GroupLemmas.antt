-- Changes and groups, one after another.
use Rattle.std.proofs.Common.{◌≡◌, ℕ, ◌+◌, ◌<◌, Bool, true, false, Result, Ok, List, [], ◌∷◌, length, map, drop, get_or, refl, ap, subst, ◌∙◌, arith, All, IfOk, is_some}
use Rattle.std.proofs.lemmas.Cmp.{nat_list_cmp_total}
use Rattle.cap_apply.proofs.Common.{tied_itself, length-map, All-head, All-tail, bytes_cmp, Refusal, TableEntries, drop_here, AppliedState, and_then, change_applied, changes_applied, group_applied, groups_applied, skipped, skipped_unless, with_row, Requested, requested_in, row_after, columns_fit, target, Policy}
use Rattle.cap_apply.proofs.ChangeLemmas.{change_leaves, same_columns}
use Rattle.cap_apply.proofs.EntryLemmas.{get_put}

module _ {A : Type 0} where
  -- ---- the table of a group stays

  pub target_stays : (policy : Policy) (number : ℕ) (name : List ℕ) (flags : List Bool) (requested : Requested A) (state next : AppliedState A) →
      is_some (target state.database name flags) ≡ true → change_applied policy number name flags requested state ≡ Ok next →
      is_some (target next.database name flags) ≡ true
  target_stays policy number name flags requested state next e ok =
      subst (λ r. IfOk r (λ (s : AppliedState A). is_some (target s.database name flags) ≡ true)) ok
      (change_leaves (λ database changes. is_some (target database name flags) ≡ true) policy number name flags requested state e
      (λ h key before is found. let after = row_after (length h.table.schema) requested.patch before in
      let fit : columns_fit flags (with_row h.table key after).schema ≡ true =
      ap (columns_fit flags) (same_columns h.table key after) ∙ h.fit in
      rw (get_put bytes_cmp name (with_row h.table key after) (tied_itself nat_list_cmp_total name) state.database)
      (grind (arith, fit))))

  -- ---- changes

  -- the changes of a skipped group do nothing
  pub changes_skipped : (policy : Policy) (name : List ℕ) (flags : List Bool) (number : ℕ) (asks : List (Requested A)) (state : AppliedState A) →
      is_some (target state.database name flags) ≡ false → changes_applied policy number name flags asks state ≡ Ok state
  changes_skipped policy name flags number [] state none = refl
  changes_skipped policy name flags number (requested ∷ asks) state none =
      grind (arith, changes_skipped policy name flags (number + 1) asks state none)

  -- ---- what each step keeps

  pub both_keep : (P Q : AppliedState A → Type 0) (first : Result (AppliedState A) Refusal) (next : AppliedState A → Result (AppliedState A) Refusal) → IfOk first P
      → ((state : AppliedState A) → first ≡ Ok state → P state → IfOk (next state) Q) → IfOk (and_then first next) Q
  both_keep P Q first next holds more = grind (arith, more)

  -- what each change keeps, with the number of the next one
  pub changes_keep : (policy : Policy) (name : List ℕ) (flags : List Bool) (Asked : Requested A → Type 0) (Holds : ℕ → AppliedState A → Type 0)
      → ((number : ℕ) (requested : Requested A) (state : AppliedState A) → Asked requested → Holds number state → IfOk (change_applied policy number name flags requested state) (Holds (number + 1)))
      → (asks : List (Requested A)) (number last : ℕ) (state : AppliedState A) → number + length asks ≡ last → All Asked asks → Holds number state → IfOk (changes_applied policy number name flags asks state) (Holds last)
  changes_keep policy name flags Asked Holds one [] number last state count asked holds = let same : number ≡ last = omega (arith, count) in subst (λ n. Holds n state) same holds
  changes_keep policy name flags Asked Holds one (requested ∷ asks) number last state count asked holds =
      both_keep (Holds (number + 1)) (Holds last) (change_applied policy number name flags requested state) (λ next. changes_applied policy (number + 1) name flags asks next)
      (one number requested state (All-head Asked requested asks asked) holds)
      (λ next _. changes_keep policy name flags Asked Holds one asks (number + 1) last next (omega (arith, count)) (All-tail Asked requested asks asked))

  abbrev pub AllAsked : (List Bool → Requested A → Type 0) → TableEntries (Requested A) → Type 0
  AllAsked Asked group = All (Asked group.schema) group.changes

  -- what each change and each skipped group keep
  module _ (policy : Policy) (Asked : List Bool → Requested A → Type 0) (Holds : AppliedState A → Type 0) (skips : (place : ℕ) (state : AppliedState A) → Holds state → Holds (skipped place state))
      (one : (number : ℕ) (name : List ℕ) (flags : List Bool) (requested : Requested A) (state : AppliedState A) → Asked flags requested → Holds state → IfOk (change_applied policy number name flags requested state) Holds) where
    pub groups_keep : (groups : List (TableEntries (Requested A))) (place number : ℕ) (state : AppliedState A) → All (AllAsked Asked) groups → Holds state → IfOk (groups_applied policy place number groups state) Holds
    groups_keep [] place number state asked holds = holds
    groups_keep (group ∷ groups) place number state asked holds =
        let there = is_some (target state.database group.table group.schema) in
        both_keep Holds Holds (group_applied policy place number group state) (λ next. groups_applied policy (place + 1) (number + length group.changes) groups next)
        (changes_keep policy group.table group.schema (Asked group.schema) (λ _. Holds) (λ n. one n group.table group.schema) group.changes number (number + length group.changes)
        (skipped_unless there place state) refl (All-head (AllAsked Asked) group groups asked) (elim there as (λ b. Holds (skipped_unless b place state)) [ true ↦ holds | false ↦ skips place state holds ]))
        (λ next _. groups_keep groups (place + 1) (number + length group.changes) next (All-tail (AllAsked Asked) group groups asked))

  -- ---- groups

  module _ {X : Type 0} (policy : Policy) (f : List Bool → X → Requested A) (number : ℕ) (group : TableEntries X) (i : ℕ) (state : AppliedState A) where
    pub group_there : is_some (target state.database group.table group.schema) ≡ true →
        group_applied policy i number (requested_in f group) state ≡ changes_applied policy number group.table group.schema (map (f group.schema) group.changes) state
    group_there e = rw e

    pub group_skipped : is_some (target state.database group.table group.schema) ≡ false → group_applied policy i number (requested_in f group) state ≡ Ok (skipped i state)
    group_skipped e = rw (e, changes_skipped policy group.table group.schema number (map (f group.schema) group.changes) (skipped i state) e)

    pub groups_more : (groups : List (TableEntries X)) → i < length groups → group ≡ get_or groups i group → (next : AppliedState A) → group_applied policy i number (requested_in f group) state ≡ Ok next →
        groups_applied policy i number (map (requested_in f) (drop i groups)) state ≡ groups_applied policy (i + 1) (number + length group.changes) (map (requested_in f) (drop (i + 1) groups)) next
    groups_more groups within is next ok = rw (drop_here groups i group within is, ok, length-map group.changes (f group.schema))
