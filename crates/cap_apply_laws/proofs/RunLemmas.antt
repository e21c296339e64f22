-- A change that is made is made by the operations that it stands for, and so is a whole blob.
use Rattle.std.proofs.Common.{◌≡◌, ℕ, ◌≤◌, Bool, true, false, cond, inl, inr, Option, Some, None, Result, Ok, Err, List, [], ◌∷◌, ◌++◌, length, refl, sym, ap, subst, ◌∙◌, append_assoc, arith, T, IfOk, zip, append-nil}
use Rattle.std.specs.FinMap.Entries.{is_sorted, same_entries}
use Rattle.std.proofs.lemmas.Slice.Zip.{length-zip}
use Rattle.cap_database.specs.declared.op.Action.TheVariants.{Insert}
use Rattle.cap_database.specs.declared.op.Op.{Op}
use Rattle.cap_database.proofs.WritesLemmas.{get-find, get-set, sorted-set}
use Rattle.cap_database_laws.proofs.BatchesLemmas.{batches-run}
use Rattle.cap_database_laws.proofs.UndoneLemmas.{put-again, put-found}
use Rattle.cap_changes.specs.declared.record_kind.RecordKind.TheVariants as record_kinds
use Rattle.cap_changes.specs.declared.patch.Patch.TheVariants as patched
use Rattle.cap_changes.proofs.PatchLemmas.{update_fits}
use Rattle.cap_apply.proofs.Common.{length-map, IfOk-at_ok, IfOk-weaker, bytes_cmp, Refusal, Fields, fields_cmp, fields_cmp_total, fields_eq_decides, key_fields, key_of, has_key, get, put_entry, take_entry, with_key, without, IsRising, TableState, Key, found-own, fields_same, changes_to, run, AreRising, Tables, Direct, Change, RecordFields, change_fits, patch_fits, patch_of, update_record, new_requirements, requirements, satisfy, RowChange, Patch, Contents, AppliedState, apply, change_applied, concluded, counted, left_out, noted, nothing_applied, with_row_in, FitsItsColumns, AreRun, IsMadeOrOmitted, deletes, directly, inserts, operations_of_change, operations_of_patch, other_fields, is_made, Requested, requested_by_change, requested_by_patch, requested_of, conflict_of, key_record_of, key_values, new_row, row_after, set_fields, columns_fit, target}
use Rattle.cap_apply.specs.declared.conflict.ConflictKind.{ConflictKind}
use Rattle.cap_apply.specs.declared.policy.Policy.{Policy}
use Rattle.cap_apply.proofs.ChangeLemmas.{HasTarget, applied_at, the_target}
use Rattle.cap_apply.proofs.GroupLemmas.{groups_keep}
use Rattle.cap_apply.proofs.KeyLemmas.{Keyed, change-keyed, patch-keyed}
use Rattle.cap_apply.proofs.OperationLemmas.{delete_is, insert_is, update_is}
use Rattle.cap_apply.proofs.OrderLemmas.{HasItsKey, blob-keyed, found-rises}
use Rattle.cap_apply.proofs.RowLemmas.{few_fields, key_of-new_row, key_of-set_fields, length-new_row, record_key, update_key}
use Rattle.cap_apply_laws.proofs.CaptureLemmas.{key_is}

module _ {A : Type 0} where
  -- a row that is put where another was taken out
  put-taken : (es : List (Fields A × Fields A)) (key row : Fields A) → is_sorted fields_cmp es ≡ true → put_entry fields_cmp (take_entry fields_cmp es key) key row ≡ put_entry fields_cmp es key row
  put-taken es key row s =
      let taken : is_sorted fields_cmp (take_entry fields_cmp es key) ≡ true = sorted-set fields_cmp fields_cmp_total fields_same es key None s in
      same_entries fields_cmp fields_cmp_total fields_same (put_entry fields_cmp (take_entry fields_cmp es key) key row) (put_entry fields_cmp es key row)
      (subst T (sym (sorted-set fields_cmp fields_cmp_total fields_same (take_entry fields_cmp es key) key (Some row) taken)) tt)
      (subst T (sym (sorted-set fields_cmp fields_cmp_total fields_same es key (Some row) s)) tt)
      (λ q.
      let one = get-find fields_cmp fields_cmp_total fields_same (put_entry fields_cmp (take_entry fields_cmp es key) key row) q in
      let other = get-find fields_cmp fields_cmp_total fields_same (put_entry fields_cmp es key row) q in
      let last = get-set fields_cmp fields_cmp_total fields_same (take_entry fields_cmp es key) key (Some row) q taken in
      let first = get-set fields_cmp fields_cmp_total fields_same es key None q s in
      let alone = get-set fields_cmp fields_cmp_total fields_same es key (Some row) q s in
      grind (arith, one, other, last, first, alone))

  -- ---- the fields that an update sets

  -- in a row of the key, setting the key fields as well sets nothing more
  set-others : (flags schema : List Bool) (fields : RecordFields A) (row : Fields A) → columns_fit flags schema ≡ true → satisfy (requirements record_kinds.Keyed flags) fields ≡ true →
      length row ≡ length schema → key_fields schema row ≡ key_values flags fields → set_fields (other_fields flags fields) row ≡ set_fields fields row
  set-others (flag ∷ flags) (own ∷ schema) (field ∷ fields) (value ∷ row) fit met wide is = let rest = set-others flags schema fields row in grind (arith, rest)
  set-others flags schema fields row fit met wide is = grind arith

  -- the patch of an UPDATE has the fields of the new record beside the key
  others-updated : (flags : List Bool) (old new : RecordFields A) → satisfy (new_requirements flags old) new ≡ true → other_fields flags (update_record flags old new) ≡ new
  others-updated (flag ∷ flags) (before ∷ old) (after ∷ new) met = let rest = others-updated flags old new in grind (arith, rest)
  others-updated flags old new met = grind arith

  -- ---- operations, one after another

  run-more : (ops more : List (Op A)) (before mid after : AppliedState A) → AreRun ops before mid → AreRun more mid after → AreRun (ops ++ more) before after
  run-more ops more before mid after first last = (
    first.0 ++ last.0,
    rw (first.1, last.1, append-nil more, append-nil last.0) at (batches-run before.database (ops ∷ more ∷ [])),
    last.2 ∙ ap (λ (l : List (Change A)). l ++ last.0) first.2 ∙ append_assoc before.changes first.0 last.0,
  )

  -- ---- a change that is made

  module _ (name : List ℕ) (flags : List Bool) (keyed : has_key flags ≡ true) (state : AppliedState A) (rise : AreRising state.database) (h : HasTarget state.database name flags) where
    rises : IsRising h.table
    rises = found-rises state.database name h.table rise.each h.there

    abbrev left : Fields A → Option (Fields A) → Option (Fields A) → AppliedState A
    left key before after = with_row_in name h.table key before after state

    inserts-run : (key row : Fields A) (before : Option (Fields A)) → length row ≡ length h.table.schema → key_of h.table.schema row ≡ Some key → get fields_cmp h.table.keyed key ≡ before
        → AreRun (inserts name key row before) state (left key before (Some row))
    inserts-run key row None wide own found = insert_is state name h.table h.there key row wide own found
    inserts-run key row (Some taken) wide own found =
        let gone : TableState A = without h.table (Key key) in
        let deleted = left key (Some taken) None in
        let none : get fields_cmp gone.keyed key ≡ None =
        get-set fields_cmp fields_cmp_total fields_same h.table.keyed key None key rises.keys
        ∙ ap (λ b. cond b None (get fields_cmp h.table.keyed key)) ((fields_eq_decides key key).1 refl) in
        let one : put_entry bytes_cmp (put_entry bytes_cmp state.database name gone) name (with_key gone key row) ≡ put_entry bytes_cmp state.database name (with_key h.table key row) =
        put-again state.database name gone (with_key gone key row) rise.names
        ∙ ap (λ rows. put_entry bytes_cmp state.database name (record h.table { keyed = rows })) (put-taken h.table.keyed key row rises.keys) in
        let goes : List (Change A) = changes_to name Direct ((Some key, Some taken) ∷ []) in
        let comes : List (Change A) = changes_to name Direct ((Some key, None) ∷ []) in
        let same : with_row_in name gone key None (Some row) deleted ≡ left key (Some taken) (Some row) = λ i. record state { database = one i; changes = append_assoc state.changes goes comes i } in
        subst (λ (after : AppliedState A). AreRun (inserts name key row (Some taken)) state after) same
        (run-more (deletes name key) (directly name (Insert row) ∷ []) state deleted (with_row_in name gone key None (Some row) deleted)
        (delete_is state name h.table h.there key taken found) (insert_is deleted name gone (put-found state.database name gone) key row wide own none))

    module _ (policy : Policy) (number : ℕ) where
      made-run : (old : RecordFields A) (patch : Patch A) (before : Option (Fields A)) → get fields_cmp h.table.keyed (key_values flags (key_record_of patch)) ≡ before → Keyed flags patch
          → is_made policy number (conflict_of flags old patch before) ≡ Ok true
          → AreRun (operations_of_patch name flags h.table patch) state (left (key_values flags (key_record_of patch)) before (row_after (length h.table.schema) patch before))
      made-run old (patched.Insert indirect new) before found fits e =
          let key = key_values flags new in
          let row = new_row (length h.table.schema) new in
          subst (λ b. AreRun (inserts name key row b) state (left key before (Some row))) (sym found)
          (inserts-run key row before (length-new_row flags h.table.schema new h.fit keyed fits) (key_of-new_row flags h.table.schema new h.fit keyed fits) found)
      made-run old (patched.Update indirect new) (Some row) found fits e =
          let key = key_values flags new in
          let fields = other_fields flags new in
          let own = found-own h.table key row rises found in
          let as_many : length fields ≡ length (zip flags new) = length-map (zip flags new) _ in
          let few : length fields ≤ length h.table.schema = omega (arith, as_many, length-zip flags new, few_fields flags h.table.schema new h.fit keyed fits) in
          update_is state name h.table h.there key fields row (set_fields new row) few found
          (set-others flags h.table.schema new row h.fit fits own.0 (key_is h.table.schema row key own.1)) (key_of-set_fields flags h.table.schema new h.fit keyed fits row own.0)
      made-run old (patched.Delete indirect old_key) (Some row) found fits e =
          delete_is state name h.table h.there (key_values flags old_key) row found
      made-run old patch before found fits e = absurd (grind arith)

      concluded-as : (conflict : Option ConflictKind) (ops : List (Op A)) (key : Fields A) (before after : Option (Fields A)) (answer : Result Bool Refusal) → is_made policy number conflict ≡ answer
          → (answer ≡ Ok true → AreRun ops state (left key before after))
          → IfOk (concluded answer (counted (with_row_in name h.table key before after (noted policy number conflict state))) (left_out number (noted policy number conflict state))) (IsMadeOrOmitted number ops state)
      concluded-as None ops key before after (Ok true) is ran = inl (record { applied = refl; omitted = refl; ran = ran refl })
      concluded-as None ops key before after (Ok false) is ran = absurd cc
      concluded-as (Some kind) ops key before after (Ok true) is ran = inl (record { applied = refl; omitted = refl; ran = ran refl })
      concluded-as (Some kind) ops key before after (Ok false) is ran = inr (record {
        kind = kind;
        conflict = grind arith;
        omitted = refl;
        applied = refl;
        database = refl;
        changes = refl;
      })
      concluded-as conflict ops key before after (Err why) is ran = tt

  module _ (policy : Policy) (number : ℕ) (name : List ℕ) (flags : List Bool) where
    requests-are-run : (requested : Requested A) (state : AppliedState A) (table : TableState A) → AreRising state.database → has_key flags ≡ true → Keyed flags requested.patch
        → target state.database name flags ≡ Some table → IfOk (change_applied policy number name flags requested state) (IsMadeOrOmitted number (operations_of_patch name flags table requested.patch) state)
    requests-are-run requested state table rise keyed fits is =
        let h = the_target state.database name flags table is in
        let key = key_values flags (key_record_of requested.patch) in
        let before = get fields_cmp h.table.keyed key in
        let conflict = conflict_of flags requested.old requested.patch before in
        subst (λ r. IfOk r (IsMadeOrOmitted number (operations_of_patch name flags table requested.patch) state)) (sym (applied_at policy number name flags requested state h before conflict refl refl))
        (concluded-as name flags keyed state rise h policy number conflict (operations_of_patch name flags table requested.patch) key before (row_after (length h.table.schema) requested.patch before)
        (is_made policy number conflict) refl (made-run name flags keyed state rise h policy number requested.old requested.patch before refl fits))

    pub changes-are-run : (change : RowChange A) (state : AppliedState A) (table : TableState A) → AreRising state.database → has_key flags ≡ true → change_fits flags change ≡ true
        → target state.database name flags ≡ Some table
        → IfOk (change_applied policy number name flags (requested_by_change flags change) state) (IsMadeOrOmitted number (operations_of_change name flags table change) state)
    changes-are-run change state table rise keyed fits is =
        let same : operations_of_patch name flags table (patch_of flags change) ≡ operations_of_change name flags table change =
        grind (arith, update_key {A = A} flags, update_fits {A = A} flags, others-updated flags, record_key {A = A} flags) in
        subst (λ ops. IfOk (change_applied policy number name flags (requested_by_change flags change) state) (IsMadeOrOmitted number ops state)) same
        (requests-are-run (requested_by_change flags change) state table rise keyed (change-keyed flags change fits) is)

    pub patches-are-run : (patch : Patch A) (state : AppliedState A) (table : TableState A) → AreRising state.database → has_key flags ≡ true → patch_fits flags patch ≡ true
        → target state.database name flags ≡ Some table
        → IfOk (change_applied policy number name flags (requested_by_patch flags patch) state) (IsMadeOrOmitted number (operations_of_patch name flags table patch) state)
    patches-are-run patch state table rise keyed fits is = requests-are-run (requested_by_patch flags patch) state table rise keyed (patch-keyed flags patch fits) is

  -- ---- a blob

  module _ (runs : (tables : Tables A) (ops : List (Op A)) → AreRising tables → IfOk (run tables ops) (λ left. AreRising left.database)) (tables : Tables A) (blob : Contents A) (policy : Policy) (rise : AreRising tables) where
    abbrev Reached : AppliedState A → Type 0
    Reached state = (ops : List (Op A)) × (run tables ops ≡ Ok (record { database = state.database; changes = state.changes }))

    change-reached : (number : ℕ) (name : List ℕ) (flags : List Bool) (requested : Requested A) (state : AppliedState A) → HasItsKey flags requested → Reached state → IfOk (change_applied policy number name flags requested state) Reached
    change-reached number name flags requested state keyed reached =
        let runs_on = λ (table : TableState A) (is : target state.database name flags ≡ Some table).
        IfOk-weaker (change_applied policy number name flags requested state)
        (IsMadeOrOmitted number (operations_of_patch name flags table requested.patch) state) Reached
        (ended (operations_of_patch name flags table requested.patch))
        (requests-are-run policy number name flags requested state table (IfOk-at_ok (λ left. AreRising left.database) reached.1 (runs tables reached.0 rise)) keyed.0 keyed.1 is) in
        grind (arith, reached, runs_on)
      where
        ended : (ops : List (Op A)) (next : AppliedState A) → IsMadeOrOmitted number ops state next → Reached next
        ended ops next (inl made) =
            let all = run-more reached.0 ops (nothing_applied tables) state next (state.changes, reached.1, refl) made.ran in
            (reached.0 ++ ops, all.1 ∙ ap (λ (l : List (Change A)). Ok (record { database = next.database; changes = l })) (sym all.2))
        ended ops next (inr left) = (reached.0, reached.1 ∙ (λ i. Ok (record { database = sym left.database i; changes = sym left.changes i })))

    pub apply-runs : FitsItsColumns blob → IfOk (apply tables blob policy) Reached
    apply-runs fits = groups_keep policy HasItsKey Reached (λ _ _ reached. reached) change-reached (requested_of blob) 0 0 (nothing_applied tables) (blob-keyed blob fits) ([], refl)
