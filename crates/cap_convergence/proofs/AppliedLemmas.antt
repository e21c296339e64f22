-- A changeset of the hub that is applied with success: of each row, what its changes do and what the buffer has.
use Rattle.std.proofs.Common.{◌≡◌, ℕ, suc, ◌+◌, ◌-◌, ◌<◌, ◌≤◌, Bool, true, false, cond, List, [], ◌∷◌, ◌++◌, length, map, Option, Some, None, Result, Ok, Err, refl, ap, sym, subst, ◌∙◌, arith, nat_lt}
use Rattle.std.specs.Prelude.{filter_map, is_some, slice_get}
use Rattle.std.specs.List.{AllByRecursion, cons_option}
use Rattle.std.specs.Cmp.Lexicographic.{bytes_decides}
use Rattle.std.proofs.lemmas.Bool.Decides.{nat_tests}
use Rattle.std.proofs.lemmas.List.{append_assoc, length-map}
use Rattle.std.proofs.lemmas.List.Elements.{filter-append, filter_map-append}
use Rattle.std.proofs.lemmas.Option.{slice_get_past}
use Rattle.cap_value.specs.Bytes.{bytes_eq}
use Rattle.cap_row.specs.Fields.{Fields}
use Rattle.cap_row.specs.Key.{fields_eq, fields_eq_decides, is_key}
use Rattle.cap_row.specs.Schema.{has_key}
use Rattle.cap_database.specs.Read.{row_at}
use Rattle.cap_database.specs.Tables.{Tables, table_of}
use Rattle.cap_changes.specs.Fits.{change_fits}
use Rattle.cap_changes.specs.Group.{TableChanges}
use Rattle.cap_changes.specs.declared.row_change.RowChange.{RowChange}
use Rattle.cap_apply.specs.Applied.{AppliedState}
use Rattle.cap_apply.specs.Apply.{and_then, change_applied, changes_applied, group_applied, groups_applied}
use Rattle.cap_apply.specs.Policy.{answer_to, is_made}
use Rattle.cap_apply.specs.Requested.{requested_by_change, requested_in}
use Rattle.cap_apply.specs.Target.{columns_fit, fitting, target}
use Rattle.cap_apply.specs.declared.conflict.Conflict.{Conflict}
use Rattle.cap_apply.specs.declared.conflict.ConflictKind.{ConflictKind}
use Rattle.cap_apply.specs.declared.policy.Answer.{Answer}
use Rattle.cap_apply.specs.declared.policy.Answer.TheVariants.{Omit, Replace, Abort}
use Rattle.cap_apply.specs.declared.policy.Policy.{Policy}
use Rattle.cap_apply_laws.proofs.CaptureLemmas.{fit_self}
use Rattle.cap_apply.proofs.GroupLemmas.{group_there}
use Rattle.cap_group.specs.ChangeKey.{change_key}
use Rattle.cap_group.specs.Rows.{Follow, changes_of_row}
use Rattle.cap_rebase.specs.Buffer.{answered, answered_at, groups_met, met}
use Rattle.cap_rebase.specs.OneRow.{AreApplied, IsApplied, Remote, all_buffered, client_after, conflict_at}
use Rattle.cap_captures.specs.Rows.{row_changes}
use Rattle.cap_convergence.specs.Convergence.{Columns}
use Rattle.cap_convergence.proofs.KeyLemmas.{append_none, flagged_key, group_row, has_its_key, is_under, none_kept, same_kept, all_turn, all_append, some_same}
use Rattle.cap_convergence.proofs.StepLemmas.{Moves, Stands, moves, reported, same_rows}

pub next_of : {X Y E : Type 0} (first : Result X E) (next : X → Result Y E) (left : Y) → and_then first next ≡ Ok left → (mid : X) × (first ≡ Ok mid) × (next mid ≡ Ok left)
next_of (Ok mid) next left is = (mid, refl, is)
next_of (Err why) next left is = cc

not_before : (m n : ℕ) → n ≤ m → nat_lt m n ≡ false
not_before m n l = grind (arith, nat_tests)

before : (m n : ℕ) → m < n → nat_lt m n ≡ true
before m n l = grind (arith, nat_tests)

-- the conflicts of changes with these numbers
abbrev Within : ℕ → ℕ → List Conflict → Type 0
Within low high conflicts = AllByRecursion (λ conflict. (low ≤ conflict.change) × (conflict.change < high)) conflicts

reported_within : (policy : Policy) (number size : ℕ) (kind : Option ConflictKind) → Within number (number + suc size) (reported policy number kind)
reported_within policy number size None = tt
reported_within policy number size (Some kind) = ((omega arith, omega arith), tt)

module _ {A : Type 0} where
  -- ---- one row of the hub and of the client

  -- The hub's changes of a row, from its row at first to its row at last, are applied to the client's row, with
  -- these buffered changes.
  pub record RowApplied (flags : List Bool) (key : Fields A) (hub next client left : Option (Fields A)) (buffered : List (RowChange A)) : Type 0 where
    pub remotes : List (Remote A)
    pub applied : AreApplied flags key client hub remotes left next
    pub buffered_is : all_buffered remotes ≡ buffered
    pub none : is_key key ≡ false → remotes ≡ []

  pub row_applied_none : (flags : List Bool) (key : Fields A) (hub next client left : Option (Fields A)) → hub ≡ next → client ≡ left → RowApplied flags key hub next client left []
  row_applied_none flags key hub next client left same same' = record { remotes = []; applied = (same', same); buffered_is = refl; none = λ _. refl }

  applied_more : (flags : List Bool) (key : Fields A) (remotes more : List (Remote A)) (client hub client' hub' client'' hub'' : Option (Fields A))
      → AreApplied flags key client hub remotes client' hub' → AreApplied flags key client' hub' more client'' hub'' → AreApplied flags key client hub (remotes ++ more) client'' hub''
  applied_more flags key [] more client hub client' hub' client'' hub'' one two =
      subst (λ h. AreApplied flags key client h more client'' hub'') (sym one.1) (subst (λ c. AreApplied flags key c hub' more client'' hub'') (sym one.0) two)
  applied_more flags key (remote ∷ remotes) more client hub client' hub' client'' hub'' (under, is, (made, so, one)) two =
      (under, is, (made, so, applied_more flags key remotes more (client_after flags made remote.change client) remote.hub client' hub' client'' hub'' one two))

  pub row_applied_more : (flags : List Bool) (key : Fields A) (hub mid next client stood left : Option (Fields A)) (xs ys : List (RowChange A)) → RowApplied flags key hub mid client stood xs
      → RowApplied flags key mid next stood left ys → RowApplied flags key hub next client left (xs ++ ys)
  row_applied_more flags key hub mid next client stood left xs ys one two = record {
    remotes = one.remotes ++ two.remotes;
    applied = applied_more flags key one.remotes two.remotes client hub stood mid left next one.applied two.applied;
    buffered_is = filter_map-append (λ remote. remote.buffered) one.remotes two.remotes ∙ (λ i. one.buffered_is i ++ two.buffered_is i);
    none = λ no_key i. one.none no_key i ++ two.none no_key i;
  }

  -- ---- a change and its conflict

  -- what the buffer has of a change, by its conflict
  abbrev pub buffered_of : Policy → Option ConflictKind → RowChange A → Option (RowChange A)
  buffered_of policy None change = None
  buffered_of policy (Some kind) change = answered (answer_to policy kind) change

  abbrev no_changes : List (RowChange A)
  no_changes = []

  answered_key : (flags : List Bool) (answer : Answer) (key : Fields A) (change : RowChange A)
      → changes_of_row change_key flags key (cons_option (answered answer change) []) ≡ cond (fields_eq (change_key flags change) key) (cons_option (answered answer change) []) []
  answered_key flags Omit key change = ap (λ k. cond (fields_eq k key) (cons_option (answered Omit change) []) []) (flagged_key flags false change)
  answered_key flags Replace key change = ap (λ k. cond (fields_eq k key) (cons_option (answered Replace change) []) []) (flagged_key flags true change)
  answered_key flags Abort key change = elim (fields_eq (change_key flags change) key) as (λ b. no_changes ≡ cond b no_changes no_changes) [ true ↦ refl | false ↦ refl ]

  buffered_key : (flags : List Bool) (policy : Policy) (kind : Option ConflictKind) (key : Fields A) (change : RowChange A)
      → changes_of_row change_key flags key (cons_option (buffered_of policy kind change) []) ≡ cond (fields_eq (change_key flags change) key) (cons_option (buffered_of policy kind change) []) []
  buffered_key flags policy None key change = elim (fields_eq (change_key flags change) key) as (λ b. no_changes ≡ cond b no_changes no_changes) [ true ↦ refl | false ↦ refl ]
  buffered_key flags policy (Some kind) key change = answered_key flags (answer_to policy kind) key change

  first_met : (policy : Policy) (number : ℕ) (kind : Option ConflictKind) (change : RowChange A) (changes : List (RowChange A))
      → filter_map (met number (change ∷ changes)) (reported policy number kind) ≡ cons_option (buffered_of policy kind change) []
  first_met policy number None change changes = refl
  first_met policy number (Some kind) change changes =
      let nothing : number - number ≡ 0 = omega arith in
      ap (λ b. cons_option (cond b None (answered_at (answer_to policy kind) (slice_get (change ∷ changes) (number - number)))) []) (not_before number number (omega arith))
      ∙ ap (λ n. cons_option (answered_at (answer_to policy kind) (slice_get (change ∷ changes) n)) []) nothing

  -- the conflicts of later changes
  later_met : (number : ℕ) (change : RowChange A) (changes : List (RowChange A)) (conflict : Conflict) → number + 1 ≤ conflict.change → met number (change ∷ changes) conflict ≡ met (number + 1) changes conflict
  later_met number change changes conflict l =
      let one : conflict.change - number ≡ suc (conflict.change - (number + 1)) = omega (arith, l) in
      ap (λ b. cond b None (answered_at conflict.answer (slice_get (change ∷ changes) (conflict.change - number)))) (not_before conflict.change number (omega (arith, l)))
      ∙ ap (λ n. answered_at conflict.answer (slice_get (change ∷ changes) n)) one
      ∙ sym (ap (λ b. cond b None (answered_at conflict.answer (slice_get changes (conflict.change - (number + 1))))) (not_before conflict.change (number + 1) l))

  -- those of changes before and behind a group
  met_before : (first : ℕ) (changes : List (RowChange A)) (conflict : Conflict) → conflict.change < first → met first changes conflict ≡ None
  met_before first changes conflict l = ap (λ b. cond b None (answered_at conflict.answer (slice_get changes (conflict.change - first)))) (before conflict.change first l)

  met_behind : (first : ℕ) (changes : List (RowChange A)) (conflict : Conflict) → first + length changes ≤ conflict.change → met first changes conflict ≡ None
  met_behind first changes conflict l =
      ap (λ b. cond b None (answered_at conflict.answer (slice_get changes (conflict.change - first)))) (not_before conflict.change first (omega (arith, l)))
      ∙ ap (answered_at conflict.answer) (slice_get_past changes (conflict.change - first) (omega (arith, l)))

  -- a change that is made or not, by its conflict, as the law of one row has it
  is_applied : (policy : Policy) (number : ℕ) (kind : Option ConflictKind) (change : RowChange A) (hub : Option (Fields A)) (made : Bool) → is_made policy number kind ≡ Ok made
      → IsApplied kind (record { change = change; hub = hub; buffered = buffered_of policy kind change }) made
  is_applied policy number None change hub made so = (refl, cc)
  is_applied policy number (Some kind) change hub made so = (number, answer_to policy kind, so, refl)

  -- ---- changes of one group

  module _ (policy : Policy) (name : List ℕ) (flags : List Bool) (keyed : has_key flags ≡ true) where
    -- what changes with these numbers leave
    record Passed (changes : List (RowChange A)) (number : ℕ) (state left : AppliedState A) : Type 0 where
      stands : Stands name flags left.database
      others : (other : List ℕ) → bytes_eq name other ≡ false → table_of left.database other ≡ table_of state.database other
      mine : List Conflict
      conflicts : left.report.conflicts ≡ state.report.conflicts ++ mine
      within : Within number (number + length changes) mine
      row : (key : Fields A) (hub next : Option (Fields A)) → Follow flags key hub (changes_of_row change_key flags key changes) next
          → RowApplied flags key hub next (row_at state.database name key) (row_at left.database name key) (changes_of_row change_key flags key (filter_map (met number changes) mine))

    module _ (change : RowChange A) (changes : List (RowChange A)) (number : ℕ) (state mid left : AppliedState A) (fits : change_fits flags change ≡ true)
        (one : Moves policy number name flags change state mid) (more : Passed changes (number + 1) mid left) where
      abbrev its_key : Fields A
      its_key = change_key flags change

      abbrev its_conflict : Option ConflictKind
      its_conflict = conflict_at flags change (row_at state.database name its_key)

      abbrev all_mine : List Conflict
      all_mine = reported policy number its_conflict ++ more.mine

      all_within : Within number (number + length (change ∷ changes)) all_mine
      all_within =
          all_append (λ conflict. (number ≤ conflict.change) × (conflict.change < number + suc (length changes))) (reported policy number its_conflict) more.mine (reported_within policy number (length changes) its_conflict)
          (all_turn (λ conflict. (number + 1 ≤ conflict.change) × (conflict.change < number + 1 + length changes)) (λ conflict. (number ≤ conflict.change) × (conflict.change < number + suc (length changes)))
          (λ conflict both. (omega (arith, both.0), omega (arith, both.1))) more.mine more.within)

      buffered_row : (key : Fields A) → changes_of_row change_key flags key (filter_map (met number (change ∷ changes)) all_mine)
          ≡ cond (fields_eq its_key key) (cons_option (buffered_of policy its_conflict change) []) [] ++ changes_of_row change_key flags key (filter_map (met (number + 1) changes) more.mine)
      buffered_row key =
          let of_key = changes_of_row change_key flags key in
          let rest = filter_map (met (number + 1) changes) more.mine in
          ap of_key
          (filter_map-append (met number (change ∷ changes)) (reported policy number its_conflict) more.mine
          ∙ (λ i. first_met policy number its_conflict change changes i
          ++ same_kept (met number (change ∷ changes)) (met (number + 1) changes) more.mine
          (all_turn (λ conflict. (number + 1 ≤ conflict.change) × (conflict.change < number + 1 + length changes)) (λ conflict. met number (change ∷ changes) conflict ≡ met (number + 1) changes conflict)
          (λ conflict both. later_met number change changes conflict both.0) more.mine more.within) i))
          ∙ filter-append (λ (c : RowChange A). fields_eq (change_key flags c) key) (cons_option (buffered_of policy its_conflict change) []) rest
          ∙ ap (λ l. l ++ of_key rest) (buffered_key flags policy its_conflict key change)

      -- the row of the change
      here : (hub next : Option (Fields A)) → Follow flags its_key hub (change ∷ changes_of_row change_key flags its_key changes) next
          → RowApplied flags its_key hub next (row_at state.database name its_key) (row_at left.database name its_key)
          (cons_option (buffered_of policy its_conflict change) [] ++ changes_of_row change_key flags its_key (filter_map (met (number + 1) changes) more.mine))
      here hub next (mid_hub, under, is, later) =
          let key_is = has_its_key flags change keyed fits in
          let remote : Remote A = record { change = change; hub = mid_hub; buffered = buffered_of policy its_conflict change } in
          let rest = subst (λ row. RowApplied flags its_key mid_hub next row (row_at left.database name its_key) (changes_of_row change_key flags its_key (filter_map (met (number + 1) changes) more.mine)))
          one.put.here (more.row its_key mid_hub next later) in
          row_applied_more flags its_key hub mid_hub next (row_at state.database name its_key) (client_after flags one.made change (row_at state.database name its_key)) (row_at left.database name its_key)
          (cons_option (buffered_of policy its_conflict change) []) _
          (record {
            remotes = remote ∷ [];
            applied = (is_under flags its_key key_is mid_hub under, is, (one.made, is_applied policy number its_conflict change mid_hub one.made one.so, (refl, refl)));
            buffered_is = refl;
            none = λ no_key. absurd (true_or_false (sym key_is ∙ no_key));
          })
          rest
        where
          true_or_false : true ≡ false → ⊥
          true_or_false e = absurd (cc e)

      row_more : (key : Fields A) (hub next : Option (Fields A)) → Follow flags key hub (changes_of_row change_key flags key (change ∷ changes)) next
          → RowApplied flags key hub next (row_at state.database name key) (row_at left.database name key) (changes_of_row change_key flags key (filter_map (met number (change ∷ changes)) all_mine))
      row_more key hub next follow =
          let rest = changes_of_row change_key flags key changes in
          let more_buffered = changes_of_row change_key flags key (filter_map (met (number + 1) changes) more.mine) in
          let own = cons_option (buffered_of policy its_conflict change) [] in
          subst (RowApplied flags key hub next (row_at state.database name key) (row_at left.database name key)) (sym (buffered_row key))
          (elim (fields_eq its_key key) as (λ b. fields_eq its_key key ≡ b → Follow flags key hub (cond b (change ∷ rest) rest) next
          → RowApplied flags key hub next (row_at state.database name key) (row_at left.database name key) (cond b own [] ++ more_buffered)) [
            | true ↦ λ same.
                subst (λ k. Follow flags k hub (change ∷ changes_of_row change_key flags k changes) next
                → RowApplied flags k hub next (row_at state.database name k) (row_at left.database name k) (own ++ changes_of_row change_key flags k (filter_map (met (number + 1) changes) more.mine)))
                ((fields_eq_decides its_key key).0 same) (here hub next)
            | false ↦ λ apart f.
                subst (λ row. RowApplied flags key hub next row (row_at left.database name key) more_buffered) (one.put.rows key apart) (more.row key hub next f)
          ] refl follow)

      passed_more : Passed (change ∷ changes) number state left
      passed_more = record {
        stands = more.stands;
        others = λ other apart. more.others other apart ∙ one.put.others other apart;
        mine = all_mine;
        conflicts = more.conflicts ∙ ap (λ l. l ++ more.mine) one.conflicts ∙ append_assoc state.report.conflicts (reported policy number its_conflict) more.mine;
        within = all_within;
        row = row_more;
      }

    passed : (changes : List (RowChange A)) (number : ℕ) (state left : AppliedState A) → AllByRecursion (λ change. change_fits flags change ≡ true) changes → Stands name flags state.database
        → changes_applied policy number name flags (map (requested_by_change flags) changes) state ≡ Ok left → Passed changes number state left
    passed [] number state left fits s is =
        let same : state ≡ left = cc in
        subst (Passed [] number state) same (record {
          stands = s;
          others = λ other apart. refl;
          mine = [];
          conflicts = append_none state.report.conflicts;
          within = tt;
          row = λ key hub next follow. row_applied_none flags key hub next _ _ follow refl;
        })
    passed (change ∷ changes) number state left fits s is =
        let steps = next_of (change_applied policy number name flags (requested_by_change flags change) state) (λ next. changes_applied policy (number + 1) name flags (map (requested_by_change flags) changes) next) left is in
        let one = moves policy number name flags change state s fits.0 steps.0 steps.1 in
        passed_more change changes number state steps.0 left fits.0 one (passed changes (number + 1) steps.0 left fits.1 one.put.stands steps.2)

  -- ---- groups, one after the other

  -- each group is of one of these tables, with a key, and its changes fit it
  abbrev pub AreSound : Columns → List (TableChanges A) → Type 0
  AreSound columns groups =
      AllByRecursion (λ group. (columns group.table ≡ Some group.schema) × (has_key group.schema ≡ true) × AllByRecursion (λ change. change_fits group.schema change ≡ true) group.changes) groups

  -- each of these tables is there
  abbrev pub AllStand : Columns → Tables A → Type 0
  AllStand columns database = (name : List ℕ) (flags : List Bool) → columns name ≡ Some flags → Stands name flags database

  pub stays : (columns : Columns) (group : TableChanges A) (before after : Tables A) → columns group.table ≡ Some group.schema → AllStand columns before → Stands group.table group.schema after
      → ((other : List ℕ) → bytes_eq group.table other ≡ false → table_of after other ≡ table_of before other) → AllStand columns after
  stays columns group before after known all s others name flags is =
      elim (bytes_eq group.table name) as (λ b. bytes_eq group.table name ≡ b → Stands name flags after) [
        | true ↦ λ same.
            let name_is = (bytes_decides group.table name).0 same in
            let flags_are : group.schema ≡ flags = some_same (sym known ∙ ap columns name_is ∙ is) in
            subst (λ f. Stands name f after) flags_are (subst (λ n. Stands n group.schema after) name_is s)
        | false ↦ λ apart.
            let was = all name flags is in
            record { table = was.table; there = others name apart ∙ was.there; columns = was.columns; ordered = was.ordered }
      ] refl

  pub follow_parts : (flags : List Bool) (key : Fields A) (hub next : Option (Fields A)) (xs ys : List (RowChange A)) → Follow flags key hub (xs ++ ys) next
      → (mid : Option (Fields A)) × Follow flags key hub xs mid × Follow flags key mid ys next
  follow_parts flags key hub next [] ys follow = (hub, refl, follow)
  follow_parts flags key hub next (x ∷ xs) ys (mid, under, is, more) =
      let rest = follow_parts flags key mid next xs ys more in
      (rest.0, (mid, under, is, rest.1), rest.2)

  -- conflicts of changes before the groups
  groups_behind : (first bound : ℕ) (xs ys : List Conflict) (groups : List (TableChanges A)) → bound ≤ first → AllByRecursion (λ conflict. conflict.change < bound) xs → groups_met first (xs ++ ys) groups ≡ groups_met first ys groups
  groups_behind first bound xs ys [] l all = refl
  groups_behind first bound xs ys (group ∷ groups) l all =
      let none : filter_map (met first group.changes) (xs ++ ys) ≡ filter_map (met first group.changes) ys =
      filter_map-append (met first group.changes) xs ys
      ∙ ap (λ l. l ++ filter_map (met first group.changes) ys)
      (none_kept (met first group.changes) xs (all_turn (λ conflict. conflict.change < bound) (λ conflict. met first group.changes conflict ≡ None) (λ conflict b. met_before first group.changes conflict (omega (arith, b, l))) xs all)) in
      λ i. (record group { changes = none i }) ∷ groups_behind (first + length group.changes) bound xs ys groups (omega (arith, l)) all i

  -- those of changes behind the group
  group_before : (first : ℕ) (xs ys : List Conflict) (group : TableChanges A) → AllByRecursion (λ conflict. first + length group.changes ≤ conflict.change) ys
      → filter_map (met first group.changes) (xs ++ ys) ≡ filter_map (met first group.changes) xs
  group_before first xs ys group all =
      filter_map-append (met first group.changes) xs ys
      ∙ ap (λ l. filter_map (met first group.changes) xs ++ l)
      (none_kept (met first group.changes) ys (all_turn (λ conflict. first + length group.changes ≤ conflict.change) (λ conflict. met first group.changes conflict ≡ None) (λ conflict b. met_behind first group.changes conflict b) ys all))
      ∙ sym (append_none (filter_map (met first group.changes) xs))

  module _ (columns : Columns) (policy : Policy) where
    -- what groups leave whose first change has this number
    pub record PassedAll (groups : List (TableChanges A)) (number : ℕ) (state left : AppliedState A) : Type 0 where
      pub stands : AllStand columns left.database
      pub mine : List Conflict
      pub conflicts : left.report.conflicts ≡ state.report.conflicts ++ mine
      pub within : AllByRecursion (λ conflict. number ≤ conflict.change) mine
      pub row : (name : List ℕ) (flags : List Bool) (key : Fields A) → columns name ≡ Some flags → (hub next : Option (Fields A)) → Follow flags key hub (row_changes name key groups) next
          → RowApplied flags key hub next (row_at state.database name key) (row_at left.database name key) (row_changes name key (groups_met number mine groups))

    module _ (group : TableChanges A) (groups : List (TableChanges A)) (number : ℕ) (state mid left : AppliedState A) (known : columns group.table ≡ Some group.schema) (keyed : has_key group.schema ≡ true)
        (one : Passed policy group.table group.schema keyed group.changes number state mid) (more : PassedAll groups (number + length group.changes) mid left) where
      abbrev all_found : List Conflict
      all_found = one.mine ++ more.mine

      found_within : AllByRecursion (λ conflict. number ≤ conflict.change) all_found
      found_within =
          all_append (λ conflict. number ≤ conflict.change) one.mine more.mine
          (all_turn (λ conflict. (number ≤ conflict.change) × (conflict.change < number + length group.changes)) (λ conflict. number ≤ conflict.change) (λ conflict both. both.0) one.mine one.within)
          (all_turn (λ conflict. number + length group.changes ≤ conflict.change) (λ conflict. number ≤ conflict.change) (λ conflict l. omega (arith, l)) more.mine more.within)

      all_met : (name : List ℕ) (key : Fields A) → row_changes name key (groups_met number all_found (group ∷ groups))
          ≡ group_row name key (record group { changes = filter_map (met number group.changes) one.mine }) ++ row_changes name key (groups_met (number + length group.changes) more.mine groups)
      all_met name key =
          let mine = group_before number one.mine more.mine group more.within in
          let rest = groups_behind (number + length group.changes) (number + length group.changes) one.mine more.mine groups (omega arith)
          (all_turn (λ conflict. (number ≤ conflict.change) × (conflict.change < number + length group.changes)) (λ conflict. conflict.change < number + length group.changes) (λ conflict both. both.1) one.mine one.within) in
          λ i. group_row name key (record group { changes = mine i }) ++ row_changes name key (rest i)

      -- the row in this group
      row_here : (name : List ℕ) (flags : List Bool) (key : Fields A) → columns name ≡ Some flags → (hub next : Option (Fields A)) → Follow flags key hub (group_row name key group) next
          → RowApplied flags key hub next (row_at state.database name key) (row_at mid.database name key) (group_row name key (record group { changes = filter_map (met number group.changes) one.mine }))
      row_here name flags key is hub next follow =
          let of_row = λ (cs : List (RowChange A)). changes_of_row change_key group.schema key cs in
          let kept = filter_map (met number group.changes) one.mine in
          elim (bytes_eq group.table name) as (λ b. bytes_eq group.table name ≡ b → Follow flags key hub (cond b (of_row group.changes) []) next
          → RowApplied flags key hub next (row_at state.database name key) (row_at mid.database name key) (cond b (of_row kept) [])) [
            | true ↦ λ same f.
                let name_is = (bytes_decides group.table name).0 same in
                let flags_are : group.schema ≡ flags = some_same (sym known ∙ ap columns name_is ∙ is) in
                let f' = subst (λ s. Follow s key hub (of_row group.changes) next) (sym flags_are) f in
                subst (λ s. RowApplied s key hub next (row_at state.database name key) (row_at mid.database name key) (of_row kept)) flags_are
                (subst (λ n. RowApplied group.schema key hub next (row_at state.database n key) (row_at mid.database n key) (of_row kept)) name_is (one.row key hub next f'))
            | false ↦ λ apart f. row_applied_none flags key hub next _ _ f (sym (same_rows name mid.database state.database (one.others name apart) key))
          ] refl follow

      row_of_all : (name : List ℕ) (flags : List Bool) (key : Fields A) → columns name ≡ Some flags → (hub next : Option (Fields A)) → Follow flags key hub (row_changes name key (group ∷ groups)) next
          → RowApplied flags key hub next (row_at state.database name key) (row_at left.database name key) (row_changes name key (groups_met number all_found (group ∷ groups)))
      row_of_all name flags key is hub next follow =
          let parts = follow_parts flags key hub next (group_row name key group) (row_changes name key groups) follow in
          subst (RowApplied flags key hub next (row_at state.database name key) (row_at left.database name key)) (sym (all_met name key))
          (row_applied_more flags key hub parts.0 next (row_at state.database name key) (row_at mid.database name key) (row_at left.database name key) _ _
          (row_here name flags key is hub parts.0 parts.1) (more.row name flags key is parts.0 next parts.2))

      all_passed : PassedAll (group ∷ groups) number state left
      all_passed = record {
        stands = more.stands;
        mine = all_found;
        conflicts = more.conflicts ∙ ap (λ l. l ++ more.mine) one.conflicts ∙ append_assoc state.report.conflicts one.mine more.mine;
        within = found_within;
        row = row_of_all;
      }

    pub has_target : (name : List ℕ) (flags : List Bool) (database : Tables A) → Stands name flags database → is_some (target database name flags) ≡ true
    has_target name flags database s =
        ap (λ t. is_some (fitting flags t)) s.there
        ∙ ap (λ b. is_some (cond b (Some s.table) None)) (ap (columns_fit flags) s.columns ∙ fit_self flags)

    pub all_groups : (groups : List (TableChanges A)) (place number : ℕ) (state left : AppliedState A) → AreSound columns groups → AllStand columns state.database
        → groups_applied policy place number (map (requested_in requested_by_change) groups) state ≡ Ok left → PassedAll groups number state left
    all_groups [] place number state left sound all is =
        let same : state ≡ left = cc in
        subst (PassedAll [] number state) same (record {
          stands = all;
          mine = [];
          conflicts = append_none state.report.conflicts;
          within = tt;
          row = λ name flags key is hub next follow. row_applied_none flags key hub next _ _ follow refl;
        })
    all_groups (group ∷ groups) place number state left sound all is =
        let s = all group.table group.schema sound.0.0 in
        let steps = next_of (group_applied policy place number (requested_in requested_by_change group) state)
        (λ next. groups_applied policy (place + 1) (number + length (map (requested_by_change group.schema) group.changes)) (map (requested_in requested_by_change) groups) next) left is in
        let mid = steps.0 in
        let through = sym (group_there policy requested_by_change number group place state (has_target group.table group.schema state.database s)) ∙ steps.1 in
        let one = passed policy group.table group.schema sound.0.1 group.changes number state mid sound.0.2 s through in
        let rest = ap (λ n. groups_applied policy (place + 1) (number + n) (map (requested_in requested_by_change) groups) mid) (sym (length-map group.changes (requested_by_change group.schema))) ∙ steps.2 in
        all_passed group groups number state mid left sound.0.0 sound.0.1 one
        (all_groups groups (place + 1) (number + length group.changes) mid left sound.1 (stays columns group state.database mid.database sound.0.0 all one.stands one.others) rest)
