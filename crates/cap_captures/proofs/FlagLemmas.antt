-- The indirect flag of a row's changes together, where the row has changed at each restart.
use Rattle.std.proofs.Common.{◌≡◌, ℕ, Bool, true, false, cond, Option, Some, None, IfOk, List, [], ◌∷◌, ◌++◌, ◌&&◌, refl, sym, ap, ◌∙◌}
use Rattle.std.specs.Prelude.{filter, fold, option_and_then}
use Rattle.std.specs.Option.{ForSome, option_map, unwrap_or}
use Rattle.std.specs.List.{cons_option, list_all}
use Rattle.std.specs.Ordering.{eq_by_cmp}
use Rattle.std.proofs.lemmas.List.{append-nil, append_assoc}
use Rattle.std.proofs.lemmas.List.Sums.{fold-append}
use Rattle.cap_row.specs.Fields.{Fields}
use Rattle.cap_row.specs.Key.{fields_cmp, fields_eq}
use Rattle.cap_tree.specs.Tree.{get}
use Rattle.cap_database.specs.Operation.{run}
use Rattle.cap_database.specs.Read.{row_at}
use Rattle.cap_database.specs.Tables.{AreRising, Tables, create, schema_of}
use Rattle.cap_database.specs.declared.op.Op.{Op}
use Rattle.cap_changes.specs.Change.{change_of, full_record, new_field, old_field}
use Rattle.cap_changes.specs.Column.{by_column}
use Rattle.cap_changes.specs.FieldRecord.{RecordFields}
use Rattle.cap_changes.specs.declared.row_change.RowChange.{RowChange}
use Rattle.cap_changes.specs.declared.row_change.RowChange.TheVariants.{Update}
use Rattle.cap_session.specs.declared.record.Record.{Record}
use Rattle.cap_group.specs.Combined.{combined}
use Rattle.cap_group.specs.KeyedChanges.{change_after}
use Rattle.cap_group.specs.Record.{differ, new_field as new_of, old_field as old_of, update_between}
use Rattle.cap_group.specs.Rows.{Follow, IsRowUnder, is_indirect, together}
use Rattle.cap_group_laws.proofs.JoinLemmas.{followed}
use Rattle.cap_core.specs.declared.event.Event.{Event}
use Rattle.cap_core.specs.Flags.{command_to}
use Rattle.cap_core.specs.History.{main}
use Rattle.cap_core.specs.Past.{Past, is_accepted}
use Rattle.cap_core_laws.specs.Restarts.{IsSteady, captures, first_touched, touches_over}
use Rattle.cap_core.specs.Session.{all_indirect}
use Rattle.cap_core.specs.Table.{BlobsFitPast}
use Rattle.cap_core.specs.Touch.{Touch, event_touches, restarts, touches, touches_of}
use Rattle.cap_core_laws.proofs.RestartLemmas.{first-append, sooner}
use Rattle.cap_captures.specs.Captures.{IsChangedEachTime, IsChangedSince, first_row}
use Rattle.cap_captures.specs.Rows.{all_row_changes}
use Rattle.cap_captures.proofs.CaptureLemmas.{row-under}
use Rattle.cap_captures.proofs.ConcatLemmas.{last_under, some_same}
use Rattle.cap_captures.proofs.PeriodLemmas as period
use Rattle.cap_captures.proofs.RecordLemmas.{flag-of, none-same, record_from, rows-append, rows-in, session-record, unchanged}

and-true : (b : Bool) → (b && true) ≡ b
and-true true = refl
and-true false = refl

module _ {A : Type 0} where
  -- ---- two changes together

  update-flag : (flags : List Bool) (indirect : Bool) (before after : RecordFields A) (result : RowChange A) → update_between flags indirect before after ≡ Some result → is_indirect result ≡ indirect
  update-flag flags indirect before after result is =
      elim (differ flags before after) as (λ b. cond b (Some (Update indirect (by_column old_of flags before after) (by_column new_of flags before after))) None ≡ Some result → is_indirect result ≡ indirect) [
        | true ↦ λ e. ap is_indirect (sym (some_same e))
        | false ↦ λ e. cc
      ] is

  -- an UPDATE that was made
  update-is : (flags : List Bool) (indirect : Bool) (image now : Fields A) (change : RowChange A) → change_of flags indirect (Some image) (Some now) ≡ Some change
      → Update indirect (by_column old_field flags image now) (by_column new_field flags image now) ≡ change
  update-is flags indirect image now change is =
      let made : RowChange A = Update indirect (by_column old_field flags image now) (by_column new_field flags image now) in
      elim (fields_eq image now) as (λ b. cond b None (Some made) ≡ Some change → made ≡ change) [
        | true ↦ λ e. cc
        | false ↦ λ e. some_same e
      ] is

  -- what two changes make together is indirect where both are
  joined-flag : (flags : List Bool) (one other : Bool) (first mid last : Option (Fields A)) (present added result : RowChange A) → change_of flags one first mid ≡ Some present → change_of flags other mid last ≡ Some added
      → combined flags present added ≡ Some result → is_indirect result ≡ (one && other)
  joined-flag flags one other None None last present added result p q is = cc
  joined-flag flags one other None (Some row) None present added result p q is =
      let both : None ≡ Some result = (λ i. combined flags (some_same p i) (some_same q i)) ∙ is in cc
  joined-flag flags one other None (Some row) (Some now) present added result p q is =
      ap is_indirect (sym (some_same ((λ i. combined flags (some_same p i) (update-is flags other row now added q i)) ∙ is)))
  joined-flag flags one other (Some image) None None present added result p q is = cc
  joined-flag flags one other (Some image) None (Some now) present added result p q is =
      update-flag flags (one && other) (full_record image) (full_record now) result ((λ i. combined flags (some_same p i) (some_same q i)) ∙ is)
  joined-flag flags one other (Some image) (Some row) None present added result p q is =
      ap is_indirect (sym (some_same ((λ i. combined flags (update-is flags one image row present p i) (some_same q i)) ∙ is)))
  joined-flag flags one other (Some image) (Some row) (Some now) present added result p q is =
      update-flag flags (one && other) _ _ result ((λ i. combined flags (update-is flags one image row present p i) (update-is flags other row now added q i)) ∙ is)

  -- a change, and another that begins where it ends
  joined : (flags : List Bool) (key : Fields A) (one other : Bool) (first mid last : Option (Fields A)) → ForSome first (IsRowUnder flags key) → ForSome mid (IsRowUnder flags key) → ForSome last (IsRowUnder flags key)
      → (first ≡ mid → ⊥) → (mid ≡ last → ⊥)
      → fold (change_after combined flags) (change_of flags one first mid) (cons_option (change_of flags other mid last) []) ≡ change_of flags (one && other) first last
  joined flags key one other first mid last f m l apart apart' =
      elim (change_of flags one first mid) as (λ p. change_of flags one first mid ≡ p → fold (change_after combined flags) p (cons_option (change_of flags other mid last) []) ≡ change_of flags (one && other) first last) [
        | None ↦ λ none. absurd (apart (unchanged flags one first mid none))
        | Some present ↦ λ p. elim (change_of flags other mid last) as (λ q. change_of flags other mid last ≡ q → fold (change_after combined flags) (Some present) (cons_option q []) ≡ change_of flags (one && other) first last) [
          | None ↦ λ none. absurd (apart' (unchanged flags other mid last none))
          | Some added ↦ λ q. both present added p q
        ] refl
      ] refl
    where
      follow : (present added : RowChange A) → change_of flags one first mid ≡ Some present → change_of flags other mid last ≡ Some added → Follow flags key first (present ∷ added ∷ []) last
      follow present added p q = (
        mid,
        m,
        ap (λ i. change_of flags i first mid) (flag-of flags one first mid present p) ∙ p,
        (last, l, ap (λ i. change_of flags i mid last) (flag-of flags other mid last added q) ∙ q, refl),
      )

      both : (present added : RowChange A) → change_of flags one first mid ≡ Some present → change_of flags other mid last ≡ Some added → combined flags present added ≡ change_of flags (one && other) first last
      both present added p q =
          let whole = followed flags key first (present ∷ added ∷ []) last f (follow present added p q) in
          elim (combined flags present added) as (λ o. combined flags present added ≡ o → o ≡ change_of flags (one && other) first last) [
            | None ↦ λ none. sym (ap (λ row. change_of flags (one && other) row last) (unchanged flags whole.0 first last (sym whole.1 ∙ none)) ∙ none-same flags (one && other) last)
            | Some result ↦ λ is.
                let made : change_of flags whole.0 first last ≡ Some result = sym whole.1 ∙ is in
                sym made
                ∙ ap (λ i. change_of flags i first last) (sym (flag-of flags whole.0 first last result made) ∙ joined-flag flags one other first mid last present added result p q is)
          ] refl

  alone : (flags : List Bool) (made : Option (RowChange A)) → together combined flags (cons_option made []) ≡ made
  alone flags None = refl
  alone flags (Some change) = refl

  -- ---- the touches before the last restart

  none-in : (key : Fields A) (pairs : List (Fields A × Touch A)) → option_map (λ touch. touch.image) (get fields_cmp pairs key) ≡ None → filter (λ touch. eq_by_cmp fields_cmp key touch.0) pairs ≡ []
  none-in key [] none = refl
  none-in key (pair ∷ pairs) none =
      let others = filter (λ touch. eq_by_cmp fields_cmp key touch.0) pairs in
      elim (eq_by_cmp fields_cmp key pair.0) as (λ b. option_map (λ touch. touch.image) (cond b (Some pair.1) (get fields_cmp pairs key)) ≡ None → cond b (pair ∷ others) others ≡ []) [
        | true ↦ λ e. cc
        | false ↦ λ e. none-in key pairs e
      ] none

  none-rows : (ts : List (Touch A)) (name : List ℕ) (key : Fields A) → first_touched ts name key ≡ None → rows-in ts name key ≡ []
  none-rows ts name key none = none-in key (touches_of name ts) none

  abbrev flag-in : List (Touch A) → List ℕ → Fields A → Bool
  flag-in ts name key = list_all (λ touch. touch.1.indirect) (rows-in ts name key)

  all-both : (xs ys : List (Fields A × Touch A)) → list_all (λ touch. touch.1.indirect) (xs ++ ys) ≡ (list_all (λ touch. touch.1.indirect) xs && list_all (λ touch. touch.1.indirect) ys)
  all-both [] ys = refl
  all-both (x ∷ xs) ys = elim x.1.indirect as (λ b. (b && list_all (λ touch. touch.1.indirect) (xs ++ ys)) ≡ ((b && list_all (λ touch. touch.1.indirect) xs) && list_all (λ touch. touch.1.indirect) ys)) [
    | true ↦ all-both xs ys
    | false ↦ refl
  ]

  sooner-later : (first : Option (Option (Fields A))) → sooner first None ≡ first
  sooner-later None = refl
  sooner-later (Some image) = refl

  sooner-assoc : (a b c : Option (Option (Fields A))) → sooner (sooner a b) c ≡ sooner a (sooner b c)
  sooner-assoc None b c = refl
  sooner-assoc (Some image) b c = refl

  module _ (runs_keep : (tables : Tables A) (ops : List (Op A)) → IfOk (run tables ops) (λ left. (other : List ℕ) → schema_of left.database other ≡ schema_of tables other))
      (creates_keep : (tables : Tables A) (other : List ℕ) (schema : List Bool) → IfOk (create tables other schema) (λ after. (table : List ℕ) (columns : List Bool) → schema_of tables table ≡ Some columns → schema_of after table ≡ Some columns))
      (rises : (past : Past A) → BlobsFitPast past → AreRising (main past))
      (session : ℕ) (start : Past A) (fresh : touches session start ≡ []) where
    abbrev Over : List (Event A) → List ℕ → Fields A → Option (Option (Fields A))
    Over later name key = first_touched (touches_over session later start) name key

    abbrev Since : List (Event A) → List ℕ → Fields A → Option (Option (Fields A))
    Since later name key = first_touched (touches session (later ++ start)) name key

    abbrev Here : Event A → List (Event A) → List ℕ → Fields A → Option (Option (Fields A))
    Here event later name key = first_touched (event_touches session event (later ++ start)) name key

    abbrev Now : List (Event A) → List ℕ → Fields A → Option (Fields A)
    Now later name key = row_at (main (later ++ start)) name key

    abbrev At : List (Event A) → List ℕ → Fields A → Option (Fields A)
    At later name key = unwrap_or (Since later name key) (Now later name key)

    abbrev First : List (Event A) → List ℕ → Fields A → Option (Fields A)
    First later name key = first_row session later start name key

    abbrev Led : List (Event A) → List ℕ → Fields A → List (RowChange A)
    Led later name key = all_row_changes name key (captures session later start)

    -- the touches before the last restart
    abbrev before_restart : List (Event A) → List (Touch A)
    before_restart [] = []
    before_restart (event ∷ later) = cond (is_accepted event.reply && restarts (command_to session event.command)) (touches_over session later start) (before_restart later)

    abbrev Closed : List (Event A) → List ℕ → Fields A → Option (Option (Fields A))
    Closed later name key = first_touched (before_restart later) name key

    module _ (event : Event A) (later : List (Event A)) (steady : IsSteady session (event ∷ later) start) (fits : BlobsFitPast (event ∷ later ++ start)) where
      abbrev leads : (name : List ℕ) (key : Fields A) → period.Leads runs_keep creates_keep rises session start fresh later name key
      leads = period.leads-after runs_keep creates_keep rises session start fresh later steady.2 fits.1

      nothing-here : (is_accepted event.reply && restarts (command_to session event.command)) ≡ true → (name : List ℕ) (key : Fields A) → Here event later name key ≡ None
      nothing-here = period.nothing-here runs_keep creates_keep rises session start fresh event later steady (rises (later ++ start) fits.1) (rises (event ∷ later ++ start) fits) leads

    -- all touches of a row are those before the last restart and those since
    split-rows : (later : List (Event A)) → IsSteady session later start → BlobsFitPast (later ++ start) → (name : List ℕ) (key : Fields A)
        → rows-in (touches_over session later start) name key ≡ rows-in (before_restart later) name key ++ rows-in (touches session (later ++ start)) name key
    split-rows [] steady fits name key = sym (ap (λ ts. rows-in ts name key) fresh)
    split-rows (event ∷ later) steady fits name key =
        let over = touches_over session later start in
        let since = touches session (later ++ start) in
        let here = event_touches session event (later ++ start) in
        rows-append over here name key
        ∙ elim (is_accepted event.reply && restarts (command_to session event.command)) as (λ b. (is_accepted event.reply && restarts (command_to session event.command)) ≡ b
        → (rows-in over name key ++ rows-in here name key) ≡ rows-in (cond b over (before_restart later)) name key ++ rows-in (cond b [] (since ++ here)) name key) [
          | true ↦ λ restarted. ap (λ (l : List (Fields A × Touch A)). rows-in over name key ++ l) (none-rows here name key (nothing-here event later steady fits restarted name key))
          | false ↦ λ _.
              ap (λ (l : List (Fields A × Touch A)). l ++ rows-in here name key) (split-rows later steady.2 fits.1 name key)
              ∙ append_assoc (rows-in (before_restart later) name key) (rows-in since name key) (rows-in here name key)
              ∙ ap (λ (l : List (Fields A × Touch A)). rows-in (before_restart later) name key ++ l) (sym (rows-append since here name key))
        ] refl

    split-first : (later : List (Event A)) → IsSteady session later start → BlobsFitPast (later ++ start) → (name : List ℕ) (key : Fields A) → Over later name key ≡ sooner (Closed later name key) (Since later name key)
    split-first [] steady fits name key = sym (ap (λ ts. first_touched ts name key) fresh)
    split-first (event ∷ later) steady fits name key =
        let over = touches_over session later start in
        let since = touches session (later ++ start) in
        let here = event_touches session event (later ++ start) in
        first-append over here name key
        ∙ elim (is_accepted event.reply && restarts (command_to session event.command)) as (λ b. (is_accepted event.reply && restarts (command_to session event.command)) ≡ b
        → sooner (Over later name key) (Here event later name key) ≡ sooner (first_touched (cond b over (before_restart later)) name key) (first_touched (cond b [] (since ++ here)) name key)) [
          | true ↦ λ restarted. ap (sooner (Over later name key)) (nothing-here event later steady fits restarted name key)
          | false ↦ λ _.
              ap (λ o. sooner o (Here event later name key)) (split-first later steady.2 fits.1 name key)
              ∙ sooner-assoc (Closed later name key) (Since later name key) (Here event later name key)
              ∙ ap (sooner (Closed later name key)) (sym (first-append since here name key))
        ] refl

    flag-both : (later : List (Event A)) → IsSteady session later start → BlobsFitPast (later ++ start) → (name : List ℕ) (key : Fields A)
        → flag-in (touches_over session later start) name key ≡ (flag-in (before_restart later) name key && flag-in (touches session (later ++ start)) name key)
    flag-both later steady fits name key =
        ap (list_all (λ touch. touch.1.indirect)) (split-rows later steady fits name key) ∙ all-both (rows-in (before_restart later) name key) (rows-in (touches session (later ++ start)) name key)

    -- ---- the changes of a row together, so far

    record Counts (later : List (Event A)) (name : List ℕ) (key : Fields A) : Type 0 where
      none : Closed later name key ≡ None → Led later name key ≡ []
      some : (flags : List Bool) (image : Option (Fields A)) → schema_of (main (later ++ start)) name ≡ Some flags → Closed later name key ≡ Some image
          → (together combined flags (Led later name key) ≡ change_of flags (flag-in (before_restart later) name key) (First later name key) (At later name key))
          × (First later name key ≡ At later name key → ⊥)

    module _ (event : Event A) (later : List (Event A)) (steady : IsSteady session (event ∷ later) start) (fits : BlobsFitPast (event ∷ later ++ start)) (name : List ℕ) (key : Fields A) (before : Counts later name key) where
      rise : AreRising (main (later ++ start))
      rise = rises (later ++ start) fits.1

      rise_now : AreRising (main (event ∷ later ++ start))
      rise_now = rises (event ∷ later ++ start) fits

      leads_before : (n : List ℕ) (k : Fields A) → period.Leads runs_keep creates_keep rises session start fresh later n k
      leads_before = period.leads-after runs_keep creates_keep rises session start fresh later steady.2 fits.1

      other-counts : (is_accepted event.reply && restarts (command_to session event.command)) ≡ false → Counts (event ∷ later) name key
      other-counts kept_on =
          let same = period.led-same runs_keep creates_keep rises session start fresh event later steady rise rise_now leads_before kept_on name key in
          let closed : before_restart (event ∷ later) ≡ before_restart later = ap (λ b. cond b (touches_over session later start) (before_restart later)) kept_on in
          record {
            none = λ none. same ∙ before.none (ap (λ ts. first_touched ts name key) (sym closed) ∙ none);
            some = λ flags image known is.
                let at_closed : Closed later name key ≡ Some image = ap (λ ts. first_touched ts name key) (sym closed) ∙ is in
                let over : Over later name key ≡ Some image = split-first later steady.2 fits.1 name key ∙ ap (λ o. sooner o (Since later name key)) at_closed in
                let known_before = period.columns-before runs_keep creates_keep rises session start fresh event later steady rise rise_now leads_before kept_on name key image over flags known in
                let first_same = period.first-same runs_keep creates_keep rises session start fresh event later steady rise rise_now leads_before kept_on name key image over in
                let at_same = period.at-same runs_keep creates_keep rises session start fresh event later steady rise rise_now leads_before kept_on name key image over in
                let so = before.some flags image known_before at_closed in (
                  ap (together combined flags) same ∙ so.0 ∙ (λ i. change_of flags (flag-in (sym closed i) name key) (first_same i) (at_same i)),
                  λ equal. so.1 (first_same ∙ equal ∙ sym at_same),
                );
          }

      module _ (restarted : (is_accepted event.reply && restarts (command_to session event.command)) ≡ true)
          (changed : IsChangedSince (touches session (later ++ start)) (later ++ start) name key × IsChangedSince (touches_over session later start) (later ++ start) name key) where
        closed-is : before_restart (event ∷ later) ≡ touches_over session later start
        closed-is = ap (λ b. cond b (touches_over session later start) (before_restart later)) restarted

        main-is : main (event ∷ later ++ start) ≡ main (later ++ start)
        main-is = period.main-same runs_keep creates_keep rises session start fresh event later steady rise rise_now leads_before restarted

        first-kept : First later name key ≡ First (event ∷ later) name key
        first-kept = period.first-kept runs_keep creates_keep rises session start fresh event later steady rise rise_now leads_before restarted name key

        at-now : Now later name key ≡ At (event ∷ later) name key
        at-now = period.at-now runs_keep creates_keep rises session start fresh event later steady rise rise_now leads_before restarted name key

        over-image : (image : Option (Fields A)) → Over later name key ≡ Some image → First later name key ≡ image
        over-image image over = ap (λ o. unwrap_or o (Now later name key)) over

        first-apart : (image : Option (Fields A)) → Over later name key ≡ Some image → First later name key ≡ Now later name key → ⊥
        first-apart image over equal = changed.1 image over (sym (over-image image over) ∙ equal)

        -- the capture's changes of the row, by its touches since
        told : (flags : List Bool) → schema_of (main (later ++ start)) name ≡ Some flags
            → Led (event ∷ later) name key ≡ Led later name key ++ cons_option (option_and_then (λ r. change_of flags r.indirect r.image (Now later name key)) (record_from (touches session (later ++ start)) name key)) []
        told flags known =
            period.led-more runs_keep creates_keep rises session start fresh event later steady rise rise_now leads_before restarted name key
            ∙ ap (λ (l : List (RowChange A)). Led later name key ++ l)
            (period.list-row runs_keep creates_keep rises session start fresh event later steady rise rise_now leads_before restarted name flags key known
            ∙ ap (λ o. cons_option (option_and_then (λ r. change_of flags r.indirect r.image (Now later name key)) o) []) (session-record (later ++ start) session name key))

        -- a row that was touched since
        told-since : (flags : List Bool) → schema_of (main (later ++ start)) name ≡ Some flags → (image : Option (Fields A)) → Since later name key ≡ Some image
            → Led (event ∷ later) name key ≡ Led later name key ++ cons_option (change_of flags (flag-in (touches session (later ++ start)) name key) image (Now later name key)) []
        told-since flags known image since =
            told flags known
            ∙ ap (λ (l : List (RowChange A)). Led later name key ++ l) (by_touch (get fields_cmp (touches_of name (touches session (later ++ start))) key) since)
          where
            by_touch : (found : Option (Touch A)) → option_map (λ touch. touch.image) found ≡ Some image
                → cons_option (option_and_then (λ (r : Record A). change_of flags r.indirect r.image (Now later name key)) (option_map (λ touch. record { image = touch.image; indirect = all_indirect (touches_of name (touches session (later ++ start))) key }) found)) []
                ≡ cons_option (change_of flags (flag-in (touches session (later ++ start)) name key) image (Now later name key)) []
            by_touch None is = cc
            by_touch (Some touch) is = ap (λ row. cons_option (change_of flags (flag-in (touches session (later ++ start)) name key) row (Now later name key)) []) (some_same is)

        -- and one that was not
        told-none : (flags : List Bool) → schema_of (main (later ++ start)) name ≡ Some flags → Since later name key ≡ None → Led (event ∷ later) name key ≡ Led later name key
        told-none flags known since =
            told flags known
            ∙ ap (λ (l : List (RowChange A)). Led later name key ++ l) (by_touch (get fields_cmp (touches_of name (touches session (later ++ start))) key) since)
            ∙ append-nil (Led later name key)
          where
            by_touch : (found : Option (Touch A)) → option_map (λ touch. touch.image) found ≡ None
                → cons_option (option_and_then (λ (r : Record A). change_of flags r.indirect r.image (Now later name key)) (option_map (λ touch. record { image = touch.image; indirect = all_indirect (touches_of name (touches session (later ++ start))) key }) found)) [] ≡ []
            by_touch None is = refl
            by_touch (Some touch) is = cc

        flag-is : flag-in (touches_over session later start) name key ≡ (flag-in (before_restart later) name key && flag-in (touches session (later ++ start)) name key)
        flag-is = flag-both later steady.2 fits.1 name key

        -- the flag of all touches, where one of the two parts has none
        flag-since : Closed later name key ≡ None → flag-in (touches session (later ++ start)) name key ≡ flag-in (touches_over session later start) name key
        flag-since none = sym (flag-is ∙ ap (λ l. list_all (λ touch. touch.1.indirect) l && flag-in (touches session (later ++ start)) name key) (none-rows (before_restart later) name key none))

        flag-closed : Since later name key ≡ None → flag-in (before_restart later) name key ≡ flag-in (touches_over session later start) name key
        flag-closed none =
            sym (flag-is ∙ ap (λ l. flag-in (before_restart later) name key && list_all (λ touch. touch.1.indirect) l) (none-rows (touches session (later ++ start)) name key none) ∙ and-true (flag-in (before_restart later) name key))

        under-now : (flags : List Bool) → schema_of (main (later ++ start)) name ≡ Some flags → ForSome (Now later name key) (IsRowUnder flags key)
        under-now flags known = row-under (main (later ++ start)) rise name flags key known

        -- the changes are the one from the first row to the row now
        whole : (flags : List Bool) → schema_of (main (later ++ start)) name ≡ Some flags → (image : Option (Fields A)) → Over later name key ≡ Some image
            → together combined flags (Led (event ∷ later) name key) ≡ change_of flags (flag-in (touches_over session later start) name key) (First later name key) (Now later name key)
        whole flags known image over = by_parts (Closed later name key) (Since later name key) refl refl
          where
            by_parts : (closed since : Option (Option (Fields A))) → Closed later name key ≡ closed → Since later name key ≡ since
                → together combined flags (Led (event ∷ later) name key) ≡ change_of flags (flag-in (touches_over session later start) name key) (First later name key) (Now later name key)
            by_parts None None c s = let clash : None ≡ Some image = sym (split-first later steady.2 fits.1 name key ∙ (λ i. sooner (c i) (s i))) ∙ over in cc
            by_parts None (Some first) c s =
                ap (together combined flags) (told-since flags known first s ∙ ap (λ (l : List (RowChange A)). l ++ cons_option (change_of flags (flag-in (touches session (later ++ start)) name key) first (Now later name key)) []) (before.none c))
                ∙ alone flags (change_of flags (flag-in (touches session (later ++ start)) name key) first (Now later name key))
                ∙ (λ i. change_of flags (flag-since c i) (sym (over-image first (split-first later steady.2 fits.1 name key ∙ (λ j. sooner (c j) (s j)))) i) (Now later name key))
            by_parts (Some first) None c s =
                ap (together combined flags) (told-none flags known s)
                ∙ (before.some flags first known c).0
                ∙ (λ i. change_of flags (flag-closed s i) (First later name key) (unwrap_or (s i) (Now later name key)))
            by_parts (Some first) (Some second) c s =
                let so = before.some flags first known c in
                let at : At later name key ≡ second = ap (λ o. unwrap_or o (Now later name key)) s in
                let added = cons_option (change_of flags (flag-in (touches session (later ++ start)) name key) (At later name key) (Now later name key)) [] in
                ap (together combined flags) (told-since flags known second s ∙ ap (λ row. Led later name key ++ cons_option (change_of flags (flag-in (touches session (later ++ start)) name key) row (Now later name key)) []) (sym at))
                ∙ fold-append (change_after combined flags) None (Led later name key) added
                ∙ ap (λ o. fold (change_after combined flags) o added) so.0
                ∙ joined flags key (flag-in (before_restart later) name key) (flag-in (touches session (later ++ start)) name key) (First later name key) (At later name key) (Now later name key)
                ((leads_before name key).under flags known)
                (last_under flags key (First later name key) (Led later name key) (At later name key) ((leads_before name key).under flags known) ((leads_before name key).led flags known))
                (under-now flags known) so.1 (λ equal. changed.0 second s (sym at ∙ equal))
                ∙ ap (λ i. change_of flags i (First later name key) (Now later name key)) (sym flag-is)

        restart-counts : Counts (event ∷ later) name key
        restart-counts = record {
          none = λ none.
              (period.leads-after runs_keep creates_keep rises session start fresh (event ∷ later) steady fits name key).none
              (period.over-same runs_keep creates_keep rises session start fresh event later steady rise rise_now leads_before restarted name key ∙ ap (λ ts. first_touched ts name key) (sym closed-is) ∙ none);
          some = λ flags image known is.
              let over : Over later name key ≡ Some image = ap (λ ts. first_touched ts name key) (sym closed-is) ∙ is in
              let known_before : schema_of (main (later ++ start)) name ≡ Some flags = ap (λ tables. schema_of tables name) (sym main-is) ∙ known in (
                whole flags known_before image over ∙ (λ i. change_of flags (flag-in (sym closed-is i) name key) (first-kept i) (at-now i)),
                λ equal. first-apart image over (first-kept ∙ equal ∙ sym at-now),
              );
        }

    counts-after : (later : List (Event A)) → IsSteady session later start → BlobsFitPast (later ++ start) → (name : List ℕ) (key : Fields A) → IsChangedEachTime session later start name key → Counts later name key
    counts-after [] steady fits name key changed = record { none = λ _. refl; some = λ flags image known is. cc }
    counts-after (event ∷ later) steady fits name key changed =
        let before = counts-after later steady.2 fits.1 name key changed.1 in
        elim (is_accepted event.reply && restarts (command_to session event.command)) as (λ b. (is_accepted event.reply && restarts (command_to session event.command)) ≡ b → Counts (event ∷ later) name key) [
          | true ↦ λ restarted. restart-counts event later steady fits name key before restarted (changed.0 restarted)
          | false ↦ λ kept_on. other-counts event later steady fits name key before kept_on
        ] refl

    -- where the last of the events is a restart, the flag is that of all touches
    pub counted : (event : Event A) (later : List (Event A)) → (is_accepted event.reply && restarts (command_to session event.command)) ≡ true → (steady : IsSteady session (event ∷ later) start) → (fits : BlobsFitPast (event ∷ later ++ start))
        → (name : List ℕ) (flags : List Bool) (key : Fields A) → IsChangedEachTime session (event ∷ later) start name key → schema_of (main (event ∷ later ++ start)) name ≡ Some flags
        → together combined flags (Led (event ∷ later) name key)
        ≡ change_of flags (period.flag_or runs_keep creates_keep rises session start fresh true (record_from (touches_over session (event ∷ later) start) name key)) (First (event ∷ later) name key) (Now (event ∷ later) name key)
    counted event later restarted steady fits name flags key changed known =
        let all = event ∷ later in
        let counts = counts-after all steady fits name key changed in
        let at_now : At all name key ≡ Now all name key = ap (λ o. unwrap_or o (Now all name key)) (period.since-restart runs_keep creates_keep rises session start fresh event later name key restarted) in
        let over_closed : Over all name key ≡ Closed all name key =
        split-first all steady fits name key ∙ ap (sooner (Closed all name key)) (period.since-restart runs_keep creates_keep rises session start fresh event later name key restarted) ∙ sooner-later (Closed all name key) in
        let flag-same : flag-in (before_restart all) name key ≡ flag-in (touches_over session all start) name key =
        sym (flag-both all steady fits name key
        ∙ ap (λ l. flag-in (before_restart all) name key && list_all (λ touch. touch.1.indirect) l) (none-rows (touches session (all ++ start)) name key (period.since-restart runs_keep creates_keep rises session start fresh event later name key restarted))
        ∙ and-true (flag-in (before_restart all) name key)) in
        elim (get fields_cmp (touches_of name (touches_over session all start)) key) as (λ o. get fields_cmp (touches_of name (touches_over session all start)) key ≡ o → together combined flags (Led all name key)
        ≡ change_of flags (period.flag_or runs_keep creates_keep rises session start fresh true (option_map (λ touch. record { image = touch.image; indirect = all_indirect (touches_of name (touches_over session all start)) key }) o)) (First all name key) (Now all name key)) [
          | None ↦ λ is.
              let none : Over all name key ≡ None = ap (option_map (λ touch. touch.image)) is in
              ap (together combined flags) (counts.none (sym over_closed ∙ none))
              ∙ sym (ap (λ o. change_of flags true (unwrap_or o (Now all name key)) (Now all name key)) none ∙ none-same flags true (Now all name key))
          | Some touch ↦ λ is.
              let over : Over all name key ≡ Some touch.image = ap (option_map (λ touch. touch.image)) is in
              (counts.some flags touch.image known (sym over_closed ∙ over)).0 ∙ (λ i. change_of flags (flag-same i) (First all name key) (at_now i))
        ] refl
