-- The changes of a row in captures in a row, each by a restart: each begins where the one before it ends.
use Rattle.std.proofs.Common.{◌≡◌, ℕ, Bool, true, false, cond, Option, Some, None, Ok, IfOk, List, [], ◌∷◌, ◌++◌, ◌&&◌, inl, inr, refl, sym, ap, subst, ◌∙◌}
use Rattle.std.specs.Prelude.{map, option_and_then}
use Rattle.std.specs.Option.{ForSome, option_map, unwrap_or}
use Rattle.std.specs.List.{AllByRecursion, cons_option, list_any}
use Rattle.std.proofs.lemmas.List.{append-nil}
use Rattle.cap_row.specs.Fields.{Fields}
use Rattle.cap_row.specs.Key.{fields_cmp}
use Rattle.cap_tree.specs.Tree.{IsOrdered}
use Rattle.cap_database.specs.Operation.{run}
use Rattle.cap_database.specs.Read.{row_at}
use Rattle.cap_database.specs.Tables.{AreRising, Tables, create, schema_of, table_of}
use Rattle.cap_database.specs.declared.op.Op.{Op}
use Rattle.cap_changes.specs.Change.{change_of}
use Rattle.cap_changes.specs.Group.{TableChanges}
use Rattle.cap_changes.specs.declared.row_change.RowChange.{RowChange}
use Rattle.cap_session.specs.declared.record.Record.{Record}
use Rattle.cap_session.specs.Records.{Records}
use Rattle.cap_session.specs.Session.{AttachedTables, record_of, records_of as attached_records}
use Rattle.cap_codec.specs.declared.read.Contents.TheVariants.{Changes}
use Rattle.cap_group_laws.proofs.JoinLemmas.{followed}
use Rattle.cap_group.specs.ChangeGroup.{concat_of}
use Rattle.cap_group.specs.Rows.{Follow, IsRowUnder, together}
use Rattle.cap_core.specs.declared.event.Event.{Event}
use Rattle.cap_core.specs.Capture.{session_changes}
use Rattle.cap_core.specs.Flags.{command_to}
use Rattle.cap_core.specs.History.{event_effect, main, snapshot}
use Rattle.cap_core.specs.Outcome.{Effect, no_effect}
use Rattle.cap_database.specs.Carried.{is_of_row}
use Rattle.cap_core.specs.Past.{Past, is_accepted}
use Rattle.cap_core_laws.specs.Restarts.{HoldsFirst, IsSteady, captures, first_touched, touches_over}
use Rattle.cap_core.specs.Session.{records_of, session_of}
use Rattle.cap_core.specs.Table.{BlobsFitPast}
use Rattle.cap_core.specs.Touch.{attach_list, attachings, event_touches, restarts, touches, touches_of}
use Rattle.cap_core_laws.proofs.AppliedCaptureLemmas.{AreDistinct, first_of_each-distinct, names_of, records-named, session-distinct, session-sorted}
use Rattle.cap_core_laws.proofs.DiffedLemmas.{quiet-effect}
use Rattle.cap_core.proofs.HistoryLemmas.{is_among, table_names}
use Rattle.cap_core.proofs.KeyedLemmas.{ordered}
use Rattle.cap_core.proofs.LawLemmas.{first_image, truth}
use Rattle.cap_core_laws.proofs.RestartLemmas.{first-append, sooner, stays-listed, touched-absent, touched-attached, touched-listed}
use Rattle.cap_core.proofs.SessionLemmas.{cond-same}
use Rattle.cap_core_laws.proofs.StayLemmas.{event-keeps, row_stays}
use Rattle.cap_core.proofs.TouchedLemmas.{is_sorted-records_of}
use Rattle.cap_captures.specs.Captures.{capture_over, first_row, session_over}
use Rattle.cap_captures.specs.Rows.{AreInARow, all_row_changes, row_changes}
use Rattle.cap_captures.proofs.CaptureLemmas.{AreKnown, captured-row, groups-known, no-table-row, record-in, row-under}
use Rattle.cap_apply.specs.Apply.{apply}
use Rattle.cap_apply.specs.Applied.{AppliedState}
use Rattle.cap_apply.specs.Captured.{AllBefore, AllDiffer, GivesAllRowsNow, TableRows, changes_of as group_of_rows}
use Rattle.cap_apply.specs.Fitting.{FitsItsColumns}
use Rattle.cap_apply.specs.declared.policy.Policy.{Policy}
use Rattle.cap_codec.specs.Writable.{has_some}
use Rattle.cap_group.specs.ChangeKey.{change_key}
use Rattle.cap_group.specs.Combined.{combined}
use Rattle.cap_core.specs.AppliedCapture.{GivesRows, but_keyed}
use Rattle.cap_captures.proofs.ApplyLemmas.{IsLeft, IsTurned, Turns, turned, turned-fits}
use Rattle.cap_captures.proofs.ConcatLemmas.{IsMade, IsWhole, concatenated-whole, last_under, some_same}
use Rattle.cap_captures.proofs.RecordLemmas.{TouchesHaveFlag, ChangesHaveFlag, all-append, all-first, all-last, all-turn, flat-append, follow-next, image-touched, made-flag, none-same, record-flag, record_from, restarts-write, rows-append, rows-in, session-record, sooner-none, unchanged, with-columns}

module _ {A : Type 0} where
  module _ (runs_keep : (tables : Tables A) (ops : List (Op A)) → IfOk (run tables ops) (λ left. (other : List ℕ) → schema_of left.database other ≡ schema_of tables other))
      (creates_keep : (tables : Tables A) (other : List ℕ) (schema : List Bool) → IfOk (create tables other schema) (λ after. (table : List ℕ) (columns : List Bool) → schema_of tables table ≡ Some columns → schema_of after table ≡ Some columns))
      (rises : (past : Past A) → BlobsFitPast past → AreRising (main past))
      (session : ℕ) (start : Past A) (fresh : touches session start ≡ []) where
    -- ---- the first touch of a row over all, since the last restart, and in one event

    abbrev Over : List (Event A) → List ℕ → Fields A → Option (Option (Fields A))
    Over later name key = first_touched (touches_over session later start) name key

    abbrev Since : List (Event A) → List ℕ → Fields A → Option (Option (Fields A))
    Since later name key = first_touched (touches session (later ++ start)) name key

    abbrev Here : Event A → List (Event A) → List ℕ → Fields A → Option (Option (Fields A))
    Here event later name key = first_touched (event_touches session event (later ++ start)) name key

    abbrev Now : List (Event A) → List ℕ → Fields A → Option (Fields A)
    Now later name key = row_at (main (later ++ start)) name key

    abbrev named : Event A → List (Event A) → List ℕ → Fields A → Bool
    named event later name key = list_any (is_of_row name key) (event_effect (snapshot (later ++ start)) event).changes

    pub over-more : (event : Event A) (later : List (Event A)) (name : List ℕ) (key : Fields A) → Over (event ∷ later) name key ≡ sooner (Over later name key) (Here event later name key)
    over-more event later name key = first-append (touches_over session later start) (event_touches session event (later ++ start)) name key

    pub since-more : (event : Event A) (later : List (Event A)) (name : List ℕ) (key : Fields A) → (is_accepted event.reply && restarts (command_to session event.command)) ≡ false
        → Since (event ∷ later) name key ≡ sooner (Since later name key) (Here event later name key)
    since-more event later name key kept_on =
        ap (λ b. first_touched (cond b [] (touches session (later ++ start) ++ event_touches session event (later ++ start))) name key) kept_on
        ∙ first-append (touches session (later ++ start)) (event_touches session event (later ++ start)) name key

    pub since-restart : (event : Event A) (later : List (Event A)) (name : List ℕ) (key : Fields A) → (is_accepted event.reply && restarts (command_to session event.command)) ≡ true → Since (event ∷ later) name key ≡ None
    since-restart event later name key restarted = ap (λ b. first_touched (cond b [] (touches session (later ++ start) ++ event_touches session event (later ++ start))) name key) restarted

    -- what was not touched over all was not touched since the last restart
    pub not-since : (later : List (Event A)) (name : List ℕ) (key : Fields A) → Over later name key ≡ None → Since later name key ≡ None
    not-since [] name key none = ap (λ ts. first_touched ts name key) fresh
    not-since (event ∷ later) name key none =
        let parts = sooner-none (Over later name key) (Here event later name key) (sym (over-more event later name key) ∙ none) in
        elim (is_accepted event.reply && restarts (command_to session event.command)) as (λ b. (is_accepted event.reply && restarts (command_to session event.command)) ≡ b → Since (event ∷ later) name key ≡ None) [
          | true ↦ λ restarted. since-restart event later name key restarted
          | false ↦ λ kept_on. since-more event later name key kept_on ∙ (λ i. sooner (not-since later name key parts.0 i) (parts.1 i))
        ] refl

    -- what an event touches is named by one of its changes, and has main's row before the event as its image
    pub here-is : (event : Event A) (later : List (Event A)) → IsSteady session (event ∷ later) start → (name : List ℕ) (key : Fields A) (image : Option (Fields A)) → Here event later name key ≡ Some image
        → (named event later name key ≡ true) × (Now later name key ≡ image)
    here-is event later steady name key image is =
        elim (is_among name (attach_list session (event ∷ later ++ start))) as (λ b. is_among name (attach_list session (event ∷ later ++ start)) ≡ b → (named event later name key ≡ true) × (Now later name key ≡ image)) [
          | false ↦ λ absent. let clash : None ≡ Some image = sym (touched-absent session event (later ++ start) steady.0 steady.1 name key absent) ∙ is in cc
          | true ↦ λ listed.
              let same = sym (touched-listed session event (later ++ start) steady.0 steady.1 name key listed) ∙ is in
              elim (named event later name key) as (λ b. cond b (Some (Now later name key)) None ≡ Some image → (b ≡ true) × (Now later name key ≡ image)) [
                | true ↦ λ e. (refl, some_same e)
                | false ↦ λ e. cc
              ] same
        ] refl

    -- a row of an attached table that an event does not touch stays
    pub here-none : (event : Event A) (later : List (Event A)) → IsSteady session (event ∷ later) start → (name : List ℕ) (key : Fields A) → is_among name (attach_list session (later ++ start)) ≡ true
        → Here event later name key ≡ None → Now (event ∷ later) name key ≡ Now later name key
    here-none event later steady name key listed none =
        let same = sym (touched-listed session event (later ++ start) steady.0 steady.1 name key (stays-listed session event (later ++ start) name listed)) ∙ none in
        row_stays name key (snapshot (later ++ start)) event
        (elim (named event later name key) as (λ b. cond b (Some (Now later name key)) None ≡ None → b ≡ false) [ true ↦ λ e. cc | false ↦ λ e. refl ] same)

    -- ---- columns

    -- an event keeps the columns of a table
    pub columns-keep : (event : Event A) (later : List (Event A)) (name : List ℕ) (flags : List Bool) → schema_of (main (later ++ start)) name ≡ Some flags → schema_of (main (event ∷ later ++ start)) name ≡ Some flags
    columns-keep event later name flags known = (event-keeps name [] runs_keep creates_keep (snapshot (later ++ start)) event).columns flags known

    -- where an event touches a row, its table was there
    here-columns : (event : Event A) (later : List (Event A)) → IsSteady session (event ∷ later) start → (name : List ℕ) (key : Fields A) (image : Option (Fields A)) → Here event later name key ≡ Some image
        → (columns : List Bool) × (schema_of (main (later ++ start)) name ≡ Some columns)
    here-columns event later steady name key image is =
        with-columns (schema_of (main (later ++ start)) name) ((event-keeps name key runs_keep creates_keep (snapshot (later ++ start)) event).there (here-is event later steady name key image is).0)

    -- the table of what was touched over all is there
    pub over-columns : (later : List (Event A)) → IsSteady session later start → (name : List ℕ) (key : Fields A) (image : Option (Fields A)) → Over later name key ≡ Some image
        → (columns : List Bool) × (schema_of (main (later ++ start)) name ≡ Some columns)
    over-columns [] steady name key image is = cc
    over-columns (event ∷ later) steady name key image is =
        elim (Over later name key) as (λ o. Over later name key ≡ o → (columns : List Bool) × (schema_of (main (event ∷ later ++ start)) name ≡ Some columns)) [
          | Some earlier ↦ λ touched. let before = over-columns later steady.2 name key earlier touched in (before.0, columns-keep event later name before.0 before.1)
          | None ↦ λ none.
              let before = here-columns event later steady name key image (ap (λ o. sooner o (Here event later name key)) (sym none) ∙ sym (over-more event later name key) ∙ is) in
              (before.0, columns-keep event later name before.0 before.1)
        ] refl

    columns-same : (event : Event A) (later : List (Event A)) (name : List ℕ) (flags columns : List Bool) → schema_of (main (event ∷ later ++ start)) name ≡ Some flags → schema_of (main (later ++ start)) name ≡ Some columns → columns ≡ flags
    columns-same event later name flags columns now before = some_same (sym (columns-keep event later name columns before) ∙ now)

    -- ---- the changes of a row in the captures so far

    abbrev Led : List (Event A) → List ℕ → Fields A → List (RowChange A)
    Led later name key = all_row_changes name key (captures session later start)

    -- the first image since the last restart, or the row now
    abbrev At : List (Event A) → List ℕ → Fields A → Option (Fields A)
    At later name key = unwrap_or (Since later name key) (Now later name key)

    abbrev First : List (Event A) → List ℕ → Fields A → Option (Fields A)
    First later name key = first_row session later start name key

    -- They lead from the first row to the one at the last restart.
    pub record Leads (later : List (Event A)) (name : List ℕ) (key : Fields A) : Type 0 where
      pub none : Over later name key ≡ None → Led later name key ≡ []
      pub under : (flags : List Bool) → schema_of (main (later ++ start)) name ≡ Some flags → ForSome (First later name key) (IsRowUnder flags key)
      pub led : (flags : List Bool) → schema_of (main (later ++ start)) name ≡ Some flags → Follow flags key (First later name key) (Led later name key) (At later name key)

    module _ (event : Event A) (later : List (Event A)) (steady : IsSteady session (event ∷ later) start) (rise : AreRising (main (later ++ start))) (rise_now : AreRising (main (event ∷ later ++ start)))
        (before : (name : List ℕ) (key : Fields A) → Leads later name key) where
      -- an event that is no restart of the session
      module _ (kept_on : (is_accepted event.reply && restarts (command_to session event.command)) ≡ false) where
        captures-same : captures session (event ∷ later) start ≡ captures session later start
        captures-same =
            ap (λ b. captures session later start ++ cond b (session_changes (main (later ++ start)) (session_of (later ++ start) session) ∷ []) []) kept_on ∙ append-nil (captures session later start)

        pub led-same : (name : List ℕ) (key : Fields A) → Led (event ∷ later) name key ≡ Led later name key
        led-same name key = ap (all_row_changes name key) captures-same

        -- a row that was not touched before
        module _ (name : List ℕ) (key : Fields A) (none : Over later name key ≡ None) where
          over-here : Over (event ∷ later) name key ≡ Here event later name key
          over-here = over-more event later name key ∙ ap (λ o. sooner o (Here event later name key)) none

          since-here : Since (event ∷ later) name key ≡ Here event later name key
          since-here = since-more event later name key kept_on ∙ ap (λ o. sooner o (Here event later name key)) (not-since later name key none)

          first-under : (flags : List Bool) → schema_of (main (event ∷ later ++ start)) name ≡ Some flags → ForSome (First (event ∷ later) name key) (IsRowUnder flags key)
          first-under flags known =
              subst (λ o. ForSome (unwrap_or o (Now (event ∷ later) name key)) (IsRowUnder flags key)) (sym over-here)
              (elim (Here event later name key) as (λ o. Here event later name key ≡ o → ForSome (unwrap_or o (Now (event ∷ later) name key)) (IsRowUnder flags key)) [
                | None ↦ λ _. row-under (main (event ∷ later ++ start)) rise_now name flags key known
                | Some image ↦ λ is.
                    let columns = here-columns event later steady name key image is in
                    subst (λ row. ForSome row (IsRowUnder flags key)) (here-is event later steady name key image is).1
                    (row-under (main (later ++ start)) rise name flags key (columns.1 ∙ ap Some (columns-same event later name flags columns.0 known columns.1)))
              ] refl)

          new-leads : Leads (event ∷ later) name key
          new-leads = record {
            none = λ _. led-same name key ∙ (before name key).none none;
            under = first-under;
            led = λ flags known.
                subst (λ cs. Follow flags key (First (event ∷ later) name key) cs (At (event ∷ later) name key)) (sym (led-same name key ∙ (before name key).none none))
                (ap (λ o. unwrap_or o (Now (event ∷ later) name key)) (over-here ∙ sym since-here));
          }

        -- one that was
        module _ (name : List ℕ) (key : Fields A) (image : Option (Fields A)) (over : Over later name key ≡ Some image) where
          over-now : Over (event ∷ later) name key ≡ Some image
          over-now = over-more event later name key ∙ ap (λ o. sooner o (Here event later name key)) over

          pub first-same : First later name key ≡ First (event ∷ later) name key
          first-same = ap (λ o. unwrap_or o (Now later name key)) over ∙ sym (ap (λ o. unwrap_or o (Now (event ∷ later) name key)) over-now)

          pub at-same : At later name key ≡ At (event ∷ later) name key
          at-same = elim (Since later name key) as (λ o. Since later name key ≡ o → unwrap_or o (Now later name key) ≡ At (event ∷ later) name key) [
            | Some since ↦ λ is. sym (ap (λ o. unwrap_or o (Now (event ∷ later) name key)) (since-more event later name key kept_on ∙ ap (λ o. sooner o (Here event later name key)) is))
            | None ↦ λ is.
                let here : Since (event ∷ later) name key ≡ Here event later name key = since-more event later name key kept_on ∙ ap (λ o. sooner o (Here event later name key)) is in
                elim (Here event later name key) as (λ o. Here event later name key ≡ o → Now later name key ≡ unwrap_or o (Now (event ∷ later) name key)) [
                  | Some found ↦ λ e. (here-is event later steady name key found e).1
                  | None ↦ λ e. sym (here-none event later steady name key (touched-attached session later start steady.2 name key image over) e)
                ] refl
                ∙ sym (ap (λ o. unwrap_or o (Now (event ∷ later) name key)) here)
          ] refl

          pub columns-before : (flags : List Bool) → schema_of (main (event ∷ later ++ start)) name ≡ Some flags → schema_of (main (later ++ start)) name ≡ Some flags
          columns-before flags known =
              let columns = over-columns later steady.2 name key image over in
              columns.1 ∙ ap Some (columns-same event later name flags columns.0 known columns.1)

          old-leads : Leads (event ∷ later) name key
          old-leads = record {
            none = λ none. let clash : None ≡ Some image = sym none ∙ over-now in cc;
            under = λ flags known. subst (λ row. ForSome row (IsRowUnder flags key)) first-same ((before name key).under flags (columns-before flags known));
            led = λ flags known.
                subst (λ cs. Follow flags key (First (event ∷ later) name key) cs (At (event ∷ later) name key)) (sym (led-same name key))
                (subst (λ row. Follow flags key row (Led later name key) (At (event ∷ later) name key)) first-same
                (subst (λ row. Follow flags key (First later name key) (Led later name key) row) at-same ((before name key).led flags (columns-before flags known))));
          }

        other-leads : (name : List ℕ) (key : Fields A) → Leads (event ∷ later) name key
        other-leads name key = elim (Over later name key) as (λ o. Over later name key ≡ o → Leads (event ∷ later) name key) [
          | None ↦ λ none. new-leads name key none
          | Some image ↦ λ over. old-leads name key image over
        ] refl

      -- a restart
      module _ (restarted : (is_accepted event.reply && restarts (command_to session event.command)) ≡ true) where
        abbrev list : List (TableChanges A)
        list = session_changes (main (later ++ start)) (session_of (later ++ start) session)

        abbrev tables_now : AttachedTables A
        tables_now = (session_of (later ++ start) session).tables

        quiet : event_effect (snapshot (later ++ start)) event ≡ no_effect (main (later ++ start))
        quiet = quiet-effect (later ++ start) event (restarts-write session event restarted)

        pub main-same : main (event ∷ later ++ start) ≡ main (later ++ start)
        main-same = ap (λ (e : Effect A). e.database) quiet

        pub nothing-here : (name : List ℕ) (key : Fields A) → Here event later name key ≡ None
        nothing-here name key =
            elim (Here event later name key) as (λ o. Here event later name key ≡ o → o ≡ None) [
              | None ↦ λ _. refl
              | Some image ↦ λ is.
                  let clash : false ≡ true = ap (λ (e : Effect A). list_any (is_of_row name key) e.changes) (sym quiet) ∙ (here-is event later steady name key image is).0 in cc
            ] refl

        pub over-same : (name : List ℕ) (key : Fields A) → Over (event ∷ later) name key ≡ Over later name key
        over-same name key = over-more event later name key ∙ ap (sooner (Over later name key)) (nothing-here name key) ∙ no_later (Over later name key)
          where
            no_later : (o : Option (Option (Fields A))) → sooner o None ≡ o
            no_later None = refl
            no_later (Some image) = refl

        pub first-kept : (name : List ℕ) (key : Fields A) → First later name key ≡ First (event ∷ later) name key
        first-kept name key = λ i. unwrap_or (sym (over-same name key) i) (row_at (sym main-same i) name key)

        pub at-now : (name : List ℕ) (key : Fields A) → Now later name key ≡ At (event ∷ later) name key
        at-now name key = ap (λ tables. row_at tables name key) (sym main-same) ∙ sym (ap (λ o. unwrap_or o (Now (event ∷ later) name key)) (since-restart event later name key restarted))

        pub led-more : (name : List ℕ) (key : Fields A) → Led (event ∷ later) name key ≡ Led later name key ++ row_changes name key list
        led-more name key =
            ap (λ b. all_row_changes name key (captures session later start ++ cond b (list ∷ []) [])) restarted
            ∙ flat-append (row_changes name key) (captures session later start) (list ∷ [])
            ∙ ap (λ (l : List (RowChange A)). Led later name key ++ l) (append-nil (row_changes name key list))

        -- the record of a row has the image of its first touch since
        kept-at : (name : List ℕ) (key : Fields A) → option_map (λ (r : Record A). r.image) (record_of tables_now name key) ≡ Since later name key
        kept-at name key = ap (option_map (λ (r : Record A). r.image)) (session-record (later ++ start) session name key) ∙ image-touched (touches session (later ++ start)) name key

        -- the change of a row in the capture
        abbrev made-at : List Bool → List ℕ → Fields A → Option (RowChange A)
        made-at flags name key = option_and_then (λ r. change_of flags r.indirect r.image (Now later name key)) (record_of tables_now name key)

        pub list-row : (name : List ℕ) (flags : List Bool) (key : Fields A) → schema_of (main (later ++ start)) name ≡ Some flags → row_changes name key list ≡ cons_option (made-at flags name key) []
        list-row name flags key known =
            captured-row (main (later ++ start)) tables_now (session-distinct (later ++ start) session) name flags key known
            (λ records at. session-sorted (later ++ start) session name records at)
            (λ k r is.
            let since : Since later name k ≡ Some r.image = sym (kept-at name k) ∙ ap (option_map (λ (r : Record A). r.image)) is in
            subst (λ row. ForSome row (IsRowUnder flags k)) (ap (λ o. unwrap_or o (Now later name k)) since)
            (last_under flags k (First later name k) (Led later name k) (At later name k) ((before name k).under flags known) ((before name k).led flags known)))
            (λ k. row-under (main (later ++ start)) rise name flags k known)

        list-none : (name : List ℕ) (key : Fields A) → Since later name key ≡ None → row_changes name key list ≡ []
        list-none name key none =
            let no_record : record_of tables_now name key ≡ None = gone (record_of tables_now name key) (kept-at name key ∙ none) in
            elim (schema_of (main (later ++ start)) name) as (λ o. schema_of (main (later ++ start)) name ≡ o → row_changes name key list ≡ []) [
              | None ↦ λ is. no-table-row (main (later ++ start)) name key tables_now (session-distinct (later ++ start) session) is
              | Some flags ↦ λ is. list-row name flags key is ∙ ap (λ o. cons_option (option_and_then (λ r. change_of flags r.indirect r.image (Now later name key)) o) []) no_record
            ] refl
          where
            gone : (o : Option (Record A)) → option_map (λ (r : Record A). r.image) o ≡ None → o ≡ None
            gone None is = refl
            gone (Some r) is = cc

        -- its flag is that of the touches since, where they all have one
        list-flag : (name : List ℕ) (key : Fields A) (indirect : Bool) → TouchesHaveFlag indirect (rows-in (touches session (later ++ start)) name key) → ChangesHaveFlag indirect (row_changes name key list)
        list-flag name key indirect all =
            elim (schema_of (main (later ++ start)) name) as (λ o. schema_of (main (later ++ start)) name ≡ o → ChangesHaveFlag indirect (row_changes name key list)) [
              | None ↦ λ is. subst (ChangesHaveFlag indirect) (sym (no-table-row (main (later ++ start)) name key tables_now (session-distinct (later ++ start) session) is)) tt
              | Some flags ↦ λ known. elim (record_of tables_now name key) as (λ o. record_of tables_now name key ≡ o → ChangesHaveFlag indirect (row_changes name key list)) [
                | None ↦ λ is. subst (ChangesHaveFlag indirect) (sym (list-row name flags key known ∙ ap (λ o. cons_option (option_and_then (λ r. change_of flags r.indirect r.image (Now later name key)) o) []) is)) tt
                | Some r ↦ λ is.
                    let flag = record-flag (touches session (later ++ start)) name key indirect r (sym (session-record (later ++ start) session name key) ∙ is) all in
                    subst (ChangesHaveFlag indirect) (sym (list-row name flags key known ∙ ap (λ o. cons_option (option_and_then (λ r. change_of flags r.indirect r.image (Now later name key)) o) []) is))
                    (subst (λ i. ChangesHaveFlag i (cons_option (change_of flags r.indirect r.image (Now later name key)) [])) flag
                    (made-flag flags r.indirect r.image (Now later name key) (change_of flags r.indirect r.image (Now later name key)) refl))
              ] refl
            ] refl

        restart-led : (name : List ℕ) (flags : List Bool) (key : Fields A) → schema_of (main (later ++ start)) name ≡ Some flags → Follow flags key (First later name key) (Led later name key ++ row_changes name key list) (Now later name key)
        restart-led name flags key known =
            elim (record_of tables_now name key) as (λ o. record_of tables_now name key ≡ o → Follow flags key (First later name key) (Led later name key ++ row_changes name key list) (Now later name key)) [
              | None ↦ λ is.
                  let since : Since later name key ≡ None = sym (kept-at name key) ∙ ap (option_map (λ (r : Record A). r.image)) is in
                  subst (λ cs. Follow flags key (First later name key) cs (Now later name key)) (sym (ap (λ (l : List (RowChange A)). Led later name key ++ l) (list-none name key since) ∙ append-nil (Led later name key)))
                  (subst (λ row. Follow flags key (First later name key) (Led later name key) row) (ap (λ o. unwrap_or o (Now later name key)) since) ((before name key).led flags known))
              | Some r ↦ λ is.
                  let since : Since later name key ≡ Some r.image = sym (kept-at name key) ∙ ap (option_map (λ (r : Record A). r.image)) is in
                  subst (λ cs. Follow flags key (First later name key) (Led later name key ++ cs) (Now later name key))
                  (sym (list-row name flags key known ∙ ap (λ o. cons_option (option_and_then (λ r. change_of flags r.indirect r.image (Now later name key)) o) []) is))
                  (follow-next flags key r.indirect (First later name key) (Led later name key) r.image (Now later name key)
                  (subst (λ row. Follow flags key (First later name key) (Led later name key) row) (ap (λ o. unwrap_or o (Now later name key)) since) ((before name key).led flags known))
                  (row-under (main (later ++ start)) rise name flags key known) (change_of flags r.indirect r.image (Now later name key)) refl)
            ] refl

        restart-leads : (name : List ℕ) (key : Fields A) → Leads (event ∷ later) name key
        restart-leads name key =
            let known_before : (flags : List Bool) → schema_of (main (event ∷ later ++ start)) name ≡ Some flags → schema_of (main (later ++ start)) name ≡ Some flags =
            λ flags known. ap (λ tables. schema_of tables name) (sym main-same) ∙ known in
            record {
              none = λ none.
                  let over : Over later name key ≡ None = sym (over-same name key) ∙ none in
                  led-more name key
                  ∙ ap (λ (l : List (RowChange A)). l ++ row_changes name key list) ((before name key).none over)
                  ∙ list-none name key (not-since later name key over);
              under = λ flags known. subst (λ row. ForSome row (IsRowUnder flags key)) (first-kept name key) ((before name key).under flags (known_before flags known));
              led = λ flags known.
                  subst (λ cs. Follow flags key (First (event ∷ later) name key) cs (At (event ∷ later) name key)) (sym (led-more name key))
                  (subst (λ row. Follow flags key row (Led later name key ++ row_changes name key list) (At (event ∷ later) name key)) (first-kept name key)
                  (subst (λ row. Follow flags key (First later name key) (Led later name key ++ row_changes name key list) row) (at-now name key)
                  (restart-led name flags key (known_before flags known))));
            }

    pub leads-after : (later : List (Event A)) → IsSteady session later start → BlobsFitPast (later ++ start) → (name : List ℕ) (key : Fields A) → Leads later name key
    leads-after [] steady fits name key = record {
      none = λ _. refl;
      under = λ flags known. row-under (main start) (rises start fits) name flags key known;
      led = λ flags known. sym (ap (λ ts. unwrap_or (first_touched ts name key) (row_at (main start) name key)) fresh);
    }
    leads-after (event ∷ later) steady fits name key =
        let before = leads-after later steady.2 fits.1 in
        elim (is_accepted event.reply && restarts (command_to session event.command)) as (λ b. (is_accepted event.reply && restarts (command_to session event.command)) ≡ b → Leads (event ∷ later) name key) [
          | true ↦ λ restarted. restart-leads event later steady (rises (later ++ start) fits.1) (rises (event ∷ later ++ start) fits) before restarted name key
          | false ↦ λ kept_on. other-leads event later steady (rises (later ++ start) fits.1) (rises (event ∷ later ++ start) fits) before kept_on name key
        ] refl

    -- ---- flags

    -- the touches since the last restart are among all
    since-flag : (later : List (Event A)) (name : List ℕ) (key : Fields A) (indirect : Bool) → TouchesHaveFlag indirect (rows-in (touches_over session later start) name key) → TouchesHaveFlag indirect (rows-in (touches session (later ++ start)) name key)
    since-flag [] name key indirect all = subst (λ ts. TouchesHaveFlag indirect (rows-in ts name key)) (sym fresh) tt
    since-flag (event ∷ later) name key indirect all =
        let here = event_touches session event (later ++ start) in
        let parts = subst (TouchesHaveFlag indirect) (rows-append (touches_over session later start) here name key) all in
        elim (is_accepted event.reply && restarts (command_to session event.command)) as (λ b. TouchesHaveFlag indirect (rows-in (cond b [] (touches session (later ++ start) ++ here)) name key)) [
          | true ↦ tt
          | false ↦
              subst (TouchesHaveFlag indirect) (sym (rows-append (touches session (later ++ start)) here name key))
              (all-append _ (rows-in (touches session (later ++ start)) name key) (rows-in here name key)
              (since-flag later name key indirect (all-first _ (rows-in (touches_over session later start) name key) (rows-in here name key) parts))
              (all-last _ (rows-in (touches_over session later start) name key) (rows-in here name key) parts))
        ]

    pub led-flag : (later : List (Event A)) → IsSteady session later start → BlobsFitPast (later ++ start) → (name : List ℕ) (key : Fields A) (indirect : Bool)
        → TouchesHaveFlag indirect (rows-in (touches_over session later start) name key) → ChangesHaveFlag indirect (Led later name key)
    led-flag [] steady fits name key indirect all = tt
    led-flag (event ∷ later) steady fits name key indirect all =
        let here = event_touches session event (later ++ start) in
        let first = all-first _ (rows-in (touches_over session later start) name key) (rows-in here name key) (subst (TouchesHaveFlag indirect) (rows-append (touches_over session later start) here name key) all) in
        let before = leads-after later steady.2 fits.1 in
        let rise = rises (later ++ start) fits.1 in
        let rise_now = rises (event ∷ later ++ start) fits in
        let more = led-flag later steady.2 fits.1 name key indirect first in
        elim (is_accepted event.reply && restarts (command_to session event.command)) as (λ b. (is_accepted event.reply && restarts (command_to session event.command)) ≡ b → ChangesHaveFlag indirect (Led (event ∷ later) name key)) [
          | true ↦ λ restarted.
              subst (ChangesHaveFlag indirect) (sym (led-more event later steady rise rise_now before restarted name key))
              (all-append _ (Led later name key) (row_changes name key (list event later steady rise rise_now before restarted)) more
              (list-flag event later steady rise rise_now before restarted name key indirect (since-flag later name key indirect first)))
          | false ↦ λ kept_on. subst (ChangesHaveFlag indirect) (sym (led-same event later steady rise rise_now before kept_on name key)) more
        ] refl

    -- ---- the columns of the captured groups

    known-after : (later : List (Event A)) → AllByRecursion (AreKnown (main (later ++ start))) (captures session later start)
    known-after [] = tt
    known-after (event ∷ later) =
        let told = session_changes (main (later ++ start)) (session_of (later ++ start) session) in
        let keep : (groups : List (TableChanges A)) → AreKnown (main (later ++ start)) groups → AreKnown (main (event ∷ later ++ start)) groups =
        λ groups known. all-turn (λ (group : TableChanges A). schema_of (main (later ++ start)) group.table ≡ Some group.schema) (λ (group : TableChanges A). schema_of (main (event ∷ later ++ start)) group.table ≡ Some group.schema)
        (λ group is. columns-keep event later group.table group.schema is) groups known in
        let mine : AreKnown (main (event ∷ later ++ start)) told = keep told (groups-known (main (later ++ start)) (session_of (later ++ start) session).tables) in
        all-append _ (captures session later start) (cond (is_accepted event.reply && restarts (command_to session event.command)) (told ∷ []) [])
        (all-turn (AreKnown (main (later ++ start))) (AreKnown (main (event ∷ later ++ start))) keep (captures session later start) (known-after later))
        (elim (is_accepted event.reply && restarts (command_to session event.command)) as (λ b. AllByRecursion (AreKnown (main (event ∷ later ++ start))) (cond b (told ∷ []) [])) [ true ↦ (mine, tt) | false ↦ tt ])

    -- where the last of the events is a restart, the captures lead to the rows now
    pub captures-follow : (event : Event A) (later : List (Event A)) → (is_accepted event.reply && restarts (command_to session event.command)) ≡ true → IsSteady session (event ∷ later) start → BlobsFitPast (event ∷ later ++ start)
        → AreInARow (schema_of (main (event ∷ later ++ start))) (First (event ∷ later)) (Now (event ∷ later)) (captures session (event ∷ later) start)
    captures-follow event later restarted steady fits =
        let leads = leads-after (event ∷ later) steady fits in
        record {
          schemas = known-after (event ∷ later);
          under = λ name flags key known. (leads name key).under flags known;
          rows = λ name flags key known.
              subst (λ row. Follow flags key (First (event ∷ later) name key) (Led (event ∷ later) name key) row)
              (ap (λ o. unwrap_or o (Now (event ∷ later) name key)) (since-restart event later name key restarted))
              ((leads name key).led flags known);
        }

    -- ---- the one capture over all

    over-names : (later : List (Event A)) (names : List (List ℕ)) → names_of (map (λ name. (name, records_of (touches_of name (touches_over session later start)))) names) ≡ names
    over-names later [] = refl
    over-names later (name ∷ names) = ap (λ ns. name ∷ ns) (over-names later names)

    abbrev pub over-tables : List (Event A) → AttachedTables A
    over-tables later = (session_over session later start).tables

    pub over-distinct : (later : List (Event A)) → AreDistinct (names_of (over-tables later))
    over-distinct later = subst AreDistinct (sym (over-names later (attach_list session (later ++ start)))) (first_of_each-distinct (table_names (attachings session (later ++ start))))

    over-sorted : (later : List (Event A)) (name : List ℕ) (records : Records A) → attached_records (over-tables later) name ≡ Some records → IsOrdered fields_cmp records
    over-sorted later name records at =
        let ts : List ℕ → Records A = λ n. records_of (touches_of n (touches_over session later start)) in
        subst (IsOrdered fields_cmp) (sym (records-named ts (attach_list session (later ++ start)) name records at))
        (ordered fields_cmp (ts name) (truth _ (is_sorted-records_of (touches_of name (touches_over session later start)))))

    abbrev pub over-record : List (Event A) → List ℕ → Fields A → Option (Record A)
    over-record later name key = record_from (touches_over session later start) name key

    -- a touched row has its record, any other none
    pub over-kept : (later : List (Event A)) → IsSteady session later start → (name : List ℕ) (key : Fields A) → record_of (over-tables later) name key ≡ over-record later name key
    over-kept later steady name key =
        let listed = is_among name (attach_list session (later ++ start)) in
        record-in (λ n. records_of (touches_of n (touches_over session later start))) (attach_list session (later ++ start)) name key
        ∙ ap (λ o. cond listed o None) (first_image (touches_of name (touches_over session later start)) key)
        ∙ elim (over-record later name key) as (λ o. over-record later name key ≡ o → cond listed o None ≡ o) [
          | None ↦ λ _. cond-same listed None
          | Some r ↦ λ is.
              ap (λ b. cond b (Some r) None)
              (touched-attached session later start steady name key r.image (sym (image-touched (touches_over session later start) name key) ∙ ap (option_map (λ (kept : Record A). kept.image)) is))
        ] refl

    abbrev pub flag_or : Bool → Option (Record A) → Bool
    flag_or indirect None = indirect
    flag_or indirect (Some r) = r.indirect

    pub over-row : (later : List (Event A)) → IsSteady session later start → BlobsFitPast (later ++ start) → (name : List ℕ) (flags : List Bool) (key : Fields A) (indirect : Bool) → schema_of (main (later ++ start)) name ≡ Some flags
        → row_changes name key (capture_over session later start) ≡ cons_option (change_of flags (flag_or indirect (over-record later name key)) (First later name key) (Now later name key)) []
    over-row later steady fits name flags key indirect known =
        let image : (k : Fields A) (r : Record A) → over-record later name k ≡ Some r → First later name k ≡ r.image =
        λ k r is. ap (λ o. unwrap_or o (Now later name k)) (sym (image-touched (touches_over session later start) name k) ∙ ap (option_map (λ (kept : Record A). kept.image)) is) in
        captured-row (main (later ++ start)) (over-tables later) (over-distinct later) name flags key known (over-sorted later name)
        (λ k r is. subst (λ row. ForSome row (IsRowUnder flags k)) (image k r (sym (over-kept later steady name k) ∙ is)) ((leads-after later steady fits name k).under flags known))
        (λ k. row-under (main (later ++ start)) (rises (later ++ start) fits) name flags k known)
        ∙ ap (λ o. cons_option (option_and_then (λ r. change_of flags r.indirect r.image (Now later name key)) o) []) (over-kept later steady name key)
        ∙ elim (over-record later name key) as (λ o. over-record later name key ≡ o → cons_option (option_and_then (λ r. change_of flags r.indirect r.image (Now later name key)) o) []
        ≡ cons_option (change_of flags (flag_or indirect o) (First later name key) (Now later name key)) []) [
          | None ↦ λ is.
              let untouched : First later name key ≡ Now later name key = ap (λ o. unwrap_or o (Now later name key)) (sym (image-touched (touches_over session later start) name key) ∙ ap (option_map (λ (kept : Record A). kept.image)) is) in
              sym (ap (λ o. cons_option o []) (ap (λ row. change_of flags indirect row (Now later name key)) untouched ∙ none-same flags indirect (Now later name key)))
          | Some r ↦ λ is. ap (λ row. cons_option (change_of flags r.indirect row (Now later name key)) []) (sym (image key r is))
        ] refl

    pub over-flag : (later : List (Event A)) (name : List ℕ) (key : Fields A) (indirect : Bool) → TouchesHaveFlag indirect (rows-in (touches_over session later start) name key) → flag_or indirect (over-record later name key) ≡ indirect
    over-flag later name key indirect all = elim (over-record later name key) as (λ o. over-record later name key ≡ o → flag_or indirect o ≡ indirect) [
      | None ↦ λ _. refl
      | Some r ↦ λ is. record-flag (touches_over session later start) name key indirect r is all
    ] refl

    -- ---- the concatenation, applied to a database with the first images

    module _ (event : Event A) (later : List (Event A)) (restarted : (is_accepted event.reply && restarts (command_to session event.command)) ≡ true) (steady : IsSteady session (event ∷ later) start)
        (fits : BlobsFitPast (event ∷ later ++ start)) (database : Tables A) (rise : AreRising database) (holds : HoldsFirst database session (event ∷ later) start) where
      abbrev all : List (Event A)
      all = event ∷ later

      abbrev columns : List ℕ → Option (List Bool)
      columns = schema_of (main (all ++ start))

      in_a_row : AreInARow columns (First all) (Now all) (captures session all start)
      in_a_row = captures-follow event later restarted steady fits

      whole : (groups : List (TableChanges A)) × (concat_of (map Changes (captures session all start)) ≡ Ok (Changes groups)) × IsWhole columns (captures session all start) groups
      whole = concatenated-whole columns (First all) (Now all) (captures session all start) in_a_row

      main_rise : AreRising (main (all ++ start))
      main_rise = rises (all ++ start) fits

      first-held : (name : List ℕ) (key : Fields A) (image : Option (Fields A)) → Over all name key ≡ Some image → First all name key ≡ row_at database name key
      first-held name key image over = ap (λ o. unwrap_or o (Now all name key)) over ∙ sym (holds.images name key image over)

      -- a row with a change was touched
      changed-touched : (name : List ℕ) (flags : List Bool) (key : Fields A) (indirect : Bool) (change : RowChange A) → change_of flags indirect (First all name key) (Now all name key) ≡ Some change
          → (image : Option (Fields A)) × (Over all name key ≡ Some image)
      changed-touched name flags key indirect change is = elim (Over all name key) as (λ o. Over all name key ≡ o → (image : Option (Fields A)) × (o ≡ Some image)) [
        | Some image ↦ λ _. (image, refl)
        | None ↦ λ none.
            let clash : None ≡ Some change = sym (ap (λ row. change_of flags indirect row (Now all name key)) (ap (λ o. unwrap_or o (Now all name key)) none) ∙ none-same flags indirect (Now all name key)) ∙ is in cc
      ] refl

      -- what the changes of a row are together
      together-is : (name : List ℕ) (flags : List Bool) (key : Fields A) → columns name ≡ Some flags
          → (indirect : Bool) × (together combined flags (Led all name key) ≡ change_of flags indirect (First all name key) (Now all name key))
      together-is name flags key known = followed flags key (First all name key) (Led all name key) (Now all name key) (in_a_row.under name flags key known) (in_a_row.rows name flags key known)

      abbrev Made : List ℕ → List Bool → RowChange A → Type 0
      Made name flags change = together combined flags (Led all name (change_key flags change)) ≡ Some change

      made-touched : (name : List ℕ) (flags : List Bool) → columns name ≡ Some flags → (change : RowChange A) → Made name flags change → (image : Option (Fields A)) × (Over all name (change_key flags change) ≡ Some image)
      made-touched name flags known change made =
          let is = together-is name flags (change_key flags change) known in
          changed-touched name flags (change_key flags change) is.0 change (sym is.1 ∙ made)

      made-turned : (name : List ℕ) (flags : List Bool) → columns name ≡ Some flags → (change : RowChange A) → Made name flags change
          → (indirect : Bool) × (change_of flags indirect (row_at database name (change_key flags change)) (Now all name (change_key flags change)) ≡ Some change)
      made-turned name flags known change made =
          let key = change_key flags change in
          let is = together-is name flags key known in
          let touched = made-touched name flags known change made in
          (is.0, ap (λ row. change_of flags is.0 row (Now all name key)) (sym (first-held name key touched.0 touched.1)) ∙ sym is.1 ∙ made)

      -- the database has the table of a changed row
      group-here : (name : List ℕ) (flags : List Bool) → columns name ≡ Some flags → (changes : List (RowChange A)) → has_some changes ≡ true → AllByRecursion (Made name flags) changes → schema_of database name ≡ Some flags
      group-here name flags known [] some made = cc
      group-here name flags known (change ∷ changes) some made =
          let touched = made-touched name flags known change made.0 in
          let held = holds.columns name (change_key flags change) touched.0 touched.1 in
          held.1 ∙ sym held.2 ∙ known

      group-turns : (group : TableChanges A) → IsMade columns (captures session all start) group → Turns database (main (all ++ start)) rise main_rise group
      group-turns group made = record {
        here = group-here group.table group.schema made.known group.changes made.some made.made;
        there = made.known;
        sorted = made.sorted;
        changes = all-turn (Made group.table group.schema) _ (made-turned group.table group.schema made.known) group.changes made.made;
      }

      all-turns : AllByRecursion (Turns database (main (all ++ start)) rise main_rise) whole.0
      all-turns = all-turn (IsMade columns (captures session all start)) (Turns database (main (all ++ start)) rise main_rise) group-turns whole.0 whole.2.each

      -- a row without a change is as it was first
      no-change : (name : List ℕ) (flags : List Bool) (key : Fields A) → columns name ≡ Some flags → row_changes name key whole.0 ≡ [] → First all name key ≡ Now all name key
      no-change name flags key known none =
          let is = together-is name flags key known in
          unchanged flags is.0 (First all name key) (Now all name key) (sym is.1 ∙ nothing (together combined flags (Led all name key)) (sym (whole.2.together.rows name flags key known) ∙ none))
        where
          nothing : (o : Option (RowChange A)) → cons_option o [] ≡ [] → o ≡ None
          nothing None is = refl
          nothing (Some change) is = cc

      -- one that was not touched has none
      untouched-none : (name : List ℕ) (key : Fields A) → Over all name key ≡ None → row_changes name key whole.0 ≡ []
      untouched-none name key none = elim (columns name) as (λ o. columns name ≡ o → row_changes name key whole.0 ≡ []) [
        | None ↦ λ is. whole.2.together.others name key is
        | Some flags ↦ λ is. whole.2.together.rows name flags key is ∙ ap (λ cs. cons_option (together combined flags cs) []) ((leads-after all steady fits name key).none none)
      ] refl

      module _ (policy : Policy) (gives : (policy : Policy) (ts : List (TableRows A)) (tables : Tables A) → AllBefore ts tables → GivesAllRowsNow policy ts (Changes (map group_of_rows ts)) tables) where
        is-turned : IsTurned database (main (all ++ start)) rise main_rise policy whole.0
        is-turned = turned database (main (all ++ start)) rise main_rise policy whole.0 all-turns whole.2.names gives

        touched-left : (name : List ℕ) (key : Fields A) (image : Option (Fields A)) → Over all name key ≡ Some image → row_at is-turned.left.database name key ≡ Now all name key
        touched-left name key image over =
            let held = holds.columns name key image over in
            by_change (is-turned.rows name key) held.0 held.2
          where
            by_change : IsLeft database (main (all ++ start)) rise main_rise is-turned.left.database name key whole.0 → (flags : List Bool) → columns name ≡ Some flags → row_at is-turned.left.database name key ≡ Now all name key
            by_change (inl changed) flags known = changed.0
            by_change (inr same) flags known = same.0 ∙ sym (first-held name key image over) ∙ no-change name flags key known same.1

        untouched-left : (name : List ℕ) (key : Fields A) → Over all name key ≡ None → row_at is-turned.left.database name key ≡ row_at database name key
        untouched-left name key none = by_change (is-turned.rows name key)
          where
            by_change : IsLeft database (main (all ++ start)) rise main_rise is-turned.left.database name key whole.0 → row_at is-turned.left.database name key ≡ row_at database name key
            by_change (inl changed) = absurd (changed.1 (untouched-none name key none))
            by_change (inr same) = same.0

        over-gives : GivesRows database (main (all ++ start)) is-turned.left.database (session_over session all start).tables
        over-gives = record {
          touched = λ name key kept is. touched-left name key kept.image (sym (image-touched (touches_over session all start) name key) ∙ ap (option_map (λ (r : Record A). r.image)) (sym (over-kept all steady name key) ∙ is));
          untouched = λ name key is. untouched-left name key (sym (image-touched (touches_over session all start) name key) ∙ ap (option_map (λ (r : Record A). r.image)) (sym (over-kept all steady name key) ∙ is));
          others = is-turned.others;
        }

        -- what the concatenation leaves
        pub record IsOnce : Type 0 where
          pub groups : List (TableChanges A)
          pub is : concat_of (map Changes (captures session all start)) ≡ Ok (Changes groups)
          pub left : AppliedState A
          pub applied : apply database (Changes groups) policy ≡ Ok left
          pub touched : (name : List ℕ) (key : Fields A) (image : Option (Fields A)) → Over all name key ≡ Some image → row_at left.database name key ≡ Now all name key
          pub untouched : (name : List ℕ) (key : Fields A) → Over all name key ≡ None → row_at left.database name key ≡ row_at database name key
          pub others : (name : List ℕ) → option_map but_keyed (table_of left.database name) ≡ option_map but_keyed (table_of database name)
          pub over-rows : GivesRows database (main (all ++ start)) left.database (session_over session all start).tables
          pub fitting : ((ts : List (TableRows A)) (tables : Tables A) → AllBefore ts tables → AllDiffer ts → FitsItsColumns (Changes (map group_of_rows ts))) → FitsItsColumns (Changes groups)

        pub applied-once : IsOnce
        applied-once = record {
          groups = whole.0;
          is = whole.1;
          left = is-turned.left;
          applied = is-turned.applied;
          touched = touched-left;
          untouched = untouched-left;
          others = is-turned.others;
          over-rows = over-gives;
          fitting = turned-fits database (main (all ++ start)) rise main_rise whole.0 all-turns whole.2.names
              (all-turn (IsMade columns (captures session all start)) (λ group. has_some group.changes ≡ true) (λ group made. made.some) whole.0 whole.2.each);
        }
