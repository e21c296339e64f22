-- Captures in a row, applied one after the other, leave what their concatenation leaves.
use Rattle.std.proofs.Common.{◌≡◌, ℕ, Bool, true, false, cond, Option, Some, None, Ok, Result, IfOk, List, [], ◌∷◌, ◌++◌, ◌&&◌, refl, sym, ap, subst, ◌∙◌}
use Rattle.std.specs.Prelude.{map}
use Rattle.std.specs.Option.{option_map}
use Rattle.std.proofs.lemmas.List.{append-nil}
use Rattle.cap_row.specs.Fields.{Fields}
use Rattle.cap_table.specs.Table.{TableState}
use Rattle.cap_database.specs.Operation.{run}
use Rattle.cap_database.specs.Read.{row_at}
use Rattle.cap_database.specs.Tables.{AreRising, Tables, create, schema_of, table_of}
use Rattle.cap_database.specs.declared.op.Op.{Op}
use Rattle.cap_changes.specs.Group.{TableChanges}
use Rattle.cap_codec.specs.declared.read.Contents.{Contents}
use Rattle.cap_codec.specs.declared.read.Contents.TheVariants.{Changes}
use Rattle.cap_apply.specs.Applied.{AppliedState}
use Rattle.cap_apply.specs.Apply.{apply}
use Rattle.cap_apply.specs.Captured.{AllBefore, AllDiffer, GivesAllRowsNow, TableRows, changes_of as group_of_rows}
use Rattle.cap_apply.specs.Fitting.{FitsItsColumns}
use Rattle.cap_apply.specs.declared.policy.Policy.{Policy}
use Rattle.cap_session.specs.declared.record.Record.{Record}
use Rattle.cap_session.specs.Session.{AttachedTables, record_of}
use Rattle.cap_group.specs.ChangeGroup.{concat_of}
use Rattle.cap_core.specs.declared.event.Event.{Event}
use Rattle.cap_core.specs.AppliedCapture.{AppliesWhole, GivesRows, HoldsImages, but_keyed, changes_in}
use Rattle.cap_core.specs.Capture.{session_changes}
use Rattle.cap_core.specs.Flags.{command_to}
use Rattle.cap_core.specs.History.{main}
use Rattle.cap_core.specs.Past.{Past, is_accepted}
use Rattle.cap_core_laws.specs.Restarts.{AppliesEach, HoldsFirst, IsSteady, captures, first_touched, touches_over}
use Rattle.cap_core.specs.Session.{session_of}
use Rattle.cap_core.specs.Table.{BlobsFitPast}
use Rattle.cap_core.specs.Touch.{event_touches, restarts, touches}
use Rattle.cap_core_laws.proofs.AppliedCaptureLemmas.{capture_fits, changes_apply}
use Rattle.cap_core_laws.proofs.RestartLemmas.{sooner, touched-attached}
use Rattle.cap_captures.specs.Captures.{session_over}
use Rattle.cap_captures.proofs.ApplyLemmas.{same-tables}
use Rattle.cap_captures.proofs.ConcatLemmas.{some_same}
use Rattle.cap_captures.proofs.PeriodLemmas as period
use Rattle.cap_captures.proofs.RecordLemmas.{image-touched, session-record, sooner-none}

module _ {A : Type 0} where
  applies-append : (blob_of : List (TableChanges A) → Contents A) (policy : Policy) (lists : List (List (TableChanges A))) (list : List (TableChanges A)) (start mid : Tables A) (next : AppliedState A) → AppliesEach blob_of policy lists start mid
      → apply mid (blob_of list) policy ≡ Ok next → AppliesEach blob_of policy (lists ++ list ∷ []) start next.database
  applies-append blob_of policy [] list start mid next all is = (next, ap (λ tables. apply tables (blob_of list) policy) (sym all) ∙ is, refl)
  applies-append blob_of policy (first ∷ lists) list start mid next all is = (all.0, all.1, applies-append blob_of policy lists list all.0.database mid next all.2 is)

  same_schema : (found : Option (TableState A)) → option_map (λ t. t.schema) (option_map but_keyed found) ≡ option_map (λ t. t.schema) found
  same_schema None = refl
  same_schema (Some table) = refl

  abbrev image_in : Option (Record A) → Option (Option (Fields A))
  image_in kept = option_map (λ r. r.image) kept

  module _ (runs_keep : (tables : Tables A) (ops : List (Op A)) → IfOk (run tables ops) (λ left. (other : List ℕ) → schema_of left.database other ≡ schema_of tables other))
      (creates_keep : (tables : Tables A) (other : List ℕ) (schema : List Bool) → IfOk (create tables other schema) (λ after. (table : List ℕ) (columns : List Bool) → schema_of tables table ≡ Some columns → schema_of after table ≡ Some columns))
      (rises : (past : Past A) → BlobsFitPast past → AreRising (main past))
      (session : ℕ) (start : Past A) (fresh : touches session start ≡ [])
      (applies : (tables : Tables A) (blob : Contents A) (policy : Policy) → AreRising tables → FitsItsColumns blob → IfOk (apply tables blob policy) (λ left. AreRising left.database))
      (gives : (policy : Policy) (ts : List (TableRows A)) (tables : Tables A) → AllBefore ts tables → GivesAllRowsNow policy ts (Changes (map group_of_rows ts)) tables)
      (fit : (ts : List (TableRows A)) (tables : Tables A) → AllBefore ts tables → AllDiffer ts → FitsItsColumns (Changes (map group_of_rows ts)))
      (blob_of : List (TableChanges A) → Contents A)
      (gives_each : (policy : Policy) (ts : List (TableRows A)) (tables : Tables A) → AllBefore ts tables → GivesAllRowsNow policy ts (blob_of (map group_of_rows ts)) tables)
      (fit_each : (ts : List (TableRows A)) (tables : Tables A) → AllBefore ts tables → AllDiffer ts → FitsItsColumns (blob_of (map group_of_rows ts)))
      (policy : Policy) (database : Tables A) (rise : AreRising database) where
    abbrev Over : List (Event A) → List ℕ → Fields A → Option (Option (Fields A))
    Over later name key = first_touched (touches_over session later start) name key

    abbrev Since : List (Event A) → List ℕ → Fields A → Option (Option (Fields A))
    Since later name key = first_touched (touches session (later ++ start)) name key

    abbrev Here : Event A → List (Event A) → List ℕ → Fields A → Option (Option (Fields A))
    Here event later name key = first_touched (event_touches session event (later ++ start)) name key

    abbrev Now : List (Event A) → List ℕ → Fields A → Option (Fields A)
    Now later name key = row_at (main (later ++ start)) name key

    over-more : (event : Event A) (later : List (Event A)) (name : List ℕ) (key : Fields A) → Over (event ∷ later) name key ≡ sooner (Over later name key) (Here event later name key)
    over-more = period.over-more runs_keep creates_keep rises session start fresh

    since-more : (event : Event A) (later : List (Event A)) (name : List ℕ) (key : Fields A) → (is_accepted event.reply && restarts (command_to session event.command)) ≡ false
        → Since (event ∷ later) name key ≡ sooner (Since later name key) (Here event later name key)
    since-more = period.since-more runs_keep creates_keep rises session start fresh

    since-restart : (event : Event A) (later : List (Event A)) (name : List ℕ) (key : Fields A) → (is_accepted event.reply && restarts (command_to session event.command)) ≡ true → Since (event ∷ later) name key ≡ None
    since-restart = period.since-restart runs_keep creates_keep rises session start fresh

    not-since : (later : List (Event A)) (name : List ℕ) (key : Fields A) → Over later name key ≡ None → Since later name key ≡ None
    not-since = period.not-since runs_keep creates_keep rises session start fresh

    holds-before : (event : Event A) (later : List (Event A)) → IsSteady session (event ∷ later) start → HoldsFirst database session (event ∷ later) start → HoldsFirst database session later start
    holds-before event later steady holds =
        let more : (name : List ℕ) (key : Fields A) (image : Option (Fields A)) → Over later name key ≡ Some image → Over (event ∷ later) name key ≡ Some image =
        λ name key image is. over-more event later name key ∙ ap (λ o. sooner o (Here event later name key)) is in
        record {
          columns = λ name key image is.
              let last = holds.columns name key image (more name key image is) in
              let now = period.over-columns runs_keep creates_keep rises session start fresh later steady.2 name key image is in
              let keeps = period.columns-keep runs_keep creates_keep rises session start fresh event later name now.0 now.1 in
              let same : last.0 ≡ now.0 = some_same (sym last.2 ∙ keeps) in
              (now.0, last.1 ∙ ap Some same, now.1);
          images = λ name key image is. holds.images name key image (more name key image is);
        }

    -- what is left after the captures so far
    record Left (later : List (Event A)) : Type 0 where
      left : Tables A
      applied : AppliesEach blob_of policy (captures session later start) database left
      rising : AreRising left
      others : (name : List ℕ) → option_map but_keyed (table_of left name) ≡ option_map but_keyed (table_of database name)
      current : (name : List ℕ) (key : Fields A) (image : Option (Fields A)) → Since later name key ≡ Some image → row_at left name key ≡ image
      earlier : (name : List ℕ) (key : Fields A) (image : Option (Fields A)) → Over later name key ≡ Some image → Since later name key ≡ None → row_at left name key ≡ Now later name key
      untouched : (name : List ℕ) (key : Fields A) → Over later name key ≡ None → row_at left name key ≡ row_at database name key

    start-left : Left []
    start-left = record {
      left = database;
      applied = refl;
      rising = rise;
      others = λ name. refl;
      current = λ name key image is. let clash : None ≡ Some image = sym (ap (λ ts. first_touched ts name key) fresh) ∙ is in cc;
      earlier = λ name key image is none. cc;
      untouched = λ name key none. refl;
    }

    module _ (event : Event A) (later : List (Event A)) (steady : IsSteady session (event ∷ later) start) (holds : HoldsFirst database session (event ∷ later) start) (before : Left later) where
      here-is : (name : List ℕ) (key : Fields A) (image : Option (Fields A)) → Here event later name key ≡ Some image → Now later name key ≡ image
      here-is name key image is = (period.here-is runs_keep creates_keep rises session start fresh event later steady name key image is).1

      -- an event that is no restart of the session
      other-left : (is_accepted event.reply && restarts (command_to session event.command)) ≡ false → Left (event ∷ later)
      other-left kept_on = record {
        left = before.left;
        applied = subst (λ lists. AppliesEach blob_of policy lists database before.left) (sym (ap (λ b. captures session later start ++ cond b (told ∷ []) []) kept_on ∙ append-nil (captures session later start))) before.applied;
        rising = before.rising;
        others = before.others;
        current = λ name key image is.
            let both = sym (since-more event later name key kept_on) ∙ is in
            elim (Since later name key) as (λ o. Since later name key ≡ o → sooner o (Here event later name key) ≡ Some image → row_at before.left name key ≡ image) [
              | Some first ↦ λ since e. before.current name key image (since ∙ e)
              | None ↦ λ none e.
                  let here = here-is name key image e in
                  elim (Over later name key) as (λ o. Over later name key ≡ o → row_at before.left name key ≡ image) [
                    | Some first ↦ λ over. before.earlier name key first over none ∙ here
                    | None ↦ λ fresh_key.
                        before.untouched name key fresh_key
                        ∙ holds.images name key image (over-more event later name key ∙ ap (λ o. sooner o (Here event later name key)) fresh_key ∙ e)
                  ] refl
            ] refl both;
        earlier = λ name key image is none.
            let parts = sooner-none (Since later name key) (Here event later name key) (sym (since-more event later name key kept_on) ∙ none) in
            elim (Over later name key) as (λ o. Over later name key ≡ o → row_at before.left name key ≡ Now (event ∷ later) name key) [
              | Some first ↦ λ over.
                  let listed = touched-attached session later start steady.2 name key first over in
                  before.earlier name key first over parts.0 ∙ sym (period.here-none runs_keep creates_keep rises session start fresh event later steady name key listed parts.1)
              | None ↦ λ nothing.
                  let clash : None ≡ Some image = sym (over-more event later name key ∙ (λ i. sooner (nothing i) (parts.1 i))) ∙ is in cc
            ] refl;
        untouched = λ name key none. before.untouched name key (sooner-none (Over later name key) (Here event later name key) (sym (over-more event later name key) ∙ none)).0;
      }
        where
          told : List (TableChanges A)
          told = session_changes (main (later ++ start)) (session_of (later ++ start) session)

      -- a restart, whose capture is applied
      module _ (restarted : (is_accepted event.reply && restarts (command_to session event.command)) ≡ true) (main_now : AreRising (main (later ++ start))) (main_then : AreRising (main (event ∷ later ++ start)))
          (leads : (name : List ℕ) (key : Fields A) → period.Leads runs_keep creates_keep rises session start fresh later name key) where
        abbrev list : List (TableChanges A)
        list = session_changes (main (later ++ start)) (session_of (later ++ start) session)

        abbrev tables_now : AttachedTables A
        tables_now = (session_of (later ++ start) session).tables

        over-same : (name : List ℕ) (key : Fields A) → Over (event ∷ later) name key ≡ Over later name key
        over-same = period.over-same runs_keep creates_keep rises session start fresh event later steady main_now main_then leads restarted

        main-same : main (event ∷ later ++ start) ≡ main (later ++ start)
        main-same = period.main-same runs_keep creates_keep rises session start fresh event later steady main_now main_then leads restarted

        record-touched : (name : List ℕ) (key : Fields A) → image_in (record_of tables_now name key) ≡ Since later name key
        record-touched name key = ap image_in (session-record (later ++ start) session name key) ∙ image-touched (touches session (later ++ start)) name key

        over-since : (name : List ℕ) (key : Fields A) (image : Option (Fields A)) → Since later name key ≡ Some image → (first : Option (Fields A)) × (Over later name key ≡ Some first)
        over-since name key image is =
            elim (Over later name key) as (λ o. Over later name key ≡ o → (first : Option (Fields A)) × (o ≡ Some first)) [
              | Some first ↦ λ _. (first, refl)
              | None ↦ λ none. let clash : None ≡ Some image = sym (not-since later name key none) ∙ is in cc
            ] refl

        columns-left : (name : List ℕ) → schema_of before.left name ≡ schema_of database name
        columns-left name = sym (same_schema (table_of before.left name)) ∙ ap (option_map (λ t. t.schema)) (before.others name) ∙ same_schema (table_of database name)

        images-now : HoldsImages before.left (main (later ++ start)) tables_now
        images-now = record {
          columns = λ name key kept at.
              let over = over-since name key kept.image (sym (record-touched name key) ∙ ap image_in at) in
              let held = (holds-before event later steady holds).columns name key over.0 over.1 in
              (held.0, columns-left name ∙ held.1, held.2);
          images = λ name key kept at. before.current name key kept.image (sym (record-touched name key) ∙ ap image_in at);
        }

        whole : AppliesWhole policy (blob_of list) (changes_in list) before.left (main (later ++ start)) tables_now
        whole = changes_apply (later ++ start) session before.left before.rising main_now images-now blob_of gives_each policy list refl

        list-fits : FitsItsColumns (blob_of list)
        list-fits = capture_fits (later ++ start) session before.left before.rising main_now images-now blob_of fit_each

        restart-left : Left (event ∷ later)
        restart-left = record {
          left = whole.0.database;
          applied = subst (λ lists. AppliesEach blob_of policy lists database whole.0.database) (sym (ap (λ b. captures session later start ++ cond b (list ∷ []) []) restarted))
              (applies-append blob_of policy (captures session later start) list database before.left whole.0 before.applied whole.1);
          rising = subst (λ r. IfOk r (λ next. AreRising next.database)) whole.1 (applies before.left (blob_of list) policy before.rising list-fits);
          others = λ name. whole.2.others name ∙ before.others name;
          current = λ name key image is. let clash : None ≡ Some image = sym (since-restart event later name key restarted) ∙ is in cc;
          earlier = λ name key image is none.
              let over = sym (over-same name key) ∙ is in
              let now = record_of tables_now name key in
              elim now as (λ o. now ≡ o → row_at whole.0.database name key ≡ Now (event ∷ later) name key) [
                | Some kept ↦ λ at. whole.2.touched name key kept at ∙ ap (λ tables. row_at tables name key) (sym main-same)
                | None ↦ λ absent.
                    whole.2.untouched name key absent
                    ∙ before.earlier name key image over (sym (record-touched name key) ∙ ap image_in absent)
                    ∙ ap (λ tables. row_at tables name key) (sym main-same)
              ] refl;
          untouched = λ name key none.
              let over = sym (over-same name key) ∙ none in
              let now = record_of tables_now name key in
              elim now as (λ o. now ≡ o → row_at whole.0.database name key ≡ row_at database name key) [
                | Some kept ↦ λ at. let clash : None ≡ Some kept.image = sym (not-since later name key over) ∙ sym (record-touched name key) ∙ ap image_in at in cc
                | None ↦ λ absent. whole.2.untouched name key absent ∙ before.untouched name key over
              ] refl;
        }

    left-after : (later : List (Event A)) → IsSteady session later start → HoldsFirst database session later start → BlobsFitPast (later ++ start) → Left later
    left-after [] steady holds fits = start-left
    left-after (event ∷ later) steady holds fits =
        let before = left-after later steady.2 (holds-before event later steady holds) fits.1 in
        elim (is_accepted event.reply && restarts (command_to session event.command)) as (λ b. (is_accepted event.reply && restarts (command_to session event.command)) ≡ b → Left (event ∷ later)) [
          | true ↦ λ restarted.
              restart-left event later steady holds before restarted (rises (later ++ start) fits.1) (rises (event ∷ later ++ start) fits)
              (period.leads-after runs_keep creates_keep rises session start fresh later steady.2 fits.1)
          | false ↦ λ kept_on. other-left event later steady holds before kept_on
        ] refl

    -- ---- as the concatenation

    module _ (event : Event A) (later : List (Event A)) (restarted : (is_accepted event.reply && restarts (command_to session event.command)) ≡ true) (steady : IsSteady session (event ∷ later) start)
        (fits : BlobsFitPast (event ∷ later ++ start)) (holds : HoldsFirst database session (event ∷ later) start) where
      each : Left (event ∷ later)
      each = left-after (event ∷ later) steady holds fits

      abbrev once : period.IsOnce runs_keep creates_keep rises session start fresh event later restarted steady fits database rise holds policy gives
      once = period.applied-once runs_keep creates_keep rises session start fresh event later restarted steady fits database rise holds policy gives

      once-rising : AreRising once.left.database
      once-rising = subst (λ r. IfOk r (λ next. AreRising next.database)) once.applied (applies database (Changes once.groups) policy rise (once.fitting fit))

      same-row : (name : List ℕ) (key : Fields A) → row_at once.left.database name key ≡ row_at each.left name key
      same-row name key = elim (Over (event ∷ later) name key) as (λ o. Over (event ∷ later) name key ≡ o → row_at once.left.database name key ≡ row_at each.left name key) [
        | None ↦ λ none. once.untouched name key none ∙ sym (each.untouched name key none)
        | Some image ↦ λ over. once.touched name key image over ∙ sym (each.earlier name key image over (since-restart event later name key restarted))
      ] refl

      same-left : once.left.database ≡ each.left
      same-left = same-tables once.left.database each.left once-rising each.rising (λ name. once.others name ∙ sym (each.others name)) same-row

      -- the concatenation, whatever it is called
      pub as-one : (blob : Contents A) → concat_of (map Changes (captures session (event ∷ later) start)) ≡ Ok blob
          → (left : AppliedState A) × (apply database blob policy ≡ Ok left) × AppliesEach blob_of policy (captures session (event ∷ later) start) database left.database
          × GivesRows database (main (event ∷ later ++ start)) left.database (session_over session (event ∷ later) start).tables
      as-one blob is =
          let blob_is : Changes once.groups ≡ blob = ok_same (sym once.is ∙ is) in (
            once.left,
            ap (λ b. apply database b policy) (sym blob_is) ∙ once.applied,
            subst (λ tables. AppliesEach blob_of policy (captures session (event ∷ later) start) database tables) (sym same-left) each.applied,
            once.over-rows,
          )
        where
          ok_same : {E : Type 0} {x y : Contents A} → (let held : Result (Contents A) E = Ok x in held) ≡ Ok y → x ≡ y
          ok_same e = cc
