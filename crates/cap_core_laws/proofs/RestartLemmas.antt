-- Captures in a row by restarts, applied in order, give main's rows.
use Rattle.std.proofs.lemmas.Bool.{cond_both}
use Rattle.std.proofs.lemmas.List.{append-nil}
use Rattle.std.proofs.lemmas.List.Folds.{list_any-append}
use Rattle.std.proofs.Common.{◌≡◌, ℕ, Bool, true, false, cond, Option, Some, None, Ok, IfOk, List, [], ◌∷◌, ◌++◌, ◌&&◌, ◌||◌, ◌⊎◌, map, refl, sym, ap, subst, ◌∙◌, arith}
use Rattle.std.specs.Prelude.{is_some}
use Rattle.std.specs.Option.{option_map}
use Rattle.std.specs.List.{cons_option, list_any}
use Rattle.std.specs.Ordering.{eq_by_cmp}
use Rattle.std.specs.Cmp.Lexicographic.{bytes_decides}
use Rattle.cap_value.specs.Bytes.{bytes_eq}
use Rattle.cap_row.specs.Fields.{Fields}
use Rattle.cap_row.specs.Key.{fields_cmp, fields_cmp_total}
use Rattle.std.specs.Cmp.{eq_by_cmp_equiv}
use Rattle.cap_tree.specs.Tree.{get}
use Rattle.cap_table.specs.Sound.{is_key_of}
use Rattle.cap_database.specs.Read.{row_at}
use Rattle.cap_database.specs.Operation.{run}
use Rattle.cap_database.specs.declared.op.Op.{Op}
use Rattle.cap_changes.specs.Group.{TableChanges}
use Rattle.cap_codec.specs.declared.read.Contents.{Contents}
use Rattle.cap_apply.specs.Applied.{AppliedState}
use Rattle.cap_apply.specs.Apply.{apply}
use Rattle.cap_apply.specs.Fitting.{FitsItsColumns}
use Rattle.cap_apply.specs.Captured.{AllBefore, AllDiffer, GivesAllRowsNow, TableRows, changes_of as group_of_rows}
use Rattle.cap_apply.specs.declared.policy.Policy.{Policy}
use Rattle.cap_database.specs.Tables.{AreRising, Tables, create, schema_of}
use Rattle.cap_database.specs.declared.change.Change.{Change}
use Rattle.cap_session.specs.Recording.{is_cascade}
use Rattle.cap_core.proofs.CarriedLemmas.{told_by}
use Rattle.cap_session.specs.Records.{Touch as RowTouch}
use Rattle.cap_session.specs.Session.{record_of}
use Rattle.cap_core.specs.declared.command.Command.{Command}
use Rattle.cap_core.specs.declared.event.Event.{Event}
use Rattle.cap_core.specs.Flags.{command_to, is_enabled, is_indirect, is_quiet}
use Rattle.cap_core.specs.History.{event_effect, is_write, main, snapshot}
use Rattle.cap_core.specs.Outcome.{Effect, no_effect}
use Rattle.cap_database.specs.Carried.{is_of_row}
use Rattle.cap_core.specs.Past.{Past, is_accepted}
use Rattle.cap_core.specs.Capture.{session_changes}
use Rattle.cap_core.specs.AppliedCapture.{AppliesWhole, HoldsImages, changes_in}
use Rattle.cap_core_laws.specs.Restarts.{AppliesEach, HasRowsNow, HoldsFirst, IsSteady, captures, first_touched, touches_over}
use Rattle.cap_core.specs.Session.{session_of}
use Rattle.cap_core.specs.Table.{BlobsFitPast}
use Rattle.cap_core.specs.Touch.{Touch, attach_list, attachings, changes_touch, diff_touches, event_attachings, event_diff, event_touches, restarts, touches, touches_of}
pub use Rattle.cap_core_laws.proofs.DiffedLemmas.{image_in, quiet-effect, sooner}
use Rattle.cap_core_laws.proofs.AppliedCaptureLemmas.{capture_fits, changes_apply, lookup-listed, there-is}
use Rattle.cap_core.proofs.LawLemmas.{first_image}
use Rattle.cap_core_laws.proofs.StayLemmas.{event-keeps, row_stays}
use Rattle.cap_core.proofs.HistoryLemmas.{is_among, is_among-first_of_each, none_of, table_names, table_names-append, touches-none, touches_of-append}
use Rattle.cap_core.proofs.SessionLemmas.{IsSilent, cond-same, kept, shown-none, silent-elsewhere, told-on}
use Rattle.cap_core.proofs.SmallLemmas.{second}
use Rattle.cap_core.proofs.TouchedLemmas.{fields_same, tied, told}

module _ {A : Type 0} where
  -- ---- the first touch among several

  get-append : (key : Fields A) (xs ys : List (Fields A × Touch A))
      → option_map (λ touch. touch.image) (get fields_cmp (xs ++ ys) key) ≡ sooner (option_map (λ touch. touch.image) (get fields_cmp xs key)) (option_map (λ touch. touch.image) (get fields_cmp ys key))
  get-append key [] ys = refl
  get-append key (x ∷ xs) ys = grind (arith, get-append key xs ys)

  pub first-append : (xs ys : List (Touch A)) (name : List ℕ) (key : Fields A) → first_touched (xs ++ ys) name key ≡ sooner (first_touched xs name key) (first_touched ys name key)
  first-append xs ys name key = ap (λ pairs. option_map (λ touch. touch.image) (get fields_cmp pairs key)) (touches_of-append name xs ys) ∙ get-append key (touches_of name xs) (touches_of name ys)

  -- the same of touches as a session records them
  told_first : List (RowTouch A) → Fields A → Option (Option (Fields A))
  told_first [] key = None
  told_first (t ∷ touches) key = cond (eq_by_cmp fields_cmp key t.key) (Some t.image) (told_first touches key)

  first-told : (pairs : List (Fields A × Touch A)) (key : Fields A) → option_map (λ touch. touch.image) (get fields_cmp pairs key) ≡ told_first (map told pairs) key
  unfolding told_first
  first-told [] key = refl
  first-told (pair ∷ pairs) key = grind (arith, first-told pairs key)

  -- a change of the row is a touch of its key
  told-named : (before : Tables A) (indirect : Bool) (name : List ℕ) (changes : List (Change A)) (key : Fields A)
      → told_first (told_by before indirect name changes) key ≡ cond (list_any (is_of_row name key) changes) (Some (row_at before name key)) None
  unfolding told_first
  told-named before indirect name [] key = refl
  told-named before indirect name (change ∷ changes) key =
      let later = told-named before indirect name changes key in
      elim change.key as (λ k. told_first (cons_option (cond (bytes_eq name change.table) (option_map (λ own. record { key = own; image = row_at before name own; indirect = indirect || is_cascade change.cause }) k) None) (told_by before indirect name changes)) key
      ≡ cond ((bytes_eq name change.table && is_key_of k key) || list_any (is_of_row name key) changes) (Some (row_at before name key)) None) [
        | None ↦ grind (arith, later)
        | Some own ↦ grind (arith, later, (eq_by_cmp_equiv fields_cmp_total).symm key own, tied fields_cmp own key fields_same)
      ]

  -- ---- the touches by an event that is no diff of the session

  writes-apart : (session : ℕ) (c : Command A) → is_write c ≡ true → command_to session c ≡ None
  writes-apart session c is = grind arith

  module _ (session : ℕ) (event : Event A) (past : Past A) (on : (is_enabled session past ≡ true) × (is_quiet session event.command ≡ false)) (apart : event_diff session event past ≡ None) where
    abbrev changes_here : List (Change A)
    changes_here = (event_effect (snapshot past) event).changes

    event-touches : event_touches session event past ≡ changes_touch session event past
    event-touches = ap (λ found. changes_touch session event past ++ diff_touches session past found) apart ∙ append-nil (changes_touch session event past)

    -- a row of an attached table is touched just where a change names it
    pub touched-listed : (name : List ℕ) (key : Fields A) → is_among name (attach_list session (event ∷ past)) ≡ true
        → first_touched (event_touches session event past) name key ≡ cond (list_any (is_of_row name key) changes_here) (Some (row_at (main past) name key)) None
    touched-listed name key listed =
        ap (λ ts. first_touched ts name key) event-touches
        ∙ elim (is_accepted event.reply && is_write event.command) as (λ b. (is_accepted event.reply && is_write event.command) ≡ b
        → first_touched (changes_touch session event past) name key ≡ cond (list_any (is_of_row name key) changes_here) (Some (row_at (main past) name key)) None) [
          | true ↦ λ writes.
              let silent : IsSilent session event past = silent-elsewhere session event past (writes-apart session event.command (second (is_accepted event.reply) (is_write event.command) writes)) in
              first-told (touches_of name (changes_touch session event past)) key
              ∙ ap (λ ts. told_first ts key) (told-on session event past silent on.0 name listed)
              ∙ ap (λ b. told_first (told_by (main past) (is_indirect session past) name (cond b [] changes_here)) key) on.1
              ∙ told-named (main past) (is_indirect session past) name changes_here key
          | false ↦ λ quiet.
              let none : changes_here ≡ [] = ap (λ e. e.changes) (quiet-effect past event quiet) in
              grind (arith, none, shown-none session event.command changes_here none, on.0)
        ] refl

    -- a row of a table that is not attached is not touched
    pub touched-absent : (name : List ℕ) (key : Fields A) → is_among name (attach_list session (event ∷ past)) ≡ false → first_touched (event_touches session event past) name key ≡ None
    touched-absent name key absent =
        let now : is_among name (table_names (attachings session (event ∷ past))) ≡ false = sym (is_among-first_of_each name (table_names (attachings session (event ∷ past)))) ∙ absent in
        ap (λ ts. first_touched ts name key) event-touches
        ∙ cond_both (is_enabled session past) _ _ (λ ts. first_touched ts name key ≡ None) (λ _. ap (λ pairs. option_map (λ touch. touch.image) (get fields_cmp pairs key)) (none_of (attachings session (event ∷ past)) name now _)) (λ _. refl)

  -- a table that is attached stays attached
  pub stays-listed : (session : ℕ) (event : Event A) (past : Past A) (name : List ℕ) → is_among name (attach_list session past) ≡ true → is_among name (attach_list session (event ∷ past)) ≡ true
  stays-listed session event past name listed =
      let moments = attachings session past in
      let more = event_attachings session event past in
      grind (arith, is_among-first_of_each name, table_names-append moments more, list_any-append (bytes_eq name) (table_names moments) (table_names more))

  -- what was touched over all is attached
  pub touched-attached : (session : ℕ) (later : List (Event A)) (start : Past A) → IsSteady session later start → (name : List ℕ) (key : Fields A) (image : Option (Fields A))
      → first_touched (touches_over session later start) name key ≡ Some image → is_among name (attach_list session (later ++ start)) ≡ true
  touched-attached session [] start steady name key image is = cc
  touched-attached session (event ∷ later) start steady name key image is =
      grind (
        arith,
        first-append (touches_over session later start) (event_touches session event (later ++ start)) name key,
        stays-listed session event (later ++ start) name,
        touched-absent session event (later ++ start) steady.0 steady.1 name key,
        λ (earlier : Option (Fields A)). touched-attached session later start steady.2 name key earlier,
      )

  -- ---- records and touches

  -- what a session has of a key is of its first touch
  record-touched : (past : Past A) (session : ℕ) (name : List ℕ) (key : Fields A) → image_in (record_of (session_of past session).tables name key) ≡ first_touched (touches session past) name key
  record-touched past session name key =
      let touched = touches_of name (touches session past) in
      grind (arith, lookup-listed bytes_eq (λ a b. (bytes_decides a b).0) (kept past session) name (attach_list session past), first_image touched key, touches-none session name past)

  -- ---- blobs one after the other

  applies-append : (blob_of : List (TableChanges A) → Contents A) (policy : Policy) (lists : List (List (TableChanges A))) (list : List (TableChanges A)) (start mid : Tables A) (next : AppliedState A) → AppliesEach blob_of policy lists start mid
      → apply mid (blob_of list) policy ≡ Ok next → AppliesEach blob_of policy (lists ++ list ∷ []) start next.database
  applies-append blob_of policy [] list start mid next all is = (next, ap (λ tables. apply tables (blob_of list) policy) (sym all) ∙ is, refl)
  applies-append blob_of policy (first ∷ lists) list start mid next all is = (all.0, all.1, applies-append blob_of policy lists list all.0.database mid next all.2 is)

  module _ (runs_keep : (tables : Tables A) (ops : List (Op A)) → IfOk (run tables ops) (λ left. (other : List ℕ) → schema_of left.database other ≡ schema_of tables other))
      (creates_keep : (tables : Tables A) (other : List ℕ) (schema : List Bool) → IfOk (create tables other schema) (λ after. (table : List ℕ) (columns : List Bool) → schema_of tables table ≡ Some columns → schema_of after table ≡ Some columns))
      (rises : (past : Past A) → BlobsFitPast past → AreRising (main past))
      (applies : (tables : Tables A) (blob : Contents A) (policy : Policy) → AreRising tables → FitsItsColumns blob → IfOk (apply tables blob policy) (λ left. AreRising left.database))
      (blob_of : List (TableChanges A) → Contents A)
      (gives : (policy : Policy) (ts : List (TableRows A)) (tables : Tables A) → AllBefore ts tables → GivesAllRowsNow policy ts (blob_of (map group_of_rows ts)) tables)
      (fit : (ts : List (TableRows A)) (tables : Tables A) → AllBefore ts tables → AllDiffer ts → FitsItsColumns (blob_of (map group_of_rows ts)))
      (policy : Policy) (session : ℕ) (start : Past A) (fresh : touches session start ≡ []) (database : Tables A) (rise : AreRising database) where
    abbrev is_restart : Event A → Bool
    is_restart event = is_accepted event.reply && restarts (command_to session event.command)

    abbrev Over : List (Event A) → List ℕ → Fields A → Option (Option (Fields A))
    Over later name key = first_touched (touches_over session later start) name key

    abbrev Since : List (Event A) → List ℕ → Fields A → Option (Option (Fields A))
    Since later name key = first_touched (touches session (later ++ start)) name key

    abbrev Here : Event A → List (Event A) → List ℕ → Fields A → Option (Option (Fields A))
    Here event later name key = first_touched (event_touches session event (later ++ start)) name key

    abbrev named : Event A → List (Event A) → List ℕ → Fields A → Bool
    named event later name key = list_any (is_of_row name key) (event_effect (snapshot (later ++ start)) event).changes

    over-more : (event : Event A) (later : List (Event A)) (name : List ℕ) (key : Fields A) → Over (event ∷ later) name key ≡ sooner (Over later name key) (Here event later name key)
    over-more event later name key = first-append (touches_over session later start) (event_touches session event (later ++ start)) name key

    since-more : (event : Event A) (later : List (Event A)) (name : List ℕ) (key : Fields A) → Since (event ∷ later) name key ≡ cond (is_restart event) None (sooner (Since later name key) (Here event later name key))
    since-more event later name key =
        grind (arith, first-append (touches session (later ++ start)) (event_touches session event (later ++ start)) name key)

    -- what was not touched over all was not touched since the last restart
    not-since : (later : List (Event A)) (name : List ℕ) (key : Fields A) → Over later name key ≡ None → Since later name key ≡ None
    not-since [] name key none = ap (λ ts. first_touched ts name key) fresh
    not-since (event ∷ later) name key none =
        let before : Over later name key ≡ None = grind (arith, over-more event later name key) in
        let here : Here event later name key ≡ None = grind (arith, over-more event later name key) in
        since-more event later name key ∙ (λ i. cond (is_restart event) None (sooner (not-since later name key before i) (here i))) ∙ cond-same (is_restart event) None

    -- a row that an event touches is named by one of its changes, and has main's row before the event as its image
    here-is : (event : Event A) (later : List (Event A)) → IsSteady session (event ∷ later) start → (name : List ℕ) (key : Fields A)
        → (Here event later name key ≡ None) ⊎ ((named event later name key ≡ true) × (Here event later name key ≡ Some (row_at (main (later ++ start)) name key)))
    here-is event later steady name key =
        let absent = touched-absent session event (later ++ start) steady.0 steady.1 name key in
        let listed = touched-listed session event (later ++ start) steady.0 steady.1 name key in
        grind (arith, absent, listed)

    -- a row that was touched before, and not by the event, stays as it was
    over-stays : (event : Event A) (later : List (Event A)) → IsSteady session (event ∷ later) start → (name : List ℕ) (key : Fields A) → is_some (Over later name key) ≡ true
        → Here event later name key ≡ None → row_at (main (event ∷ later ++ start)) name key ≡ row_at (main (later ++ start)) name key
    over-stays event later steady name key over none =
        let first = there-is (Over later name key) over in
        let listed = stays-listed session event (later ++ start) name (touched-attached session later start steady.2 name key first.0 first.1) in
        row_stays name key (snapshot (later ++ start)) event (grind (arith, touched-listed session event (later ++ start) steady.0 steady.1 name key listed))

    -- the table of what was touched over all is there
    over-there : (later : List (Event A)) → IsSteady session later start → (name : List ℕ) (key : Fields A) → is_some (Over later name key) ≡ true → is_some (schema_of (main (later ++ start)) name) ≡ true
    over-there [] steady name key over = cc
    over-there (event ∷ later) steady name key over =
        let keeps = event-keeps name key runs_keep creates_keep (snapshot (later ++ start)) event in
        grind (arith, over-more event later name key, here-is event later steady name key, keeps.there, over-there later steady.2 name key, λ (columns : List Bool). keeps.columns columns)

    holds-before : (event : Event A) (later : List (Event A)) → IsSteady session (event ∷ later) start → HoldsFirst database session (event ∷ later) start → HoldsFirst database session later start
    holds-before event later steady holds =
        let more : (name : List ℕ) (key : Fields A) (image : Option (Fields A)) → Over later name key ≡ Some image → Over (event ∷ later) name key ≡ Some image =
        λ name key image is. over-more event later name key ∙ ap (λ o. sooner o (Here event later name key)) is in
        record {
          columns = λ name key image is.
              let last = holds.columns name key image (more name key image is) in
              let now = there-is (schema_of (main (later ++ start)) name) (over-there later steady.2 name key (ap is_some is)) in
              let keeps = event-keeps name key runs_keep creates_keep (snapshot (later ++ start)) event in
              let same : last.0 ≡ now.0 = grind (arith, last.2, keeps.columns now.0 now.1) in
              (now.0, last.1 ∙ ap Some same, now.1);
          images = λ name key image is. holds.images name key image (more name key image is);
        }

    -- what is left after the captures so far
    record Left (later : List (Event A)) : Type 0 where
      left : Tables A
      applied : AppliesEach blob_of policy (captures session later start) database left
      rising : AreRising left
      columns : (name : List ℕ) → schema_of left name ≡ schema_of database name
      current : (name : List ℕ) (key : Fields A) (image : Option (Fields A)) → Since later name key ≡ Some image → row_at left name key ≡ image
      earlier : (name : List ℕ) (key : Fields A) → is_some (Over later name key) ≡ true → Since later name key ≡ None → row_at left name key ≡ row_at (main (later ++ start)) name key
      untouched : (name : List ℕ) (key : Fields A) → Over later name key ≡ None → row_at left name key ≡ row_at database name key

    start-left : Left []
    start-left = record {
      left = database;
      applied = refl;
      rising = rise;
      columns = λ name. refl;
      current = λ name key image is. let clash : None ≡ Some image = sym (ap (λ ts. first_touched ts name key) fresh) ∙ is in cc;
      earlier = λ name key over none. cc;
      untouched = λ name key none. refl;
    }

    module _ (event : Event A) (later : List (Event A)) (steady : IsSteady session (event ∷ later) start) (holds : HoldsFirst database session (event ∷ later) start) (before : Left later) where
      abbrev list : List (TableChanges A)
      list = session_changes (main (later ++ start)) (session_of (later ++ start) session)

      -- an event that is no restart of the session
      other-left : is_restart event ≡ false → Left (event ∷ later)
      other-left kept_on = record {
        left = before.left;
        applied = subst (λ lists. AppliesEach blob_of policy lists database before.left) (sym (ap (λ b. captures session later start ++ cond b (list ∷ []) []) kept_on ∙ append-nil (captures session later start))) before.applied;
        rising = before.rising;
        columns = before.columns;
        current = λ name key image is.
            grind (arith, since-more event later name key, over-more event later name key, here-is event later steady name key, before.current name key image, before.earlier name key, before.untouched name key, holds.images name key image);
        earlier = λ name key over none. grind (arith, since-more event later name key, over-more event later name key, over-stays event later steady name key, before.earlier name key);
        untouched = λ name key none. grind (arith, over-more event later name key, before.untouched name key);
      }

      -- a restart, whose capture is applied
      module _ (restarted : is_restart event ≡ true) (main_rise : AreRising (main (later ++ start))) where
        quiet : event_effect (snapshot (later ++ start)) event ≡ no_effect (main (later ++ start))
        quiet = quiet-effect (later ++ start) event (grind (arith, writes-apart session event.command))

        over-same : (name : List ℕ) (key : Fields A) → Over (event ∷ later) name key ≡ Over later name key
        over-same name key = grind (arith, over-more event later name key, here-is event later steady name key, ap (λ (e : Effect A). list_any (is_of_row name key) e.changes) quiet)

        images-now : HoldsImages before.left (main (later ++ start)) (session_of (later ++ start) session).tables
        images-now = record {
          columns = λ name key kept at.
              let over = there-is (Over later name key) (grind (arith, not-since later name key, record-touched (later ++ start) session name key)) in
              let held = (holds-before event later steady holds).columns name key over.0 over.1 in
              (held.0, before.columns name ∙ held.1, held.2);
          images = λ name key kept at. before.current name key kept.image (sym (record-touched (later ++ start) session name key) ∙ ap image_in at);
        }

        whole : AppliesWhole policy (blob_of list) (changes_in list) before.left (main (later ++ start)) (session_of (later ++ start) session).tables
        whole = changes_apply (later ++ start) session before.left before.rising main_rise images-now blob_of gives policy list refl

        restart-left : Left (event ∷ later)
        restart-left = record {
          left = whole.0.database;
          applied = subst (λ lists. AppliesEach blob_of policy lists database whole.0.database) (sym (ap (λ b. captures session later start ++ cond b (list ∷ []) []) restarted))
              (applies-append blob_of policy (captures session later start) list database before.left whole.0 before.applied whole.1);
          rising = subst (λ r. IfOk r (λ next. AreRising next.database)) whole.1 (applies before.left (blob_of list) policy before.rising (capture_fits (later ++ start) session before.left before.rising main_rise images-now blob_of fit));
          columns = λ name. grind (arith, whole.2.others name, before.columns name);
          current = λ name key image is. grind (arith, since-more event later name key);
          earlier = λ name key over none.
              grind (arith, over-same name key, record-touched (later ++ start) session name key, ap (λ (e : Effect A). row_at e.database name key) quiet, whole.2.touched name key, whole.2.untouched name key, before.earlier name key);
          untouched = λ name key none.
              grind (arith, over-same name key, record-touched (later ++ start) session name key, not-since later name key, whole.2.untouched name key, before.untouched name key);
        }

    left-after : (later : List (Event A)) → IsSteady session later start → HoldsFirst database session later start → BlobsFitPast (later ++ start) → Left later
    left-after [] steady holds fits = start-left
    left-after (event ∷ later) steady holds fits =
        let before = left-after later steady.2 (holds-before event later steady holds) fits.1 in
        elim (is_restart event) as (λ b. is_restart event ≡ b → Left (event ∷ later)) [
          | true ↦ λ restarted. restart-left event later steady holds before restarted (rises (later ++ start) fits.1)
          | false ↦ other-left event later steady holds before
        ] refl

    -- where the last of the events is a restart
    pub in_a_row : (event : Event A) (later : List (Event A)) → is_restart event ≡ true → IsSteady session (event ∷ later) start
        → HoldsFirst database session (event ∷ later) start → BlobsFitPast (event ∷ later ++ start)
        → (left : Tables A) × AppliesEach blob_of policy (captures session (event ∷ later) start) database left × HasRowsNow left session (event ∷ later) start
    in_a_row event later restarted steady holds fits =
        let found = left-after (event ∷ later) steady holds fits in
        (found.left, found.applied, λ name key image is. found.earlier name key (ap is_some is) (grind (arith, since-more event later name key)))
