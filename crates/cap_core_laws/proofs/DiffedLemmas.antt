-- A capture after a diff, applied to the database that was compared with, gives main's rows of the table.
use Rattle.std.proofs.Common.{◌≡◌, ℕ, Bool, true, false, cond, Option, Some, None, Result, Ok, Err, List, [], ◌∷◌, ◌++◌, ◌&&◌, ◌||◌, map, refl, sym, ap, subst, ◌∙◌, arith}
use Rattle.std.specs.Prelude.{is_some}
use Rattle.std.specs.Option.{option_map, unwrap_or}
use Rattle.std.proofs.lemmas.List.Folds.{list_any-append}
use Rattle.std.specs.Cmp.Lexicographic.{bytes_decides, nat_list_eq_equiv}
use Rattle.cap_value.specs.Bytes.{bytes_cmp, bytes_eq}
use Rattle.cap_value.specs.declared.refusal.Refusal.{Refusal}
use Rattle.cap_row.specs.Fields.{Fields}
use Rattle.cap_row.specs.Key.{fields_cmp}
use Rattle.cap_row.specs.Schema.{has_key}
use Rattle.cap_tree.specs.Tree.{IsOrdered, get}
use Rattle.cap_table.specs.Table.{TableState}
use Rattle.cap_database.specs.Snapshot.{SnapshotState}
use Rattle.cap_database.specs.Read.{row_at}
use Rattle.cap_database.specs.Tables.{AreRising, Tables, schema_of, table_of}
use Rattle.cap_apply.specs.Captured.{AllBefore, GivesAllRowsNow, TableRows, changes_of as group_of_rows}
use Rattle.cap_apply.specs.declared.policy.Policy.{Policy}
use Rattle.cap_changes.specs.Group.{TableChanges}
use Rattle.cap_codec.specs.declared.read.Contents.{Contents}
use Rattle.cap_compare.specs.Compare.{AreDifferences, compare, differences, image_at, image_of}
use Rattle.cap_compare.specs.declared.difference.Difference.{Difference}
use Rattle.cap_session.proofs.RecordLemmas.{get-put}
use Rattle.cap_session.proofs.TableLemmas.{listed}
use Rattle.cap_session.specs.declared.record.Record.{Record}
use Rattle.cap_session.specs.Recording.{record_commit, touch_table, touches_found}
use Rattle.cap_session.specs.Records.{Records, Touch as RowTouch, record_after, touch, with_touches}
use Rattle.cap_session.specs.Session.{AttachedTables, SessionState, attach, forget, record_of, records_of as attached_records}
use Rattle.cap_session.specs.Sessions.{session_numbered}
use Rattle.cap_core.specs.declared.command.Command.{Command}
use Rattle.cap_core.specs.declared.session_command.SessionCommand.{SessionCommand}
use Rattle.cap_core.specs.declared.session_command.SessionCommand.TheVariants.{Attach, Change, Diff}
use Rattle.cap_core.specs.declared.event.Event.{Event}
use Rattle.cap_core.specs.declared.reply.Reply.TheVariants.{Capture as Captured}
use Rattle.cap_core.specs.Answer.{answer, capture_after, diffed, session_answer, state_after}
use Rattle.cap_core.specs.Diff.{diff}
use Rattle.cap_core.specs.AppliedCapture.{AppliesRows, AreQuiet, GivesRows, HoldsImages, IsDiffed, changes_in, renews}
use Rattle.cap_core.specs.Capture.{CaptureState}
use Rattle.cap_core.specs.Flags.{command_to, is_indirect}
use Rattle.cap_core.specs.History.{Databases, event_effect, is_write, main, saved, snapshot}
use Rattle.cap_core.specs.Outcome.{no_effect, outcome}
use Rattle.cap_core.specs.Past.{Past, is_accepted}
use Rattle.cap_core.specs.Session.{session_of, sessions}
use Rattle.cap_core.specs.Transition.{compared, session_left}
use Rattle.cap_core_laws.proofs.AppliedCaptureLemmas.{captured, changes_apply, found-rising}
use Rattle.cap_core.proofs.KeyedLemmas.{ordered}
use Rattle.cap_core.proofs.ChangeLemmas.{is_changed}
use Rattle.cap_core.proofs.DiffLemmas.{WasCompared, was_compared}
use Rattle.cap_core.proofs.SessionLemmas.{and_false, record_commit-nothing, session-refused, shown-none}
use Rattle.cap_core.proofs.FlagLemmas.{left_by, session-of-command, session_after}
use Rattle.cap_core.proofs.ToldLemmas.{to_itself}
use Rattle.cap_core.proofs.TouchedLemmas.{fields_same, tied}

module _ {A : Type 0} where
  -- ---- records after touches

  abbrev pub image_in : Option (Record A) → Option (Option (Fields A))
  image_in kept = option_map (λ r. r.image) kept

  -- the earlier image, where there is one
  abbrev pub sooner : Option (Option (Fields A)) → Option (Option (Fields A)) → Option (Option (Fields A))
  sooner None later = later
  sooner (Some image) later = Some image

  images-after : (indirect : Bool) (ds : List (Difference A)) (records : Records A) (key : Fields A)
      → image_in (get fields_cmp (with_touches records (touches_found indirect ds)) key) ≡ sooner (image_in (get fields_cmp records key)) (get fields_cmp (map image_of ds) key)
  images-after indirect [] records key = grind arith
  images-after indirect (d ∷ ds) records key =
      let t : RowTouch A = record { key = d.key; image = d.image; indirect = indirect } in
      grind (arith, images-after indirect ds (touch records t) key, get-put records d.key (record_after (get fields_cmp records d.key) d.image indirect) key, tied fields_cmp key d.key fields_same)

  -- ---- attached tables

  attached-append : (tables : AttachedTables A) (name other : List ℕ)
      → attached_records (tables ++ (name, []) ∷ []) other ≡ cond (is_some (attached_records tables other)) (attached_records tables other) (cond (bytes_eq other name) (Some []) None)
  attached-append [] name other = refl
  attached-append (first ∷ tables) name other = grind (arith, attached-append tables name other)

  record-attach : (name : List ℕ) (tables : AttachedTables A) (other : List ℕ) (key : Fields A) → record_of (attach name tables) other key ≡ record_of tables other key
  record-attach name tables other key = grind (arith, attached-append tables name other)

  touched-records : (name : List ℕ) (touches : List (RowTouch A)) (tables : AttachedTables A) (other : List ℕ)
      → attached_records (touch_table name touches tables) other ≡ option_map (λ records. cond (bytes_eq name other) (with_touches records touches) records) (attached_records tables other)
  touched-records name touches [] other = refl
  touched-records name touches (first ∷ tables) other = grind (arith, (bytes_decides other first.0).0, touched-records name touches tables other)

  -- ---- events that neither write nor renew

  leaves-tables : (now : SnapshotState A) (c : Command A) → is_write c ≡ false → outcome now c ≡ Ok (no_effect now.database)
  leaves-tables now c writes = grind arith

  pub quiet-effect : (past : Past A) (event : Event A) → (is_accepted event.reply && is_write event.command) ≡ false → event_effect (snapshot past) event ≡ no_effect (main past)
  quiet-effect past event quiet = grind (arith, leaves-tables (snapshot past) event.command)

  -- what a session has of a key stays, where a command to it does not renew it
  left-records : (told : SessionCommand A) (tables : Tables A) (databases : Databases A) (s : SessionState A) (name : List ℕ) (key : Fields A) → renews (Some told) ≡ false
      → record_of (unwrap_or (session_left tables databases told s) s).tables name key ≡ record_of s.tables name key
  left-records (Attach table) tables databases s name key renewed = record-attach table s.tables name key
  left-records (Change change) tables databases s name key renewed =
      ap (λ tables. record_of tables name key) ((is_changed change s).tables ∙ ap (λ b. cond b (forget s.tables) s.tables) renewed)
  left-records (Diff from table) tables databases s name key renewed = cc
  left-records _ tables databases s name key renewed = refl

  -- the same of any command that does not write
  record-after-command : (session : ℕ) (c : Command A) (now : SnapshotState A) (databases : Databases A) (s : SessionState A) (name : List ℕ) (key : Fields A) → is_write c ≡ false → renews (command_to session c) ≡ false
      → record_of (session_after session c now databases s).tables name key ≡ record_of s.tables name key
  record-after-command session c now databases s name key writes renewed =
      grind (arith, λ (told : SessionCommand A). left-records told now.database databases s name key, leaves-tables now c writes, shown-none session c [] refl, record_commit-nothing s)

  quiet-record : (session : ℕ) (past : Past A) (event : Event A) (name : List ℕ) (key : Fields A) → (is_accepted event.reply && (is_write event.command || renews (command_to session event.command))) ≡ false
      → record_of (session_of (event ∷ past) session).tables name key ≡ record_of (session_of past session).tables name key
  quiet-record session past event name key quiet =
      grind (arith, session-of-command past event session, session-refused session event past, record-after-command session event.command (snapshot past) (saved past) (session_of past session) name key)

  later-main : (session : ℕ) (past : Past A) (later : List (Event A)) → AreQuiet session later → main (later ++ past) ≡ main past
  later-main session past [] quiet = refl
  later-main session past (event ∷ later) quiet =
      ap (λ e. e.database) (quiet-effect (later ++ past) event (grind (arith, quiet.0))) ∙ later-main session past later quiet.1

  later-record : (session : ℕ) (past : Past A) (later : List (Event A)) → AreQuiet session later → (name : List ℕ) (key : Fields A)
      → record_of (session_of (later ++ past) session).tables name key ≡ record_of (session_of past session).tables name key
  later-record session past [] quiet name key = refl
  later-record session past (event ∷ later) quiet name key = quiet-record session (later ++ past) event name key quiet.0 ∙ later-record session past later quiet.1 name key

  -- ---- the diff

  image-none : (first last : Option (Fields A)) → image_at first last ≡ None → first ≡ last
  image-none (Some old) (Some new) is = grind (arith, tied fields_cmp old new fields_same)
  image-none first last is = grind arith

  -- a diff that is accepted was made
  record WasMade (main : Tables A) (databases : Databases A) (from name : List ℕ) (database : Tables A) (table : TableState A) : Type 0 where
    ds : List (Difference A)
    is : diff main databases from name ≡ Ok (Some ds)
    made : compare (table_of database name) table ≡ Ok ds

  was_made : (main : Tables A) (databases : Databases A) (from name : List ℕ) (database : Tables A) (table : TableState A) (session : Option (SessionState A))
      → get bytes_cmp databases from ≡ Some database → table_of main name ≡ Some table → has_key table.schema ≡ true → is_accepted (session_answer session (λ _. diffed (diff main databases from name))) ≡ true
      → WasMade main databases from name database table
  was_made main databases from name database table session saved_is there keyed accepted = inner (compare (table_of database name) table) refl
    where
      inner : (r : Result (List (Difference A)) Refusal) → compare (table_of database name) table ≡ r → WasMade main databases from name database table
      inner (Ok ds) is = record { ds = ds; is = grind arith; made = is }
      inner (Err why) is = let clash : true ≡ false = grind arith in cc

  module _ (past : Past A) (event : Event A) (session : ℕ) (name : List ℕ) (database : Tables A) (table : TableState A) (d : IsDiffed past event session name database table) where
    made : WasMade (main past) (saved past) d.from name database table
    made =
        was_made (main past) (saved past) d.from name database table (session_numbered (sessions past) session) d.database_is d.there d.keyed
        (ap (λ c. is_accepted (answer (state_after past) c)) (sym d.diffs) ∙ ap is_accepted (sym d.replied) ∙ d.accepted)

    two : WasCompared database name table made.ds
    two = was_compared database name table made.ds (table_of database name) refl made.made

    abbrev after : AttachedTables A
    after = (session_of (event ∷ past) session).tables

    after-is : after ≡ touch_table name (touches_found (is_indirect session past) made.ds) (attach name (session_of past session).tables)
    after-is =
        ap (λ s. s.tables) (session-of-command past event session d.accepted
        ∙ ap (λ c. session_after session c (snapshot past) (saved past) (session_of past session)) d.diffs
        ∙ ap (λ told. left_by told (main past) (saved past) (session_of past session) (record_commit [] (session_of past session))) (to_itself session (Diff d.from name))
        ∙ ap (λ r. compared name r (session_of past session)) made.is)

    module _ (law : (from to : List (Fields A × Fields A)) → IsOrdered fields_cmp from → IsOrdered fields_cmp to → AreDifferences from to (differences from to))
        (rise : AreRising database) (main_rise : AreRising (main past)) where
      image-is : (key : Fields A) → image_in (record_of after name key) ≡ image_at (get fields_cmp two.first.keyed key) (get fields_cmp table.keyed key)
      image-is key =
          ap (λ tables. image_in (record_of tables name key)) after-is
          ∙ grind (arith, touched-records name (touches_found (is_indirect session past) made.ds) (attach name (session_of past session).tables) name, listed name (attach name (session_of past session).tables), list_any-append (λ (attached : List ℕ × Records A). bytes_eq name attached.0) (session_of past session).tables ((name, []) ∷ []), record-attach name (session_of past session).tables name key, d.empty name key, nat_list_eq_equiv.refl name, λ (records : Records A). images-after (is_indirect session past) made.ds records key)
          ∙ ap (λ ds. get fields_cmp (map image_of ds) key) two.is
          ∙ (law two.first.keyed table.keyed (ordered fields_cmp two.first.keyed (found-rising database name two.first rise.each two.there).keys)
          (ordered fields_cmp table.keyed (found-rising (main past) name table main_rise.each d.there).keys)).each key

      -- a key that is touched is one of the table
      touched-here : (other : List ℕ) (key : Fields A) (kept : Record A) → record_of after other key ≡ Some kept → name ≡ other
      touched-here other key kept at = grind (arith, (bytes_decides name other).0, ap (λ tables. record_of tables other key) after-is, touched-records name (touches_found (is_indirect session past) made.ds) (attach name (session_of past session).tables) other, record-attach name (session_of past session).tables other key, d.empty other key)

      module _ (later : List (Event A)) (quiet : AreQuiet session later) where
        main-is : main (later ++ event ∷ past) ≡ main past
        main-is =
            later-main session (event ∷ past) later quiet
            ∙ ap (λ e. e.database) (quiet-effect past event (ap (λ c. is_accepted event.reply && is_write c) d.diffs ∙ and_false (is_accepted event.reply)))

        record-is : (other : List ℕ) (key : Fields A) → record_of (session_of (later ++ event ∷ past) session).tables other key ≡ record_of after other key
        record-is other key = later-record session (event ∷ past) later quiet other key

        holds : HoldsImages database (main (later ++ event ∷ past)) (session_of (later ++ event ∷ past) session).tables
        holds = record {
          columns = λ other key kept at.
              let same = touched-here other key kept (sym (record-is other key) ∙ at) in (
                two.first.schema,
                ap (schema_of database) (sym same) ∙ ap (option_map (λ t. t.schema)) two.there,
                (λ i. schema_of (main-is i) (sym same i)) ∙ ap (option_map (λ t. t.schema)) d.there ∙ ap Some (sym two.same),
              );
          images = λ other key kept at.
              grind (arith, touched-here other key kept (sym (record-is other key) ∙ at), record-is other key, image-is key, two.there);
        }

        all-rows : (left : Tables A) → GivesRows database (main (later ++ event ∷ past)) left (session_of (later ++ event ∷ past) session).tables
            → (key : Fields A) → row_at left name key ≡ row_at (main (later ++ event ∷ past)) name key
        all-rows left gives key =
            grind (arith, gives.touched name key, gives.untouched name key, image-none (get fields_cmp two.first.keyed key) (get fields_cmp table.keyed key), image-is key, record-is name key, two.there, d.there, ap (λ tables. row_at tables name key) main-is)

        -- the session's capture, as a changeset or as a patchset
        pub diff-applies : (blob_of : List (TableChanges A) → Contents A)
            → ((policy : Policy) (ts : List (TableRows A)) (tables : Tables A) → AllBefore ts tables → GivesAllRowsNow policy ts (blob_of (map group_of_rows ts)) tables)
            → (policy : Policy) (capture : CaptureState A) → capture_after (later ++ event ∷ past) session ≡ Captured capture
            → AppliesRows policy (blob_of capture.changes) (changes_in capture.changes) database (main (later ++ event ∷ past)) name
        diff-applies blob_of gives policy capture is =
            let whole = changes_apply (later ++ event ∷ past) session database rise (subst AreRising (sym main-is) main_rise) holds blob_of gives policy capture.changes (captured (later ++ event ∷ past) session capture is) in
            (whole.0, whole.1, all-rows whole.0.database whole.2, whole.3)
