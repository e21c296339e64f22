-- The image of each touch of a session is a row of its table, under the key, or there is none.
use Rattle.std.proofs.Common.{◌≡◌, ℕ, Bool, true, false, cond, Option, Some, None, Result, Ok, Err, List, [], ◌∷◌, ◌++◌, ◌&&◌, ◌||◌, length, IfOk, refl, sym, ap, subst, ◌∙◌}
use Rattle.std.specs.Prelude.{filter, map, option_and_then}
use Rattle.std.specs.List.{AllByRecursion, cons_option, filter_map, list_all}
use Rattle.std.specs.Option.{option_map}
use Rattle.std.specs.Ordering.{eq_by_cmp}
use Rattle.std.specs.Cmp.Lexicographic.{bytes_decides}
use Rattle.cap_value.specs.Bytes.{bytes_cmp, bytes_eq}
use Rattle.cap_value.specs.declared.refusal.Refusal.{Refusal}
use Rattle.cap_row.specs.Fields.{Fields}
use Rattle.cap_row.specs.Key.{fields_cmp, fields_eq_decides, is_key, key_fields, key_of}
use Rattle.cap_row.specs.Schema.{has_key}
use Rattle.cap_tree.specs.Tree.{get}
use Rattle.cap_table.specs.Table.{TableState}
use Rattle.cap_compare.specs.Compare.{compare}
use Rattle.cap_compare.specs.declared.difference.Difference.{Difference}
use Rattle.cap_database.specs.Operation.{run}
use Rattle.cap_database.specs.Read.{row_at}
use Rattle.cap_database.specs.Tables.{AreRising, Tables, create, schema_of, table_of}
use Rattle.cap_database.specs.declared.change.Change.{Change}
use Rattle.cap_database.specs.declared.op.Op.{Op}
use Rattle.cap_session.specs.Recording.{is_cascade}
use Rattle.cap_group.specs.Rows.{IsRowUnder}
use Rattle.cap_core.specs.declared.session_command.SessionCommand.{SessionCommand}
use Rattle.cap_core.specs.declared.session_command.SessionCommand.TheVariants as to_session
use Rattle.cap_core.specs.declared.event.Event.{Event}
use Rattle.cap_core.specs.CanCapture.{is_own_image}
use Rattle.cap_core.specs.Diff.{compared, diff, diff_from, diff_to}
use Rattle.cap_core.specs.Flags.{command_to, is_enabled, is_indirect}
use Rattle.cap_core.specs.History.{main, saved, snapshot}
use Rattle.cap_core.specs.Past.{Past, is_accepted}
use Rattle.cap_core_laws.specs.Restarts.{first_touched}
use Rattle.cap_core.specs.Table.{BlobsFitPast}
use Rattle.cap_core.specs.Touch.{Touch, attachings, changes_touch, diff_by, diff_touches, event_changes, event_diff, event_touches, found_in, is_recorded, restarts, touch_found, touch_of, touches, touches_of}
use Rattle.cap_core.proofs.DiffLemmas.{compared-stand}
use Rattle.cap_core_laws.proofs.SavedLemmas.{found-rises}
use Rattle.cap_core.proofs.SmallLemmas.{first, second}
use Rattle.cap_core.proofs.SoundLemmas.{image-IsKeyedRow, is_keyed_row-key_of, is_keyed_row-wide}
use Rattle.cap_core_laws.proofs.StayLemmas.{event-keeps}
use Rattle.cap_captures.proofs.CaptureLemmas.{row-under}
use Rattle.cap_captures.proofs.ConcatLemmas.{some_same}
use Rattle.cap_captures.proofs.RecordLemmas.{all-append, all-turn}

-- ---- lists

all-made : {X Y : Type 0} (P : Y → Type 0) (f : X → Option Y) → ((x : X) (y : Y) → f x ≡ Some y → P y) → (xs : List X) → AllByRecursion P (filter_map f xs)
all-made P f says [] = tt
all-made P f says (x ∷ xs) = inner (f x) refl (all-made P f says xs)
  where
    inner : (o : Option _) → f x ≡ o → AllByRecursion P (filter_map f xs) → AllByRecursion P (cons_option o (filter_map f xs))
    inner None is rest = rest
    inner (Some y) is rest = (says x y is, rest)

all-filtered : {X : Type 0} (P : X → Type 0) (test : X → Bool) (xs : List X) → AllByRecursion P xs → AllByRecursion P (filter test xs)
all-filtered P test [] all = tt
all-filtered P test (x ∷ xs) all =
    let rest = all-filtered P test xs all.1 in
    elim (test x) as (λ b. AllByRecursion P (cond b (x ∷ filter test xs) (filter test xs))) [
      | true ↦ (all.0, rest)
      | false ↦ rest
    ]

all-passed : {X Y : Type 0} (P : Y → Type 0) (test : X → Bool) (f : X → Y) → ((x : X) → test x ≡ true → P (f x)) → (xs : List X) → list_all test xs ≡ true → AllByRecursion P (map f xs)
all-passed P test f says [] all = tt
all-passed P test f says (x ∷ xs) all = (says x (first (test x) (list_all test xs) all), all-passed P test f says xs (second (test x) (list_all test xs) all))

module _ {A : Type 0} where
  -- a row of a table, under the key
  abbrev pub IsRowOf : Tables A → List ℕ → Fields A → Fields A → Type 0
  IsRowOf tables name key row = (flags : List Bool) × (schema_of tables name ≡ Some flags) × IsRowUnder flags key row

  pub no-row : (tables : Tables A) (name : List ℕ) (key : Fields A) → schema_of tables name ≡ None → row_at tables name key ≡ None
  no-row tables name key none =
      elim (table_of tables name) as (λ o. option_map (λ (t : TableState A). t.schema) o ≡ None → option_and_then (λ (t : TableState A). get fields_cmp t.keyed key) o ≡ None) [
        | None ↦ λ _. refl
        | Some table ↦ λ e. cc
      ] none

  row-of : (tables : Tables A) → AreRising tables → (name : List ℕ) (key row : Fields A) → row_at tables name key ≡ Some row → IsRowOf tables name key row
  row-of tables rise name key row is =
      elim (schema_of tables name) as (λ o. schema_of tables name ≡ o → IsRowOf tables name key row) [
        | Some flags ↦ λ known. (flags, known, row-under tables rise name flags key known row is)
        | None ↦ λ none. let clash : None ≡ Some row = sym (no-row tables name key none) ∙ is in cc
      ] refl

  -- ---- touches

  abbrev pub Stands : Tables A → Touch A → Type 0
  Stands tables touch = (row : Fields A) → touch.image ≡ Some row → IsRowOf tables touch.table touch.key row

  abbrev pub AllStand : Tables A → List (Touch A) → Type 0
  AllStand tables ts = AllByRecursion (Stands tables) ts

  -- so does the image of the first touch of a row
  pub first-stands : (tables : Tables A) (ts : List (Touch A)) → AllStand tables ts → (name : List ℕ) (key : Fields A) (image : Option (Fields A)) → first_touched ts name key ≡ Some image
      → (row : Fields A) → image ≡ Some row → IsRowOf tables name key row
  first-stands tables [] all name key image is row at = cc
  first-stands tables (t ∷ ts) all name key image is row at =
      let others = touches_of name ts in
      elim (bytes_eq name t.table) as (λ b. bytes_eq name t.table ≡ b
      → option_map (λ touch. touch.image) (get fields_cmp (map (λ (touch : Touch A). (touch.key, touch)) (cond b (t ∷ filter (λ touch. bytes_eq name touch.table) ts) (filter (λ touch. bytes_eq name touch.table) ts))) key) ≡ Some image
      → IsRowOf tables name key row) [
        | true ↦ λ named e. elim (eq_by_cmp fields_cmp key t.key) as (λ b. eq_by_cmp fields_cmp key t.key ≡ b → option_map (λ (touch : Touch A). touch.image) (cond b (Some t) (get fields_cmp others key)) ≡ Some image → IsRowOf tables name key row) [
          | true ↦ λ same e.
              let here : IsRowOf tables t.table t.key row = all.0 row (some_same e ∙ at) in
              let named_same : IsRowOf tables name t.key row = subst (λ n. IsRowOf tables n t.key row) (sym ((bytes_decides name t.table).0 named)) here in
              subst (λ k. IsRowOf tables name k row) (sym ((fields_eq_decides key t.key).0 same)) named_same
          | false ↦ λ _ e. first-stands tables ts all.1 name key image e row at
        ] refl e
        | false ↦ λ _ e. first-stands tables ts all.1 name key image e row at
      ] refl is

  module _ (runs_keep : (tables : Tables A) (ops : List (Op A)) → IfOk (run tables ops) (λ left. (other : List ℕ) → schema_of left.database other ≡ schema_of tables other))
      (creates_keep : (tables : Tables A) (other : List ℕ) (schema : List Bool) → IfOk (create tables other schema) (λ after. (table : List ℕ) (columns : List Bool) → schema_of tables table ≡ Some columns → schema_of after table ≡ Some columns))
      (rises : (past : Past A) → BlobsFitPast past → AreRising (main past)) where
    -- an event keeps the columns
    kept : (event : Event A) (past : Past A) (touch : Touch A) → Stands (main past) touch → Stands (main (event ∷ past)) touch
    kept event past touch stands row is =
        let here = stands row is in
        (here.0, (event-keeps touch.table [] runs_keep creates_keep (snapshot past) event).columns here.0 here.1, here.2)

    -- ---- the touches by changes

    module _ (session : ℕ) (past : Past A) (fits : BlobsFitPast past) where
      abbrev touched_by : ℕ × Change A → Fields A → Touch A
      touched_by change key = record {
        event = length past;
        change = change.0;
        table = change.1.table;
        key = key;
        image = row_at (main past) change.1.table key;
        indirect = is_indirect session past || is_cascade change.1.cause;
      }

      changed-stands : (change : ℕ × Change A) (touch : Touch A) → touch_of session past change ≡ Some touch → Stands (main past) touch
      changed-stands change touch is =
          elim change.1.key as (λ o. option_map (touched_by change) o ≡ Some touch → Stands (main past) touch) [
            | None ↦ λ e. cc
            | Some key ↦ λ e. subst (Stands (main past)) (some_same e) (λ row at. row-of (main past) (rises past fits) change.1.table key row at)
          ] is

      changes-stand : (event : Event A) → AllStand (main past) (changes_touch session event past)
      changes-stand event =
          let found = filter_map (touch_of session past) (event_changes session event past) in
          let recorded = filter (is_recorded (attachings session (event ∷ past))) found in
          elim (is_enabled session past) as (λ b. AllStand (main past) (cond b recorded [])) [
            | true ↦ all-filtered (Stands (main past)) (is_recorded (attachings session (event ∷ past))) found (all-made (Stands (main past)) (touch_of session past) changed-stands (event_changes session event past))
            | false ↦ tt
          ]

      -- ---- the touches by a diff

      key-from : (flags : List Bool) (row key : Fields A) → key_of flags row ≡ Some key → key_fields flags row ≡ key
      key-from flags row key is =
          elim (is_key (key_fields flags row)) as (λ b. cond b (Some (key_fields flags row)) None ≡ Some key → key_fields flags row ≡ key) [
            | true ↦ λ e. some_same e
            | false ↦ λ e. cc
          ] is

      difference-stands : (name : List ℕ) (flags : List Bool) → schema_of (main past) name ≡ Some flags → (d : Difference A) → is_own_image (Some flags) d.key d.image ≡ true → Stands (main past) (touch_found session past name d)
      difference-stands name flags known d stands row is =
          let own = image-IsKeyedRow flags d.key d.image row stands is in
          (flags, known, record { wide = is_keyed_row-wide flags d.key row own; under = key-from flags row d.key (is_keyed_row-key_of flags d.key row own) })

      -- the differences that a diff found
      compared-with : (database : Option (Tables A)) (from name : List ℕ) → get bytes_cmp (saved past) from ≡ database → (table : TableState A) → table_of (main past) name ≡ Some table → (ds : List (Difference A))
          → diff_from database name table ≡ Ok (Some ds) → AllStand (main past) (map (touch_found session past name) ds)
      compared-with None from name at table there ds is = cc
      compared-with (Some database) from name at table there ds is =
          all-passed (Stands (main past)) (λ d. is_own_image (Some table.schema) d.key d.image) (touch_found session past name)
          (difference-stands name table.schema (ap (option_map (λ (t : TableState A). t.schema)) there)) ds
          (compared-stand database name table ds (found-rises rises past fits from database at).each (made (compare (table_of database name) table) is))
        where
          made : (r : Result (List (Difference A)) Refusal) → compared r ≡ Ok (Some ds) → r ≡ Ok ds
          made (Ok found) e = cc
          made (Err why) e = cc

      diff-stands : (from name : List ℕ) (ds : List (Difference A)) → diff (main past) (saved past) from name ≡ Ok (Some ds) → AllStand (main past) (map (touch_found session past name) ds)
      diff-stands from name ds is =
          elim (table_of (main past) name) as (λ o. table_of (main past) name ≡ o → diff_to (get bytes_cmp (saved past) from) name o ≡ Ok (Some ds) → AllStand (main past) (map (touch_found session past name) ds)) [
            | None ↦ λ _ e. cc
            | Some table ↦ λ there e.
                elim (has_key table.schema) as (λ b. cond b (diff_from (get bytes_cmp (saved past) from) name table) (Ok None) ≡ Ok (Some ds) → AllStand (main past) (map (touch_found session past name) ds)) [
                  | true ↦ λ found. compared-with (get bytes_cmp (saved past) from) from name refl table there ds found
                  | false ↦ λ found. cc
                ] e
          ] refl is

      abbrev AreFound : Option (List ℕ × List (Difference A)) → Type 0
      AreFound found = AllStand (main past) (diff_touches session past found)

      found-stand : (from name : List ℕ) (r : Result (Option (List (Difference A))) Refusal) → diff (main past) (saved past) from name ≡ r → AreFound (found_in name r)
      found-stand from name (Ok None) is = tt
      found-stand from name (Ok (Some ds)) is = diff-stands from name ds is
      found-stand from name (Err why) is = tt

      by-stand : (c : Option (SessionCommand A)) → AreFound (diff_by c past)
      by-stand (Some (to_session.Diff from name)) = found-stand from name (diff (main past) (saved past) from name) refl
      by-stand _ = tt

      event-stands : (event : Event A) → AllStand (main past) (event_touches session event past)
      event-stands event =
          all-append (Stands (main past)) (changes_touch session event past) (diff_touches session past (event_diff session event past)) (changes-stand event)
          (elim (is_accepted event.reply) as (λ b. AreFound (cond b (diff_by (command_to session event.command) past) None)) [
            | true ↦ by-stand (command_to session event.command)
            | false ↦ tt
          ])

    -- ---- all touches

    pub touches-stand : (session : ℕ) (past : Past A) → BlobsFitPast past → AllStand (main past) (touches session past)
    touches-stand session [] fits = tt
    touches-stand session (event ∷ past) fits =
        let before = touches session past ++ event_touches session event past in
        elim (is_accepted event.reply && restarts (command_to session event.command)) as (λ b. AllStand (main (event ∷ past)) (cond b [] before)) [
          | true ↦ tt
          | false ↦ all-turn (Stands (main past)) (Stands (main (event ∷ past))) (kept event past) before
              (all-append (Stands (main past)) (touches session past) (event_touches session event past) (touches-stand session past fits.1) (event-stands session past fits.1 event))
        ]
