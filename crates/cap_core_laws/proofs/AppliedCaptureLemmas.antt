-- The captures of a session: where it has records, what a capture gives that is applied to a database with the first
-- images, and what its bytes are read as.
use Rattle.std.proofs.Common.{◌≡◌, ℕ, ◌+◌, Bool, true, false, cond, Option, Some, None, List, [], ◌∷◌, map, length, refl, sym, ap, ap₂, subst, ◌∙◌, arith, ◌≤◌, nat_eq, Result, Ok}
use Rattle.std.specs.Prelude.{filter, is_some, not, option_and_then, All}
use Rattle.std.specs.Option.{option_map}
use Rattle.std.specs.List.{cons_option, filter_map, list_any, list_all}
use Rattle.std.specs.List.Sorted.{IsStrictlySortedBy}
use Rattle.std.specs.Ordering.{eq_by_cmp, is_eq}
use Rattle.std.specs.Cmp.Lexicographic.{bytes_decides}
use Rattle.std.proofs.lemmas.Bool.{cond_both}
use Rattle.std.proofs.lemmas.Bool.Decides.{nat_tests}
use Rattle.std.proofs.lemmas.List.{length-map}
use Rattle.std.proofs.lemmas.List.Sums.{sum_by-cons}
use Rattle.std.proofs.lemmas.Map.Views.{any-filter_same}
use Rattle.cap_value.specs.Bytes.{bytes_eq}
use Rattle.cap_row.specs.Fields.{Fields}
use Rattle.cap_row.specs.Key.{fields_cmp, fields_cmp-Equal}
use Rattle.cap_changes.specs.Change.{change_of}
use Rattle.cap_changes.specs.Group.{TableChanges}
use Rattle.cap_changes.specs.declared.row_change.RowChange.{RowChange}
use Rattle.cap_tree.proofs.EntryLemmas.{get-below}
use Rattle.cap_tree.specs.Tree.{IsOrdered, get}
use Rattle.cap_table.proofs.BackLemmas.{found-own}
use Rattle.cap_table.specs.Sound.{IsRising}
use Rattle.cap_table.specs.Table.{TableState}
use Rattle.cap_database.specs.Read.{row_at}
use Rattle.cap_database.specs.Tables.{AreRising, Tables, schema_of, table_of}
pub use Rattle.cap_apply.proofs.OrderLemmas.{found-rises as found-rising}
use Rattle.cap_codec.specs.declared.read.Contents.{Contents}
use Rattle.cap_apply.specs.Captured.{AllAfter, AllBefore, AllDiffer, AreOthers, GivesAllRowsNow, TableRows, changes_of as group_of_rows, total}
use Rattle.cap_apply.specs.declared.policy.Policy.{Policy}
use Rattle.cap_apply.specs.Fitting.{FitsItsColumns}
use Rattle.cap_apply.specs.Difference.{AreApart, Difference, HoldAfter, HoldBefore, IsUnder}
use Rattle.cap_session.specs.declared.record.Record.{Record}
use Rattle.cap_session.specs.Records.{Records}
use Rattle.cap_session.specs.Session.{AttachedTables, record_of, records_of as attached_records, stored}
use Rattle.cap_core.specs.declared.reply.Reply.TheVariants.{Capture as Captured, Flag}
use Rattle.cap_core.specs.Capture.{CaptureState, change_now, changes_of, group_of, session_changes, table_changes}
use Rattle.cap_core.specs.Answer.{capture_after, answer, refusal, session_answer, session_reply, state_after}
use Rattle.cap_core.specs.AppliedCapture.{AppliesWhole, GivesRows, HoldsImages, but_keyed, changes_in}
use Rattle.cap_core.specs.History.{main, version}
use Rattle.cap_core.specs.Past.{Past}
use Rattle.cap_core.specs.Session.{session_of, records_of, sessions}
use Rattle.cap_core.specs.Touch.{attach_list, attachings, first_of_each, touches, touches_of, Touch}
use Rattle.cap_core.proofs.HistoryLemmas.{is_among, same_bytes, table_names, touches-none}
use Rattle.cap_core.proofs.KeyedLemmas.{ordered, each_passes}
use Rattle.cap_core.proofs.LawLemmas.{no_changes, truth, first_image}
use Rattle.cap_core.proofs.SessionLemmas.{kept}
use Rattle.cap_core.proofs.TouchedLemmas.{fields_same, is_sorted-records_of, tied, records_of-none}
use Rattle.std.specs.Map.{lookup}
use Rattle.cap_value.specs.declared.refusal.Refusal.TheVariants.{NoSession}
use Rattle.cap_session.specs.Sessions.{session_numbered}
use Rattle.cap_core.specs.declared.command.Command.TheVariants.{Session}
use Rattle.cap_core.specs.declared.session_command.SessionCommand.TheVariants.{IsEmpty}
use Rattle.cap_core.specs.Flags.{live_sessions}
use Rattle.cap_core.proofs.NumberLemmas.{equal_numbers}
use Rattle.std.proofs.lemmas.List.Elements.{All-head, All-map, All-tail, All-weaker}
use Rattle.cap_changes.specs.Fits.{change_fits, patch_fits}
use Rattle.cap_changes.specs.PatchGroup.{TablePatches}
use Rattle.cap_changes.specs.Patch.{patch_list_of, patch_of, patches_of}
use Rattle.cap_changes.proofs.PatchLemmas.{patch_of-fits}
use Rattle.cap_changes.proofs.ValueLemmas.{patch_values}
use Rattle.cap_codec.specs.BlobReading.{blob_at}
use Rattle.cap_codec.specs.Changeset.{list_bytes_with}
use Rattle.cap_codec.specs.Patchset.{patch_list_bytes_with}
use Rattle.cap_field.specs.declared.fault.BlobFault.{BlobFault}
use Rattle.cap_codec.specs.declared.key_flags.KeyFlags.{KeyFlags}
use Rattle.cap_codec.specs.declared.read.Contents.TheVariants.{Changes, Patches}
use Rattle.cap_changes.specs.HasValues.{HasValues, PatchHasValues}
use Rattle.cap_codec.specs.Writable.{HasNoEmptyGroup, IsGroup, IsPatchGroup, IsWritable, blob_bytes_with, has_some, of_patches, with_some}
use Rattle.cap_apply.specs.Apply.{apply}

-- what is found under a key, where each key has its own under it
pub lookup-listed : {K X : Type 0} (eq : K → K → Bool) → ((a b : K) → eq a b ≡ true → a ≡ b) → (f : K → X) (k : K) (ks : List K) → lookup (eq k) (map (λ j. (j, f j)) ks) ≡ cond (list_any (eq k) ks) (Some (f k)) None
lookup-listed eq same f k [] = refl
lookup-listed eq same f k (j ∷ ks) = grind (arith, same k j, lookup-listed eq same f k ks)

module _ {A : Type 0} where
  -- ---- the records of tables

  stored-none : (records : List ℕ → Records A) → ((name : List ℕ) → records name ≡ []) → (names : List (List ℕ)) → stored (map (λ name. (name, records name)) names) ≡ 0
  stored-none records none [] = refl
  stored-none records none (name ∷ names) = grind (arith, sum_by-cons (λ n. n) (length (records name)), none name, stored-none records none names)

  stored-some : (records : List ℕ → Records A) (name : List ℕ) (names : List (List ℕ)) → is_among name names ≡ true → 1 ≤ length (records name) → 1 ≤ stored (map (λ name. (name, records name)) names)
  stored-some records name [] among some = cc
  stored-some records name (first ∷ names) among some = grind (arith, sum_by-cons (λ n. n) (length (records first)), (bytes_decides name first).0, stored-some records name names)

  -- ---- a touch leaves a record

  has-one : (records : Records A) (key : Fields A) (kept : Option (Record A)) → get fields_cmp records key ≡ kept → is_some kept ≡ true → 1 ≤ length records
  has-one [] key kept found some = cc
  has-one (entry ∷ records) key kept found some = omega arith

  records-some : (touch : Fields A × Touch A) (touched : List (Fields A × Touch A)) → 1 ≤ length (records_of (touch ∷ touched))
  records-some touch touched =
      let same = (fields_cmp-Equal touch.0 touch.0).1 refl in
      has-one (records_of (touch ∷ touched)) touch.0 _ (first_image (touch ∷ touched) touch.0) (grind arith)

  -- ---- the records of a session

  module _ (past : Past A) (session : ℕ) where
    module _ (touch : Touch A) (others : List (Touch A)) (is : touches session past ≡ touch ∷ others) where
      first-is : touches_of touch.table (touches session past) ≡ (touch.key, touch) ∷ map (λ touch. (touch.key, touch)) (filter (λ other. bytes_eq touch.table other.table) others)
      first-is =
          let found = filter (λ other. bytes_eq touch.table other.table) others in
          ap (touches_of touch.table) is ∙ ap (λ b. map (λ touch. (touch.key, touch)) (cond b (touch ∷ found) found)) (same_bytes touch.table)

      some-stored : 1 ≤ stored (session_of past session).tables
      some-stored =
          stored-some (kept past session) touch.table (attach_list session past) (grind (arith, first-is, touches-none session touch.table past))
          (subst (λ touched. 1 ≤ length (records_of touched)) (sym first-is) (records-some (touch.key, touch) _))

    stored-touches : (found : List (Touch A)) → touches session past ≡ found → nat_eq (stored (session_of past session).tables) 0 ≡ nat_eq (length found) 0
    stored-touches [] is = ap (λ n. nat_eq n 0) (stored-none (kept past session) (λ name. ap (λ found. records_of (touches_of name found)) is ∙ records_of-none) (attach_list session past))
    stored-touches (touch ∷ others) is = grind (arith, nat_tests, some-stored touch others is)

    pub found-live : session_numbered (sessions past) session ≡ cond (list_any (nat_eq session) (live_sessions past)) (Some (session_of past session)) None
    found-live = lookup-listed nat_eq equal_numbers (session_of past) session (live_sessions past)

    pub empty-live : list_any (nat_eq session) (live_sessions past) ≡ true → answer (state_after past) (Session session IsEmpty) ≡ Flag (nat_eq (length (touches session past)) 0)
    empty-live is =
        ap (λ found. session_answer found (session_reply (state_after past) IsEmpty)) (found-live ∙ ap (λ b. cond b (Some (session_of past session)) None) is)
        ∙ ap (λ b. Flag b) (stored-touches (touches session past) refl)

    pub empty-none : list_any (nat_eq session) (live_sessions past) ≡ false → answer (state_after past) (Session session IsEmpty) ≡ refusal NoSession
    empty-none is = ap (λ found. session_answer found (session_reply (state_after past) IsEmpty)) (found-live ∙ ap (λ b. cond b (Some (session_of past session)) None) is)

module _ {A : Type 0} where
  -- a row that is found is a row of its table
  under : (table : TableState A) → IsRising table → (key : Fields A) (row : Option (Fields A)) → get fields_cmp table.keyed key ≡ row → IsUnder table.schema key row
  under table rising key None found = tt
  under table rising key (Some row) found = found-own table key row rising found

  -- where there is no change, the row is the image
  unchanged : (flags : List Bool) (indirect : Bool) (image now : Option (Fields A)) → change_of flags indirect image now ≡ None → image ≡ now
  unchanged flags indirect None now none = grind arith
  unchanged flags indirect (Some image) None none = cc
  unchanged flags indirect (Some image) (Some now) none = grind (arith, tied fields_cmp image now fields_same)

-- ---- one table

module _ {A : Type 0} (database now : TableState A) where
  -- what a touched key shows, where its row differs
  abbrev pub difference_at : Fields A × Record A → Option (RowChange A) → Option (Difference A)
  difference_at touched change = option_map (λ c. record { key = touched.0; before = touched.1.image; after = get fields_cmp now.keyed touched.0; change = c }) change

  abbrev pub differences : Records A → List (Difference A)
  differences records = filter_map (λ touched. difference_at touched (change_now now touched)) records

  pub changes-are : (records : Records A) → map (λ (d : Difference A). d.change) (differences records) ≡ filter_map (change_now now) records
  changes-are [] = refl
  changes-are (touched ∷ records) = grind (arith, changes-are records)

  -- ---- where keys rise

  after-head : (touched : Fields A × Record A) (records : Records A) → IsOrdered fields_cmp (touched ∷ records) → IsOrdered fields_cmp records
  unfolding IsStrictlySortedBy
  after-head touched records s = s.1

  not-later : (touched : Fields A × Record A) (records : Records A) → IsOrdered fields_cmp (touched ∷ records) → get fields_cmp records touched.0 ≡ None
  unfolding IsStrictlySortedBy
  not-later touched records s = get-below fields_cmp touched.0 records s.0

  apart-one : (key : Fields A) (touched : Fields A × Record A) (change : Option (RowChange A)) (ds : List (Difference A)) → (eq_by_cmp fields_cmp key touched.0 ≡ true → change ≡ None) → AreApart key ds
      → AreApart key (cons_option (difference_at touched change) ds)
  apart-one key touched None ds none others = others
  apart-one key touched (Some change) ds none others = ((λ same. let e : Some change ≡ None = none (ap is_eq ((fields_cmp-Equal key touched.0).1 same)) in cc), others)

  -- a key that was not touched, or whose row does not differ, is apart from all differences
  pub apart-where : (records : Records A) (key : Fields A) → IsOrdered fields_cmp records → option_and_then (λ kept. change_now now (key, kept)) (get fields_cmp records key) ≡ None → AreApart key (differences records)
  apart-where [] key s none = tt
  apart-where (touched ∷ records) key s none =
      let here = tied fields_cmp key touched.0 fields_same in
      let later : option_and_then (λ kept. change_now now (key, kept)) (get fields_cmp records key) ≡ None = grind (arith, here, not-later touched records s) in
      apart-one key touched (change_now now touched) (differences records) (λ same. grind (arith, here)) (apart-where records key (after-head touched records s) later)

  -- ---- where the two tables stand

  module _ (same : database.schema ≡ now.schema) (first : IsRising database) (last : IsRising now) where
    -- the first image of each touched key is in the table
    abbrev Images : Records A → Type 0
    Images records = (key : Fields A) (kept : Record A) → get fields_cmp records key ≡ Some kept → get fields_cmp database.keyed key ≡ kept.image

    stand-one : (touched : Fields A × Record A) (records : Records A) (change : Option (RowChange A)) → change_now now touched ≡ change → IsOrdered fields_cmp (touched ∷ records) → Images (touched ∷ records)
        → HoldBefore database.schema database (differences records) → HoldBefore database.schema database (cons_option (difference_at touched change) (differences records))
    stand-one touched records None is s images rest = rest
    stand-one touched records (Some change) is s images rest =
        let image : get fields_cmp database.keyed touched.0 ≡ touched.1.image = grind (arith, images touched.0 touched.1, (fields_cmp-Equal touched.0 touched.0).1 refl) in (
          record {
            before = under database first touched.0 touched.1.image image;
            after = subst (λ s. IsUnder s touched.0 (get fields_cmp now.keyed touched.0)) (sym same) (under now last touched.0 (get fields_cmp now.keyed touched.0) refl);
            change = (touched.1.indirect, ap (λ schema. change_of schema touched.1.indirect touched.1.image (get fields_cmp now.keyed touched.0)) same ∙ is);
          },
          image,
          apart-where records touched.0 (after-head touched records s) (ap (option_and_then (λ kept. change_now now (touched.0, kept))) (not-later touched records s)),
          rest,
        )

    pub stand-before : (records : Records A) → IsOrdered fields_cmp records → Images records → HoldBefore database.schema database (differences records)
    stand-before [] s images = tt
    stand-before (touched ∷ records) s images =
        stand-one touched records (change_now now touched) refl s images (stand-before records (after-head touched records s) (λ key kept found. grind (arith, not-later touched records s, tied fields_cmp key touched.0 fields_same, images key kept)))

    -- ---- what is left, by the differences

    module _ (found : TableState A) where
      after-parts : (touched : Fields A × Record A) (change : Option (RowChange A)) (ds : List (Difference A)) → HoldAfter found (cons_option (difference_at touched change) ds)
          → (is_some change ≡ true → get fields_cmp found.keyed touched.0 ≡ get fields_cmp now.keyed touched.0) × HoldAfter found ds
      after-parts touched None ds after = (λ some. cc, after)
      after-parts touched (Some change) ds after = (λ some. after.0, after.1)

      -- a key whose row differs
      after-changed : (records : Records A) (key : Fields A) (kept : Record A) → get fields_cmp records key ≡ Some kept → is_some (change_now now (key, kept)) ≡ true
          → HoldAfter found (differences records) → get fields_cmp found.keyed key ≡ get fields_cmp now.keyed key
      after-changed [] key kept at some after = cc
      after-changed (touched ∷ records) key kept at some after =
          let parts = after-parts touched (change_now now touched) (differences records) after in
          let later = λ (e : get fields_cmp records key ≡ Some kept). after-changed records key kept e some parts.1 in
          grind (arith, tied fields_cmp key touched.0 fields_same, parts.0)

      pub rows-touched : (records : Records A) → IsOrdered fields_cmp records → Images records → HoldAfter found (differences records)
          → ((key : Fields A) → AreApart key (differences records) → get fields_cmp found.keyed key ≡ get fields_cmp database.keyed key)
          → (key : Fields A) (kept : Record A) → get fields_cmp records key ≡ Some kept → get fields_cmp found.keyed key ≡ get fields_cmp now.keyed key
      rows-touched records s images after others key kept at =
          let same = unchanged now.schema kept.indirect kept.image (get fields_cmp now.keyed key) in
          let apart = λ (none : change_now now (key, kept) ≡ None). others key (apart-where records key s (ap (option_and_then (λ kept. change_now now (key, kept))) at ∙ none)) in
          let changed = λ (some : is_some (change_now now (key, kept)) ≡ true). after-changed records key kept at some after in
          grind (arith, images key kept)

-- ---- all tables

pub there-is : {X : Type 0} (found : Option X) → is_some found ≡ true → (x : X) × (found ≡ Some x)
there-is None is = cc
there-is (Some x) is = (x, refl)

-- no name comes twice
abbrev pub AreDistinct : List (List ℕ) → Type 0
AreDistinct [] = Unit {0}
AreDistinct (name ∷ names) = (is_among name names ≡ false) × AreDistinct names

filter-distinct : (test : List ℕ → Bool) (names : List (List ℕ)) → AreDistinct names → AreDistinct (filter test names)
filter-distinct test [] all = tt
filter-distinct test (name ∷ names) all =
    let rest = filter-distinct test names all.1 in cond_both (test name) _ _ AreDistinct (λ passes. (grind (arith, any-filter_same (bytes_eq name) test true (λ other same. ap test (sym ((bytes_decides name other).0 same)) ∙ passes) names, all.0), rest)) (λ _. rest)

pub first_of_each-distinct : (names : List (List ℕ)) → AreDistinct (first_of_each names)
first_of_each-distinct [] = tt
first_of_each-distinct (name ∷ names) = (any-filter_same (bytes_eq name) (λ other. not (bytes_eq name other)) false (λ other same. ap not same) (first_of_each names), filter-distinct (λ other. not (bytes_eq name other)) (first_of_each names) (first_of_each-distinct names))

module _ {A : Type 0} where
  pub same_but_keyed : (found table : TableState A) → found.loose ≡ table.loose → found.schema ≡ table.schema → found.next_id ≡ table.next_id → but_keyed found ≡ but_keyed table
  same_but_keyed found table loose columns next = λ i. record { schema = columns i; keyed = []; loose = loose i; next_id = next i }

  pub some-changes : (name : List ℕ) (schema : List Bool) (change : RowChange A) (changes : List (RowChange A)) → group_of name schema (change ∷ changes) ≡ Some (record { table = name; schema = schema; changes = change ∷ changes })
  some-changes name schema change changes = grind (arith, nat_tests)

  -- the names of attached tables
  abbrev pub names_of : AttachedTables A → List (List ℕ)
  names_of tables = map (λ attached. attached.0) tables

  pub not-attached : (name : List ℕ) (tables : AttachedTables A) → is_among name (names_of tables) ≡ false → attached_records tables name ≡ None
  not-attached name [] absent = refl
  not-attached name (attached ∷ tables) absent = grind (arith, not-attached name tables)

  no-items : (ds : List (Difference A)) → map (λ (d : Difference A). d.change) ds ≡ [] → ds ≡ []
  no-items [] none = refl
  no-items (d ∷ ds) none = cc

  pub total-is : (plan : List (TableRows A)) → total plan ≡ changes_in (map group_of_rows plan)
  total-is [] = refl
  total-is (t ∷ plan) = ap₂ (λ a b. a + b) (sym (length-map t.differences (λ (d : Difference A). d.change))) (total-is plan) ∙ sym (sum_by-cons (λ (group : TableChanges A). length group.changes) (group_of_rows t) (map group_of_rows plan))

module _ {A : Type 0} (database main : Tables A) (rise : AreRising database) (main_rise : AreRising main) where
  -- for each touched key of a table the database has the first image
  record TableHolds (name : List ℕ) (records : Records A) : Type 0 where
    sorted : IsOrdered fields_cmp records
    columns : (key : Fields A) (kept : Record A) → get fields_cmp records key ≡ Some kept → (columns : List Bool) × (schema_of database name ≡ Some columns) × (schema_of main name ≡ Some columns)
    images : (key : Fields A) (kept : Record A) → get fields_cmp records key ≡ Some kept → row_at database name key ≡ kept.image

  -- what is left of a table
  record TableGives (name : List ℕ) (records : Records A) (left : Tables A) : Type 0 where
    rows : (key : Fields A) (kept : Record A) → get fields_cmp records key ≡ Some kept → row_at left name key ≡ row_at main name key
    rest : (key : Fields A) → get fields_cmp records key ≡ None → row_at left name key ≡ row_at database name key
    others : option_map but_keyed (table_of left name) ≡ option_map but_keyed (table_of database name)

  -- the capture as differences of tables
  record Plan (tables : AttachedTables A) : Type 0 where
    plan : List (TableRows A)
    is : map group_of_rows plan ≡ changes_of main tables
    before : AllBefore plan database
    differ : AllDiffer plan
    names : (other : List ℕ) → attached_records tables other ≡ None → AreOthers other plan
    after : (left : Tables A) → AllAfter plan left
        → ((other : List ℕ) (records : Records A) → attached_records tables other ≡ Some records → AreOthers other plan → table_of left other ≡ table_of database other)
        → (name : List ℕ) (records : Records A) → attached_records tables name ≡ Some records → TableGives name records left

  -- a table that has the rows of main at the keys that differ
  gives-found : (name : List ℕ) (records : Records A) (first last found : TableState A) (left : Tables A) → TableHolds name records → table_of database name ≡ Some first → table_of main name ≡ Some last
      → first.schema ≡ last.schema → table_of left name ≡ Some found → HoldAfter found (differences first last records)
      → ((key : Fields A) → AreApart key (differences first last records) → get fields_cmp found.keyed key ≡ get fields_cmp first.keyed key)
      → but_keyed found ≡ but_keyed first → TableGives name records left
  gives-found name records first last found left holds there now same at after others bare =
      let images : (key : Fields A) (kept : Record A) → get fields_cmp records key ≡ Some kept → get fields_cmp first.keyed key ≡ kept.image =
      λ key kept is. ap (option_and_then (λ t. get fields_cmp t.keyed key)) (sym there) ∙ holds.images key kept is in
      record {
        rows = λ key kept is.
            grind (arith, at, now, rows-touched first last same (found-rising database name first rise.each there) (found-rising main name last main_rise.each now) found records holds.sorted images after others key kept is);
        rest = λ key none. grind (arith, at, there, others key (apart-where first last records key holds.sorted (ap (option_and_then (λ kept. change_now last (key, kept))) none)));
        others = ap (option_map but_keyed) at ∙ ap Some bare ∙ ap (option_map but_keyed) (sym there);
      }

  -- an entry that is found in the rest is found in all, where no name comes twice
  found-later : (attached : List ℕ × Records A) (tables : AttachedTables A) (name : List ℕ) (records : Records A) → is_among attached.0 (names_of tables) ≡ false → attached_records tables name ≡ Some records
      → attached_records (attached ∷ tables) name ≡ Some records
  found-later attached tables name records apart at = grind (arith, (bytes_decides name attached.0).0, not-attached attached.0 tables apart)

  found-here : (attached : List ℕ × Records A) (tables : AttachedTables A) → attached_records (attached ∷ tables) attached.0 ≡ Some attached.1
  found-here attached tables = ap (λ b. cond b (Some attached.1) (attached_records tables attached.0)) (same_bytes attached.0)

  absent-here : (attached : List ℕ × Records A) (tables : AttachedTables A) (other : List ℕ) → attached_records (attached ∷ tables) other ≡ None → (other ≡ attached.0 → ⊥) × (attached_records tables other ≡ None)
  absent-here attached tables other none = ((λ same. let e : true ≡ false = grind (arith, (bytes_decides other attached.0).1 same) in cc), grind arith)

  -- what is so of the first attached table, and of each one after it, is so of each
  each-attached : (attached : List ℕ × Records A) (tables : AttachedTables A) (P : List ℕ → Records A → Type 0) → P attached.0 attached.1 → ((name : List ℕ) (records : Records A) → attached_records tables name ≡ Some records → P name records)
      → (name : List ℕ) (records : Records A) → attached_records (attached ∷ tables) name ≡ Some records → P name records
  each-attached attached tables P first later name records at =
      elim (bytes_eq name attached.0) as (λ b. bytes_eq name attached.0 ≡ b → cond b (Some attached.1) (attached_records tables name) ≡ Some records → P name records) [
        | true ↦ λ same e. let values : attached.1 ≡ records = cc in subst (λ n. P n records) (sym ((bytes_decides name attached.0).0 same)) (subst (P attached.0) values first)
        | false ↦ λ _ e. later name records e
      ] refl at

  -- a table of which nothing differs is not in the plan
  skipped-plan : (attached : List ℕ × Records A) (tables : AttachedTables A) → is_among attached.0 (names_of tables) ≡ false → table_changes attached (table_of main attached.0) ≡ None
      → ((left : Tables A) → table_of left attached.0 ≡ table_of database attached.0 → TableGives attached.0 attached.1 left) → Plan tables → Plan (attached ∷ tables)
  skipped-plan attached tables apart none gives rest = record {
    plan = rest.plan;
    is = rest.is ∙ ap (λ group. cons_option group (changes_of main tables)) (sym none);
    before = rest.before;
    differ = rest.differ;
    names = λ other absent. rest.names other (absent-here attached tables other absent).1;
    after = λ left after others. each-attached attached tables (λ name records. TableGives name records left)
        (gives left (others attached.0 attached.1 (found-here attached tables) (rest.names attached.0 (not-attached attached.0 tables apart))))
        (rest.after left after (λ other found is. others other found (found-later attached tables other found apart is)));
  }

  -- a table of which a row differs
  planned : (attached : List ℕ × Records A) (tables : AttachedTables A) → is_among attached.0 (names_of tables) ≡ false → (first last : TableState A) → table_of database attached.0 ≡ Some first
      → table_of main attached.0 ≡ Some last → first.schema ≡ last.schema → TableHolds attached.0 attached.1
      → (change : RowChange A) (changes : List (RowChange A)) → filter_map (change_now last) attached.1 ≡ change ∷ changes → Plan tables → Plan (attached ∷ tables)
  planned attached tables apart first last there now same holds change changes some rest =
      let ds = differences first last attached.1 in
      let t : TableRows A = record { name = attached.0; table = first; differences = ds } in
      let images : (key : Fields A) (kept : Record A) → get fields_cmp attached.1 key ≡ Some kept → get fields_cmp first.keyed key ≡ kept.image =
      λ key kept is. ap (option_and_then (λ s. get fields_cmp s.keyed key)) (sym there) ∙ holds.images key kept is in
      let first_rises = found-rising database attached.0 first rise.each there in
      let here : table_changes attached (table_of main attached.0) ≡ Some (group_of_rows t) =
      grind (arith, now, some-changes attached.0 last.schema change changes, some, changes-are first last attached.1, same) in
      record {
        plan = t ∷ rest.plan;
        is = ap (λ groups. group_of_rows t ∷ groups) rest.is ∙ ap (λ group. cons_option group (changes_of main tables)) (sym here);
        before = (
          record {
            there = there;
            rows = stand-before first last same first_rises (found-rising main attached.0 last main_rise.each now) attached.1 holds.sorted images;
            ordered = ordered fields_cmp first.keyed first_rises.keys;
          },
          rest.names attached.0 (not-attached attached.0 tables apart),
          rest.before,
        );
        differ = (grind (arith, changes-are first last attached.1 ∙ some), rest.differ);
        names = λ other absent. let parts = absent-here attached tables other absent in (parts.0, rest.names other parts.1);
        after = λ left after others. let rows = after.0 in
            each-attached attached tables (λ name records. TableGives name records left)
            (gives-found attached.0 attached.1 first last rows.found left holds there now same rows.there rows.rows rows.other_rows (same_but_keyed rows.found first rows.loose rows.columns rows.next_id))
            (rest.after left after.1 (λ other found is away. others other found (found-later attached tables other found apart is) (
              λ same_name. let clash : None ≡ Some found = sym (not-attached attached.0 tables apart) ∙ ap (attached_records tables) (sym same_name) ∙ is in cc,
              away,
            )));
      }

  -- one attached table more
  one-plan : (attached : List ℕ × Records A) (tables : AttachedTables A) → is_among attached.0 (names_of tables) ≡ false → TableHolds attached.0 attached.1 → Plan tables → Plan (attached ∷ tables)
  one-plan (name, []) tables apart holds rest =
      skipped-plan (name, []) tables apart (no_changes name (table_of main name)) (λ left same. record { rows = λ key kept at. cc; rest = λ key none. ap (option_and_then (λ t. get fields_cmp t.keyed key)) same; others = ap (option_map but_keyed) same }) rest
  one-plan (name, touched ∷ records) tables apart holds rest =
      let all = touched ∷ records in
      let at : get fields_cmp all touched.0 ≡ Some touched.1 = ap (λ b. cond b (Some touched.1) (get fields_cmp records touched.0)) (ap is_eq ((fields_cmp-Equal touched.0 touched.0).1 refl)) in
      let columns = holds.columns touched.0 touched.1 at in
      let first = there-is (table_of database name) (grind (arith, columns.1)) in
      let last = there-is (table_of main name) (grind (arith, columns.2)) in
      let same : first.0.schema ≡ last.0.schema = grind (arith, columns.1, columns.2, first.1, last.1) in
      elim (filter_map (change_now last.0) all) as (λ cs. filter_map (change_now last.0) all ≡ cs → Plan ((name, all) ∷ tables)) [
        | [] ↦ λ none.
            let no_differences : differences first.0 last.0 all ≡ [] = no-items (differences first.0 last.0 all) (changes-are first.0 last.0 all ∙ none) in
            skipped-plan (name, all) tables apart (ap (table_changes (name, all)) last.1 ∙ ap (group_of name last.0.schema) none)
            (λ left same_table. gives-found name all first.0 last.0 first.0 left holds first.1 last.1 same (same_table ∙ first.1) (subst (HoldAfter first.0) (sym no_differences) tt) (λ key _. refl) refl)
            rest
        | change ∷ changes ↦ λ some. planned (name, all) tables apart first.0 last.0 first.1 last.1 same holds change changes some rest
      ] refl

  plan-of : (tables : AttachedTables A) → AreDistinct (names_of tables) → ((name : List ℕ) (records : Records A) → attached_records tables name ≡ Some records → TableHolds name records) → Plan tables
  plan-of [] distinct holds = record { plan = []; is = refl; before = tt; differ = tt; names = λ other none. tt; after = λ left after others name records at. cc }
  plan-of (attached ∷ tables) distinct holds =
      one-plan attached tables distinct.0 (holds attached.0 attached.1 (found-here attached tables))
      (plan-of tables distinct.1 (λ name records at. holds name records (found-later attached tables name records distinct.0 at)))

module _ {A : Type 0} where
  -- ---- the captures of a history

  names-named : (records : List ℕ → Records A) (names : List (List ℕ)) → names_of (map (λ name. (name, records name)) names) ≡ names
  names-named records [] = refl
  names-named records (name ∷ names) = ap (λ ns. name ∷ ns) (names-named records names)

  pub session-distinct : (past : Past A) (number : ℕ) → AreDistinct (names_of (session_of past number).tables)
  session-distinct past number =
      subst AreDistinct (sym (names-named (kept past number) (attach_list number past))) (first_of_each-distinct (table_names (attachings number past)))

  pub records-named : (records : List ℕ → Records A) (names : List (List ℕ)) (name : List ℕ) (found : Records A) → attached_records (map (λ n. (n, records n)) names) name ≡ Some found → found ≡ records name
  records-named records names name found is = grind (arith, lookup-listed bytes_eq (λ a b. (bytes_decides a b).0) records name names)

  pub session-sorted : (past : Past A) (number : ℕ) (name : List ℕ) (records : Records A) → attached_records (session_of past number).tables name ≡ Some records → IsOrdered fields_cmp records
  session-sorted past number name records at =
      subst (IsOrdered fields_cmp) (sym (records-named (kept past number) (attach_list number past) name records at))
      (ordered fields_cmp (kept past number name) (truth _ (is_sorted-records_of (touches_of name (touches number past)))))

  -- a capture has the session's changes and the version of the tables
  pub captured : (past : Past A) (number : ℕ) (capture : CaptureState A) → capture_after past number ≡ Captured capture
      → capture.changes ≡ session_changes (main past) (session_of past number)
  captured past number capture is = grind (arith, found-live past number)

  pub captured-at : (past : Past A) (number : ℕ) (capture : CaptureState A) → capture_after past number ≡ Captured capture → capture.version ≡ version past
  captured-at past number capture is = grind (arith, found-live past number)

  module _ (past : Past A) (number : ℕ) (database : Tables A) (rise : AreRising database) (main_rise : AreRising (main past)) (holds : HoldsImages database (main past) (session_of past number).tables) where
    record_at : (name : List ℕ) (records : Records A) → attached_records (session_of past number).tables name ≡ Some records → (key : Fields A) → record_of (session_of past number).tables name key ≡ get fields_cmp records key
    record_at name records at key = ap (option_and_then (λ found. get fields_cmp found key)) at

    planned_capture : Plan database (main past) rise main_rise (session_of past number).tables
    planned_capture = plan-of database (main past) rise main_rise (session_of past number).tables (session-distinct past number) (λ name records at. record {
      sorted = session-sorted past number name records at;
      columns = λ key kept is. holds.columns name key kept (record_at name records at key ∙ is);
      images = λ key kept is. holds.images name key kept (record_at name records at key ∙ is);
    })

    gives-rows : (left : Tables A) → AllAfter planned_capture.plan left → ((other : List ℕ) → AreOthers other planned_capture.plan → table_of left other ≡ table_of database other) → GivesRows database (main past) left (session_of past number).tables
    gives-rows left after others =
        let each = planned_capture.after left after (λ other records at apart. others other apart) in
        record {
          touched = λ name key kept is. grind (arith, record_at name, λ (records : Records A) (at : attached_records (session_of past number).tables name ≡ Some records). (each name records at).rows key kept);
          untouched = λ name key none. grind (arith, record_at name, others name, λ (records : Records A) (at : attached_records (session_of past number).tables name ≡ Some records). (each name records at).rest key);
          others = λ name. grind (arith, λ (absent : attached_records (session_of past number).tables name ≡ None). others name (planned_capture.names name absent), λ (records : Records A) (at : attached_records (session_of past number).tables name ≡ Some records). (each name records at).others);
        }

    -- the session's changes, with or without old values, as a changeset or as a patchset
    pub changes_apply : (blob_of : List (TableChanges A) → Contents A)
        → ((policy : Policy) (ts : List (TableRows A)) (tables : Tables A) → AllBefore ts tables → GivesAllRowsNow policy ts (blob_of (map group_of_rows ts)) tables)
        → (policy : Policy) (list : List (TableChanges A)) → list ≡ session_changes (main past) (session_of past number)
        → AppliesWhole policy (blob_of list) (changes_in list) database (main past) (session_of past number).tables
    changes_apply blob_of law policy list told =
        let gives = subst (λ l. GivesAllRowsNow policy planned_capture.plan (blob_of l) database) (planned_capture.is ∙ sym told) (law policy planned_capture.plan database planned_capture.before) in (
          gives.0,
          gives.1,
          gives-rows gives.0.database gives.2 gives.3,
          gives.4 ∙ ap (λ n. record { applied = n; conflicts = []; omitted = []; skipped = [] }) (total-is planned_capture.plan ∙ ap changes_in (planned_capture.is ∙ sym told)),
        )

    -- and they fit the tables
    pub capture_fits : (blob_of : List (TableChanges A) → Contents A)
        → ((ts : List (TableRows A)) (tables : Tables A) → AllBefore ts tables → AllDiffer ts → FitsItsColumns (blob_of (map group_of_rows ts)))
        → FitsItsColumns (blob_of (session_changes (main past) (session_of past number)))
    capture_fits blob_of law =
        subst (λ l. FitsItsColumns (blob_of l)) planned_capture.is (law planned_capture.plan database planned_capture.before planned_capture.differ)

filter-all : {X : Type 0} (test : X → Bool) (xs : List X) → All (λ x. test x ≡ true) xs → filter test xs ≡ xs
filter-all test [] all = refl
filter-all test (x ∷ xs) all = grind (arith, All-head (λ y. test y ≡ true) x xs all, filter-all test xs (All-tail (λ y. test y ≡ true) x xs all))

each-mapped : {X Y : Type 0} (P : X → Type 0) (Q : Y → Type 0) (f : X → Y) → ((x : X) → P x → Q (f x)) → (xs : List X) → All P xs → All Q (map f xs)
each-mapped P Q f says xs all = All-map Q f xs (All-weaker P (λ x. Q (f x)) says xs all)

module _ {A : Type 0} where
  -- ---- no group without changes

  each-some : (tables : Tables A) (attached : AttachedTables A) → list_all (λ group. has_some group.changes) (changes_of tables attached) ≡ true
  each-some tables [] = refl
  each-some tables (a ∷ attached) = grind (arith, nat_tests, each-some tables attached)

  pub no-empty-group : (past : Past A) (session : ℕ) (capture : CaptureState A) → capture_after past session ≡ Captured capture → HasNoEmptyGroup (Changes capture.changes)
  no-empty-group past session capture is =
      each_passes (λ (group : TableChanges A). has_some group.changes) (λ group. has_some group.changes ≡ true) (λ group some. some) capture.changes
      (ap (list_all (λ (group : TableChanges A). has_some group.changes)) (captured past session capture is) ∙ each-some (main past) (session_of past session).tables)

  -- ---- the patches of changes that can be written

  pub patches-writable : (list : List (TableChanges A)) → IsWritable (Changes list) → IsWritable (Patches (patch_list_of list))
  patches-writable list is =
      each-mapped IsGroup IsPatchGroup patches_of
      (λ group is. record {
        table = is.table;
        fit = each-mapped (λ change. change_fits group.schema change ≡ true) (λ patch. patch_fits group.schema patch ≡ true) (patch_of group.schema) (patch_of-fits group.schema) group.changes is.fit;
        values = each-mapped HasValues PatchHasValues (patch_of group.schema) (patch_values group.schema) group.changes is.values;
      })
      list is

  -- ---- what is read

  module _ (alike : (key_flags : KeyFlags) (blob : Contents A) → IsWritable blob → blob_at (blob_bytes_with key_flags blob) ≡ Ok (with_some blob)) where
    pub changes-read : (key_flags : KeyFlags) (list : List (TableChanges A)) → HasNoEmptyGroup (Changes list) → IsWritable (Changes list) → blob_at (list_bytes_with key_flags list) ≡ Ok (Changes list)
    changes-read key_flags list some writable = alike key_flags (Changes list) writable ∙ ap (λ groups. Ok (Changes groups)) (filter-all (λ group. has_some group.changes) list some)

    pub patches-read : (key_flags : KeyFlags) (list : List (TableChanges A)) → HasNoEmptyGroup (Changes list) → IsWritable (Changes list)
        → blob_at (patch_list_bytes_with key_flags (patch_list_of list)) ≡ Ok (of_patches (patch_list_of list))
    patches-read key_flags list some writable = alike key_flags (Patches (patch_list_of list)) (patches-writable list writable) ∙ ap (λ groups. Ok (of_patches groups)) (filter-all (λ group. has_some group.changes) (patch_list_of list) (each-mapped (λ group. has_some group.changes ≡ true) (λ group. has_some group.changes ≡ true) patches_of (λ group some. grind arith) list some))

  -- an empty patchset is applied as an empty changeset is
  pub of_patches-applies : (database : Tables A) (policy : Policy) (patches : List (TablePatches A)) → apply database (of_patches patches) policy ≡ apply database (Patches patches) policy
  of_patches-applies database policy [] = refl
  of_patches-applies database policy (group ∷ patches) = refl

  -- the blob that is read is applied as the one that was written, where the one told is
  pub read-applies : (policy : Policy) (read : Result (Contents A) BlobFault) (written told blob : Contents A) (count : ℕ) (database main : Tables A) (tables : AttachedTables A) → read ≡ Ok told → read ≡ Ok blob
      → apply database told policy ≡ apply database written policy → AppliesWhole policy written count database main tables → AppliesWhole policy blob count database main tables
  read-applies policy read written told blob count database main tables is also same whole =
      let read_so : blob ≡ told = cc in
      (whole.0, ap (λ b. apply database b policy) read_so ∙ same ∙ whole.1, whole.2, whole.3)
