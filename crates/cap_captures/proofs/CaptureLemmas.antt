-- What a capture has of a row.
use Rattle.std.proofs.Common.{◌≡◌, ℕ, Bool, true, false, cond, ◌||◌, List, [], ◌∷◌, ◌++◌, length, Option, Some, None, refl, ap, sym, ◌∙◌, nat_eq}
use Rattle.std.specs.Prelude.{map, option_and_then}
use Rattle.std.specs.Option.{ForSome, option_map}
use Rattle.std.specs.List.{AllByRecursion, cons_option, filter_map}
use Rattle.std.specs.List.Sorted.{IsStrictlySortedBy}
use Rattle.std.specs.Cmp.{eq_by_cmp_equiv}
use Rattle.std.specs.Cmp.Lexicographic.{bytes_decides}
use Rattle.std.proofs.lemmas.List.{append-nil}
use Rattle.std.proofs.lemmas.List.Elements.{recursion_from_All}
use Rattle.cap_value.specs.Bytes.{bytes_eq}
use Rattle.cap_row.specs.Fields.{Fields}
use Rattle.cap_row.specs.Key.{fields_cmp, fields_cmp_total, fields_eq, fields_eq_decides, is_key, key_fields, key_of}
use Rattle.cap_tree.specs.Tree.{IsOrdered, get}
use Rattle.cap_tree.proofs.EntryLemmas.{each_found, get-below}
use Rattle.cap_table.specs.Table.{TableState}
use Rattle.cap_table.specs.Sound.{is_keyed_row}
use Rattle.cap_changes.specs.Change.{change_of}
use Rattle.cap_changes.specs.Group.{TableChanges}
use Rattle.cap_changes.specs.declared.row_change.RowChange.{RowChange}
use Rattle.cap_database.specs.Read.{row_at}
use Rattle.cap_database.specs.Tables.{AreRising, Tables, schema_of, table_of}
use Rattle.cap_session.specs.declared.record.Record.{Record}
use Rattle.cap_session.specs.Records.{Records}
use Rattle.cap_session.specs.Session.{AttachedTables, record_of, records_of as attached_records}
use Rattle.cap_apply.specs.Difference.{IsUnder}
use Rattle.cap_group.specs.ChangeKey.{change_key}
use Rattle.cap_group.specs.Rows.{IsRowUnder, changes_of_row}
use Rattle.cap_core.specs.Capture.{change_now, changes_of, group_of, table_changes}
use Rattle.cap_core_laws.proofs.AppliedCaptureLemmas.{AreDistinct, found-rising, names_of, some-changes}
use Rattle.cap_core.proofs.HistoryLemmas.{is_among}
use Rattle.cap_core.proofs.SmallLemmas.{either_false, other_false}
use Rattle.cap_core.proofs.SoundLemmas.{found-passes, is_keyed_row-key_of, is_keyed_row-wide}
use Rattle.cap_core.proofs.TouchedLemmas.{fields_same}
use Rattle.cap_captures.specs.Rows.{row_changes}
use Rattle.cap_captures.proofs.ConcatLemmas.{other_name, own_key, some_same}

module _ {A : Type 0} where
  -- ---- rows of a table

  pub with-table : (columns : List Bool) (found : Option (TableState A)) → option_map (λ table. table.schema) found ≡ Some columns → (table : TableState A) × (found ≡ Some table) × (table.schema ≡ columns)
  with-table columns None is = cc
  with-table columns (Some table) is = (table, refl, some_same is)

  key-from : (flags : List Bool) (row key : Fields A) → key_of flags row ≡ Some key → key_fields flags row ≡ key
  key-from flags row key is =
      elim (is_key (key_fields flags row)) as (λ b. cond b (Some (key_fields flags row)) None ≡ Some key → key_fields flags row ≡ key) [
        | true ↦ λ e. some_same e
        | false ↦ λ e. cc
      ] is

  -- a row that is found is a row under its key
  pub row-under : (tables : Tables A) → AreRising tables → (name : List ℕ) (flags : List Bool) (key : Fields A) → schema_of tables name ≡ Some flags → ForSome (row_at tables name key) (IsRowUnder flags key)
  row-under tables rise name flags key known row is =
      let table = with-table flags (table_of tables name) known in
      let found : get fields_cmp table.0.keyed key ≡ Some row = ap (option_and_then (λ t. get fields_cmp t.keyed key)) (sym table.1) ∙ is in
      let stands = found-passes fields_cmp (λ entry. is_keyed_row table.0.schema entry.0 entry.1) fields_same table.0.keyed key row (found-rising tables name table.0 rise.each table.1).sound.keyed found in
      record {
        wide = is_keyed_row-wide table.0.schema key row stands ∙ ap length table.2;
        under = ap (λ flags. key_fields flags row) (sym table.2) ∙ key-from table.0.schema row key (is_keyed_row-key_of table.0.schema key row stands);
      }

  pub row-stands : (tables : Tables A) → AreRising tables → (name : List ℕ) (flags : List Bool) (key : Fields A) → schema_of tables name ≡ Some flags → IsUnder flags key (row_at tables name key)
  row-stands tables rise name flags key known =
      elim (row_at tables name key) as (λ o. row_at tables name key ≡ o → IsUnder flags key o) [
        | None ↦ λ _. tt
        | Some row ↦ λ is.
            let table = with-table flags (table_of tables name) known in
            let found : get fields_cmp table.0.keyed key ≡ Some row = ap (option_and_then (λ t. get fields_cmp t.keyed key)) (sym table.1) ∙ is in
            let stands = found-passes fields_cmp (λ entry. is_keyed_row table.0.schema entry.0 entry.1) fields_same table.0.keyed key row (found-rising tables name table.0 rise.each table.1).sound.keyed found in
            (is_keyed_row-wide table.0.schema key row stands ∙ ap length table.2, ap (λ flags. key_of flags row) (sym table.2) ∙ is_keyed_row-key_of table.0.schema key row stands)
      ] refl

  -- ---- the records of a table

  pub record-in : (records : List ℕ → Records A) (names : List (List ℕ)) (name : List ℕ) (key : Fields A)
      → record_of (map (λ n. (n, records n)) names) name key ≡ cond (is_among name names) (get fields_cmp (records name) key) None
  record-in records [] name key = refl
  record-in records (n ∷ names) name key =
      elim (bytes_eq name n) as (λ b. bytes_eq name n ≡ b → option_and_then (λ found. get fields_cmp found key) (cond b (Some (records n)) (attached_records (map (λ k. (k, records k)) names) name))
      ≡ cond (b || is_among name names) (get fields_cmp (records name) key) None) [
        | true ↦ λ same. ap (λ k. get fields_cmp (records k) key) (sym ((bytes_decides name n).0 same))
        | false ↦ λ _. record-in records names name key
      ] refl

  -- ---- one table of a capture

  module _ (table : TableState A) where
    -- each change is under its key
    abbrev AreOwn : Records A → Type 0
    AreOwn records = AllByRecursion (λ touched. (change : RowChange A) → change_now table touched ≡ Some change → change_key table.schema change ≡ touched.0) records

    abbrev row_now : Fields A → Records A → List (RowChange A)
    row_now key records = cons_option (option_and_then (λ r. change_now table (key, r)) (get fields_cmp records key)) []

    records-row : (key : Fields A) (records : Records A) → IsOrdered fields_cmp records → AreOwn records → changes_of_row change_key table.schema key (filter_map (change_now table) records) ≡ row_now key records
    unfolding IsStrictlySortedBy
    records-row key [] s own = refl
    records-row key (touched ∷ records) s own =
        let more = records-row key records s.1 own.1 in
        let rest = changes_of_row change_key table.schema key (filter_map (change_now table) records) in
        elim (fields_eq key touched.0) as (λ b. fields_eq key touched.0 ≡ b → changes_of_row change_key table.schema key (cons_option (change_now table touched) (filter_map (change_now table) records))
        ≡ cons_option (option_and_then (λ r. change_now table (key, r)) (cond b (Some touched.1) (get fields_cmp records key))) []) [
          | true ↦ λ same.
              let keys : key ≡ touched.0 = (fields_eq_decides key touched.0).0 same in
              let none : rest ≡ [] = more ∙ ap (λ o. cons_option (option_and_then (λ r. change_now table (key, r)) o) []) (ap (get fields_cmp records) keys ∙ get-below fields_cmp touched.0 records s.0) in
              head (change_now table touched) refl same none
              ∙ ap (λ k. cons_option (change_now table (k, touched.1)) []) (sym keys)
          | false ↦ λ apart. passed (change_now table touched) refl apart ∙ more
        ] refl
      where
        head : (o : Option (RowChange A)) → change_now table touched ≡ o → fields_eq key touched.0 ≡ true → changes_of_row change_key table.schema key (filter_map (change_now table) records) ≡ []
            → changes_of_row change_key table.schema key (cons_option o (filter_map (change_now table) records)) ≡ cons_option o []
        head None is same none = none
        head (Some change) is same none =
            ap (λ b. cond b (change ∷ changes_of_row change_key table.schema key (filter_map (change_now table) records)) (changes_of_row change_key table.schema key (filter_map (change_now table) records)))
            (ap (λ k. fields_eq k key) (own.0 change is) ∙ (eq_by_cmp_equiv fields_cmp_total).symm touched.0 key ∙ same)
            ∙ ap (λ (l : List (RowChange A)). change ∷ l) none

        passed : (o : Option (RowChange A)) → change_now table touched ≡ o → fields_eq key touched.0 ≡ false
            → changes_of_row change_key table.schema key (cons_option o (filter_map (change_now table) records)) ≡ changes_of_row change_key table.schema key (filter_map (change_now table) records)
        passed None is apart = refl
        passed (Some change) is apart =
            ap (λ b. cond b (change ∷ changes_of_row change_key table.schema key (filter_map (change_now table) records)) (changes_of_row change_key table.schema key (filter_map (change_now table) records)))
            (ap (λ k. fields_eq k key) (own.0 change is) ∙ (eq_by_cmp_equiv fields_cmp_total).symm touched.0 key ∙ apart)

    own-from : (all : Records A) → ((key : Fields A) (r : Record A) (change : RowChange A) → get fields_cmp all key ≡ Some r → change_now table (key, r) ≡ Some change → change_key table.schema change ≡ key)
        → (records : Records A) → AllByRecursion (λ touched. get fields_cmp all touched.0 ≡ Some touched.1) records → AreOwn records
    own-from all h [] found = tt
    own-from all h (touched ∷ records) found = (λ change is. h touched.0 touched.1 change found.0 is, own-from all h records found.1)

  -- ---- a capture

  module _ (main : Tables A) where
    abbrev pub AreKnown : List (TableChanges A) → Type 0
    AreKnown groups = AllByRecursion (λ group. schema_of main group.table ≡ Some group.schema) groups

    known-one : (attached : List ℕ × Records A) (found : Option (TableState A)) → table_of main attached.0 ≡ found → (rest : List (TableChanges A)) → AreKnown rest → AreKnown (cons_option (table_changes attached found) rest)
    known-one attached None is rest known = known
    known-one attached (Some table) is rest known =
        let changes = filter_map (change_now table) attached.1 in
        elim (nat_eq (length changes) 0) as (λ b. AreKnown (cons_option (cond b None (Some (record { table = attached.0; schema = table.schema; changes = changes }))) rest)) [
          | true ↦ known
          | false ↦ (ap (option_map (λ t. t.schema)) is, known)
        ]

    -- the groups have the columns of their tables
    pub groups-known : (tables : AttachedTables A) → AreKnown (changes_of main tables)
    groups-known [] = tt
    groups-known (attached ∷ tables) = known-one attached (table_of main attached.0) refl (changes_of main tables) (groups-known tables)

    module _ (name : List ℕ) (key : Fields A) where
      nothing : (b : Bool) (rest : List (RowChange A)) → rest ≡ (cond b [] []) ++ rest
      nothing true rest = refl
      nothing false rest = refl

      group-row : (table : List ℕ) (schema : List Bool) (changes : List (RowChange A)) (rest : List (TableChanges A))
          → row_changes name key (cons_option (group_of table schema changes) rest) ≡ (cond (bytes_eq table name) (changes_of_row change_key schema key changes) []) ++ row_changes name key rest
      group-row table schema [] rest = nothing (bytes_eq table name) (row_changes name key rest)
      group-row table schema (change ∷ changes) rest = ap (λ group. row_changes name key (cons_option group rest)) (some-changes table schema change changes)

      abbrev own : Option (TableState A) → Records A → List (RowChange A)
      own None records = []
      own (Some table) records = changes_of_row change_key table.schema key (filter_map (change_now table) records)

      head-row : (attached : List ℕ × Records A) (found : Option (TableState A)) (rest : List (TableChanges A))
          → row_changes name key (cons_option (table_changes attached found) rest) ≡ (cond (bytes_eq attached.0 name) (own found attached.1) []) ++ row_changes name key rest
      head-row attached None rest = nothing (bytes_eq attached.0 name) (row_changes name key rest)
      head-row attached (Some table) rest = group-row attached.0 table.schema (filter_map (change_now table) attached.1) rest

      passed-row : (attached : List ℕ × Records A) (rest : List (TableChanges A)) → bytes_eq name attached.0 ≡ false → row_changes name key (cons_option (table_changes attached (table_of main attached.0)) rest) ≡ row_changes name key rest
      passed-row attached rest apart =
          head-row attached (table_of main attached.0) rest
          ∙ ap (λ b. (cond b (own (table_of main attached.0) attached.1) []) ++ row_changes name key rest) (other_name name attached.0 apart)

      absent-row : (tables : AttachedTables A) → is_among name (names_of tables) ≡ false → row_changes name key (changes_of main tables) ≡ []
      absent-row [] absent = refl
      absent-row (attached ∷ tables) absent =
          passed-row attached (changes_of main tables) (either_false (bytes_eq name attached.0) (is_among name (names_of tables)) absent)
          ∙ absent-row tables (other_false (bytes_eq name attached.0) (is_among name (names_of tables)) absent)

      abbrev own-in : Option (Records A) → List (RowChange A)
      own-in None = []
      own-in (Some records) = own (table_of main name) records

      table-row : (tables : AttachedTables A) → AreDistinct (names_of tables) → row_changes name key (changes_of main tables) ≡ own-in (attached_records tables name)
      table-row [] distinct = refl
      table-row (attached ∷ tables) distinct =
          elim (bytes_eq name attached.0) as (λ b. bytes_eq name attached.0 ≡ b → row_changes name key (changes_of main (attached ∷ tables)) ≡ own-in (cond b (Some attached.1) (attached_records tables name))) [
            | true ↦ λ same.
                let named : name ≡ attached.0 = (bytes_decides name attached.0).0 same in
                head-row attached (table_of main attached.0) (changes_of main tables)
                ∙ ap (λ b. (cond b (own (table_of main attached.0) attached.1) []) ++ row_changes name key (changes_of main tables)) ((bytes_decides attached.0 name).1 (sym named))
                ∙ ap (λ (l : List (RowChange A)). own (table_of main attached.0) attached.1 ++ l) (absent-row tables (ap (λ n. is_among n (names_of tables)) named ∙ distinct.0))
                ∙ append-nil (own (table_of main attached.0) attached.1)
                ∙ ap (λ n. own (table_of main n) attached.1) (sym named)
            | false ↦ λ apart. passed-row attached (changes_of main tables) apart ∙ table-row tables distinct.1
          ] refl

      -- a table that is not there has no changes
      pub no-table-row : (tables : AttachedTables A) → AreDistinct (names_of tables) → schema_of main name ≡ None → row_changes name key (changes_of main tables) ≡ []
      no-table-row tables distinct none =
          table-row tables distinct
          ∙ elim (attached_records tables name) as (λ found. own-in found ≡ []) [
            | None ↦ refl
            | Some records ↦ elim (table_of main name) as (λ o. option_map (λ (t : TableState A). t.schema) o ≡ None → own o records ≡ []) [
              | None ↦ λ _. refl
              | Some table ↦ λ e. cc
            ] none
          ]

    -- the change of a row, by its record
    pub captured-row : (tables : AttachedTables A) → AreDistinct (names_of tables) → (name : List ℕ) (flags : List Bool) (key : Fields A) → schema_of main name ≡ Some flags
        → ((records : Records A) → attached_records tables name ≡ Some records → IsOrdered fields_cmp records)
        → ((k : Fields A) (r : Record A) → record_of tables name k ≡ Some r → ForSome r.image (IsRowUnder flags k))
        → ((k : Fields A) → ForSome (row_at main name k) (IsRowUnder flags k))
        → row_changes name key (changes_of main tables) ≡ cons_option (option_and_then (λ r. change_of flags r.indirect r.image (row_at main name key)) (record_of tables name key)) []
    captured-row tables distinct name flags key known sorted images rows =
        let table = with-table flags (table_of main name) known in
        let row : (k : Fields A) → row_at main name k ≡ get fields_cmp table.0.keyed k = λ k. ap (option_and_then (λ t. get fields_cmp t.keyed k)) table.1 in
        let now : (k : Fields A) (r : Record A) → change_now table.0 (k, r) ≡ change_of flags r.indirect r.image (row_at main name k) =
        λ k r. ap (λ s. change_of s r.indirect r.image (get fields_cmp table.0.keyed k)) table.2 ∙ ap (change_of flags r.indirect r.image) (sym (row k)) in
        table-row name key tables distinct
        ∙ elim (attached_records tables name) as (λ o. attached_records tables name ≡ o → own-in name key o ≡ cons_option (option_and_then (λ r. change_of flags r.indirect r.image (row_at main name key)) (option_and_then (λ found. get fields_cmp found key) o)) []) [
          | None ↦ λ _. refl
          | Some records ↦ λ at.
              let found : (k : Fields A) → record_of tables name k ≡ get fields_cmp records k = λ k. ap (option_and_then (λ found. get fields_cmp found k)) at in
              let s = sorted records at in
              let each = own-from table.0 records (λ k r change is made.
              ap (λ f. change_key f change) table.2
              ∙ own_key flags k r.indirect r.image (row_at main name k) change (images k r (found k ∙ is)) (rows k) (sym (now k r) ∙ made)) records (recursion_from_All _ records (each_found fields_cmp fields_cmp_total records s)) in
              ap (λ t. own name key t records) table.1
              ∙ records-row table.0 key records s each
              ∙ elim (get fields_cmp records key) as (λ o. cons_option (option_and_then (λ r. change_now table.0 (key, r)) o) [] ≡ cons_option (option_and_then (λ r. change_of flags r.indirect r.image (row_at main name key)) o) []) [
                | None ↦ refl
                | Some r ↦ ap (λ c. cons_option c []) (now key r)
              ]
        ] refl
