-- Images that stand under their own keys: after what changes sessions, where one is found, and in the code.
use Rattle.std.proofs.Common.{◌≡◌, ℕ, Bool, true, false, cond, Option, Some, None, List, [], ◌∷◌, map, length, refl, sym, ap, subst, ◌∙◌, arith, Ordering, nat_eq, ◌&&◌}
use Rattle.std.specs.Prelude.{IfSome, nat_le, is_some, filter_map}
use Rattle.std.specs.Option.{option_map}
use Rattle.std.specs.List.{list_all}
use Rattle.std.specs.Cmp.Lexicographic.{bytes_decides}
use Rattle.std.proofs.lemmas.Bool.Decides.{nat_tests}
use Rattle.std.proofs.lemmas.List.Folds.{list_all-append}
use Rattle.cap_value.specs.Bytes.{bytes_eq}
use Rattle.cap_row.specs.Fields.{Fields}
use Rattle.cap_row.specs.Key.{fields_cmp, key_of, key_fields, fields_eq, fields_eq_decides, is_key}
use Rattle.cap_row.specs.Schema.{has_key}
use Rattle.cap_changes.specs.Change.{HaveSameKey, IsKeyedRow}
use Rattle.cap_compare.specs.declared.difference.Difference.{Difference}
use Rattle.cap_table.specs.Sound.{IsRising, IsTable, is_key_of, is_keyed_row}
use Rattle.cap_table.specs.Table.{TableState}
use Rattle.cap_tree.specs.Tree.{get, put_entry}
use Rattle.cap_database.specs.Read.{row_at}
use Rattle.cap_database.specs.Tables.{EachRises, Tables, schema_of, table_of}
use Rattle.cap_database.specs.declared.change.Change.{Change}
use Rattle.cap_database.proofs.KeptLemmas.{each-found}
use Rattle.cap_session.specs.declared.record.Record.{Record}
use Rattle.cap_session.specs.declared.rule.AutomaticRule.{AutomaticRule}
use Rattle.cap_session.specs.Recording.{attach_by, attach_by_rule, record_commit, record_diff, touch_tables, touches_found, touches_of}
use Rattle.cap_core.proofs.CarriedLemmas.{carried-told, told_by}
use Rattle.cap_database.specs.Carried.{CarryFirstRows}
use Rattle.cap_session.specs.Records.{Records, Touch, record_after, touch, with_touches}
use Rattle.cap_session.specs.Session.{AttachedTables, SessionState, attach, attached, forget, changed_by}
use Rattle.cap_session.specs.Sessions.{NumberedSessions, is_one_of, record_commit_each, session_numbered, with_session, without_session, with_session_if}
use Rattle.cap_core.specs.Capture.{change_now}
use Rattle.cap_core.specs.CanCapture.{are_own_records, are_own_tables, is_own_image, is_own_session}
use Rattle.cap_core.specs.Code.Sound.{KeepsColumns, are_own_differences, are_own_sessions}
pub use Rattle.cap_table.proofs.TableLemmas.{found-passes}
use Rattle.cap_core.proofs.TouchedLemmas.{fields_same, tied}
use Rattle.cap_core.proofs.SmallLemmas.{first, second}
use Rattle.cap_session.specs.declared.session_change.SessionChange.{SessionChange}
use Rattle.cap_core.proofs.ChangeLemmas.{is_changed}

module _ {K X : Type 0} (R : K → K → Ordering) (test : K × X → Bool) where
  -- what passes the test of a list passes it after a put of what passes it
  pub list_all-put_entry : (es : List (K × X)) (k : K) (v : X) → list_all test es ≡ true → test (k, v) ≡ true → list_all test (put_entry R es k v) ≡ true
  list_all-put_entry [] k v all new = grind arith
  list_all-put_entry (e ∷ es) k v all new = grind (arith, list_all-put_entry es k v)

module _ {X Y : Type 0} where
  pub list_all-map : (test : X → Bool) (check : Y → Bool) (f : X → Y) → ((x : X) → test x ≡ true → check (f x) ≡ true) → (xs : List X) → list_all test xs ≡ true → list_all check (map f xs) ≡ true
  list_all-map test check f keeps [] all = refl
  list_all-map test check f keeps (x ∷ xs) all = grind (arith, keeps x, list_all-map test check f keeps xs)

  -- of what passes one test, a function makes what passes another, if anything
  pub list_all-filter_map : (test : X → Bool) (check : Y → Bool) (f : X → Option Y) → ((x : X) → test x ≡ true → IfSome (f x) (λ y. check y ≡ true)) → (xs : List X) → list_all test xs ≡ true → list_all check (filter_map f xs) ≡ true
  list_all-filter_map test check f each [] all = refl
  list_all-filter_map test check f each (x ∷ xs) all = grind (arith, each x, list_all-filter_map test check f each xs)

list_all-weaker : {X : Type 0} (test check : X → Bool) → ((x : X) → test x ≡ true → check x ≡ true) → (xs : List X) → list_all test xs ≡ true → list_all check xs ≡ true
list_all-weaker test check keeps [] all = refl
list_all-weaker test check keeps (x ∷ xs) all = grind (arith, keeps x, list_all-weaker test check keeps xs)

module _ {A : Type 0} where
  pub row-stands : (table : TableState A) (key : Fields A) → IsTable table → is_own_image (Some table.schema) key (get fields_cmp table.keyed key) ≡ true
  row-stands table key sound =
      grind (arith, λ (row : Fields A). found-passes fields_cmp (λ entry. is_keyed_row table.schema entry.0 entry.1) fields_same table.keyed key row sound.keyed)

  -- ---- tables that keep their columns

  is_own_image-kept : (before after : Option (List Bool)) → ((schema : List Bool) → before ≡ Some schema → after ≡ Some schema) → (key : Fields A) (image : Option (Fields A)) → is_own_image before key image ≡ true → is_own_image after key image ≡ true
  is_own_image-kept None after kept key image is = grind arith
  is_own_image-kept (Some schema) after kept key image is = grind (arith, kept schema refl)

  -- what is sound stays sound where each table keeps its columns
  is_own_session-kept : (before after : Tables A) → KeepsColumns before after → (session : SessionState A) → is_own_session before session ≡ true → is_own_session after session ≡ true
  is_own_session-kept before after kept session =
      list_all-weaker (λ attached. are_own_records (schema_of before attached.0) attached.1) (λ attached. are_own_records (schema_of after attached.0) attached.1)
      (λ attached. list_all-weaker (λ entry. is_own_image (schema_of before attached.0) entry.0 entry.1.image) (λ entry. is_own_image (schema_of after attached.0) entry.0 entry.1.image)
      (λ entry. is_own_image-kept (schema_of before attached.0) (schema_of after attached.0) (kept.each attached.0) entry.0 entry.1.image) attached.1)
      session.tables

  -- ---- touches

  abbrev touch_stands : Option (List Bool) → Touch A → Bool
  touch_stands schema touch = is_own_image schema touch.key touch.image

  touch-stands : (schema : Option (List Bool)) (t : Touch A) (records : Records A) → touch_stands schema t ≡ true → are_own_records schema records ≡ true → are_own_records schema (touch records t) ≡ true
  touch-stands schema t records new all =
      let test : Fields A × Record A → Bool = λ kept. is_own_image schema kept.0 kept.1.image in
      grind (arith, list_all-put_entry fields_cmp test records t.key (record_after (get fields_cmp records t.key) t.image t.indirect), found-passes fields_cmp test fields_same records t.key)

  with_touches-stand : (schema : Option (List Bool)) (touches : List (Touch A)) (records : Records A) → list_all (touch_stands schema) touches ≡ true → are_own_records schema records ≡ true → are_own_records schema (with_touches records touches) ≡ true
  with_touches-stand schema [] records new all = all
  with_touches-stand schema (t ∷ touches) records new all = grind (arith, touch-stands schema t records, with_touches-stand schema touches (touch records t))

  -- the row before an event is a row of its table
  image_before : (before : Tables A) → EachRises before → (name : List ℕ) (key : Fields A) → is_own_image (schema_of before name) key (row_at before name key) ≡ true
  image_before before rises name key =
      grind (arith, λ (table : TableState A) (is : table_of before name ≡ Some table). row-stands table key (each-found IsRising before name table rises is).sound)

  told_by-stand : (before : Tables A) → EachRises before → (indirect : Bool) (name : List ℕ) (changes : List (Change A)) → list_all (touch_stands (schema_of before name)) (told_by before indirect name changes) ≡ true
  told_by-stand before rises indirect name [] = refl
  told_by-stand before rises indirect name (change ∷ changes) = grind (arith, image_before before rises name, told_by-stand before rises indirect name changes)

  -- ---- what changes a session

  touch_tables-stand : (before : Tables A) → EachRises before → (indirect : Bool) (changes : List (Change A)) → CarryFirstRows before changes → (tables : AttachedTables A) → are_own_tables before tables ≡ true → are_own_tables before (touch_tables indirect changes tables) ≡ true
  touch_tables-stand before rises indirect changes carry =
      list_all-map (λ attached. are_own_records (schema_of before attached.0) attached.1) (λ attached. are_own_records (schema_of before attached.0) attached.1)
      (λ attached. (attached.0, with_touches attached.1 (touches_of indirect attached.0 changes)))
      (λ attached all.
      ap (are_own_records (schema_of before attached.0)) (carried-told before indirect attached.0 changes attached.1 (carry attached.0))
      ∙ with_touches-stand (schema_of before attached.0) (told_by before indirect attached.0 changes) attached.1 (told_by-stand before rises indirect attached.0 changes) all)

  pub attach-stands : (database : Tables A) (name : List ℕ) (tables : AttachedTables A) → are_own_tables database tables ≡ true → are_own_tables database (attach name tables) ≡ true
  attach-stands database name tables all = grind (arith, list_all-append (λ (attached : List ℕ × Records A). are_own_records (schema_of database attached.0) attached.1) tables ((name, []) ∷ []))

  attach_by_rule-stands : (database : Tables A) (rule : AutomaticRule A) (changes : List (Change A)) (tables : AttachedTables A) → are_own_tables database tables ≡ true → are_own_tables database (attach_by_rule rule changes tables) ≡ true
  attach_by_rule-stands database rule [] tables all = all
  attach_by_rule-stands database rule (change ∷ changes) tables all =
      attach_by_rule-stands database rule changes (attach_by rule tables change.table) (grind (arith, attach-stands database change.table tables))

  record_commit-stands : (before : Tables A) → EachRises before → (changes : List (Change A)) → CarryFirstRows before changes → (session : SessionState A) → is_own_session before session ≡ true → is_own_session before (record_commit changes session) ≡ true
  record_commit-stands before rises changes carry session all =
      let attached = attach_by_rule session.rule changes session.tables in
      grind (arith, attach_by_rule-stands before session.rule changes session.tables, touch_tables-stand before rises session.indirect changes carry attached)

  -- the sessions after a commit that keeps the columns of the tables
  pub record_commit_each-stand : (before after : Tables A) → EachRises before → KeepsColumns before after → (changes : List (Change A)) → CarryFirstRows before changes → (quiet : List ℕ) (sessions : NumberedSessions A) → are_own_sessions before sessions ≡ true → are_own_sessions after (record_commit_each changes quiet sessions) ≡ true
  record_commit_each-stand before after rises kept changes carry quiet =
      list_all-map (λ session. is_own_session before session.1) (λ session. is_own_session after session.1) (λ session. (session.0, cond (is_one_of quiet session.0) session.1 (record_commit changes session.1)))
      (λ session all. grind (arith, is_own_session-kept before after kept session.1, is_own_session-kept before after kept (record_commit changes session.1), record_commit-stands before rises changes carry session.1))

  -- a session after a diff of a table, which found rows of the table's width under their own keys
  pub record_diff-stands : (database : Tables A) (name : List ℕ) (differences : List (Difference A)) (session : SessionState A) → are_own_differences (schema_of database name) differences ≡ true → is_own_session database session ≡ true
      → is_own_session database (record_diff name differences session) ≡ true
  record_diff-stands database name differences session new all =
      list_all-map (λ attached. are_own_records (schema_of database attached.0) attached.1) (λ attached. are_own_records (schema_of database attached.0) attached.1)
      (λ attached. cond (bytes_eq name attached.0) (attached.0, with_touches attached.1 touches) attached) each (attach name session.tables) (attach-stands database name session.tables all)
    where
      touches : List (Touch A)
      touches = touches_found session.indirect differences

      found-stand : (schema : Option (List Bool)) (found : List (Difference A)) → are_own_differences schema found ≡ true → list_all (touch_stands schema) (touches_found session.indirect found) ≡ true
      found-stand schema = list_all-map (λ difference. is_own_image schema difference.key difference.image) (touch_stands schema) (λ difference. record { key = difference.key; image = difference.image; indirect = session.indirect }) (λ difference is. is)

      each : (attached : List ℕ × Records A) → are_own_records (schema_of database attached.0) attached.1 ≡ true → (let t = cond (bytes_eq name attached.0) (attached.0, with_touches attached.1 touches) attached in are_own_records (schema_of database t.0) t.1) ≡ true
      each attached is =
          grind (arith, (bytes_decides name attached.0).0, found-stand (schema_of database name) differences new, with_touches-stand (schema_of database name) touches attached.1)

  pub forgotten-stand : (database : Tables A) (tables : AttachedTables A) → are_own_tables database (forget tables) ≡ true
  forgotten-stand database [] = refl
  forgotten-stand database (attached ∷ tables) = forgotten-stand database tables

  -- ---- a session among others

  -- a session that is found is sound, and so are all where a sound one replaces it, is appended, or one is
  -- removed
  pub numbered-stands : (database : Tables A) (sessions : NumberedSessions A) (number : ℕ) (session : SessionState A) → are_own_sessions database sessions ≡ true → session_numbered sessions number ≡ Some session → is_own_session database session ≡ true
  numbered-stands database [] number session all found = cc
  numbered-stands database (s ∷ sessions) number session all found = grind (arith, numbered-stands database sessions number session)

  pub with_session-stands : (database : Tables A) (sessions : NumberedSessions A) (number : ℕ) (new : SessionState A) → are_own_sessions database sessions ≡ true → is_own_session database new ≡ true → are_own_sessions database (with_session sessions number new) ≡ true
  with_session-stands database [] number new all one = refl
  with_session-stands database (s ∷ sessions) number new all one = grind (arith, with_session-stands database sessions number new)

  pub without_session_stands : (database : Tables A) (sessions : NumberedSessions A) (number : ℕ) → are_own_sessions database sessions ≡ true → are_own_sessions database (without_session sessions number) ≡ true
  without_session_stands database [] number all = refl
  without_session_stands database (s ∷ sessions) number all = grind (arith, without_session_stands database sessions number)

  -- ---- rows with keys

  key_fields-has_key : (schema : List Bool) (row : Fields A) → nat_le 1 (length (key_fields schema row)) ≡ true → has_key schema ≡ true
  key_fields-has_key [] row is = cc
  key_fields-has_key (flag ∷ schema) [] is = cc
  key_fields-has_key (flag ∷ schema) (field ∷ row) is = grind (arith, key_fields-has_key schema row)

  pub is_keyed_row-wide : (schema : List Bool) (key row : Fields A) → is_keyed_row schema key row ≡ true → length row ≡ length schema
  is_keyed_row-wide schema key row is = let e = first (nat_eq (length row) (length schema)) (is_key_of (key_of schema row) key) is in grind (arith, nat_tests)

  own_key : (own : Option (Fields A)) (key : Fields A) → is_key_of own key ≡ true → own ≡ Some key
  own_key None key is = cc
  own_key (Some own) key is = ap Some (tied fields_cmp own key fields_same is)

  pub is_keyed_row-key_of : (schema : List Bool) (key row : Fields A) → is_keyed_row schema key row ≡ true → key_of schema row ≡ Some key
  is_keyed_row-key_of schema key row is = own_key (key_of schema row) key (second (nat_eq (length row) (length schema)) (is_key_of (key_of schema row) key) is)

  pub image-IsKeyedRow : (schema : List Bool) (key : Fields A) (image : Option (Fields A)) (row : Fields A) → is_own_image (Some schema) key image ≡ true → image ≡ Some row → is_keyed_row schema key row ≡ true
  image-IsKeyedRow schema key image row is some = subst (λ found. is_own_image (Some schema) key found ≡ true) some is

  -- an image that stands is a row of its table, under its key
  own-keyed : (schema flags : List Bool) (key : Fields A) (image found : Option (Fields A)) → flags ≡ schema → image ≡ found → is_own_image (Some schema) key found ≡ true
      → (x : Fields A) → image ≡ Some x → IsKeyedRow flags x × (key_of flags x ≡ Some key)
  own-keyed schema flags key image found same is own x at =
      let row = image-IsKeyedRow schema key found x own (sym is ∙ at) in
      let under = is_keyed_row-key_of schema key x row in
      subst (λ (fs : List Bool). IsKeyedRow fs x × (key_of fs x ≡ Some key)) (sym same) (record { wide = is_keyed_row-wide schema key x row; keyed = ap is_some under }, under)

  -- so are the first image of a record and the row now, between which a change goes
  pub between-keyed : (table : TableState A) → IsTable table → (flags : List Bool) → flags ≡ table.schema → (key : Fields A) (kept : Record A) (rest : Records A) → are_own_records (Some table.schema) ((key, kept) ∷ rest) ≡ true
      → (image now : Option (Fields A)) → image ≡ kept.image → now ≡ get fields_cmp table.keyed key
      → ((x : Fields A) → image ≡ Some x → IsKeyedRow flags x) × ((x : Fields A) → now ≡ Some x → IsKeyedRow flags x)
      × ((x : Fields A) → image ≡ Some x → (y : Fields A) → now ≡ Some y → HaveSameKey flags x y)
  between-keyed table sound flags same key kept rest all image now image_is now_is =
      let old = own-keyed table.schema flags key image kept.image same image_is (first (is_own_image (Some table.schema) key kept.image) (are_own_records (Some table.schema) rest) all) in
      let new = own-keyed table.schema flags key now (get fields_cmp table.keyed key) same now_is (row-stands table key sound) in
      (λ x is. (old x is).0, λ x is. (new x is).0, λ x is y at. (old x is).1 ∙ sym (new y at).1)

  own-none : (schema : List Bool) (key : Fields A) (image : Option (Fields A)) → is_own_image (Some schema) key image ≡ true → has_key schema ≡ false → image ≡ None
  own-none schema key None own none = refl
  own-none schema key (Some row) own none = let own = is_keyed_row-key_of schema key row own in let clash = key_fields-has_key schema row (grind arith) in cc

  -- where a table has no key column, no row is touched
  pub unkeyed-unchanged : (table : TableState A) → IsTable table → has_key table.schema ≡ false → (records : Records A) → are_own_records (Some table.schema) records ≡ true → filter_map (change_now table) records ≡ []
  unkeyed-unchanged table sound none [] all = refl
  unkeyed-unchanged table sound none (kept ∷ records) all =
      let image = own-none table.schema kept.0 kept.1.image in
      let now = own-none table.schema kept.0 (get fields_cmp table.keyed kept.0) (row-stands table kept.0 sound) none in
      grind (arith, image, now, unkeyed-unchanged table sound none records)

module _ {A : Type 0} (number : ℕ) where
  -- a session in its own place leaves all
  pub with_same : (sessions : NumberedSessions A) (same : SessionState A) → session_numbered sessions number ≡ Some same → with_session sessions number same ≡ sessions
  with_same [] same found = refl
  with_same (session ∷ sessions) same found = grind (arith, with_same sessions same)

-- a session goes on to stand where its caller changes it
pub change-stands : {A : Type 0} (database : Tables A) (change : SessionChange A) (session : SessionState A) → is_own_session database session ≡ true → is_own_session database (changed_by change session) ≡ true
change-stands database change session all = grind (arith, (is_changed change session).tables, forgotten-stand database session.tables)

-- sessions go on to stand where one of them is changed so that it does
module _ {A : Type 0} (database : Tables A) (number : ℕ) (change : SessionState A → SessionState A) where
  pub changed-stands : ((session : SessionState A) → is_own_session database session ≡ true → is_own_session database (change session) ≡ true) → (sessions : NumberedSessions A) → are_own_sessions database sessions ≡ true
      → are_own_sessions database (with_session_if sessions number (option_map change (session_numbered sessions number))) ≡ true
  changed-stands keeps sessions all = grind (arith, numbered-stands database sessions number, keeps, with_session-stands database sessions number)

module _ {A : Type 0} (database : Tables A) (number : ℕ) where
  pub attached_stand : (name : List ℕ) (sessions : NumberedSessions A) → are_own_sessions database sessions ≡ true
      → are_own_sessions database (with_session_if sessions number (option_map (attached name) (session_numbered sessions number))) ≡ true
  attached_stand name = changed-stands database number (attached name) (λ session. attach-stands database name session.tables)

  pub diff_stands : (name : List ℕ) (found : List (Difference A)) (sessions : NumberedSessions A) → are_own_differences (schema_of database name) found ≡ true → are_own_sessions database sessions ≡ true
      → are_own_sessions database (with_session_if sessions number (option_map (record_diff name found) (session_numbered sessions number))) ≡ true
  diff_stands name found sessions sound = changed-stands database number (record_diff name found) (λ session. record_diff-stands database name found session sound) sessions

module _ {A : Type 0} where
  own_fields : (b : Bool) (fields key : Fields A) → is_key fields ≡ b → is_key key ≡ true → fields_eq fields key ≡ is_key_of (cond b (Some fields) None) key
  own_fields b fields key is own = grind (arith, (fields_eq_decides fields key).0)

  -- a row of the table's width has a key where it has these values in its key columns
  pub is_keyed_row_fields : (schema : List Bool) (row key : Fields A) → is_key key ≡ true → length row ≡ length schema → fields_eq (key_fields schema row) key ≡ is_keyed_row schema key row
  is_keyed_row_fields schema row key own wide =
      own_fields (is_key (key_fields schema row)) (key_fields schema row) key refl own
      ∙ (let same : nat_eq (length row) (length schema) ≡ true = grind (arith, nat_tests) in ap (λ b. b && is_key_of (key_of schema row) key) (sym same))

  -- ---- after the last column

  pub no_row : (flags : List Bool) → key_fields {A = A} flags [] ≡ []
  no_row [] = refl
  no_row (flag ∷ flags) = refl

  pub no_fields : (key : Fields A) → nat_eq (length key) 0 ≡ fields_eq [] key
  no_fields key = grind (arith, nat_tests)
