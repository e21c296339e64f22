-- The records of a table after touches, key by key.
use Rattle.std.proofs.Common.{arith, ◌≡◌, false, Option, Some, List, [], ◌∷◌, ◌&&◌, refl, ap, ap₂, ◌∙◌, ℕ, Bool, true, cond, None, ◌++◌, ◌||◌}
use Rattle.std.specs.Prelude.{IfSome}
use Rattle.std.specs.List.{cons_option, find, list_any}
use Rattle.std.specs.Cmp.{eq_by_cmp_equiv}
use Rattle.std.specs.Option.{option_map}
use Rattle.std.specs.Cmp.Lexicographic.{bytes_decides}
use Rattle.cap_row.specs.Fields.{Fields}
use Rattle.cap_row.specs.Key.{fields_cmp, fields_cmp_total, fields_eq}
use Rattle.cap_tree.specs.Tree.{get}
use Rattle.cap_table.proofs.TableLemmas.{fields_same, tied}
use Rattle.cap_session.specs.declared.record.Record.{Record}
use Rattle.cap_session.specs.Records.{Records, Touch, record_after, touch, with_touches}
use Rattle.cap_session.proofs.RecordLemmas.{found-touched, get-put}
use Rattle.cap_session_laws.specs.Touched.{AreTouched, are_indirect, touches_at}
use Rattle.cap_value.specs.Bytes.{bytes_eq}
use Rattle.cap_table.specs.Sound.{is_key_of}
use Rattle.cap_database.specs.Read.{row_at}
use Rattle.cap_database.specs.Carried.{CarryFirstRows, is_of_row}
use Rattle.cap_database.specs.Tables.{Tables}
use Rattle.cap_database.specs.declared.change.Change.{Change}
use Rattle.cap_session.specs.declared.rule.AutomaticRule.{AutomaticRule}
use Rattle.cap_session.specs.Recording.{is_cascade, attach_by, attach_by_rule, touch_tables, touches_of}
use Rattle.cap_session.specs.Session.{AttachedTables, accepts_by, records_of}
use Rattle.cap_session.proofs.TableLemmas.{listed}

module _ {A : Type 0} where
  -- a record, or none, after touches of its own key
  abbrev record_from : Option (Record A) → List (Touch A) → Option (Record A)
  record_from found [] = found
  record_from found (t ∷ ts) = record_from (Some (record_after found t.image t.indirect)) ts

  record_from-some : (r : Record A) (ts : List (Touch A)) → record_from (Some r) ts ≡ Some (record { image = r.image; indirect = r.indirect && are_indirect ts })
  record_from-some r [] = grind arith
  record_from-some r (t ∷ ts) = grind (arith, record_from-some (record_after (Some r) t.image t.indirect) ts)

  get-with_touches : (touches : List (Touch A)) (records : Records A) (key : Fields A) → get fields_cmp (with_touches records touches) key ≡ record_from (get fields_cmp records key) (touches_at key touches)
  get-with_touches [] records key = refl
  get-with_touches (t ∷ touches) records key =
      grind (arith, get-with_touches touches (touch records t) key, get-put records t.key (record_after (get fields_cmp records t.key) t.image t.indirect) key, tied fields_cmp key t.key fields_same)

  pub are_touched : (before : Records A) (touches : List (Touch A)) → AreTouched before touches (with_touches before touches)
  are_touched before touches = record {
    kept = λ key r is. get-with_touches touches before key ∙ ap (λ found. record_from found (touches_at key touches)) is ∙ record_from-some r (touches_at key touches);
    gained = λ key first others none is.
        get-with_touches touches before key ∙ ap₂ record_from none is ∙ record_from-some (record { image = first.image; indirect = first.indirect }) others;
    untouched = λ key none is. get-with_touches touches before key ∙ ap₂ record_from none is;
  }

  -- the record of a key that was touched directly is direct, whatever touches follow
  pub direct_stays : (before : Records A) (t : Touch A) (more : List (Touch A)) (r : Record A) → t.indirect ≡ false → get fields_cmp (with_touches before (t ∷ more)) t.key ≡ Some r → r.indirect ≡ false
  direct_stays before t more r direct is =
      let made : Record A = record_after (get fields_cmp before t.key) t.image t.indirect in
      grind (arith, found-touched before t, get-with_touches more (touch before t) t.key, record_from-some made (touches_at t.key more), direct, is)

-- ---- what the changes of a commit make of the attached tables

module _ {A : Type 0} where
  -- the records of a table, or none where it is newly attached
  abbrev found_or : Option (Records A) → Bool → Option (Records A)
  found_or None b = cond b (Some []) None
  found_or (Some records) b = Some records

  records_of-push : (tables : AttachedTables A) (new name : List ℕ) → records_of (tables ++ (new, []) ∷ []) name ≡ found_or (records_of tables name) (bytes_eq name new)
  records_of-push [] new name = refl
  records_of-push (t ∷ tables) new name = grind (arith, records_of-push tables new name)

  -- a name that is accepted where it is the same
  records_of-attach_by : (rule : AutomaticRule A) (new name : List ℕ) (tables : AttachedTables A) → records_of (attach_by rule tables new) name ≡ found_or (records_of tables name) (bytes_eq name new && accepts_by rule name)
  records_of-attach_by rule new name tables = grind (arith, listed new tables, records_of-push tables new name, (bytes_decides name new).0)

  pub records_of_attach_by_rule : (rule : AutomaticRule A) (changes : List (Change A)) (name : List ℕ) (tables : AttachedTables A)
      → records_of (attach_by_rule rule changes tables) name ≡ found_or (records_of tables name) (list_any (λ change. bytes_eq name change.table) changes && accepts_by rule name)
  records_of_attach_by_rule rule [] name tables = grind arith
  records_of_attach_by_rule rule (change ∷ changes) name tables =
      grind (arith, records_of-attach_by rule change.table name tables, records_of_attach_by_rule rule changes name (attach_by rule tables change.table))

  pub records_of_touch_tables : (indirect : Bool) (changes : List (Change A)) (tables : AttachedTables A) (name : List ℕ)
      → records_of (touch_tables indirect changes tables) name ≡ option_map (λ records. with_touches records (touches_of indirect name changes)) (records_of tables name)
  records_of_touch_tables indirect changes [] name = refl
  records_of_touch_tables indirect changes (t ∷ tables) name = grind (arith, records_of_touch_tables indirect changes tables name, (bytes_decides name t.0).0)

  other_way : (own key : Fields A) → fields_eq key own ≡ fields_eq own key
  other_way own key = (eq_by_cmp_equiv fields_cmp_total).symm key own

  -- the first touch of a key has the row before the commit, where the changes carry first rows
  first-of : (key : Fields A) (own : Option (Fields A)) (here indirect : Bool) (image row : Option (Fields A)) (rest : List (Touch A)) (first : Touch A) (others : List (Touch A)) → ((here && is_key_of own key) ≡ true → image ≡ row)
      → ((here && is_key_of own key) ≡ false → touches_at key rest ≡ first ∷ others → first.image ≡ row)
      → touches_at key (cons_option (cond here (option_map (λ own. record { key = own; image = image; indirect = indirect }) own) None) rest) ≡ first ∷ others → first.image ≡ row
  first-of key own false indirect image row rest first others now later is = later refl is
  first-of key None true indirect image row rest first others now later is = later refl is
  first-of key (Some own) true indirect image row rest first others now later is = grind (arith, other_way own key, now, later, is)

  first-image : (before : Tables A) (indirect : Bool) (name : List ℕ) (key : Fields A) (changes : List (Change A)) (first : Touch A) (others : List (Touch A))
      → IfSome (find (is_of_row name key) changes) (λ change. change.before ≡ row_at before name key)
      → touches_at key (touches_of indirect name changes) ≡ first ∷ others → first.image ≡ row_at before name key
  first-image before indirect name key [] first others carry is = cc
  first-image before indirect name key (change ∷ changes) first others carry is =
      first-of key change.key (bytes_eq name change.table) (indirect || is_cascade change.cause) change.before (row_at before name key) (touches_of indirect name changes) first others
      (λ test. rw test at carry) (λ test. first-image before indirect name key changes first others (rw test at carry)) is

  pub carried_image : (before : Tables A) (indirect : Bool) (name : List ℕ) (changes : List (Change A)) (key : Fields A) (first : Touch A) (others : List (Touch A)) → CarryFirstRows before changes
      → touches_at key (touches_of indirect name changes) ≡ first ∷ others → first.image ≡ row_at before name key
  carried_image before indirect name changes key first others carry is = let carried = carry name key in first-image before indirect name key changes first others (grind (arith, carried)) is
