-- What a session captures after an insert of a row whose key had none when the session saw it first.
use Rattle.std.proofs.Common.{◌≡◌, ℕ, Bool, true, false, cond, Option, Some, None, Result, Ok, List, [], ◌∷◌, ◌++◌, ◌||◌, map, refl, sym, ap, ◌∙◌, arith}
use Rattle.std.specs.Prelude.{option_and_then}
use Rattle.std.specs.Option.{option_map}
use Rattle.std.specs.List.{filter_map, cons_option}
use Rattle.std.specs.Cmp.{tied_itself}
use Rattle.std.specs.Cmp.Lexicographic.{bytes_decides, nat_list_eq_equiv}
use Rattle.std.proofs.lemmas.Bool.Decides.{nat_tests}
use Rattle.std.proofs.lemmas.Cmp.{nat_list_cmp_total}
use Rattle.cap_value.specs.Bytes.{bytes_cmp, bytes_eq}
use Rattle.cap_value.specs.declared.refusal.Refusal.{Refusal}
use Rattle.cap_row.specs.Fields.{Fields}
use Rattle.cap_row.specs.Key.{fields_cmp, fields_cmp_total, key_of}
use Rattle.cap_changes.specs.Change.{change_of, full_record}
use Rattle.cap_changes.specs.declared.row_change.RowChange.{RowChange}
use Rattle.cap_changes.specs.declared.row_change.RowChange.TheVariants.{Insert as Inserted}
use Rattle.cap_tree.specs.Tree.{get, put_entry}
use Rattle.cap_table.specs.Operation.{with_key}
use Rattle.cap_table.specs.Table.{TableState}
use Rattle.cap_database.specs.Read.{row_at}
use Rattle.cap_database.specs.Tables.{Tables, table_of}
use Rattle.cap_database.specs.declared.cause.Cause.TheVariants.{Direct}
use Rattle.cap_session.specs.declared.record.Record.{Record}
use Rattle.cap_core.proofs.CarriedLemmas.{told_by}
use Rattle.cap_session.specs.Records.{Records, record_after, touch as with_touch, with_touches}
use Rattle.cap_core.specs.declared.command.Command.{Command}
use Rattle.cap_core.specs.declared.event.Event.{Event}
use Rattle.cap_core.specs.Answer.{State, answer, state_after, write_reply}
use Rattle.cap_core.specs.Capture.{change_now, group_of, session_changes, table_changes}
use Rattle.cap_core.specs.Flags.{changes_shown, command_to, is_indirect}
use Rattle.cap_core.specs.History.{effect_of, event_effect, main, snapshot}
pub use Rattle.cap_database.proofs.KeptLemmas.{names_same}
use Rattle.cap_apply.proofs.EntryLemmas.{get_put}
use Rattle.cap_core_laws.specs.Insert.{HasChange, IsInsertOfAbsent, changes_by_key, insert_of}
use Rattle.cap_core.specs.Outcome.{Effect, Refused as Why, commit_unless, no_effect, outcome}
use Rattle.cap_txn.specs.Stale.{stale}
use Rattle.cap_core.specs.Past.{Past, is_accepted}
use Rattle.cap_core.specs.Session.{all_indirect, records_of, session_of}
use Rattle.cap_core.specs.Touch.{Touch, attach_list, touches, touches_of}
use Rattle.cap_core.proofs.HistoryLemmas.{is_among}
use Rattle.cap_core.proofs.LawLemmas.{first_image}
use Rattle.cap_core.proofs.SessionLemmas.{kept-on, silent-elsewhere}

-- ---- one item among those that a function makes

module _ {X Y : Type 0} (f : Y → Option X) (g : List ℕ → Y) (name : List ℕ) (x : X) (here : f (g name) ≡ Some x) where
  record Parts (list : List X) : Type 0 where
    before : List X
    after : List X
    parts : list ≡ before ++ x ∷ after

  among : (names : List (List ℕ)) → is_among name names ≡ true → Parts (filter_map f (map g names))
  among [] listed = cc
  among (n ∷ names) listed =
      elim (bytes_eq name n) as (λ b. bytes_eq name n ≡ b → (b || is_among name names) ≡ true → Parts (cons_option (f (g n)) (filter_map f (map g names)))) [
        | true ↦ λ same _. record { before = []; after = filter_map f (map g names); parts = grind (arith, (bytes_decides name n).0 same) }
        | false ↦ λ _ more. let rest = among names more in record { before = cons_option (f (g n)) rest.before; after = rest.after; parts = grind (arith, rest.parts) }
      ] refl listed

module _ {A : Type 0} where
  -- ---- changes under their keys

  keyed-map : (table : TableState A) (rows : Records A) → map (λ k. k.1) (changes_by_key table rows) ≡ filter_map (change_now table) rows
  keyed-map table [] = refl
  keyed-map table (touched ∷ rows) = grind (arith, keyed-map table rows)

  keyed-put : (table : TableState A) (key : Fields A) (touched : Record A) (change : RowChange A) → change_now table (key, touched) ≡ Some change → (rows : Records A)
      → get fields_cmp (changes_by_key table (put_entry fields_cmp rows key touched)) key ≡ Some change
  keyed-put table key touched change is [] = grind (arith, tied_itself fields_cmp_total key)
  keyed-put table key touched change is (row ∷ rows) = grind (arith, tied_itself fields_cmp_total key, keyed-put table key touched change is rows)

  some_group : (name : List ℕ) (schema : List Bool) (key : Fields A) (change : RowChange A) (changes : List (Fields A × RowChange A)) → get fields_cmp changes key ≡ Some change
      → group_of name schema (map (λ k. k.1) changes) ≡ Some (record { table = name; schema = schema; changes = map (λ k. k.1) changes })
  some_group name schema key change [] is = cc
  some_group name schema key change (c ∷ changes) is = grind (arith, nat_tests)

  -- ---- an accepted insert

  abbrev insertion : Tables A → List ℕ → TableState A → Fields A → Fields A → Effect A
  insertion tables name table key row = record {
    database = put_entry bytes_cmp tables name (with_key table key row);
    changes = record { table = name; key = Some key; cause = Direct; before = None } ∷ [];
    report = None;
  }

  -- the key was not there, and this is what the insert made
  record WasInserted (tables : Tables A) (name : List ℕ) (table : TableState A) (key row : Fields A) (left : Result (Effect A) Why) : Type 0 where
    fresh : get fields_cmp table.keyed key ≡ None
    is : left ≡ Ok (insertion tables name table key row)

  was_inserted : (state : State A) (tables : Tables A) (name : List ℕ) (table : TableState A) (key row : Fields A) (why : Option Refusal) → table_of tables name ≡ Some table → key_of table.schema row ≡ Some key
      → is_accepted (write_reply state (commit_unless why tables (insert_of name row ∷ []))) ≡ true → WasInserted tables name table key row (commit_unless why tables (insert_of name row ∷ []))
  was_inserted state tables name table key row why there own accepted = record { fresh = grind arith; is = grind arith }

  -- a first touch without a row, and this one, leave no image
  no_image : (found : Option (Touch A)) (kept : Option (Record A)) (indirect : Bool) (image : Option (Fields A)) → kept ≡ option_map (λ touch. record { image = touch.image; indirect = indirect }) found → image ≡ None
      → ((touch : Touch A) → found ≡ Some touch → touch.image ≡ None) → record_after kept image false ≡ record { image = None; indirect = false }
  no_image found kept indirect image is none absent = grind (arith, λ (touch : Touch A). absent touch)

  -- ---- the event

  module _ (past : Past A) (event : Event A) (session : ℕ) (name : List ℕ) (table : TableState A) (key row : Fields A) (is : IsInsertOfAbsent past event session name table key row) where
    inserted : WasInserted (main past) name table key row (commit_unless (stale is.base is.reads (snapshot past)) (main past) (insert_of name row ∷ []))
    inserted =
        was_inserted (state_after past) (main past) name table key row (stale is.base is.reads (snapshot past)) is.there is.own
        (ap (λ c. is_accepted (answer (state_after past) c)) (sym is.inserts)
        ∙ ap is_accepted (sym is.legal.0)
        ∙ is.accepted)

    effect-is : event_effect (snapshot past) event ≡ insertion (main past) name table key row
    effect-is = (λ i. cond (is.accepted i) (effect_of (main past) (outcome (snapshot past) (is.inserts i))) (no_effect (main past))) ∙ ap (effect_of (main past)) inserted.is

    abbrev touched : List (Fields A × Touch A)
    touched = touches_of name (touches session past)

    abbrev rows : Records A
    rows = records_of (touches_of name (touches session (event ∷ past)))

    abbrev image : Option (Fields A)
    image = row_at (main past) name key

    rows-are : rows ≡ put_entry fields_cmp (records_of touched) key (record { image = None; indirect = false })
    rows-are =
        kept-on session event past (silent-elsewhere session event past (ap (command_to session) is.inserts)) is.enabled name is.attached
        ∙ ap (λ (c : Command A). with_touches (records_of touched) (told_by (main past) (is_indirect session past) name (changes_shown session c (event_effect (snapshot past) event).changes))) is.inserts
        ∙ ap (λ (e : Effect A). with_touches (records_of touched) (told_by (main past) (is_indirect session past) name e.changes)) effect-is
        ∙ ap (λ b. with_touches (records_of touched) (cons_option (cond b (Some (record { key = key; image = image; indirect = is_indirect session past || false })) None) [])) (nat_list_eq_equiv.refl name)
        ∙ ap (λ b. with_touch (records_of touched) (record { key = key; image = image; indirect = b || false })) is.direct
        ∙ ap (put_entry fields_cmp (records_of touched) key) (no_image (get fields_cmp touched key) (get fields_cmp (records_of touched) key) (all_indirect touched key) image (first_image touched key) (ap (option_and_then (λ t. get fields_cmp t.keyed key)) is.there ∙ inserted.fresh) is.absent)

    abbrev table-now : TableState A
    table-now = record table { keyed = put_entry fields_cmp table.keyed key row }

    abbrev change : RowChange A
    change = Inserted false (full_record row)

    here : get fields_cmp (changes_by_key table-now rows) key ≡ Some change
    here =
        ap (λ r. get fields_cmp (changes_by_key table-now r) key) rows-are
        ∙ keyed-put table-now key (record { image = None; indirect = false }) change (ap (change_of table.schema false None) (get_put fields_cmp key row (tied_itself fields_cmp_total key) table.keyed)) (records_of touched)

    group-here : table_changes (name, rows) (table_of (main (event ∷ past)) name) ≡ Some (record { table = name; schema = table.schema; changes = map (λ k. k.1) (changes_by_key table-now rows) })
    group-here =
        ap (λ (e : Effect A). table_changes (name, rows) (table_of e.database name)) effect-is
        ∙ ap (table_changes (name, rows)) (get_put bytes_cmp name table-now (tied_itself nat_list_cmp_total name) (main past))
        ∙ ap (group_of name table.schema) (sym (keyed-map table-now rows))
        ∙ some_group name table.schema key change (changes_by_key table-now rows) here

    pub insert_has_change : HasChange (session_changes (main (event ∷ past)) (session_of (event ∷ past) session)) name table.schema (changes_by_key table-now rows) key change
    insert_has_change =
        let found = among (λ attached. table_changes attached (table_of (main (event ∷ past)) attached.0)) (λ n. (n, records_of (touches_of n (touches session (event ∷ past))))) name _ group-here (attach_list session (event ∷ past)) is.attached in
        record { before = found.before; after = found.after; group = found.parts; here = here }
