-- A second change of a key adds no touch.
use Rattle.std.proofs.Common.{arith, ◌≡◌, ℕ, Bool, true, false, cond, Option, Some, None, List, [], ◌∷◌, ◌++◌, ◌||◌, refl, ap, ap₂, ◌∙◌}
use Rattle.std.specs.List.{cons_option}
use Rattle.std.specs.Option.{option_map}
use Rattle.std.proofs.Math.Bool.{or-true}
use Rattle.std.specs.Cmp.Lexicographic.{bytes_decides}
use Rattle.cap_value.specs.Bytes.{bytes_eq}
use Rattle.cap_row.specs.Fields.{Fields}
use Rattle.cap_row.specs.Key.{fields_cmp, fields_cmp_total}
use Rattle.cap_tree.specs.Tree.{get, put_entry}
use Rattle.cap_database.specs.declared.change.Change.{Change}
use Rattle.cap_database.proofs.BackLemmas.{again}
use Rattle.cap_session.specs.declared.record.Record.{Record}
use Rattle.cap_session.specs.declared.rule.AutomaticRule.{AutomaticRule}
use Rattle.cap_session.specs.Recording.{attach_by, is_cascade, record_commit, touch_of, touch_tables}
use Rattle.cap_session.specs.Records.{Records, Touch, record_after, touch, with_touches}
use Rattle.cap_session.specs.Session.{AttachedTables, SessionState, attach, is_listed}
use Rattle.cap_session.specs.Sessions.{NumberedSessions, is_one_of, record_commit_each}
use Rattle.cap_session.proofs.RecordLemmas.{found-touched}

module _ {A : Type 0} where
  after_twice : (found : Option (Record A)) (image other : Option (Fields A)) (indirect : Bool) → record_after (Some (record_after found image indirect)) other indirect ≡ record_after found image indirect
  after_twice None image other indirect = grind arith
  after_twice (Some r) image other indirect = grind arith

  -- a touch again, whatever its image
  touch-twice : (records : Records A) (t : Touch A) (other : Option (Fields A)) → touch (touch records t) (record t { image = other }) ≡ touch records t
  touch-twice records t other =
      let made : Record A = record_after (get fields_cmp records t.key) t.image t.indirect in
      ap (λ found. put_entry fields_cmp (touch records t) t.key (record_after found other t.indirect)) (found-touched records t)
      ∙ ap (put_entry fields_cmp (touch records t) t.key) (after_twice (get fields_cmp records t.key) t.image other t.indirect)
      ∙ again fields_cmp fields_cmp_total records t.key made made

  listed-last : (name : List ℕ) (tables : AttachedTables A) → is_listed name (tables ++ (name, []) ∷ []) ≡ true
  listed-last name [] = ap (λ b. b || false) ((bytes_decides name name).1 refl)
  listed-last name (t ∷ ts) = ap (λ b. bytes_eq name t.0 || b) (listed-last name ts) ∙ or-true (bytes_eq name t.0)

  listed-attached : (name : List ℕ) (tables : AttachedTables A) → is_listed name (attach name tables) ≡ true
  listed-attached name tables = grind (arith, listed-last name tables)

  attach-twice : (rule : AutomaticRule A) (name : List ℕ) (tables : AttachedTables A) → attach_by rule (attach_by rule tables name) name ≡ attach_by rule tables name
  attach-twice rule name tables = grind (arith, listed-attached name tables)

  module _ (change : Change A) (row : Option (Fields A)) where
    abbrev later : Change A
    later = record change { before = row }

    with-twice : (indirect : Bool) (name : List ℕ) (records : Records A) → with_touches records (cons_option (touch_of indirect name change) (cons_option (touch_of indirect name later) [])) ≡ with_touches records (cons_option (touch_of indirect name change) [])
    with-twice indirect name records =
        let made : Option (Fields A) → Fields A → Touch A = λ image key. record { key = key; image = image; indirect = indirect || is_cascade change.cause } in
        elim (bytes_eq name change.table) as (λ b. with_touches records (cons_option (cond b (option_map (made change.before) change.key) None) (cons_option (cond b (option_map (made row) change.key) None) [])) ≡ with_touches records (cons_option (cond b (option_map (made change.before) change.key) None) [])) [
          | false ↦ refl
          | true ↦ elim change.key as (λ k. with_touches records (cons_option (option_map (made change.before) k) (cons_option (option_map (made row) k) [])) ≡ with_touches records (cons_option (option_map (made change.before) k) [])) [
            | None ↦ refl
            | Some key ↦ touch-twice records (made change.before key) row
          ]
        ]

    tables-twice : (indirect : Bool) (tables : AttachedTables A) → touch_tables indirect (change ∷ later ∷ []) tables ≡ touch_tables indirect (change ∷ []) tables
    tables-twice indirect [] = refl
    tables-twice indirect (t ∷ ts) = ap₂ (λ (records : Records A) others. (t.0, records) ∷ others) (with-twice indirect t.0 t.1) (tables-twice indirect ts)

    record_commit-twice : (session : SessionState A) → record_commit (change ∷ later ∷ []) session ≡ record_commit (change ∷ []) session
    record_commit-twice session =
        ap (λ (tables : AttachedTables A). cond session.enabled (record session { tables = tables }) session)
        (ap (touch_tables session.indirect (change ∷ later ∷ [])) (attach-twice session.rule change.table session.tables)
        ∙ tables-twice session.indirect (attach_by session.rule session.tables change.table))

    pub again-each : (quiet : List ℕ) (sessions : NumberedSessions A) → record_commit_each (change ∷ later ∷ []) quiet sessions ≡ record_commit_each (change ∷ []) quiet sessions
    again-each quiet [] = refl
    again-each quiet (s ∷ ss) =
        ap₂ (λ (one : SessionState A) others. (s.0, cond (is_one_of quiet s.0) s.1 one) ∷ others) (record_commit-twice s.1) (again-each quiet ss)
