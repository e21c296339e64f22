-- The touches by changes that carry the rows before a commit, and by the rows before it.
use Rattle.std.proofs.Common.{◌≡◌, ℕ, Bool, true, false, cond, Option, Some, None, IfOk, List, [], ◌∷◌, ◌&&◌, ◌||◌, refl, ap, ◌∙◌, arith}
use Rattle.std.specs.List.{cons_option, filter_map, find}
use Rattle.std.specs.Option.{option_map}
use Rattle.std.specs.Cmp.{Equal-is, eq_by_cmp_equiv, tied_itself}
use Rattle.cap_value.specs.Bytes.{bytes_eq}
use Rattle.cap_row.specs.Fields.{Fields}
use Rattle.cap_row.specs.Key.{fields_cmp, fields_cmp_total, fields_eq}
use Rattle.cap_tree.specs.Tree.{get}
use Rattle.cap_table.specs.Sound.{is_key_of}
use Rattle.cap_database.specs.Carried.{CarryFirstRows, is_of_row}
use Rattle.cap_database.specs.Operation.{run}
use Rattle.cap_database.specs.Read.{row_at}
use Rattle.cap_database.specs.Snapshot.{SnapshotState}
use Rattle.cap_database.specs.Tables.{Tables, create}
use Rattle.cap_database.specs.declared.change.Change.{Change}
use Rattle.cap_database.specs.declared.op.Op.{Op}
use Rattle.cap_database.proofs.StayLemmas.{run-carries}
use Rattle.cap_codec.specs.declared.read.Contents.{Contents}
use Rattle.cap_apply.specs.declared.policy.Policy.{Policy}
use Rattle.cap_apply.specs.Apply.{apply}
use Rattle.cap_apply.proofs.StayLemmas.{apply-carries}
use Rattle.cap_session.specs.Recording.{is_cascade, touches_of}
use Rattle.cap_session.specs.Records.{Records, Touch, record_after, touch, with_touches}
use Rattle.cap_session.proofs.RecordLemmas.{get-put}
use Rattle.cap_core.specs.declared.command.Command.{Command}
use Rattle.cap_core.specs.declared.command.Command.TheVariants as command
use Rattle.cap_core.specs.declared.event.Event.{Event}
use Rattle.cap_core.specs.Flags.{changes_shown}
use Rattle.cap_core.specs.History.{effect_of, event_effect}
use Rattle.cap_core.specs.Outcome.{Effect, no_effect, outcome}
use Rattle.cap_core.specs.Past.{is_accepted}
use Rattle.cap_core.proofs.SmallLemmas.{each-ok}

-- what holds of the effects that a new table, operations and an application have on these tables, and of none
module _ {A : Type 0} (now : SnapshotState A) (P : Effect A → Type 0) (none : P (no_effect now.database)) where
  -- holds of the effect of an event
  pub event-each : (event : Event A) → ((name : List ℕ) (schema : List Bool) → IfOk (create now.database name schema) (λ tables. P (no_effect tables)))
      → ((ops : List (Op A)) → IfOk (run now.database ops) (λ left. P (record { database = left.database; changes = left.changes; report = None })))
      → ((blob : Contents A) (policy : Policy) (quiet : List ℕ) → event.command ≡ command.Apply blob policy quiet
      → IfOk (apply now.database blob policy) (λ left. P (record { database = left.database; changes = left.changes; report = Some left.report }))) → P (event_effect now event)
  event-each event creates runs applies =
      elim (is_accepted event.reply) as (λ b. P (cond b (effect_of now.database (outcome now event.command)) (no_effect now.database))) [ true ↦ inner event.command applies | false ↦ none ]
    where
      inner : (c : Command A) → ((blob : Contents A) (policy : Policy) (quiet : List ℕ) → c ≡ command.Apply blob policy quiet
          → IfOk (apply now.database blob policy) (λ left. P (record { database = left.database; changes = left.changes; report = Some left.report }))) → P (effect_of now.database (outcome now c))
      inner (command.CreateTable name schema) applies = grind (arith, creates name schema, none)
      inner (command.Commit batch) applies = grind (arith, runs batch.ops, none)
      inner (command.Apply blob policy quiet) applies = grind (arith, applies blob policy quiet refl, none)
      inner _ applies = none

module _ {A : Type 0} where
  -- a change of a row of this table, as a touch of its key with the row before the commit
  abbrev pub told_of : Tables A → Bool → List ℕ → Change A → Option (Touch A)
  told_of before indirect name change =
      cond (bytes_eq name change.table) (option_map (λ key. record { key = key; image = row_at before name key; indirect = indirect || is_cascade change.cause }) change.key) None

  abbrev pub told_by : Tables A → Bool → List ℕ → List (Change A) → List (Touch A)
  told_by before indirect name changes = filter_map (told_of before indirect name) changes

  -- ---- a touch of a key that has a record, whatever its image

  touch-same : (records : Records A) (t : Touch A) (image : Option (Fields A)) → (get fields_cmp records t.key ≡ None → t.image ≡ image) → touch records t ≡ touch records (record t { image = image })
  touch-same records t image same = grind (arith, same)

  module _ (before : Tables A) (indirect : Bool) (name : List ℕ) where
    -- the first change of a key without a record carries the row
    abbrev Carried : Records A → List (Change A) → Type 0
    Carried records changes = (key : Fields A) (change : Change A) → get fields_cmp records key ≡ None → find (is_of_row name key) changes ≡ Some change → change.before ≡ row_at before name key

    -- the key that was touched has a record
    touched-other : (records : Records A) (t : Touch A) (key : Fields A) → get fields_cmp (touch records t) key ≡ None → (fields_eq t.key key ≡ false) × (get fields_cmp records key ≡ None)
    touched-other records t key none =
        let found = get-put records t.key (record_after (get fields_cmp records t.key) t.image t.indirect) key in
        let same = (eq_by_cmp_equiv fields_cmp_total).symm t.key key in
        (grind arith, grind arith)

    told-same : (changes : List (Change A)) (records : Records A) → Carried records changes → with_touches records (touches_of indirect name changes) ≡ with_touches records (told_by before indirect name changes)
    told-same [] records carry = refl
    told-same (change ∷ changes) records carry =
        let own : Option (Fields A) → Fields A → Touch A = λ image key. record { key = key; image = image; indirect = indirect || is_cascade change.cause } in
        let rest = touches_of indirect name changes in
        let others = told_by before indirect name changes in
        let Here : Bool → Option (Fields A) → Type 0 = λ b k. (key : Fields A) (found : Change A) → get fields_cmp records key ≡ None → cond (b && is_key_of k key) (Some change) (find (is_of_row name key) changes) ≡ Some found → found.before ≡ row_at before name key in
        elim (bytes_eq name change.table) as (λ b. Here b change.key → with_touches records (cons_option (cond b (option_map (own change.before) change.key) None) rest)
        ≡ with_touches records (cons_option (cond b (option_map (λ key. own (row_at before name key) key) change.key) None) others)) [
          | false ↦ λ here. told-same changes records here
          | true ↦ elim change.key as (λ k. Here true k → with_touches records (cons_option (option_map (own change.before) k) rest) ≡ with_touches records (cons_option (option_map (λ key. own (row_at before name key) key) k) others)) [
            | None ↦ λ here. told-same changes records here
            | Some key ↦ λ here.
                let t = own change.before key in
                told-same changes (touch records t)
                (λ q found none at.
                let apart = touched-other records t q none in
                here q found apart.1 (ap (λ b. cond b (Some change) (find (is_of_row name q) changes)) apart.0 ∙ at))
                ∙ ap (λ after. with_touches after others) (touch-same records t (row_at before name key) (λ none. here key change none (ap (λ b. cond b (Some change) (find (is_of_row name key) changes)) ((Equal-is (fields_cmp key key)).1 (tied_itself fields_cmp_total key)))))
          ]
        ] carry

  pub carried-told : (before : Tables A) (indirect : Bool) (name : List ℕ) (changes : List (Change A)) (records : Records A) → ((key : Fields A) (change : Change A) → find (is_of_row name key) changes ≡ Some change → change.before ≡ row_at before name key)
      → with_touches records (touches_of indirect name changes) ≡ with_touches records (told_by before indirect name changes)
  carried-told before indirect name changes records carry = told-same before indirect name changes records (λ key change _ at. carry key change at)

  -- ---- the changes of an event

  pub event-carries : (now : SnapshotState A) (event : Event A) → CarryFirstRows now.database (event_effect now event).changes
  event-carries now event =
      event-each now (λ effect. CarryFirstRows now.database effect.changes) (λ name key change is. cc) event
      (λ name schema. each-ok (create now.database name schema) (λ tables name key change is. cc)) (run-carries now.database) (λ blob policy quiet _. apply-carries now.database blob policy)

  -- a session is shown all of them, or none
  pub shown-carries : (tables : Tables A) (changes : List (Change A)) (session : ℕ) (c : Command A) → CarryFirstRows tables changes → (name : List ℕ) (key : Fields A) (change : Change A)
      → find (is_of_row name key) (changes_shown session c changes) ≡ Some change → change.before ≡ row_at tables name key
  shown-carries tables changes session c carry name key change = grind (arith, carry name key change)
