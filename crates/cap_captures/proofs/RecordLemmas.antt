-- Steps of a row, the record of a row that was touched, and touches with one indirect flag.
use Rattle.std.proofs.Common.{◌≡◌, ℕ, Bool, true, false, cond, Option, Some, None, List, [], ◌∷◌, ◌++◌, ◌&&◌, refl, sym, ap, subst, ◌∙◌}
use Rattle.std.specs.Prelude.{is_some, filter, flat_map, map}
use Rattle.std.specs.Option.{ForSome, option_map}
use Rattle.std.specs.List.{AllByRecursion, cons_option, list_all}
use Rattle.std.specs.Ordering.{eq_by_cmp}
use Rattle.std.proofs.lemmas.List.{append-nil, append_assoc}
use Rattle.std.proofs.lemmas.List.Elements.{filter-append}
use Rattle.cap_row.specs.Fields.{Fields}
use Rattle.cap_row.specs.Key.{fields_cmp, fields_eq, fields_eq_decides}
use Rattle.cap_tree.specs.Tree.{get}
use Rattle.cap_changes.specs.Change.{change_of, new_field, old_field}
use Rattle.cap_changes.specs.Column.{by_column}
use Rattle.cap_changes.specs.declared.row_change.RowChange.{RowChange}
use Rattle.cap_changes.specs.declared.row_change.RowChange.TheVariants.{Update}
use Rattle.cap_session.specs.declared.record.Record.{Record}
use Rattle.cap_session.specs.Session.{record_of}
use Rattle.cap_group.specs.Rows.{Follow, IsRowUnder, is_indirect}
use Rattle.cap_core.specs.declared.command.Command.{Command}
use Rattle.cap_core.specs.declared.command.Command.TheVariants as command
use Rattle.cap_core.specs.declared.event.Event.{Event}
use Rattle.cap_core.specs.Flags.{command_to}
use Rattle.cap_core.specs.History.{is_write}
use Rattle.cap_core.specs.Past.{Past, is_accepted}
use Rattle.cap_core_laws.specs.Restarts.{first_touched}
use Rattle.cap_core.specs.Session.{all_indirect, session_of}
use Rattle.cap_core.specs.Touch.{Touch, attach_list, restarts, touches, touches_of}
use Rattle.cap_core.proofs.HistoryLemmas.{is_among, touches-none, touches_of-append}
use Rattle.cap_core.proofs.LawLemmas.{first_image}
use Rattle.cap_core_laws.proofs.RestartLemmas.{sooner}
use Rattle.cap_core.proofs.SessionLemmas.{and_false, kept}
use Rattle.cap_core.proofs.SmallLemmas.{second}
use Rattle.cap_captures.specs.Captures.{as_direct}
use Rattle.cap_captures.proofs.CaptureLemmas.{record-in}
use Rattle.cap_captures.proofs.ConcatLemmas.{some_same}

pub with-columns : (found : Option (List Bool)) → is_some found ≡ true → (columns : List Bool) × (found ≡ Some columns)
with-columns None is = cc
with-columns (Some columns) is = (columns, refl)

pub all-append : {X : Type 0} (P : X → Type 0) (xs ys : List X) → AllByRecursion P xs → AllByRecursion P ys → AllByRecursion P (xs ++ ys)
all-append P [] ys all more = more
all-append P (x ∷ xs) ys all more = (all.0, all-append P xs ys all.1 more)

pub all-first : {X : Type 0} (P : X → Type 0) (xs ys : List X) → AllByRecursion P (xs ++ ys) → AllByRecursion P xs
all-first P [] ys all = tt
all-first P (x ∷ xs) ys all = (all.0, all-first P xs ys all.1)

pub all-last : {X : Type 0} (P : X → Type 0) (xs ys : List X) → AllByRecursion P (xs ++ ys) → AllByRecursion P ys
all-last P [] ys all = all
all-last P (x ∷ xs) ys all = all-last P xs ys all.1

pub all-turn : {X : Type 0} (P Q : X → Type 0) → ((x : X) → P x → Q x) → (xs : List X) → AllByRecursion P xs → AllByRecursion Q xs
all-turn P Q h [] all = tt
all-turn P Q h (x ∷ xs) all = (h x all.0, all-turn P Q h xs all.1)

pub flat-append : {X Y : Type 0} (f : X → List Y) (xs ys : List X) → flat_map f (xs ++ ys) ≡ flat_map f xs ++ flat_map f ys
flat-append f [] ys = refl
flat-append f (x ∷ xs) ys = ap (λ l. f x ++ l) (flat-append f xs ys) ∙ sym (append_assoc (f x) (flat_map f xs) (flat_map f ys))

module _ {A : Type 0} where
  pub restarts-write : (session : ℕ) (event : Event A) → (is_accepted event.reply && restarts (command_to session event.command)) ≡ true → (is_accepted event.reply && is_write event.command) ≡ false
  restarts-write session event is =
      ap (λ b. is_accepted event.reply && b) (no_write event.command (second (is_accepted event.reply) (restarts (command_to session event.command)) is)) ∙ and_false (is_accepted event.reply)
    where
      no_write : (c : Command A) → restarts (command_to session c) ≡ true → is_write c ≡ false
      no_write (command.CreateTable name schema) is = cc
      no_write (command.Commit batch) is = cc
      no_write (command.Apply blob policy quiet) is = cc
      no_write _ is = refl

  pub sooner-none : (first later : Option (Option (Fields A))) → sooner first later ≡ None → (first ≡ None) × (later ≡ None)
  sooner-none None later is = (refl, is)
  sooner-none (Some image) later is = cc

  -- one change more
  pub follow-more : (flags : List Bool) (key : Fields A) (first : Option (Fields A)) (changes : List (RowChange A)) (mid last : Option (Fields A)) (change : RowChange A) → Follow flags key first changes mid
      → ForSome last (IsRowUnder flags key) → change_of flags (is_indirect change) mid last ≡ Some change → Follow flags key first (changes ++ change ∷ []) last
  follow-more flags key first [] mid last change is under made = (last, under, ap (λ row. change_of flags (is_indirect change) row last) is ∙ made, refl)
  follow-more flags key first (c ∷ changes) mid last change h under made = (h.0, h.1, h.2, follow-more flags key h.0 changes mid last change h.3 under made)

  pub flag-of : (flags : List Bool) (indirect : Bool) (first last : Option (Fields A)) (change : RowChange A) → change_of flags indirect first last ≡ Some change → is_indirect change ≡ indirect
  flag-of flags indirect None None change is = cc
  flag-of flags indirect None (Some now) change is = ap is_indirect (sym (some_same is))
  flag-of flags indirect (Some image) None change is = ap is_indirect (sym (some_same is))
  flag-of flags indirect (Some image) (Some now) change is =
      let made : RowChange A = Update indirect (by_column old_field flags image now) (by_column new_field flags image now) in
      elim (fields_eq image now) as (λ b. cond b None (Some made) ≡ Some change → is_indirect change ≡ indirect) [
        | true ↦ λ e. cc
        | false ↦ λ e. ap is_indirect (sym (some_same e))
      ] is

  pub none-same : (flags : List Bool) (indirect : Bool) (row : Option (Fields A)) → change_of flags indirect row row ≡ None
  none-same flags indirect None = refl
  none-same flags indirect (Some row) = ap (λ b. cond b None (Some (Update indirect (by_column old_field flags row row) (by_column new_field flags row row)))) ((fields_eq_decides row row).1 refl)

  pub unchanged : (flags : List Bool) (indirect : Bool) (first last : Option (Fields A)) → change_of flags indirect first last ≡ None → first ≡ last
  unchanged flags indirect None None none = refl
  unchanged flags indirect None (Some now) none = cc
  unchanged flags indirect (Some image) None none = cc
  unchanged flags indirect (Some image) (Some now) none =
      let made : Option (RowChange A) = Some (Update indirect (by_column old_field flags image now) (by_column new_field flags image now)) in
      elim (fields_eq image now) as (λ b. fields_eq image now ≡ b → cond b None made ≡ None → Some image ≡ Some now) [
        | true ↦ λ same _. ap Some ((fields_eq_decides image now).0 same)
        | false ↦ λ _ is. cc
      ] refl none

  -- with the change from one row to another, if it differs
  pub follow-next : (flags : List Bool) (key : Fields A) (indirect : Bool) (first : Option (Fields A)) (changes : List (RowChange A)) (mid last : Option (Fields A)) → Follow flags key first changes mid
      → ForSome last (IsRowUnder flags key) → (made : Option (RowChange A)) → change_of flags indirect mid last ≡ made → Follow flags key first (changes ++ cons_option made []) last
  follow-next flags key indirect first changes mid last h under None is =
      subst (λ cs. Follow flags key first cs last) (sym (append-nil changes)) (subst (λ row. Follow flags key first changes row) (unchanged flags indirect mid last is) h)
  follow-next flags key indirect first changes mid last h under (Some change) is =
      follow-more flags key first changes mid last change h under (ap (λ i. change_of flags i mid last) (flag-of flags indirect mid last change is) ∙ is)

  -- changes from one row to another differ in their flag alone
  pub direct-same : (flags : List Bool) (one other : Bool) (first last : Option (Fields A)) → map as_direct (cons_option (change_of flags one first last) []) ≡ map as_direct (cons_option (change_of flags other first last) [])
  direct-same flags one other None None = refl
  direct-same flags one other None (Some now) = refl
  direct-same flags one other (Some image) None = refl
  direct-same flags one other (Some image) (Some now) =
      elim (fields_eq image now) as (λ b. map as_direct (cons_option (cond b None (Some (Update one (by_column old_field flags image now) (by_column new_field flags image now)))) [])
      ≡ map as_direct (cons_option (cond b None (Some (Update other (by_column old_field flags image now) (by_column new_field flags image now)))) [])) [ true ↦ refl | false ↦ refl ]

  -- ---- the record of a row

  abbrev pub record_from : List (Touch A) → List ℕ → Fields A → Option (Record A)
  record_from ts name key =
      option_map (λ touch. record { image = touch.image; indirect = all_indirect (touches_of name ts) key }) (get fields_cmp (touches_of name ts) key)

  pub session-record : (past : Past A) (session : ℕ) (name : List ℕ) (key : Fields A) → record_of (session_of past session).tables name key ≡ record_from (touches session past) name key
  session-record past session name key =
      record-in (kept past session) (attach_list session past) name key
      ∙ elim (is_among name (attach_list session past)) as (λ b. is_among name (attach_list session past) ≡ b → cond b (get fields_cmp (kept past session name) key) None ≡ record_from (touches session past) name key) [
        | true ↦ λ _. first_image (touches_of name (touches session past)) key
        | false ↦ λ absent. ap (λ pairs. option_map (λ touch. record { image = touch.image; indirect = all_indirect pairs key }) (get fields_cmp pairs key)) (sym (touches-none session name past absent))
      ] refl

  pub image-touched : (ts : List (Touch A)) (name : List ℕ) (key : Fields A) → option_map (λ (r : Record A). r.image) (record_from ts name key) ≡ first_touched ts name key
  image-touched ts name key =
      elim (get fields_cmp (touches_of name ts) key) as (λ o. option_map (λ (r : Record A). r.image) (option_map (λ touch. record { image = touch.image; indirect = all_indirect (touches_of name ts) key }) o) ≡ option_map (λ touch. touch.image) o) [
        | None ↦ refl
        | Some touch ↦ refl
      ]

  -- ---- touches with one flag

  abbrev pub TouchesHaveFlag : Bool → List (Fields A × Touch A) → Type 0
  TouchesHaveFlag indirect pairs = AllByRecursion (λ touch. touch.1.indirect ≡ indirect) pairs

  pub all-true : (pairs : List (Fields A × Touch A)) → TouchesHaveFlag true pairs → list_all (λ touch. touch.1.indirect) pairs ≡ true
  all-true [] all = refl
  all-true (pair ∷ pairs) all = ap (λ b. b && list_all (λ touch. touch.1.indirect) pairs) all.0 ∙ all-true pairs all.1

  pub with-more : (indirect : Bool) (pairs : List (Fields A × Touch A)) → TouchesHaveFlag indirect pairs → (indirect && list_all (λ touch. touch.1.indirect) pairs) ≡ indirect
  with-more true pairs all = all-true pairs all
  with-more false pairs all = refl

  -- the touches of a row
  abbrev pub rows-in : List (Touch A) → List ℕ → Fields A → List (Fields A × Touch A)
  rows-in ts name key = filter (λ touch. eq_by_cmp fields_cmp key touch.0) (touches_of name ts)

  pub rows-append : (xs ys : List (Touch A)) (name : List ℕ) (key : Fields A) → rows-in (xs ++ ys) name key ≡ rows-in xs name key ++ rows-in ys name key
  rows-append xs ys name key = ap (filter (λ touch. eq_by_cmp fields_cmp key touch.0)) (touches_of-append name xs ys) ∙ filter-append (λ touch. eq_by_cmp fields_cmp key touch.0) (touches_of name xs) (touches_of name ys)

  pub flag-is : (key : Fields A) (indirect : Bool) (pairs : List (Fields A × Touch A)) (touch : Touch A) → get fields_cmp pairs key ≡ Some touch → TouchesHaveFlag indirect (filter (λ t. eq_by_cmp fields_cmp key t.0) pairs) → all_indirect pairs key ≡ indirect
  flag-is key indirect [] touch is all = cc
  flag-is key indirect (pair ∷ pairs) touch is all =
      let others = filter (λ t. eq_by_cmp fields_cmp key t.0) pairs in
      elim (eq_by_cmp fields_cmp key pair.0) as (λ b. cond b (Some pair.1) (get fields_cmp pairs key) ≡ Some touch → TouchesHaveFlag indirect (cond b (pair ∷ others) others) → list_all (λ t. t.1.indirect) (cond b (pair ∷ others) others) ≡ indirect) [
        | true ↦ λ _ every. ap (λ b. b && list_all (λ t. t.1.indirect) others) every.0 ∙ with-more indirect others every.1
        | false ↦ λ e every. flag-is key indirect pairs touch e every
      ] is all

  -- the flag of a record whose touches have one
  pub record-flag : (ts : List (Touch A)) (name : List ℕ) (key : Fields A) (indirect : Bool) (r : Record A) → record_from ts name key ≡ Some r → TouchesHaveFlag indirect (rows-in ts name key) → r.indirect ≡ indirect
  record-flag ts name key indirect r is all =
      elim (get fields_cmp (touches_of name ts) key) as (λ o. get fields_cmp (touches_of name ts) key ≡ o → option_map (λ touch. record { image = touch.image; indirect = all_indirect (touches_of name ts) key }) o ≡ Some r → r.indirect ≡ indirect) [
        | None ↦ λ _ e. cc
        | Some touch ↦ λ at e. ap (λ (kept : Record A). kept.indirect) (sym (some_same e)) ∙ flag-is key indirect (touches_of name ts) touch at all
      ] refl is

  abbrev pub ChangesHaveFlag : Bool → List (RowChange A) → Type 0
  ChangesHaveFlag indirect changes = AllByRecursion (λ change. is_indirect change ≡ indirect) changes

  pub made-flag : (flags : List Bool) (indirect : Bool) (first last : Option (Fields A)) (made : Option (RowChange A)) → change_of flags indirect first last ≡ made → ChangesHaveFlag indirect (cons_option made [])
  made-flag flags indirect first last None is = tt
  made-flag flags indirect first last (Some change) is = (flag-of flags indirect first last change is, tt)
