-- What one more event makes of the attach list and of the touches of a session.
use Rattle.std.proofs.lemmas.List.{append-nil, map-append}
use Rattle.std.proofs.lemmas.List.Elements.{filter-append}
use Rattle.std.proofs.lemmas.List.Folds.{list_all-append, list_any-append}
use Rattle.std.proofs.lemmas.Bool.Decides.{nat_tests}
use Rattle.std.proofs.Common.{◌≡◌, ◌≤◌, ℕ, ◌+◌, Bool, true, false, cond, Option, Some, None, List, [], ◌∷◌, ◌++◌, ◌&&◌, ◌||◌, not, map, length, refl, sym, ap, ap₂, append_assoc, ◌∙◌, arith}
use Rattle.std.specs.Prelude.{filter, fold, nat_lt}
use Rattle.std.specs.List.{cons_option, enumerate_from, filter_map, list_all, list_any}
use Rattle.std.specs.Option.{option_map}
use Rattle.std.specs.Cmp.Lexicographic.{bytes_decides, nat_list_eq_equiv}
use Rattle.cap_value.specs.Bytes.{bytes_eq}
use Rattle.cap_row.specs.Fields.{Fields}
use Rattle.cap_database.specs.Read.{row_at}
use Rattle.cap_database.specs.declared.change.Change.{Change}
use Rattle.cap_compare.specs.declared.difference.Difference.{Difference}
use Rattle.cap_session.specs.declared.rule.AutomaticRule.{AutomaticRule}
use Rattle.cap_session.specs.Recording.{attach_by, is_cascade}
use Rattle.cap_core.proofs.CarriedLemmas.{told_by}
use Rattle.cap_session.specs.Records.{Records}
use Rattle.cap_session.specs.Session.{AttachedTables, accepts_by, attach}
use Rattle.cap_core.specs.Flags.{changes_shown, command_to, is_enabled, is_indirect, rule as rule_of}
use Rattle.cap_core.specs.History.{event_effect, main, snapshot}
use Rattle.cap_core.specs.Past.{Past, is_accepted}
use Rattle.cap_core.specs.Touch.{Attaching, Touch, attach_list, attaching_at, attaching_by, attachings, diff_touches, event_changes, event_diff, first_of_each, is_in_time, is_recorded, names_attached, names_compared, restarts, touch_found, touch_of, touches, touches_of}
use Rattle.cap_core.proofs.SmallLemmas.{either_false}
use Rattle.cap_core.proofs.TouchedLemmas.{told}

-- the name is among these
abbrev pub is_among : List ℕ → List (List ℕ) → Bool
is_among name names = list_any (bytes_eq name) names

-- ---- names

pub same_bytes : (x : List ℕ) → bytes_eq x x ≡ true
same_bytes x = nat_list_eq_equiv.refl x

-- a name is still listed after others are left out
pub is_among-filter : (x y : List ℕ) (names : List (List ℕ)) → bytes_eq x y ≡ false → is_among x (filter (λ other. not (bytes_eq y other)) names) ≡ is_among x names
is_among-filter x y [] apart = refl
is_among-filter x y (z ∷ names) apart = grind (arith, is_among-filter x y names apart, nat_list_eq_equiv.symm, nat_list_eq_equiv.congr)

pub is_among-first_of_each : (x : List ℕ) (names : List (List ℕ)) → is_among x (first_of_each names) ≡ is_among x names
is_among-first_of_each x [] = refl
is_among-first_of_each x (y ∷ names) = grind (arith, is_among-filter x y (first_of_each names), is_among-first_of_each x names)

-- a name that comes last is new or not
pub first_of_each-push : (names : List (List ℕ)) (x : List ℕ) → first_of_each (names ++ x ∷ []) ≡ cond (is_among x (first_of_each names)) (first_of_each names) (first_of_each names ++ x ∷ [])
first_of_each-push [] x = refl
first_of_each-push (y ∷ names) x =
    let test : List ℕ → Bool = λ other. not (bytes_eq y other) in
    let split = filter-append test (first_of_each names) (x ∷ []) in
    let none = append-nil (filter test (first_of_each names)) in
    grind (arith, first_of_each-push names x, is_among-filter x y (first_of_each names), nat_list_eq_equiv.symm y x)

-- functions that are equal at each listed name give the same list
pub map-listed : {X : Type 0} (f g : List ℕ → X) (names : List (List ℕ)) → ((name : List ℕ) → is_among name names ≡ true → f name ≡ g name) → map f names ≡ map g names
map-listed f g [] same = refl
map-listed f g (name ∷ names) same = grind (arith, same, same_bytes, map-listed f g names)

-- ---- lists

-- a function of what another makes is a third, where it is so at each item
pub map-both : {X Y Z : Type 0} (f : Y → Z) (g : X → Y) (h : X → Z) → ((x : X) → f (g x) ≡ h x) → (xs : List X) → map f (map g xs) ≡ map h xs
map-both f g h same [] = refl
map-both f g h same (x ∷ xs) = ap₂ (λ z zs. z ∷ zs) (same x) (map-both f g h same xs)

pub is_listed-map : {X : Type 0} (f : List ℕ → X) (name : List ℕ) (names : List (List ℕ)) → list_any (λ (attached : List ℕ × X). bytes_eq name attached.0) (map (λ n. (n, f n)) names) ≡ is_among name names
is_listed-map f name [] = refl
is_listed-map f name (n ∷ names) = ap (λ b. bytes_eq name n || b) (is_listed-map f name names)

-- ---- names that come one after the other

-- a name goes last unless it is there
abbrev pub push_name : List (List ℕ) → List ℕ → List (List ℕ)
push_name names name = cond (is_among name names) names (names ++ name ∷ [])

pub first_of_each-append : (names more : List (List ℕ)) → first_of_each (names ++ more) ≡ fold push_name (first_of_each names) more
first_of_each-append names [] = ap first_of_each (append-nil names)
first_of_each-append names (name ∷ more) =
    ap first_of_each (sym (append_assoc names (name ∷ []) more)) ∙ first_of_each-append (names ++ name ∷ []) more ∙ ap (λ ns. fold push_name ns more) (first_of_each-push names name)

abbrev pub table_names : List Attaching → List (List ℕ)
table_names moments = map (λ moment. moment.table) moments

pub table_names-append : (moments more : List Attaching) → table_names (moments ++ more) ≡ table_names moments ++ table_names more
table_names-append moments more = map-append {A = Attaching} {B = List ℕ} (λ moment. moment.table) moments more

-- a name that is not among all moments is not among a part of them
absent_before : (name : List ℕ) (before said compared changed : List Attaching) → is_among name (table_names (before ++ (said ++ compared ++ changed))) ≡ false
    → (is_among name (table_names before) ≡ false) × (is_among name (table_names compared) ≡ false)
absent_before name before said compared changed absent =
    let both = λ (xs ys : List Attaching). ap (is_among name) (table_names-append xs ys) ∙ list_any-append (bytes_eq name) (table_names xs) (table_names ys) in
    (grind (arith, both), grind (arith, both))

all_attached : (place k : ℕ) → nat_lt place k ≡ true → (names : List (List ℕ)) → list_all {X = Attaching} (λ moment. nat_lt moment.event k) (map (attaching_at place 0) names) ≡ true
all_attached place k lt [] = refl
all_attached place k lt (name ∷ names) = grind (arith, all_attached place k lt names)

joined : {X : Type 0} (test : X → Bool) (before : List X) (b : Bool) (said compared changed : List X) → list_all test before ≡ true → list_all test said ≡ true → list_all test compared ≡ true → list_all test changed ≡ true
    → list_all test (before ++ (cond b said [] ++ compared ++ changed)) ≡ true
joined test before b said compared changed bs s c d = grind (arith, list_all-append test)

regroup : (moments more : List Attaching) (found : Option Attaching) (later : List Attaching) → (moments ++ more) ++ cons_option found later ≡ (moments ++ (more ++ cons_option found [])) ++ later
regroup moments more None later = grind (arith, append_assoc, append-nil)
regroup moments more (Some moment) later = grind (arith, append_assoc)

module _ {A : Type 0} where
  -- ---- attached tables, each with what is kept of it

  abbrev pub tables_with : (List ℕ → Records A) → List (List ℕ) → AttachedTables A
  tables_with records names = map (λ name. (name, records name)) names

  pub attach-named : (records : List ℕ → Records A) (name : List ℕ) (names : List (List ℕ)) → (is_among name names ≡ false → records name ≡ []) → attach name (tables_with records names) ≡ tables_with records (push_name names name)
  attach-named records name names none = grind (arith, is_listed-map records name names, none, map-append {B = List ℕ × Records A} (λ n. (n, records n)) names (name ∷ []))

  -- a name that the rule accepts goes last unless it is there
  abbrev pub push_by : AutomaticRule A → List (List ℕ) → List ℕ → List (List ℕ)
  push_by rule names name = cond (accepts_by rule name) (push_name names name) names

  pub attach_by-named : (rule : AutomaticRule A) (records : List ℕ → Records A) (more names : List (List ℕ)) → ((name : List ℕ) → is_among name names ≡ false → records name ≡ [])
      → fold (attach_by rule) (tables_with records names) more ≡ tables_with records (fold (push_by rule) names more)
  attach_by-named rule records [] names none = refl
  attach_by-named rule records (name ∷ more) names none =
      let pushed = attach_by-named rule records more (push_name names name) (λ other absent. none other (grind (arith, list_any-append (bytes_eq other) names (name ∷ [])))) in
      let left = attach_by-named rule records more names none in
      grind (arith, attach-named records name names (none name))

  -- ---- moments by changes

  pub names-by-changes : (session : ℕ) (past : Past A) → is_enabled session past ≡ true → (place : ℕ) (changes : List (Change A)) (names : List (List ℕ))
      → fold push_name names (table_names (filter_map (attaching_by session past) (enumerate_from place changes))) ≡ fold (push_by (rule_of session past)) names (map (λ change. change.table) changes)
  names-by-changes session past on place [] names = refl
  names-by-changes session past on place (change ∷ changes) names =
      let later = names-by-changes session past on (place + 1) changes in
      grind (arith, later (push_name names change.table), later names)

  -- a session that is not enabled attaches nothing
  pub none-by-changes : (session : ℕ) (past : Past A) → is_enabled session past ≡ false → (place : ℕ) (changes : List (Change A)) → filter_map (attaching_by session past) (enumerate_from place changes) ≡ []
  none-by-changes session past off place [] = refl
  none-by-changes session past off place (change ∷ changes) = grind (arith, none-by-changes session past off (place + 1) changes)

  -- the rule accepts the names that it attached
  pub accepted-by-changes : (session : ℕ) (past : Past A) → (name : List ℕ) (place : ℕ) (changes : List (Change A)) → is_among name (table_names (filter_map (attaching_by session past) (enumerate_from place changes))) ≡ true
      → (is_enabled session past && accepts_by (rule_of session past) name) ≡ true
  accepted-by-changes session past name place [] found = cc
  accepted-by-changes session past name place (change ∷ changes) found =
      grind (arith, (bytes_decides name change.table).0, accepted-by-changes session past name (place + 1) changes)

  -- ---- touches in time

  -- a moment of a listed name is in time for a touch that comes after all of them
  pub recorded : (moments : List Attaching) (touch : Touch A) (name : List ℕ) → bytes_eq name touch.table ≡ true → list_all {X = Attaching} (λ moment. nat_lt moment.event touch.event) moments ≡ true
      → is_among name (map (λ moment. moment.table) moments) ≡ true → is_recorded moments touch ≡ true
  recorded [] touch name same earlier listed = listed
  recorded (moment ∷ moments) touch name same earlier listed =
      let own = (bytes_decides name touch.table).0 same in grind (arith, recorded moments touch name same)

  -- a name that is not listed has no touch
  pub not_recorded : (moments : List Attaching) (touch : Touch A) (name : List ℕ) → bytes_eq name touch.table ≡ true → is_among name (map (λ moment. moment.table) moments) ≡ false → is_recorded moments touch ≡ false
  not_recorded [] touch name same absent = refl
  not_recorded (moment ∷ moments) touch name same absent =
      let own = (bytes_decides name touch.table).0 same in grind (arith, not_recorded moments touch name same)

  pub none_of : (moments : List Attaching) (name : List ℕ) → is_among name (map (λ moment. moment.table) moments) ≡ false → (found : List (Touch A)) → touches_of name (filter (is_recorded moments) found) ≡ []
  none_of moments name absent [] = refl
  none_of moments name absent (touch ∷ found) = grind (arith, not_recorded moments touch name, none_of moments name absent found)

  pub touches_of-append : (name : List ℕ) (xs ys : List (Touch A)) → touches_of name (xs ++ ys) ≡ touches_of name xs ++ touches_of name ys
  touches_of-append name xs ys =
      ap (map (λ touch. (touch.key, touch))) (filter-append (λ touch. bytes_eq name touch.table) xs ys)
      ∙ map-append (λ touch. (touch.key, touch)) (filter (λ touch. bytes_eq name touch.table) xs) (filter (λ touch. bytes_eq name touch.table) ys)

  -- ---- moments are of events that were

  all_by_changes : (session : ℕ) (past : Past A) (k : ℕ) → nat_lt (length past) k ≡ true → (place : ℕ) (changes : List (Change A))
      → list_all {X = Attaching} (λ moment. nat_lt moment.event k) (filter_map (attaching_by session past) (enumerate_from place changes)) ≡ true
  all_by_changes session past k lt place [] = refl
  all_by_changes session past k lt place (change ∷ changes) = grind (arith, all_by_changes session past k lt (place + 1) changes)

  pub attachings-earlier : (session k : ℕ) (past : Past A) → length past ≤ k → list_all {X = Attaching} (λ moment. nat_lt moment.event k) (attachings session past) ≡ true
  attachings-earlier session k [] le = refl
  attachings-earlier session k (event ∷ past) le =
      let lt : nat_lt (length past) k ≡ true = grind (arith, nat_tests) in
      joined (λ moment. nat_lt moment.event k) (attachings session past) (is_accepted event.reply) _ _ _ (attachings-earlier session k past (omega arith))
      (all_attached (length past) k lt (names_attached (command_to session event.command)))
      (all_attached (length past) k lt (names_compared (event_diff session event past)))
      (all_by_changes session past k lt 0 (changes_shown session event.command (event_effect (snapshot past) event).changes))

  -- ---- a table that is not attached has no touch

  apart_found : (session : ℕ) (past : Past A) (name other : List ℕ) → bytes_eq name other ≡ false → (differences : List (Difference A)) → touches_of name (map (touch_found session past other) differences) ≡ []
  apart_found session past name other apart [] = refl
  apart_found session past name other apart (difference ∷ differences) = grind (arith, apart_found session past name other apart differences)

  apart_diff : (session : ℕ) (past : Past A) (name : List ℕ) (found : Option (List ℕ × List (Difference A))) → is_among name (table_names (map (attaching_at (length past) 0) (names_compared found))) ≡ false
      → touches_of name (diff_touches session past found) ≡ []
  apart_diff session past name None absent = refl
  apart_diff session past name (Some compared) absent = apart_found session past name compared.0 (either_false (bytes_eq name compared.0) false absent) compared.1

  none_left : (name : List ℕ) (restarted on : Bool) (before changed compared : List (Touch A)) → touches_of name before ≡ [] → touches_of name changed ≡ [] → touches_of name compared ≡ []
      → touches_of name (cond restarted [] (before ++ (cond on changed [] ++ compared))) ≡ []
  none_left name restarted on before changed compared b c d = grind (arith, touches_of-append name)

  pub touches-none : (session : ℕ) (name : List ℕ) (past : Past A) → is_among name (attach_list session past) ≡ false → touches_of name (touches session past) ≡ []
  touches-none session name [] absent = refl
  touches-none session name (event ∷ past) absent =
      let now = sym (is_among-first_of_each name (table_names (attachings session (event ∷ past)))) ∙ absent in
      let apart = absent_before name (attachings session past) _ (map (attaching_at (length past) 0) (names_compared (event_diff session event past))) _ now in
      none_left name (is_accepted event.reply && restarts (command_to session event.command)) (is_enabled session past)
      (touches session past) _ (diff_touches session past (event_diff session event past))
      (touches-none session name past (is_among-first_of_each name (table_names (attachings session past)) ∙ apart.0))
      (none_of (attachings session (event ∷ past)) name now (filter_map (touch_of session past) (event_changes session event past)))
      (apart_diff session past name (event_diff session event past) apart.1)

  -- ---- the touches by changes are those that a session records

  abbrev touch_at : ℕ → Past A → ℕ → Change A → Fields A → Touch A
  touch_at session past place change key =
      record { event = length past; change = place; table = change.table; key = key; image = row_at (main past) change.table key; indirect = is_indirect session past || is_cascade change.cause }

  pub touches-told : (session : ℕ) (past : Past A) (name : List ℕ) (moments : List Attaching)
      → ((more : List Attaching) (place : ℕ) (change : Change A) (key : Fields A) (later : List Attaching) → bytes_eq name change.table ≡ true
      → is_recorded ((moments ++ more) ++ cons_option (attaching_by session past (place, change)) later) (touch_at session past place change key) ≡ true)
      → (place : ℕ) (changes : List (Change A)) (more : List Attaching)
      → map told (touches_of name (filter (is_recorded ((moments ++ more) ++ filter_map (attaching_by session past) (enumerate_from place changes))) (filter_map (touch_of session past) (enumerate_from place changes))))
      ≡ told_by (main past) (is_indirect session past) name changes
  touches-told session past name moments seen place [] more = refl
  touches-told session past name moments seen place (change ∷ changes) more =
      let here = attaching_by session past (place, change) in
      let later_moments = filter_map (attaching_by session past) (enumerate_from (place + 1) changes) in
      let later = filter_map (touch_of session past) (enumerate_from (place + 1) changes) in
      let all = (moments ++ more) ++ cons_option here later_moments in
      let rest = filter (is_recorded all) later in
      let others = told_by (main past) (is_indirect session past) name changes in
      let tail : map told (touches_of name rest) ≡ others =
      ap (λ ms. map told (touches_of name (filter (is_recorded ms) later))) (regroup moments more here later_moments)
      ∙ touches-told session past name moments seen (place + 1) changes (more ++ cons_option here []) in
      elim change.key as (λ k. map told (touches_of name (filter (is_recorded all) (cons_option (option_map (touch_at session past place change) k) later)))
      ≡ cons_option (cond (bytes_eq name change.table) (option_map (λ key. record { key = key; image = row_at (main past) name key; indirect = is_indirect session past || is_cascade change.cause }) k) None) others) [
        | None ↦ grind (arith, tail)
        | Some key ↦
            let own = (bytes_decides name change.table).0 in
            let shown = seen more place change key later_moments in
            grind (arith, tail)
      ]

  -- a table that was attached before is attached in time
  pub seen_before : (session : ℕ) (past : Past A) (name : List ℕ) → is_among name (table_names (attachings session past)) ≡ true
      → (more : List Attaching) (place : ℕ) (change : Change A) (key : Fields A) (later : List Attaching) → bytes_eq name change.table ≡ true
      → is_recorded ((attachings session past ++ more) ++ later) (touch_at session past place change key) ≡ true
  seen_before session past name listed more place change key later same =
      let touch = touch_at session past place change key in
      let all = recorded (attachings session past) touch name same (attachings-earlier session (length past) past (omega arith)) listed in
      grind (arith, list_any-append (λ (moment : Attaching). bytes_eq touch.table moment.table && is_in_time touch moment))

  -- a table that a change attaches is attached in time for the touch by this change
  pub seen_now : (session : ℕ) (past : Past A) (name : List ℕ) → (is_enabled session past && accepts_by (rule_of session past) name) ≡ true
      → (moments more : List Attaching) (place : ℕ) (change : Change A) (key : Fields A) (later : List Attaching) → bytes_eq name change.table ≡ true
      → is_recorded ((moments ++ more) ++ cons_option (attaching_by session past (place, change)) later) (touch_at session past place change key) ≡ true
  seen_now session past name accepted moments more place change key later same =
      let touch = touch_at session past place change key in
      grind (arith, (bytes_decides name change.table).0 same, same_bytes, nat_tests, list_any-append (λ (moment : Attaching). bytes_eq touch.table moment.table && is_in_time touch moment))
