-- Operations on different rows of one table.
use Rattle.std.proofs.Common.{◌≡◌, ℕ, ◌^◌, ◌<◌, Bool, true, false, Option, Some, None, Result, Ok, Err, List, [], ◌∷◌, refl, sym, ap, subst, ◌∙◌, arith, ◌⊎◌, inl, inr}
use Rattle.std.specs.Prelude.{if◌then◌else◌, ⊤, IfOk, is_some, nat_lt}
use Rattle.std.specs.List.{AllByRecursion}
use Rattle.std.specs.Ordering.{nat_cmp}
use Rattle.std.specs.FinMap.{nat_cmp-IsAntisymmetric}
use Rattle.std.proofs.lemmas.Cmp.{nat_cmp_total}
use Rattle.cap_value.specs.declared.refusal.Refusal.{Refusal}
use Rattle.cap_row.specs.Fields.{Fields}
use Rattle.cap_row.specs.Key.{fields_cmp, fields_cmp_total, key_of}
use Rattle.cap_tree.specs.Tree.{get}
use Rattle.cap_table.proofs.TableLemmas.{fields_same, was_given}
use Rattle.cap_table.specs.Operation.{row_of}
use Rattle.cap_table.specs.Sound.{IsRising, IsTable}
use Rattle.cap_table.specs.Table.{TableState}
use Rattle.cap_table.specs.declared.row_ref.RowRef.{RowRef}
use Rattle.cap_table.specs.declared.row_ref.RowRef.TheVariants.{Key, Loose}
use Rattle.cap_database_laws.specs.Apart.{AreApart, Commute, by_key, rows_touched}
use Rattle.cap_database.specs.Assigned.{Assigned}
use Rattle.cap_database.specs.Operation.{act}
use Rattle.cap_database.specs.declared.op.Action.{Action}
use Rattle.cap_database.specs.declared.op.Action.TheVariants.{Insert, Update, Delete}
use Rattle.cap_database.proofs.PlanLemmas.{Plan, act-planned, applied, found_by, id_writes, if_left, is_taken, key_given, next_after, plan_of, planned}
use Rattle.cap_database.proofs.WritesLemmas.{get-sets, sets, sets-commute}

weaker : {X : Type 0} (P Q : X → Type 0) → ((x : X) → P x → Q x) → (xs : List X) → AllByRecursion P xs → AllByRecursion Q xs
weaker P Q says [] all = tt
weaker P Q says (x ∷ xs) all = (says x all.0, weaker P Q says xs all.1)

module _ {A : Type 0} where
  -- ---- what an operation is planned to write where an id is left, and whether it needs one

  abbrev whole : TableState A → Action A → Result (Plan A) Refusal
  whole t a = plan_of t.schema a (found_by t a) (is_taken t (key_given t.schema a (found_by t a))) true

  abbrev Needs : ℕ → Plan A → Type 0
  Needs next plan = is_some plan.fresh ≡ true → nat_lt next (2 ^ 63) ≡ true

  abbrev spared : Bool → Result (Plan A) Refusal → Result (Plan A) Refusal
  spared left (Ok plan) = if is_some plan.fresh then if_left left plan else Ok plan
  spared left (Err why) = Err why

  plan-spared : (schema : List Bool) (a : Action A) (found : Option (Fields A)) (taken left : Bool) → plan_of schema a found taken left ≡ spared left (plan_of schema a found taken true)
  plan-spared schema (Insert row) found taken left = grind arith
  plan-spared schema (Update name fields) None taken left = grind arith
  plan-spared schema (Update name fields) (Some row) taken left = grind arith
  plan-spared schema (Delete name) found taken left = grind arith

  act-spared : (t : TableState A) (a : Action A) → act t a ≡ planned t (spared (nat_lt t.next_id (2 ^ 63)) (whole t a))
  act-spared t a = act-planned t a ∙ ap (planned t) (plan-spared t.schema a (found_by t a) _ _)

  -- what an accepted operation was planned to write
  planned-as : (t after : TableState A) (r : Result (Plan A) Refusal) (left : Bool) → planned t (spared left r) ≡ Ok after → (p : Plan A) × (r ≡ Ok p) × (is_some p.fresh ≡ true → left ≡ true) × (applied t p ≡ after)
  planned-as t after r left ok = grind arith

  was_planned : (t after : TableState A) (a : Action A) → act t a ≡ Ok after → (p : Plan A) × (whole t a ≡ Ok p) × Needs t.next_id p × (applied t p ≡ after)
  was_planned t after a ok = planned-as t after (whole t a) (nat_lt t.next_id (2 ^ 63)) (sym (act-spared t a) ∙ ok)

  is_accepted : (t : TableState A) (a : Action A) (p : Plan A) → whole t a ≡ Ok p → Needs t.next_id p → act t a ≡ Ok (applied t p)
  is_accepted t a p is left = grind (arith, act-spared t a, is, left)

  -- ---- whatever is written is written at a row that the operation speaks of

  abbrev At : (RowRef A → Type 0) → Plan A → Type 0
  At P plan = AllByRecursion (λ w. P (Key w.0)) plan.keys × AllByRecursion (λ w. P (Loose w.0)) plan.ids

  module _ (P : RowRef A → Type 0) where
    whole-at : (t : TableState A) (a : Action A) → AllByRecursion P (rows_touched t a) → IfOk (whole t a) (At P)
    whole-at t (Insert row) all = grind (arith, all)
    whole-at t (Update name fields) all = grind (arith, all.0, all.1)
    whole-at t (Delete name) all = grind (arith, all.0)

    touched-at : (t : TableState A) (a : Action A) (p : Plan A) → AllByRecursion P (rows_touched t a) → whole t a ≡ Ok p → At P p
    touched-at t a p all is = subst (λ r. IfOk r (At P)) is (whole-at t a all)

  -- the rows that are named are there
  deleted-there : (t : TableState A) (name : RowRef A) (p : Plan A) → whole t (Delete name) ≡ Ok p → is_some (row_of t name) ≡ true
  deleted-there t name p is = grind arith

  updated-there : (t : TableState A) (name : RowRef A) (fields : Assigned A) (p : Plan A) → whole t (Update name fields) ≡ Ok p → is_some (row_of t name) ≡ true
  updated-there t name fields p is = grind arith

  -- ---- rows that are apart stay

  -- the writes are all at other rows
  abbrev Away : Plan A → RowRef A → Type 0
  Away p name = At (λ other. name ≡ other → ⊥) p

  all-away : (names : List (RowRef A)) (t : TableState A) (a : Action A) (p : Plan A) → AreApart names (rows_touched t a) → whole t a ≡ Ok p → AllByRecursion (Away p) names
  all-away names t a p apart is = weaker (λ name. AllByRecursion (λ other. name ≡ other → ⊥) (rows_touched t a)) (Away p) (λ name all. touched-at (λ other. name ≡ other → ⊥) t a p all is) names apart

  module _ (t : TableState A) (p : Plan A) (rise : IsRising t) where
    kept-key : (key : Fields A) → Away p (Key key) → get fields_cmp (applied t p).keyed key ≡ get fields_cmp t.keyed key
    kept-key key away =
        get-sets fields_cmp fields_cmp_total fields_same t.keyed p.keys key rise.keys
        (weaker (λ w. Key key ≡ Key w.0 → ⊥) (λ w. w.0 ≡ key → ⊥) (λ w differ e. differ (ap Key (sym e))) p.keys away.0)

    kept-row : (name : RowRef A) → is_some (row_of t name) ≡ true → Away p name → row_of (applied t p) name ≡ row_of t name
    kept-row (Key key) there away = kept-key key away
    kept-row (Loose id) there away = get-sets nat_cmp nat_cmp_total nat_cmp-IsAntisymmetric t.loose (id_writes t.next_id p.ids p.fresh) id rise.ids (inner p.fresh)
      where
        inner : (fresh : Option (Fields A)) → AllByRecursion (λ w. w.0 ≡ id → ⊥) (id_writes t.next_id p.ids fresh)
        inner None = weaker (λ w. Loose id ≡ Loose w.0 → ⊥) (λ w. w.0 ≡ id → ⊥) (λ w differ e. differ (ap Loose (sym e))) p.ids away.1
        inner (Some row) = ((λ e. absurd (omega (arith, was_given t id rise.sound there, e))), tt)

    kept-taken : (key : Option (Fields A)) → AllByRecursion (Away p) (by_key key) → is_taken (applied t p) key ≡ is_taken t key
    kept-taken None away = refl
    kept-taken (Some key) away = ap is_some (kept-key key away.0)

    -- what an operation is planned to write is the same after writes that are apart from it
    kept-whole : (b : Action A) (q : Plan A) → whole t b ≡ Ok q → AllByRecursion (Away p) (rows_touched t b) → whole (applied t p) b ≡ whole t b
    kept-whole (Insert row) q is away = ap (λ taken. plan_of t.schema (Insert row) None taken true) (kept-taken (key_of t.schema row) away)
    kept-whole (Update name fields) q is away =
        let row = kept-row name (updated-there t name fields q is) away.0 in
        let taken = kept-taken (key_given t.schema (Update name fields) (row_of t name)) away.1 in
        rw (row, taken) refl
    kept-whole (Delete name) q is away = ap (λ found. plan_of t.schema (Delete name) found false true) (kept-row name (deleted-there t name q is) away.0)

  -- ids that are written were given
  abbrev Below : ℕ → RowRef A → Type 0
  Below next (Key key) = ⊤
  Below next (Loose id) = id < next

  below-keys : (next : ℕ) (key : Option (Fields A)) → AllByRecursion (Below next) (by_key key)
  below-keys next key = grind arith

  below-found : (t : TableState A) (name : RowRef A) → IsTable t → is_some (row_of t name) ≡ true → Below t.next_id name
  below-found t (Key key) h there = tt
  below-found t (Loose id) h there = was_given t id h there

  below-rows : (t : TableState A) (a : Action A) (p : Plan A) → IsTable t → whole t a ≡ Ok p → AllByRecursion (Below t.next_id) (rows_touched t a)
  below-rows t (Insert row) p h is = below-keys t.next_id (key_of t.schema row)
  below-rows t (Update name fields) p h is = (below-found t name h (updated-there t name fields p is), below-keys t.next_id _)
  below-rows t (Delete name) p h is = (below-found t name h (deleted-there t name p is), tt)

  ids-below : (t : TableState A) (a : Action A) (p : Plan A) → IsTable t → whole t a ≡ Ok p → AllByRecursion (λ w. w.0 < t.next_id) p.ids
  ids-below t a p h is = (touched-at (Below t.next_id) t a p (below-rows t a p h is) is).1

  -- ---- two plans that are apart

  apart-swap : (xs ys : List (RowRef A)) → AreApart xs ys → AreApart ys xs
  apart-swap xs [] all = tt
  apart-swap xs (y ∷ ys) all = (
    weaker (λ x. AllByRecursion (λ z. x ≡ z → ⊥) (y ∷ ys)) (λ x. y ≡ x → ⊥) (λ x h e. h.0 (sym e)) xs all,
    apart-swap xs ys (weaker (λ x. AllByRecursion (λ z. x ≡ z → ⊥) (y ∷ ys)) (λ x. AllByRecursion (λ z. x ≡ z → ⊥) ys) (λ x h. h.1) xs all),
  )

  next-swap : (n : ℕ) (x y : Option (Fields A)) → next_after (next_after n y) x ≡ next_after (next_after n x) y
  next-swap n x y = grind arith

  next-left : (n : ℕ) (x y : Option (Fields A)) → is_some x ≡ true → nat_lt n (2 ^ 63) ≡ true → (is_some y ≡ true → nat_lt (next_after n x) (2 ^ 63) ≡ true) → nat_lt (next_after n y) (2 ^ 63) ≡ true
  next-left n x y some first second = grind arith

  gives-none : (n : ℕ) (x : Option (Fields A)) → next_after n x ≡ n → x ≡ None
  gives-none n x e = grind arith

  module _ (t : TableState A) (a b : Action A) (p q : Plan A) (rise : IsRising t) (apart : AllByRecursion (Away q) (rows_touched t a)) (plans_a : whole t a ≡ Ok p) (plans_b : whole t b ≡ Ok q) where
    both_apart : At (Away q) p
    both_apart = touched-at (Away q) t a p apart plans_a

    keyed-same : (applied (applied t q) p).keyed ≡ (applied (applied t p) q).keyed
    keyed-same =
        let keys_apart = weaker (λ w. Away q (Key w.0)) (λ w. AllByRecursion (λ v. w.0 ≡ v.0 → ⊥) q.keys)
        (λ w all. weaker (λ v. Key w.0 ≡ Key v.0 → ⊥) (λ v. w.0 ≡ v.0 → ⊥) (λ v differ e. differ (ap Key e)) q.keys all.0) p.keys both_apart.0 in
        sym (sets-commute fields_cmp fields_cmp_total fields_same t.keyed p.keys q.keys keys_apart rise.keys)

    abbrev with_ids : List (ℕ × Fields A) → List (ℕ × Option (Fields A)) → List (ℕ × Fields A)
    with_ids = sets nat_cmp nat_cmp_total nat_cmp-IsAntisymmetric

    abbrev LooseSame : Option (Fields A) → Option (Fields A) → Type 0
    LooseSame x y =
        with_ids (with_ids t.loose (id_writes t.next_id q.ids y)) (id_writes (next_after t.next_id y) p.ids x)
        ≡ with_ids (with_ids t.loose (id_writes t.next_id p.ids x)) (id_writes (next_after t.next_id x) q.ids y)

    swap_ids : (ws vs : List (ℕ × Option (Fields A))) → AllByRecursion (λ w. AllByRecursion (λ v. w.0 ≡ v.0 → ⊥) vs) ws → with_ids (with_ids t.loose vs) ws ≡ with_ids (with_ids t.loose ws) vs
    swap_ids ws vs all = sym (sets-commute nat_cmp nat_cmp_total nat_cmp-IsAntisymmetric t.loose ws vs all rise.ids)

    loose-same : (x y : Option (Fields A)) → (x ≡ None) ⊎ (y ≡ None) → LooseSame x y
    loose-same None None one =
        swap_ids p.ids q.ids (weaker (λ w. Away q (Loose w.0)) (λ w. AllByRecursion (λ v. w.0 ≡ v.0 → ⊥) q.ids)
        (λ w all. weaker (λ v. Loose w.0 ≡ Loose v.0 → ⊥) (λ v. w.0 ≡ v.0 → ⊥) (λ v differ e. differ (ap Loose e)) q.ids all.1) p.ids both_apart.1)
    loose-same None (Some s) one =
        swap_ids p.ids ((t.next_id, Some s) ∷ []) (weaker (λ (w : ℕ × Option (Fields A)). w.0 < t.next_id) (λ w. AllByRecursion (λ (v : ℕ × Option (Fields A)). w.0 ≡ v.0 → ⊥) ((t.next_id, Some s) ∷ [])) (λ w l. ((λ e. absurd (omega (arith, l, e))), tt)) p.ids (ids-below t a p rise.sound plans_a))
    loose-same (Some r) None one =
        swap_ids ((t.next_id, Some r) ∷ []) q.ids (weaker (λ (v : ℕ × Option (Fields A)). v.0 < t.next_id) (λ (v : ℕ × Option (Fields A)). t.next_id ≡ v.0 → ⊥) (λ v l e. absurd (omega (arith, l, e))) q.ids (ids-below t b q rise.sound plans_b), tt)
    loose-same (Some r) (Some s) (inl e) = cc
    loose-same (Some r) (Some s) (inr e) = cc

    all_same : (p.fresh ≡ None) ⊎ (q.fresh ≡ None) → applied (applied t q) p ≡ applied (applied t p) q
    all_same one =
        let keyed = keyed-same in
        let loose = loose-same p.fresh q.fresh one in
        let next = next-swap t.next_id p.fresh q.fresh in
        cc

    -- the second one is accepted after the first one, and so is the first one after it
    commute : Needs t.next_id p → Needs (next_after t.next_id p.fresh) q → Commute t (applied t p) (applied t q) (applied (applied t p) q) a
    commute first second = record {
      last = applied (applied t q) p;
      accepted = is_accepted (applied t q) a p (kept-whole t q rise a p plans_a apart ∙ plans_a) (λ some. next-left t.next_id p.fresh q.fresh some (first some) second);
      keyed = keyed-same;
      next = next-swap t.next_id p.fresh q.fresh;
      first_gives_none = λ e. all_same (inl (gives-none t.next_id p.fresh e));
      second_gives_none = λ e. all_same (inr (gives-none t.next_id q.fresh e));
    }

  pub rows-commute : (t one other both : TableState A) (a b : Action A) → IsRising t → AreApart (rows_touched t a) (rows_touched t b) → act t a ≡ Ok one → act t b ≡ Ok other → act one b ≡ Ok both → Commute t one other both a
  rows-commute t one other both a b rise apart ran_a ran_b ran_both =
      let (p, plans_a, needs_a, one_is) = was_planned t one a ran_a in
      let (q, plans_b, needs_b, other_is) = was_planned t other b ran_b in
      let (q', plans_last, needs_last, both_is) = was_planned (applied t p) both b (ap (λ (x : TableState A). act x b) one_is ∙ ran_both) in
      let a_away = all-away (rows_touched t b) t a p (apart-swap (rows_touched t a) (rows_touched t b) apart) plans_a in
      let b_away = all-away (rows_touched t a) t b q apart plans_b in
      let onto : ◌≡◌ {A = Result (Plan A) Refusal} (Ok q') (Ok q) = sym plans_last ∙ kept-whole t p rise b q plans_b a_away ∙ plans_b in
      let alike : q' ≡ q = cc in
      rw (← one_is, ← other_is, ← both_is, alike) (commute t a b p q rise b_away plans_a plans_b needs_a (rw alike at needs_last))
