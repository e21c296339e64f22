-- Records of tables of one session, behind those of others.
use Rattle.std.proofs.Common.{◌≡◌, ◌+◌, ◌-◌, ℕ, zero, suc, Some, None, List, [], ◌∷◌, ◌++◌, length, map, get_or, set, drop, append_assoc, refl, sym, ap, subst, ◌∙◌, nat_eq, arith, ◌<◌, ◌≤◌, false, true, cond, add-one, take}
use Rattle.std.proofs.Math.Seq.{drop-append_seam}
use Rattle.std.proofs.lemmas.List.{append-nil, get_or-append-add, map-append, set-append_right, drop_all, take_all}
use Rattle.std.specs.List.{IsDistinct, position, AllByRecursion}
use Rattle.std.specs.Map.{keys_of}
use Rattle.std.proofs.lemmas.Bool.Decides.{nat_tests}
use Rattle.cap_value.specs.Bytes.{bytes_eq}
use Rattle.cap_session.specs.Code.Added.{AreReserved, Makes, appended, Adds, first_or}
use Rattle.cap_session.specs.Delta.{changed_at, with_records, published, renewed, with_parts, with_tables, with_touched}
use Rattle.cap_session.specs.Recording.{touch_table, attach_by_rule, record_commit, touch_tables}
use Rattle.cap_session.specs.Records.{Records, Touch, with_touches}
use Rattle.cap_session.specs.Session.{AttachedTables, SessionState}
use Rattle.cap_database.specs.declared.change.Change.{Change}
use Rattle.cap_session.specs.declared.delta.Delta.{Delta}
use Rattle.cap_session.specs.Sessions.{NumberedSessions, is_one_of, record_commit_each}
use Rattle.cap_session.proofs.PlaceLemmas.{IsFirst, NonePass, has_place, is-first, is-none, keys-parts, parts-first, parts-push, parts-stay, changed-not, changed-step, changed-twice, parts-append, parts-other}
use Rattle.cap_session.proofs.TableLemmas.{noted, noted_none}

module _ {P : Type 0} (place : ℕ) where
  abbrev pub paired : List P → List (ℕ × P)
  paired own = map (λ part. (place, part)) own

  pub appended-push : (others : List (ℕ × P)) (own : List P) (last : P) → appended place others own ++ (place, last) ∷ [] ≡ appended place others (own ++ last ∷ [])
  appended-push others own last = append_assoc others (paired own) ((place, last) ∷ []) ∙ ap (λ parts. others ++ parts) (sym (map-append (λ part. (place, part)) own (last ∷ [])))

  paired-set : (own : List P) (i : ℕ) (x d : ℕ × P) → d ≡ get_or (paired own) i d → x.0 ≡ d.0 → set (paired own) i x ≡ paired (set own i x.1)
  paired-set [] i x d is same = refl
  paired-set (p ∷ ps) zero x d is same = ap (λ n. (n, x.1) ∷ paired ps) (same ∙ ap (λ (q : ℕ × P). q.0) is)
  paired-set (p ∷ ps) (suc i) x d is same = ap (λ others. (place, p) ∷ others) (paired-set ps i x d is same)

  paired-at : (own : List P) (i : ℕ) (d : ℕ × P) → d ≡ get_or (paired own) i d → d.1 ≡ get_or own i d.1
  paired-at [] i d is = refl
  paired-at (p ∷ ps) zero d is = ap (λ (q : ℕ × P). q.1) is
  paired-at (p ∷ ps) (suc i) d is = paired-at ps i d is

module _ {A : Type 0} (session : ℕ) where
  module _ (table : ℕ) where
    own-first : (own : List (ℕ × Records A)) (i : ℕ) → IsFirst (λ o. nat_eq table o.1.0) (paired session own) i → IsFirst (has_place table) own i
    own-first [] i first = absurd first
    own-first (p ∷ ps) zero first = first
    own-first (p ∷ ps) (suc i) first = (first.0, own-first ps i first.1)

    own-none : (own : List (ℕ × Records A)) → NonePass (λ o. nat_eq table o.1.0) (paired session own) → NonePass (has_place table) own
    own-none [] none = tt
    own-none (p ∷ ps) none = (none.0, own-none ps none.1)

  module _ (ts : AttachedTables A) where
    -- nothing is beside them yet
    pub none-reserved : (others : List (ℕ × (ℕ × Records A))) → AreReserved session ts ts others others
    none-reserved others = record { own = []; items = sym (append-nil others); made = refl }

    pub reserved-same : (before after : AttachedTables A) (others touched : List (ℕ × (ℕ × Records A))) → before ≡ after → AreReserved session ts before others touched → AreReserved session ts after others touched
    reserved-same before after others touched is a = record { own = a.own; items = a.items; made = a.made ∙ is }

    module _ (start : ℕ) where
      -- nothing is made of the tables
      pub makes-none : (make : AttachedTables A → AttachedTables A) (old : List (ℕ × (ℕ × Records A))) → ((before : AttachedTables A) → before ≡ make before) → Makes start session ts make old old
      makes-none make old same = λ others before len a. reserved-same before (make before) others old (same before) a

      -- the records of the session, from where they begin
      module _ (old others : List (ℕ × (ℕ × Records A))) (before : AttachedTables A) (len : length others ≡ start) (a : AreReserved session ts before others old) where
        pub starts : drop start old ≡ paired session a.own
        starts = ap (drop start) a.items ∙ ap (λ n. drop n (others ++ paired session a.own)) (sym len) ∙ drop-append_seam others (paired session a.own)

        at-start : (i : ℕ) (d : ℕ × (ℕ × Records A)) → get_or old (start + i) d ≡ get_or (paired session a.own) i d
        at-start i d = ap (λ xs. get_or xs (start + i) d) a.items ∙ ap (λ n. get_or (others ++ paired session a.own) (n + i) d) (sym len) ∙ get_or-append-add others (paired session a.own) i d

      module _ (table : ℕ) (f : Records A → Records A) (old : List (ℕ × (ℕ × Records A))) where
        abbrev make : AttachedTables A → AttachedTables A
        make before = changed_at table (λ t. (t.0, f t.1)) before

        -- records that are there are changed
        pub makes-set : (i : ℕ) (d new : ℕ × (ℕ × Records A)) → position (λ o. nat_eq table o.1.0) (drop start old) ≡ Some i → d ≡ get_or old (start + i) d → new.0 ≡ d.0 → new.1.0 ≡ d.1.0 → new.1.1 ≡ f d.1.1
            → Makes start session ts make old (set old (start + i) new)
        makes-set i d new found is same at made = λ others before len a.
            let here : d ≡ get_or (paired session a.own) i d = is ∙ at-start old others before len a i d in
            let own : d.1 ≡ get_or a.own i d.1 = paired-at session a.own i d here in
            let first = own-first table a.own i (is-first (λ o. nat_eq table o.1.0) (paired session a.own) i d (subst (λ xs. position (λ o. nat_eq table o.1.0) xs ≡ Some i) (starts old others before len a) found)) in
            let index : start + i - start ≡ i = omega arith in record {
              own = set a.own i new.1;
              items = ap (λ xs. set xs (start + i) new) a.items ∙ set-append_right others (paired session a.own) start (start + i) new len (omega arith)
                  ∙ ap (λ k. others ++ set (paired session a.own) k new) index ∙ ap (λ xs. others ++ xs) (paired-set session a.own i new d here same);
              made = parts-first f ts a.own table i new.1 d.1 first (at ∙ ap (λ (o : ℕ × Records A). o.0) own) (made ∙ ap (λ (o : ℕ × Records A). f o.1) own) ∙ ap make a.made;
            }

        module _ (none : position (λ o. nat_eq table o.1.0) (drop start old) ≡ None) where
          absent : (others : List (ℕ × (ℕ × Records A))) (before : AttachedTables A) (len : length others ≡ start) (a : AreReserved session ts before others old) → NonePass (has_place table) a.own
          absent others before len a = own-none table a.own (is-none (λ o. nat_eq table o.1.0) (paired session a.own) (subst (λ xs. position (λ o. nat_eq table o.1.0) xs ≡ None) (starts old others before len a) none))

          -- records are put behind them
          pub makes-push : (s : Records A) (new : List (ℕ × (ℕ × Records A))) → new ≡ old ++ (session, (table, s)) ∷ [] → changed_at table (with_records s) ts ≡ make ts → Makes start session ts make old new
          makes-push s new is made = λ others before len a. record {
            own = a.own ++ (table, s) ∷ [];
            items = is ∙ ap (λ xs. xs ++ (session, (table, s)) ∷ []) a.items ∙ appended-push session others a.own (table, s);
            made = parts-push (λ t. (t.0, f t.1)) ts a.own table (absent others before len a) s made ∙ ap make a.made;
          }

          -- they stay as they are
          pub makes-stay : (new : List (ℕ × (ℕ × Records A))) → new ≡ old → ts ≡ make ts → Makes start session ts make old new
          makes-stay new is made = λ others before len a. record {
            own = a.own;
            items = is ∙ a.items;
            made = parts-stay (λ t. (t.0, f t.1)) ts a.own table (absent others before len a) made ∙ ap make a.made;
          }

      -- the table of a name
      module _ (name : List ℕ) (touches : List (Touch A)) (old new : List (ℕ × (ℕ × Records A))) where
        named : (before : AttachedTables A) (others : List (ℕ × (ℕ × Records A))) → AreReserved session ts before others old → keys_of before ≡ keys_of ts
        named before others a = ap keys_of (sym a.made) ∙ keys-parts ts a.own

        pub makes-named : (table : ℕ) → position (bytes_eq name) (keys_of ts) ≡ Some table → IsDistinct bytes_eq (keys_of ts)
            → Makes start session ts (changed_at table (λ t. (t.0, with_touches t.1 touches))) old new → Makes start session ts (touch_table name touches) old new
        makes-named table at apart makes = λ others before len a.
            reserved-same (changed_at table (λ t. (t.0, with_touches t.1 touches)) before) (touch_table name touches before) others new
            (noted name touches before (keys_of ts) table (named before others a) at apart) (makes others before len a)

      pub makes-unnamed : (name : List ℕ) (touches : List (Touch A)) (old : List (ℕ × (ℕ × Records A))) → position (bytes_eq name) (keys_of ts) ≡ None → Makes start session ts (touch_table name touches) old old
      makes-unnamed name touches old none = λ others before len a.
          reserved-same before (touch_table name touches before) others old (sym (noted_none name touches before (subst (λ keys. position (bytes_eq name) keys ≡ None) (sym (named name touches old old before others a)) none))) a

-- ---- what a commit adds to each session

module _ {A : Type 0} (session : ℕ) (before after : SessionState A) where
  pub adds_nothing : (delta : Delta A) → before ≡ after → Adds session before after delta delta
  adds_nothing delta same = record {
    all = [];
    own = [];
    renewed_is = sym (append-nil (renewed delta));
    touched_is = sym (append-nil delta.touched.items);
    made = same;
  }

  module _ (old new : Delta A) (tables : AttachedTables A) (made : record before { tables = tables } ≡ after) where
    pub adds-all : renewed new ≡ renewed old ++ (session, tables) ∷ [] → new.touched.items ≡ old.touched.items → Adds session before after old new
    adds-all pushed same = record {
      all = tables ∷ [];
      own = [];
      renewed_is = pushed;
      touched_is = same ∙ sym (append-nil old.touched.items);
      made = made;
    }

    pub adds-own : renewed new ≡ renewed old → AreReserved session before.tables tables old.touched.items new.touched.items → Adds session before after old new
    adds-own same a = record {
      all = [];
      own = a.own;
      renewed_is = same ∙ sym (append-nil (renewed old));
      touched_is = a.items;
      made = ap (λ (ts : AttachedTables A). record before { tables = ts }) a.made ∙ made;
    }

module _ {A : Type 0} (changes : List (Change A)) (session : SessionState A) where
  abbrev pub committed : SessionState A
  committed = record session { tables = touch_tables session.indirect changes (attach_by_rule session.rule changes session.tables) }

  -- what a commit makes of a session that is enabled
  pub commits : session.enabled ≡ true → committed ≡ record_commit changes session
  commits enabled = sym (ap (λ b. cond b committed session) enabled)

-- each part is of an item before this place
abbrev pub AreBefore : {P : Type 0} → ℕ → List (ℕ × P) → Type 0
AreBefore place parts = AllByRecursion (λ part. part.0 < place) parts

differs : (place n : ℕ) → n < place → nat_eq place n ≡ false
differs place n lt = grind (arith, nat_tests)

module _ {P : Type 0} where
  none-before : (place : ℕ) (parts : List (ℕ × P)) → AreBefore place parts → NonePass (has_place place) parts
  none-before place [] before = tt
  none-before place (p ∷ ps) before = (differs place p.0 before.0, none-before place ps before.1)

  before-own : (place : ℕ) (own : List P) → AreBefore (suc place) (paired place own)
  before-own place [] = tt
  before-own place (p ∷ ps) = (omega arith, before-own place ps)

  before-appended : (place : ℕ) (parts : List (ℕ × P)) (own : List P) → AreBefore place parts → AreBefore (suc place) (appended place parts own)
  before-appended place [] own before = before-own place own
  before-appended place (p ∷ ps) own before = (omega (arith, before.0), before-appended place ps own before.1)

module _ {A : Type 0} (session : ℕ) where
  all-own : (all : List (AttachedTables A)) (xs : NumberedSessions A) → with_parts with_tables xs (paired session all) ≡ changed_at session (λ s. with_tables (first_or all s.1.tables) s) xs
  all-own [] xs = sym (changed-not xs session)
  all-own (ts ∷ others) xs = ap (changed_at session (with_tables ts)) (all-own others xs) ∙ changed-twice (with_tables ts) (λ s. with_tables (first_or others s.1.tables) s) xs session

  touched-own : (own : List (ℕ × Records A)) (xs : NumberedSessions A) → with_parts with_touched xs (paired session own) ≡ changed_at session (λ s. with_tables (with_parts with_records s.1.tables own) s) xs
  touched-own [] xs = sym (changed-not xs session)
  touched-own (p ∷ ps) xs = ap (changed_at session (with_touched p)) (touched-own ps xs) ∙ changed-twice (with_touched p) (λ s. with_tables (with_parts with_records s.1.tables ps) s) xs session

  -- the sessions, with what is added to one more
  published-own : (xs : NumberedSessions A) (before after : SessionState A) (old new : Delta A) (a : Adds session before after old new) → AreBefore session (renewed old) → AreBefore session old.touched.items
      → published new xs ≡ changed_at session (λ s. with_tables (with_parts with_records (first_or a.all s.1.tables) a.own) s) (published old xs)
  published-own xs before after old new a all own =
      let make_all : ℕ × SessionState A → ℕ × SessionState A = λ s. with_tables (first_or a.all s.1.tables) s in
      let make_own : ℕ × SessionState A → ℕ × SessionState A = λ s. with_tables (with_parts with_records s.1.tables a.own) s in
      let was : NumberedSessions A = with_parts with_tables xs (renewed old) in
      let first : with_parts with_tables xs (renewed new) ≡ changed_at session make_all was =
      ap (with_parts with_tables xs) a.renewed_is ∙ parts-append with_tables xs (renewed old) (paired session a.all)
      ∙ ap (λ ys. with_parts with_tables ys (renewed old)) (all-own a.all xs) ∙ parts-other with_tables make_all xs (renewed old) session (none-before session (renewed old) all) in
      ap (λ ys. with_parts with_touched ys new.touched.items) first
      ∙ ap (with_parts with_touched (changed_at session make_all was)) a.touched_is ∙ parts-append with_touched (changed_at session make_all was) old.touched.items (paired session a.own)
      ∙ ap (λ ys. with_parts with_touched ys old.touched.items) (touched-own a.own (changed_at session make_all was) ∙ changed-twice make_own make_all was session)
      ∙ parts-other with_touched (λ s. make_own (make_all s)) was old.touched.items session (none-before session old.touched.items own)

module _ {A : Type 0} (delta : Delta A) (sessions : NumberedSessions A) (own : delta.touched.items ≡ []) where
  -- where no table has records of its own
  pub published-all : (all : List (ℕ × AttachedTables A)) → renewed delta ≡ all → published delta sessions ≡ with_parts with_tables sessions all
  published-all all is = ap (with_parts with_touched (with_parts with_tables sessions (renewed delta))) own ∙ ap (with_parts with_tables sessions) is

module _ {A : Type 0} (changes : List (Change A)) (quiet : List ℕ) where
  -- a session after a commit, unless it is a quiet one
  abbrev recorded : ℕ × SessionState A → ℕ × SessionState A
  recorded session = (session.0, cond (is_one_of quiet session.0) session.1 (record_commit changes session.1))

  module _ (start : NumberedSessions A) where
    -- what is added to the sessions before this place
    pub record AreAdded (place : ℕ) (delta : Delta A) : Type 0 where
      pub published_is : published delta start ≡ map recorded (take place start) ++ drop place start
      pub all : AreBefore place (renewed delta)
      pub own : AreBefore place delta.touched.items

    pub none_added : (delta : Delta A) → renewed delta ≡ [] → delta.touched.items ≡ [] → AreAdded 0 delta
    none_added delta all own = record {
      published_is = published-all delta start own [] all;
      all = subst (AreBefore 0) (sym all) tt;
      own = subst (AreBefore 0) (sym own) tt;
    }

    pub one-added : (i : ℕ) (x : ℕ × SessionState A) (old new : Delta A) → i < length start → x ≡ get_or start i x
        → Adds i x.1 (cond (is_one_of quiet x.0) x.1 (record_commit changes x.1)) old new → AreAdded i old → AreAdded (i + 1) new
    one-added i x old new lt at a sofar = subst (λ n. AreAdded n new) (sym (add-one i)) (record {
      published_is =
          published-own i start x.1 (cond (is_one_of quiet x.0) x.1 (record_commit changes x.1)) old new a sofar.all sofar.own
          ∙ ap (changed_at i (λ s. with_tables (with_parts with_records (first_or a.all s.1.tables) a.own) s)) sofar.published_is
          ∙ changed-step recorded (λ s. with_tables (with_parts with_records (first_or a.all s.1.tables) a.own) s) start i x lt at (ap (λ s. (x.0, s)) a.made);
      all = subst (AreBefore (suc i)) (sym a.renewed_is) (before-appended i (renewed old) a.all sofar.all);
      own = subst (AreBefore (suc i)) (sym a.touched_is) (before-appended i old.touched.items a.own sofar.own);
    })

    pub all-added : (i : ℕ) (delta : Delta A) → length start ≤ i → AreAdded i delta → published delta start ≡ record_commit_each changes quiet start
    all-added i delta all sofar =
        sofar.published_is ∙ ap (λ rest. map recorded (take i start) ++ rest) (drop_all i start all) ∙ append-nil (map recorded (take i start)) ∙ ap (map recorded) (take_all i start all)
