-- The tables of an attach list by name: the one with a name, and what a change of it makes of all.
use Rattle.std.proofs.Common.{◌≡◌, ℕ, zero, suc, false, not, cond, Some, None, List, [], ◌∷◌, ◌++◌, ◌&&◌, ◌||◌, refl, sym, ap, ap₂, subst, ◌∙◌, Bool, ◌<◌, ◌+◌, length, get_or, take, arith, append_assoc}
use Rattle.std.specs.Prelude.{is_some}
use Rattle.std.specs.Cmp.Lexicographic.{bytes_decides}
use Rattle.std.specs.List.{AllByRecursion, IsDistinct, position}
use Rattle.std.specs.Map.{keys_of}
use Rattle.indexmap.proofs.CallerLemmas.{insert_entry-new}
use Rattle.cap_value.specs.Bytes.{bytes_eq}
use Rattle.cap_database.specs.declared.change.Change.{Change}
use Rattle.cap_compare.specs.declared.difference.Difference.{Difference}
use Rattle.cap_session.specs.declared.rule.AutomaticRule.{AutomaticRule}
use Rattle.cap_session.specs.declared.rule.AutomaticRule.TheVariants.{Nothing}
use Rattle.cap_session.specs.Delta.{changed_at}
use Rattle.cap_session.specs.Recording.{attach_by, attach_by_rule, touch_table, is_cascade, record_diff, touches_found, touches_of, touch_of, touch_tables}
use Rattle.cap_session.specs.Records.{Touch, with_touches, Records}
use Rattle.cap_session.specs.Session.{AttachedTables, accepts_by, attach, is_listed, records_of, SessionState, attached}
use Rattle.cap_row.specs.Fields.{Fields}
use Rattle.cap_database.proofs.StepLemmas.{take_item}
use Rattle.cap_session.proofs.PlaceLemmas.{IsFirst, NonePass, is-first, is-none}
use Rattle.cap_session.proofs.RecordLemmas.{touch-first}

pub other-way : (a b : List ℕ) → bytes_eq a b ≡ false → bytes_eq b a ≡ false
other-way a b not = let way = bytes_decides b a in let back = bytes_decides a b in grind (arith, way.0, back.1, not)

module _ {A : Type 0} (name : List ℕ) where
  -- touches of the table with the name
  pub touch-none : (touches : List (Touch A)) (ts : AttachedTables A) → NonePass (bytes_eq name) (keys_of ts) → touch_table name touches ts ≡ ts
  touch-none touches [] none = refl
  touch-none touches (t ∷ ts) none = ap₂ (λ a b. a ∷ b) (ap (λ b. cond b (t.0, with_touches t.1 touches) t) none.0) (touch-none touches ts none.1)

  pub touched-first : (touches : List (Touch A)) (ts : AttachedTables A) (i : ℕ) → IsFirst (bytes_eq name) (keys_of ts) i → IsDistinct bytes_eq (keys_of ts) → changed_at i (λ t. (t.0, with_touches t.1 touches)) ts ≡ touch_table name touches ts
  unfolding IsDistinct
  touched-first touches [] i first distinct = absurd first
  touched-first touches (t ∷ ts) zero first distinct =
      ap₂ (λ a b. a ∷ b) (sym (ap (λ b. cond b (t.0, with_touches t.1 touches) t) first))
      (sym (touch-none touches ts (subst (λ k. AllByRecursion (λ other. bytes_eq k other ≡ false) (keys_of ts)) (sym ((bytes_decides name t.0).0 first)) distinct.0)))
  touched-first touches (t ∷ ts) (suc i) first distinct =
      ap₂ (λ a b. a ∷ b) (sym (ap (λ b. cond b (t.0, with_touches t.1 touches) t) first.0)) (touched-first touches ts i first.1 distinct.1)

  -- the name is attached where it is new and the rule accepts it
  pub attached-where : (rule : AutomaticRule A) (ts : AttachedTables A) → attach_by rule ts name ≡ cond (not (is_listed name ts) && accepts_by rule name) (ts ++ (name, []) ∷ []) ts
  attached-where rule ts = grind arith

  pub listed : (ts : AttachedTables A) → is_listed name ts ≡ is_some (records_of ts name)
  listed [] = refl
  listed (t ∷ ts) = grind (arith, listed ts)

  pub none-listed : (ts : AttachedTables A) → is_listed name ts ≡ false → records_of ts name ≡ None
  none-listed ts absent = let none : is_some (records_of ts name) ≡ false = sym (listed ts) ∙ absent in grind arith

-- no rule attaches a table
pub nothing-attached : {A : Type 0} (changes : List (Change A)) (ts : AttachedTables A) → attach_by_rule Nothing changes ts ≡ ts
nothing-attached [] ts = refl
nothing-attached (change ∷ changes) ts = nothing-attached changes ts

module _ {A : Type 0} where
  attach-last : (rule : AutomaticRule A) (changes : List (Change A)) (change : Change A) (ts : AttachedTables A) → attach_by rule (attach_by_rule rule changes ts) change.table ≡ attach_by_rule rule (changes ++ change ∷ []) ts
  attach-last rule [] change ts = refl
  attach-last rule (c ∷ cs) change ts = attach-last rule cs change (attach_by rule ts c.table)

  -- one change more
  pub attach_more : (rule : AutomaticRule A) (changes : List (Change A)) (i : ℕ) (change : Change A) (ts : AttachedTables A) → i < length changes → change ≡ get_or changes i change
      → attach_by rule (attach_by_rule rule (take i changes) ts) change.table ≡ attach_by_rule rule (take (i + 1) changes) ts
  attach_more rule changes i change ts lt is = attach-last rule (take i changes) change ts ∙ ap (λ (cs : List (Change A)). attach_by_rule rule cs ts) (sym (take_item changes i change lt is))

pub ruleset attaching = (attached-where, attach_more, nothing-attached)

-- ---- touches of the table of a name

module _ {A : Type 0} where
  module _ (name : List ℕ) (touches : List (Touch A)) (ts : AttachedTables A) where
    -- touches of the table that stands at the place of the name, among these tables or others with their names
    pub noted : (keys : List (List ℕ)) (place : ℕ) → keys_of ts ≡ keys → position (bytes_eq name) keys ≡ Some place → IsDistinct bytes_eq keys
        → changed_at place (λ t. (t.0, with_touches t.1 touches)) ts ≡ touch_table name touches ts
    noted keys place same at apart =
        touched-first name touches ts place
        (subst (λ keys. IsFirst (bytes_eq name) keys place) (sym same) (is-first (bytes_eq name) keys place name at))
        (subst (IsDistinct bytes_eq) (sym same) apart)

    -- no table has the name
    pub noted_none : position (bytes_eq name) (keys_of ts) ≡ None → touch_table name touches ts ≡ ts
    noted_none none = touch-none name touches ts (is-none (bytes_eq name) (keys_of ts) none)

  -- touches, and then others
  pub touch-more : (name : List ℕ) (t : Touch A) (later : List (Touch A)) (ts : AttachedTables A) → touch_table name later (touch_table name (t ∷ []) ts) ≡ touch_table name (t ∷ later) ts
  touch-more name t later [] = refl
  touch-more name t later (table ∷ ts) = grind (arith, touch-more name t later ts)

  pub touch-no : (name : List ℕ) (ts : AttachedTables A) → touch_table name [] ts ≡ ts
  touch-no name [] = refl
  touch-no name (t ∷ ts) = grind (arith, touch-no name ts)

  -- the touch by one difference more
  found-last : (name : List ℕ) (indirect : Bool) (ds : List (Difference A)) (d : Difference A) (ts : AttachedTables A)
      → touch_table name (record { key = d.key; image = d.image; indirect = indirect } ∷ []) (touch_table name (touches_found indirect ds) ts) ≡ touch_table name (touches_found indirect (ds ++ d ∷ [])) ts
  found-last name indirect [] d ts = ap (touch_table name (record { key = d.key; image = d.image; indirect = indirect } ∷ [])) (touch-no name ts)
  found-last name indirect (e ∷ es) d ts =
      let t : Touch A = record { key = e.key; image = e.image; indirect = indirect } in
      ap (touch_table name (record { key = d.key; image = d.image; indirect = indirect } ∷ [])) (sym (touch-more name t (touches_found indirect es) ts))
      ∙ found-last name indirect es d (touch_table name (t ∷ []) ts) ∙ touch-more name t (touches_found indirect (es ++ d ∷ [])) ts

  pub found_more : (name : List ℕ) (indirect : Bool) (ds : List (Difference A)) (i : ℕ) (d : Difference A) (ts : AttachedTables A) → i < length ds → d ≡ get_or ds i d
      → touch_table name (record { key = d.key; image = d.image; indirect = indirect } ∷ []) (touch_table name (touches_found indirect (take i ds)) ts) ≡ touch_table name (touches_found indirect (take (i + 1) ds)) ts
  found_more name indirect ds i d ts lt is = found-last name indirect (take i ds) d ts ∙ ap (λ (all : List (Difference A)). touch_table name (touches_found indirect all) ts) (sym (take_item ds i d lt is))

  -- a diff without differences attaches its table
  pub diff_none : (name : List ℕ) (session : SessionState A) → record_diff name [] session ≡ attached name session
  diff_none name session = ap (λ tables. record session { tables = tables }) (touch-no name (attach name session.tables))

  -- the touch by a change, of a row that has a key
  pub told-one : (indirect : Bool) (change : Change A) (key : Fields A) → change.key ≡ Some key
      → touches_of indirect change.table (change ∷ []) ≡ record { key = key; image = change.before; indirect = indirect || is_cascade change.cause } ∷ []
  told-one indirect change key is = rw ((bytes_decides change.table change.table).1 refl, is) refl

  pub told-none : (indirect : Bool) (change : Change A) → change.key ≡ None → touches_of indirect change.table (change ∷ []) ≡ []
  told-none indirect change is = rw ((bytes_decides change.table change.table).1 refl, is) refl

-- ---- the changes of a commit, one after the other

module _ {A : Type 0} (indirect : Bool) where
  -- the records of a table after one change
  abbrev pub after_one : Change A → List ℕ → Records A → Records A
  after_one change name records = with_touches records (touches_of indirect name (change ∷ []))

  -- a change of one table alone
  pub one-table : (change : Change A) (tables : AttachedTables A) → touch_table change.table (touches_of indirect change.table (change ∷ [])) tables ≡ touch_tables indirect (change ∷ []) tables
  one-table change [] = refl
  one-table change (t ∷ ts) = grind (arith, one-table change ts, (bytes_decides change.table t.0).0, other-way change.table t.0)

  pub one-more : (change : Change A) (rest : List (Change A)) (tables : AttachedTables A) → touch_tables indirect rest (touch_tables indirect (change ∷ []) tables) ≡ touch_tables indirect (change ∷ rest) tables
  one-more change rest [] = refl
  one-more change rest (t ∷ ts) = grind (arith, one-more change rest ts, touch-first t.1 (touch_of indirect t.0 change) (touches_of indirect t.0 rest))

  pub no-change : (tables : AttachedTables A) → touch_tables indirect [] tables ≡ tables
  no-change [] = refl
  no-change (t ∷ ts) = ap (λ others. t ∷ others) (no-change ts)

  touch-last : (changes : List (Change A)) (change : Change A) (ts : AttachedTables A) → touch_table change.table (touches_of indirect change.table (change ∷ [])) (touch_tables indirect changes ts) ≡ touch_tables indirect (changes ++ change ∷ []) ts
  touch-last [] change ts = ap (touch_table change.table (touches_of indirect change.table (change ∷ []))) (no-change ts) ∙ one-table change ts
  touch-last (c ∷ cs) change ts =
      ap (touch_table change.table (touches_of indirect change.table (change ∷ []))) (sym (one-more c cs ts)) ∙ touch-last cs change (touch_tables indirect (c ∷ []) ts) ∙ one-more c (cs ++ change ∷ []) ts

  pub touch_more : (changes : List (Change A)) (i : ℕ) (change : Change A) (ts : AttachedTables A) → i < length changes → change ≡ get_or changes i change
      → touch_table change.table (touches_of indirect change.table (change ∷ [])) (touch_tables indirect (take i changes) ts) ≡ touch_tables indirect (take (i + 1) changes) ts
  touch_more changes i change ts lt is = touch-last (take i changes) change ts ∙ ap (λ (cs : List (Change A)). touch_tables indirect cs ts) (sym (take_item changes i change lt is))

-- touches of a loop, and of nothing
pub ruleset touching = (touch_more, no-change, touch-no, told-none)

-- a table is put behind the others
pub ruleset pushing = (insert_entry-new, none-listed, append_assoc)
