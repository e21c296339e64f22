-- The first item of a list that passes a test, and its place.
use Rattle.std.proofs.Common.{◌≡◌, ◌<◌, ◌+◌, ℕ, zero, suc, Bool, true, false, cond, Some, None, List, [], ◌∷◌, length, get_or, arith, refl, sym, ◌∙◌, ap, nat_eq, ◌++◌, drop, map, ap₂, ◌≤◌, set, take, add-one}
use Rattle.std.proofs.lemmas.Iterator.Adapters.{position_from-zero}
use Rattle.std.proofs.lemmas.List.Quantifiers.{position-Some}
use Rattle.std.specs.List.{AllByRecursion, position, position_from, remove}
use Rattle.std.specs.Option.{option_map}
use Rattle.std.proofs.lemmas.List.{append-nil, drop_all, map_push, take_all}
use Rattle.std.proofs.lemmas.Bool.{eqb-false, eqb-true}
use Rattle.std.specs.Map.{keys_of, values_of}
use Rattle.std.specs.Prelude.{slice_get}
use Rattle.indexmap.specs.Layout.{set_value_at, length-set_value_at}
use Rattle.cap_session.specs.Delta.{changed_at, with_parts, with_records}
use Rattle.cap_session.specs.Session.{SessionState, AttachedTables, forget}
use Rattle.cap_session.specs.Sessions.{NumberedSessions, session_numbered, with_session, with_session_if, without_session}
use Rattle.cap_session.specs.Records.{Records}

module _ {X : Type 0} (t : X → Bool) where
  -- the item at this place passes, and none before it
  abbrev pub IsFirst : List X → ℕ → Type 0
  IsFirst [] i = ⊥
  IsFirst (x ∷ xs) zero = t x ≡ true
  IsFirst (x ∷ xs) (suc i) = (t x ≡ false) × IsFirst xs i

  abbrev pub NonePass : List X → Type 0
  NonePass xs = AllByRecursion (λ x. t x ≡ false) xs

  first-at : (xs : List X) (i : ℕ) (d : X) → i < length xs → t (get_or xs i d) ≡ true → ((k : ℕ) → k < i → t (get_or xs k d) ≡ false) → IsFirst xs i
  first-at [] i d lt here before = absurd (omega arith)
  first-at (x ∷ xs) zero d lt here before = here
  first-at (x ∷ xs) (suc i) d lt here before = (before 0 (omega arith), first-at xs i d (omega arith) here (λ k less. before (suc k) (omega arith)))

  pub is-first : (xs : List X) (i : ℕ) (d : X) → position t xs ≡ Some i → IsFirst xs i
  is-first xs i d found = let at = position-Some t xs i d found in first-at xs i d at.0 at.1 at.2

  pub place_within : (xs : List X) (i : ℕ) → position t xs ≡ Some i → i < length xs
  place_within [] i found = absurd cc
  place_within (x ∷ xs) i found = (position-Some t (x ∷ xs) i x found).0

  none-from : (xs : List X) (i : ℕ) → position_from t i xs ≡ None → NonePass xs
  none-from [] i none = tt
  none-from (x ∷ xs) i none = grind (arith, none-from xs (i + 1))

  pub is-none : (xs : List X) → position t xs ≡ None → NonePass xs
  is-none xs none = none-from xs 0 (sym (position_from-zero t xs) ∙ none)

-- ---- sessions by number: the one with a number, and what a change of it makes of all

module _ {A : Type 0} (number : ℕ) where
  abbrev pub has_number : ℕ × SessionState A → Bool
  has_number session = nat_eq number session.0

  pub found-first : (sessions : NumberedSessions A) (i : ℕ) (d : ℕ × SessionState A) → IsFirst has_number sessions i → session_numbered sessions number ≡ Some (get_or sessions i d).1
  found-first [] i d first = absurd first
  found-first (s ∷ ss) zero d first = ap (λ b. cond b (Some s.1) (session_numbered ss number)) first
  found-first (s ∷ ss) (suc i) d first = ap (λ b. cond b (Some s.1) (session_numbered ss number)) first.0 ∙ found-first ss i d first.1

  pub found-none : (sessions : NumberedSessions A) → NonePass has_number sessions → session_numbered sessions number ≡ None
  found-none [] none = refl
  found-none (s ∷ ss) none = ap (λ b. cond b (Some s.1) (session_numbered ss number)) none.0 ∙ found-none ss none.1

  pub without-first : (sessions : NumberedSessions A) (i : ℕ) → IsFirst has_number sessions i → remove sessions i ≡ without_session sessions number
  without-first [] i first = absurd first
  without-first (s ∷ ss) zero first = sym (ap (λ b. cond b ss (s ∷ without_session ss number)) first)
  without-first (s ∷ ss) (suc i) first = ap (λ others. s ∷ others) (without-first ss i first.1) ∙ sym (ap (λ b. cond b ss (s ∷ without_session ss number)) first.0)

  pub without-none : (sessions : NumberedSessions A) → NonePass has_number sessions → without_session sessions number ≡ sessions
  without-none [] none = refl
  without-none (s ∷ ss) none = ap (λ b. cond b ss (s ∷ without_session ss number)) none.0 ∙ ap (λ others. s ∷ others) (without-none ss none.1)

  module _ (make : SessionState A → SessionState A) where
    abbrev changed : NumberedSessions A → NumberedSessions A
    changed sessions = with_session_if sessions number (option_map make (session_numbered sessions number))

    with-first : (sessions : NumberedSessions A) (i : ℕ) (d : ℕ × SessionState A) → IsFirst has_number sessions i → changed_at i (λ s. (s.0, make s.1)) sessions ≡ with_session sessions number (make (get_or sessions i d).1)
    with-first [] i d first = absurd first
    with-first (s ∷ ss) zero d first = sym (ap (λ b. cond b ((s.0, make s.1) ∷ ss) (s ∷ with_session ss number (make s.1))) first)
    with-first (s ∷ ss) (suc i) d first =
        let new : SessionState A = make (get_or ss i d).1 in
        ap (λ others. s ∷ others) (with-first ss i d first.1) ∙ sym (ap (λ b. cond b ((s.0, new) ∷ ss) (s ∷ with_session ss number new)) first.0)

    -- a change of the session with the number
    pub made-first : (sessions : NumberedSessions A) (i : ℕ) (d : ℕ × SessionState A) → IsFirst has_number sessions i → changed_at i (λ s. (s.0, make s.1)) sessions ≡ changed sessions
    made-first sessions i d first = with-first sessions i d first ∙ sym (ap (λ found. with_session_if sessions number (option_map make found)) (found-first sessions i d first))

    pub made-none : (sessions : NumberedSessions A) → NonePass has_number sessions → sessions ≡ changed sessions
    made-none sessions none = sym (ap (λ found. with_session_if sessions number (option_map make found)) (found-none sessions none))

-- ---- lists that loops go over

-- one item more, of a list of which something is made item by item
pub mapped-push : {X Y : Type 0} (f : X → Y) (old new : List X) (last : X) → new ≡ old ++ last ∷ [] → map f new ≡ map f old ++ f last ∷ []
mapped-push f old new last is = ap (map f) is ∙ map_push f old last

-- ---- lists of which items are changed at their places

module _ {X : Type 0} where
  pub set-changed : (make : X → X) (xs : List X) (i : ℕ) (x d : X) → x ≡ make (get_or xs i d) → set xs i x ≡ changed_at i make xs
  set-changed make [] i x d is = refl
  set-changed make (y ∷ ys) zero x d is = ap (λ z. z ∷ ys) is
  set-changed make (y ∷ ys) (suc i) x d is = ap (λ others. y ∷ others) (set-changed make ys i x d is)

  pub changed-not : (xs : List X) (i : ℕ) → changed_at i (λ x. x) xs ≡ xs
  changed-not [] i = refl
  changed-not (x ∷ xs) zero = refl
  changed-not (x ∷ xs) (suc i) = ap (λ others. x ∷ others) (changed-not xs i)

  pub changed-beyond : (make : X → X) (xs : List X) (i : ℕ) → length xs ≤ i → changed_at i make xs ≡ xs
  changed-beyond make [] i le = refl
  changed-beyond make (x ∷ xs) zero le = absurd (omega (arith, le))
  changed-beyond make (x ∷ xs) (suc i) le = ap (λ others. x ∷ others) (changed-beyond make xs i (omega (arith, le)))

  pub changed-twice : (f g : X → X) (xs : List X) (i : ℕ) → changed_at i f (changed_at i g xs) ≡ changed_at i (λ x. f (g x)) xs
  changed-twice f g [] i = refl
  changed-twice f g (x ∷ xs) zero = refl
  changed-twice f g (x ∷ xs) (suc i) = ap (λ others. x ∷ others) (changed-twice f g xs i)

  changed-other : (f g : X → X) (xs : List X) (p q : ℕ) → (p ≡ q → ⊥) → changed_at p f (changed_at q g xs) ≡ changed_at q g (changed_at p f xs)
  changed-other f g [] p q differs = refl
  changed-other f g (x ∷ xs) zero zero differs = absurd (differs refl)
  changed-other f g (x ∷ xs) zero (suc q) differs = refl
  changed-other f g (x ∷ xs) (suc p) zero differs = refl
  changed-other f g (x ∷ xs) (suc p) (suc q) differs = ap (λ others. x ∷ others) (changed-other f g xs p q (λ same. differs (ap suc same)))

  -- two ways to change an item alike
  pub changed-same : (f h : X → X) (xs : List X) (i : ℕ) (x : X) → x ≡ get_or xs i x → f x ≡ h x → changed_at i f xs ≡ changed_at i h xs
  changed-same f h [] i x is same = refl
  changed-same f h (y ∷ ys) zero x is same = ap (λ z. z ∷ ys) (ap f (sym is) ∙ same ∙ ap h is)
  changed-same f h (y ∷ ys) (suc i) x is same = ap (λ others. y ∷ others) (changed-same f h ys i x is same)

  -- one item more is changed, as each of a list is
  pub changed-step : (h f : X → X) (xs : List X) (i : ℕ) (x : X) → i < length xs → x ≡ get_or xs i x → f x ≡ h x → changed_at i f (map h (take i xs) ++ drop i xs) ≡ map h (take (suc i) xs) ++ drop (suc i) xs
  changed-step h f [] i x lt is same = absurd (omega (arith, lt))
  changed-step h f (y ∷ ys) zero x lt is same = ap (λ z. z ∷ ys) (ap f (sym is) ∙ same ∙ ap h is)
  changed-step h f (y ∷ ys) (suc i) x lt is same = ap (λ others. h y ∷ others) (changed-step h f ys i x (omega (arith, lt)) is same)

-- the part is of the item at this place
abbrev pub has_place : {P : Type 0} → ℕ → ℕ × P → Bool
has_place place part = nat_eq place part.0

module _ {X P : Type 0} (make : P → X → X) where
  -- the last part is published first
  pub parts-last : (xs : List X) (parts : List (ℕ × P)) (last : ℕ × P) → with_parts make (changed_at last.0 (make last.1) xs) parts ≡ with_parts make xs (parts ++ last ∷ [])
  parts-last xs [] last = refl
  parts-last xs (p ∷ ps) last = ap (changed_at p.0 (make p.1)) (parts-last xs ps last)

  pub last-set : (xs : List X) (rest parts : List (ℕ × P)) (last : ℕ × P) (x d : X) → parts ≡ rest ++ last ∷ [] → x ≡ make last.1 (get_or xs last.0 d) → with_parts make (set xs last.0 x) rest ≡ with_parts make xs parts
  last-set xs rest parts last x d is made = ap (λ ys. with_parts make ys rest) (set-changed (make last.1) xs last.0 x d made) ∙ parts-last xs rest last ∙ ap (with_parts make xs) (sym is)

  pub last-beyond : (xs : List X) (rest parts : List (ℕ × P)) (last : ℕ × P) → parts ≡ rest ++ last ∷ [] → length xs ≤ last.0 → with_parts make xs rest ≡ with_parts make xs parts
  last-beyond xs rest parts last is le = ap (λ ys. with_parts make ys rest) (sym (changed-beyond (make last.1) xs last.0 le)) ∙ parts-last xs rest last ∙ ap (with_parts make xs) (sym is)

  pub parts-append : (xs : List X) (parts others : List (ℕ × P)) → with_parts make xs (parts ++ others) ≡ with_parts make (with_parts make xs others) parts
  parts-append xs [] others = refl
  parts-append xs (p ∷ ps) others = ap (changed_at p.0 (make p.1)) (parts-append xs ps others)

  -- parts of other items
  pub parts-other : (f : X → X) (xs : List X) (parts : List (ℕ × P)) (place : ℕ) → NonePass (has_place place) parts → with_parts make (changed_at place f xs) parts ≡ changed_at place f (with_parts make xs parts)
  parts-other f xs [] place none = refl
  parts-other f xs (p ∷ ps) place none =
      ap (changed_at p.0 (make p.1)) (parts-other f xs ps place none.1)
      ∙ sym (changed-other f (make p.1) (with_parts make xs ps) place p.0 (eqb-false place p.0 none.0))

module _ {K V : Type 0} where
  pub set-value : (ts : List (K × V)) (p : ℕ) (s : V) → set_value_at ts p s ≡ changed_at p (λ t. (t.0, s)) ts
  set-value [] p s = refl
  set-value (t ∷ ts) zero s = refl
  set-value (t ∷ ts) (suc p) s = ap (λ others. t ∷ others) (set-value ts p s)

  -- two ways to change a value alike
  pub value-same : (f h : V → V) (ts : List (K × V)) (p : ℕ) (r : V) → slice_get (values_of ts) p ≡ Some r → f r ≡ h r → changed_at p (λ t. (t.0, f t.1)) ts ≡ changed_at p (λ t. (t.0, h t.1)) ts
  value-same f h [] p r at same = refl
  value-same f h (t ∷ ts) zero r at same = let own : t.1 ≡ r = cc in ap (λ y. (t.0, y) ∷ ts) (ap f own ∙ same ∙ ap h (sym own))
  value-same f h (t ∷ ts) (suc p) r at same = ap (λ others. t ∷ others) (value-same f h ts p r at same)

  -- a value that is set to what it is
  pub set_same : (ts : List (K × V)) (p : ℕ) (s : V) → slice_get (values_of ts) p ≡ Some s → set_value_at ts p s ≡ ts
  set_same ts p s at = set-value ts p s ∙ value-same (λ _. s) (λ y. y) ts p s at refl ∙ changed-not ts p

  pub keys-changed : (f : V → V) (ts : List (K × V)) (p : ℕ) → keys_of (changed_at p (λ t. (t.0, f t.1)) ts) ≡ keys_of ts
  keys-changed f [] p = refl
  keys-changed f (t ∷ ts) zero = refl
  keys-changed f (t ∷ ts) (suc p) = ap (λ keys. t.0 ∷ keys) (keys-changed f ts p)

module _ {A : Type 0} where
  pub keys-parts : (ts : AttachedTables A) (parts : List (ℕ × Records A)) → keys_of (with_parts with_records ts parts) ≡ keys_of ts
  keys-parts ts [] = refl
  keys-parts ts (p ∷ ps) = keys-changed (λ _. p.1) (with_parts with_records ts ps) p.0 ∙ keys-parts ts ps

  -- records that are there already are changed
  pub parts-first : (f : Records A → Records A) (ts : AttachedTables A) (parts : List (ℕ × Records A)) (place i : ℕ) (new d : ℕ × Records A) → IsFirst (has_place place) parts i → new.0 ≡ (get_or parts i d).0 → new.1 ≡ f (get_or parts i d).1
      → with_parts with_records ts (set parts i new) ≡ changed_at place (λ t. (t.0, f t.1)) (with_parts with_records ts parts)
  parts-first f ts [] place i new d first own made = absurd first
  parts-first f ts (p ∷ ps) place zero new d first own made =
      let here : place ≡ p.0 = eqb-true place p.0 first in
      ap₂ (λ q s. changed_at q (with_records s) (with_parts with_records ts ps)) (own ∙ sym here) made
      ∙ sym (changed-twice (λ t. (t.0, f t.1)) (with_records p.1) (with_parts with_records ts ps) place)
      ∙ ap (λ q. changed_at place (λ t. (t.0, f t.1)) (changed_at q (with_records p.1) (with_parts with_records ts ps))) here
  parts-first f ts (p ∷ ps) place (suc i) new d first own made =
      ap (changed_at p.0 (with_records p.1)) (parts-first f ts ps place i new d first.1 own made)
      ∙ sym (changed-other (λ t. (t.0, f t.1)) (with_records p.1) (with_parts with_records ts ps) place p.0 (eqb-false place p.0 first.0))

  -- what is made of a table that no part is of, beside it or not at all
  module _ (make : List ℕ × Records A → List ℕ × Records A) (ts : AttachedTables A) (parts : List (ℕ × Records A)) (place : ℕ) (none : NonePass (has_place place) parts) where
    pub parts-push : (s : Records A) → changed_at place (with_records s) ts ≡ changed_at place make ts → with_parts with_records ts (parts ++ (place, s) ∷ []) ≡ changed_at place make (with_parts with_records ts parts)
    parts-push s is = sym (parts-last with_records ts parts (place, s)) ∙ ap (λ tables. with_parts with_records tables parts) is ∙ parts-other with_records make ts parts place none

    pub parts-stay : ts ≡ changed_at place make ts → with_parts with_records ts parts ≡ changed_at place make (with_parts with_records ts parts)
    parts-stay is = ap (λ tables. with_parts with_records tables parts) is ∙ parts-other with_records make ts parts place none

  -- a table more whose records are forgotten
  forget-step : (ts : AttachedTables A) (i : ℕ) → i < length ts → set_value_at (forget (take i ts) ++ drop i ts) i [] ≡ forget (take (suc i) ts) ++ drop (suc i) ts
  forget-step [] i lt = absurd (omega arith)
  forget-step (t ∷ ts) zero lt = refl
  forget-step (t ∷ ts) (suc i) lt = ap (λ others. (t.0, []) ∷ others) (forget-step ts i (omega (arith, lt)))

  pub forget-more : (ts : AttachedTables A) (i : ℕ) → i < length ts → set_value_at (forget (take i ts) ++ drop i ts) i [] ≡ forget (take (i + 1) ts) ++ drop (i + 1) ts
  forget-more ts i lt = forget-step ts i lt ∙ ap (λ n. forget (take n ts) ++ drop n ts) (sym (add-one i))

pub ruleset replacing = (set-value, changed-beyond)

pub ruleset clearing = (forget-more, length-set_value_at, append-nil, drop_all, take_all)
