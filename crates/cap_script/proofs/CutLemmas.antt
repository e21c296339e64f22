-- The lines of a text.
use Rattle.std.proofs.Common.{◌≡◌, ◌<◌, ◌+◌, ◌||◌, ℕ, Bool, true, false, cond, eqb, not, List, [], ◌∷◌, ◌++◌, length, take, get_or, Option, Some, None, MatchOption, refl, sym, ap, ap₂, ◌∙◌, subst, arith, one-add, take_all, le_refl}
use Rattle.std.specs.Borrow.{Bor}
use Rattle.std.specs.List.{after_first, before_first, list_any, position_or_len}
use Rattle.std.proofs.lemmas.Bool.{eqb-true}
use Rattle.std.proofs.lemmas.List.Sums.{split_at_first}
use Rattle.cap_script.specs.Script.{AreLines, has_line_feed}

-- ---- the first byte of a kind

abbrev is_byte : ℕ → ℕ → Bool
is_byte wanted byte = eqb byte wanted

abbrev place : ℕ → List ℕ → ℕ
place wanted = position_or_len (is_byte wanted)

none_front : (wanted : ℕ) (b : Bool) (x : ℕ) (xs : List ℕ) → is_byte wanted x ≡ b → list_any (is_byte wanted) (take (place wanted xs) xs) ≡ false
    → list_any (is_byte wanted) (take (cond (not b) (1 + place wanted xs) 0) (x ∷ xs)) ≡ false
none_front wanted true x xs e h = refl
none_front wanted false x xs e h = rw (one-add, e) h

none_before : (wanted : ℕ) (xs : List ℕ) → list_any (is_byte wanted) (take (place wanted xs) xs) ≡ false
none_before wanted [] = refl
none_before wanted (x ∷ xs) = none_front wanted (is_byte wanted x) x xs refl (none_before wanted xs)

byte_front : (wanted : ℕ) (b : Bool) (x : ℕ) (xs : List ℕ) → is_byte wanted x ≡ b → (place wanted xs < length xs → get_or xs (place wanted xs) 0 ≡ wanted) → cond (not b) (1 + place wanted xs) 0 < length (x ∷ xs)
    → get_or (x ∷ xs) (cond (not b) (1 + place wanted xs) 0) 0 ≡ wanted
byte_front wanted true x xs e h lt = eqb-true x wanted e
byte_front wanted false x xs e h lt = rw one-add (h (omega arith))

byte_at : (wanted : ℕ) (xs : List ℕ) → place wanted xs < length xs → get_or xs (place wanted xs) 0 ≡ wanted
byte_at wanted [] lt = absurd (omega arith)
byte_at wanted (x ∷ xs) lt = byte_front wanted (is_byte wanted x) x xs refl (byte_at wanted xs) lt

-- what precedes the first of them, and what follows it
pub parts_at : (wanted : ℕ) (bs : List ℕ) (r : Option (Bor (List ℕ) × Bor (List ℕ)))
    → MatchOption r (place wanted bs ≡ length bs) (λ x. (place wanted bs < length bs) × (x.0.now ≡ before_first (is_byte wanted) bs) × (x.1.now ≡ after_first (is_byte wanted) bs))
    → MatchOption r (list_any (is_byte wanted) bs ≡ false) (λ x. (bs ≡ x.0.now ++ wanted ∷ x.1.now) × (list_any (is_byte wanted) x.0.now ≡ false))
parts_at wanted bs None h =
    let e : take (place wanted bs) bs ≡ bs = rw h (take_all (length bs) bs (le_refl (length bs))) in
    subst (λ (l : List ℕ). list_any (is_byte wanted) l ≡ false) e (none_before wanted bs)
parts_at wanted bs (Some x) h =
    let whole : bs ≡ before_first (is_byte wanted) bs ++ (wanted ∷ after_first (is_byte wanted) bs) = split_at_first (is_byte wanted) bs 0 h.0 ∙ ap (λ (c : ℕ). before_first (is_byte wanted) bs ++ (c ∷ after_first (is_byte wanted) bs)) (byte_at wanted bs h.0) in
    (rw (h.1, h.2) whole, rw h.1 (none_before wanted bs))

-- ---- the lines of a text

or_parts : (x y : Bool) → (x || y) ≡ false → (x ≡ false) × (y ≡ false)
or_parts true y e = absurd cc
or_parts false y e = (refl, e)

pub nothing_left : (text : List ℕ) → eqb (length text) 0 ≡ true → text ≡ []
nothing_left [] e = refl
nothing_left (byte ∷ rest) e = let none : length (byte ∷ rest) ≡ 0 = eqb-true (length (byte ∷ rest)) 0 e in absurd (omega arith)

-- a line feed in a line
fed : (c : ℕ) (front : List ℕ) → c ≡ 10 → has_line_feed (c ∷ front) ≡ false → ⊥
fed c front is none = let bad : true ≡ false = subst (λ (x : ℕ). has_line_feed (x ∷ front) ≡ false) is none in absurd cc

-- the line before the first line feed
pub same_cut : (v w a b : List ℕ) → v ++ 10 ∷ a ≡ w ++ 10 ∷ b → has_line_feed v ≡ false → has_line_feed w ≡ false → (v ≡ w) × (a ≡ b)
same_cut [] [] a b e none none_too = (refl, cc)
same_cut [] (y ∷ w) a b e none none_too = absurd (fed y w (cc) none_too)
same_cut (x ∷ v) [] a b e none none_too = absurd (fed x v (cc) none)
same_cut (x ∷ v) (y ∷ w) a b e none none_too =
    let whole : ◌≡◌ {A = List ℕ} (x ∷ (v ++ 10 ∷ a)) (y ∷ (w ++ 10 ∷ b)) = e in
    let behind : v ++ 10 ∷ a ≡ w ++ 10 ∷ b = cc in
    let more = same_cut v w a b behind (or_parts (eqb x 10) (has_line_feed v) none).1 (or_parts (eqb y 10) (has_line_feed w) none_too).1 in
    (ap₂ (λ (c : ℕ) (l : List ℕ). c ∷ l) (cc) more.0, more.1)

pub no_cut : (v w b : List ℕ) → v ≡ w ++ 10 ∷ b → has_line_feed v ≡ false → ⊥
no_cut [] [] b e none = absurd cc
no_cut [] (y ∷ w) b e none = absurd cc
no_cut (x ∷ v) [] b e none = fed x v (cc) none
no_cut (x ∷ v) (y ∷ w) b e none =
    let whole : ◌≡◌ {A = List ℕ} (x ∷ v) (y ∷ (w ++ 10 ∷ b)) = e in
    no_cut v w b (cc) (or_parts (eqb x 10) (has_line_feed v) none).1

pub same_texts : (xs ys : List (List ℕ)) (text : List ℕ) → AreLines xs text → AreLines ys text → xs ≡ ys
same_texts [] ys text p q = absurd p
same_texts (x ∷ xs) [] text p q = absurd q
same_texts (x ∷ []) (y ∷ []) text p q = ap (λ (l : List ℕ). l ∷ []) (sym p.0 ∙ q.0)
same_texts (x ∷ []) (y ∷ z ∷ ys) text p q = absurd (no_cut x y q.0 (sym p.0 ∙ q.1) p.1)
same_texts (x ∷ z ∷ xs) (y ∷ []) text p q = absurd (no_cut y x p.0 (sym q.0 ∙ p.1) q.1)
same_texts (x ∷ z ∷ xs) (y ∷ w ∷ ys) text p q =
    let cut = same_cut x y p.0 q.0 (sym p.1 ∙ q.1) p.2 q.2 in
    ap₂ (λ (l : List ℕ) (ls : List (List ℕ)). l ∷ ls) cut.0 (same_texts (z ∷ xs) (w ∷ ys) p.0 p.3 (subst (λ (l : List ℕ). AreLines (w ∷ ys) l) (sym cut.1) q.3))
