-- Laws of all grammars.
use Rattle.std.proofs.Common.{Vec, IsErrAnd, MatchResult, length-append, ◌≡◌, ◌≤◌, ◌<◌, ◌⊎◌, ℕ, zero, suc, List, [], ◌∷◌, length, Bool, true, false, ◌==◌, eqb, cond, Option, Some, None, Result, Ok, Err, arith, refl, ap, sym, subst, ◌∙◌, append_assoc, append-nil, ◌++◌, inl, inr, le_refl, eq-eqb}
use Rattle.std.proofs.lemmas.Bool.{eqb-true}
use Rattle.cap_value.specs.declared.refusal.Refusal.{Refusal}
use Rattle.cap_language.specs.Forms.{separated}
use Rattle.cap_language.specs.Grammar.{Grammar, done, unfit, exceeds, no_blob, spaced, takes, on_sign, on_end, follows, each, sign_at, behind_or, by_end, Read, Wanted, wanted_in, taken, and_then, token_then, by_sign, with_item, at_most, Fails, Reads, seen_items, onto, read_at, read, Form, More, Spells}
use Rattle.cap_language.specs.Scanning.{Scanned, token_at}
use Rattle.cap_language.specs.Tokens.{Token, begins, behind_blanks}
use Rattle.cap_language.specs.declared.fault.LineFault.{LineFault}
use Rattle.cap_language.specs.declared.fault.LineFault.TheVariants.{BadBlob, Limit, OutOfMemory, Syntax}
use Rattle.cap_language.proofs.TokenLaws.{begins_scanned, blanks_shorter, found_some, scanned_begins}

-- how a reading in two parts comes to a value
and_then_ok : {X Y : Type 0} (r : Read X) (go : X → List ℕ → Read Y) (y : Y) (rest : List ℕ) → and_then r go ≡ Ok (y, rest)
    → (x : X) × (between : List ℕ) × (r ≡ Ok (x, between)) × (go x between ≡ Ok (y, rest))
and_then_ok (Ok (x, between)) go y rest is = (x, between, refl, is)
and_then_ok (Err fault) go y rest is = absurd cc

taken_ok : {T Y : Type 0} (here between : List ℕ) (o : Option T) (go : T → List ℕ → Read Y) (y : Y) (rest : List ℕ)
    → token_then here (taken o between) go ≡ Ok (y, rest) → (t : T) × (o ≡ Some t) × (go t between ≡ Ok (y, rest))
taken_ok here between None go y rest is = absurd cc
taken_ok here between (Some t) go y rest is = (t, refl, is)

token_ok : {T Y : Type 0} (here : List ℕ) (wanted : Wanted T) (o : Scanned) (go : T → List ℕ → Read Y) (y : Y) (rest : List ℕ)
    → token_then here (wanted_in wanted o) go ≡ Ok (y, rest)
    → (token : Token) × (t : T) × (between : List ℕ) × (o ≡ Some (token, between)) × (wanted token ≡ Some t) × (go t between ≡ Ok (y, rest))
token_ok here wanted None go y rest is = absurd cc
token_ok here wanted (Some (token, between)) go y rest is =
    let found = taken_ok here between (wanted token) go y rest is in (token, found.0, between, refl, found.1, found.2)

abbrev pub Branches : {Y : Type 0} → ℕ → (List ℕ → Read Y) → (List ℕ → Read Y) → List ℕ → Read Y → Type 0
Branches s go other line r =
    ((inner : List ℕ) × (line ≡ s ∷ inner) × (go inner ≡ r)) ⊎ ((begins (λ byte. eqb byte s) line ≡ false) × (other line ≡ r))

sign_if : {Y : Type 0} (s byte : ℕ) (go other : List ℕ → Read Y) (rest : List ℕ) (r : Read Y) (b : Bool) → eqb byte s ≡ b
    → behind_or (cond b (Some rest) None) go (other (byte ∷ rest)) ≡ r → Branches s go other (byte ∷ rest) r
sign_if s byte go other rest r true same is = inl (rest, ap (λ (n : ℕ). n ∷ rest) (eqb-true byte s same), is)
sign_if s byte go other rest r false same is = inr (same, is)

pub branch : {Y : Type 0} (s : ℕ) (go other : List ℕ → Read Y) (line : List ℕ) (r : Read Y) → by_sign s go other line ≡ r → Branches s go other line r
branch s go other [] r is = inr (refl, is)
branch s go other (byte ∷ rest) r is = sign_if s byte go other rest r (eqb byte s) refl is

abbrev pub Ends : {Y : Type 0} → Read Y → (List ℕ → Read Y) → List ℕ → Read Y → Type 0
Ends ended other line r = ((line ≡ []) × (ended ≡ r)) ⊎ ((line ≡ [] → ⊥) × (other line ≡ r))

pub ends : {Y : Type 0} (ended : Read Y) (other : List ℕ → Read Y) (line : List ℕ) (r : Read Y) → by_end ended other line ≡ r → Ends ended other line r
ends ended other [] r is = inl (refl, is)
ends ended other (byte ∷ rest) r is = inr (λ e. absurd cc, is)

at_end : {Y : Type 0} (ended : Read Y) (other : List ℕ → Read Y) (line : List ℕ) → line ≡ [] → by_end ended other line ≡ ended
at_end ended other line is = rw is refl

no_end : {Y : Type 0} (ended : Read Y) (other : List ℕ → Read Y) (line : List ℕ) → (line ≡ [] → ⊥) → by_end ended other line ≡ other line
no_end ended other [] none = absurd (none refl)
no_end ended other (byte ∷ rest) none = refl

abbrev rest_of : {X : Type 0} → Read X → List ℕ → List ℕ
rest_of (Ok (x, rest)) other = rest
rest_of (Err fault) other = other

abbrev made_of : {X : Type 0} → Read X → X → X
made_of (Ok (x, rest)) other = x
made_of (Err fault) other = other

abbrev is_made : {X : Type 0} → X → List ℕ → Read X
is_made x rest = Ok (x, rest)

ok_same : {X : Type 0} (x y : X) (a b : List ℕ) → is_made x a ≡ Ok (y, b) → (x ≡ y) × (a ≡ b)
ok_same x y a b is = (ap (λ r. made_of r x) is, ap (λ r. rest_of r a) is)

abbrev pub none_more : {X : Type 0} → List ℕ → Read (List X)
none_more here = Ok ([], here)

abbrev pub one_more : {X : Type 0} → (List ℕ → Read X) → (List ℕ → Read (List X)) → List ℕ → Read (List X)
one_more item more inner = and_then (item inner) (λ x behind. and_then (more behind) (with_item x))

pub sign_shorter : (s : ℕ) (line inner : List ℕ) → behind_blanks line ≡ s ∷ inner → length inner < length line
sign_shorter s line inner is =
    let len : length (behind_blanks line) ≡ suc (length inner) = ap length is in omega (arith, blanks_shorter line)

-- the parts of a reading of one item and more
item_ok : {X : Type 0} (r : Read X) (more : List ℕ → Read (List X)) (ys : List X) (rest : List ℕ)
    → and_then r (λ x behind. and_then (more behind) (with_item x)) ≡ Ok (ys, rest)
    → (x : X) × (xs : List X) × (between : List ℕ) × (r ≡ Ok (x, between)) × (more between ≡ Ok (xs, rest)) × (ys ≡ x ∷ xs)
item_ok r more ys rest is =
    let one = and_then_ok r (λ x behind. and_then (more behind) (with_item x)) ys rest is in
    let two = and_then_ok (more one.1) (with_item one.0) ys rest one.3 in
    let last = ok_same (one.0 ∷ two.0) ys two.1 rest two.3 in
    (one.0, two.0, one.1, one.2, rw last.1 at two.2, sym last.0)

-- what is left of a line
abbrev pub IsEnd : List ℕ → List ℕ → Type 0
IsEnd line rest = (front : List ℕ) × (line ≡ front ++ rest)

end_of_end : (line between rest : List ℕ) → IsEnd line between → IsEnd between rest → IsEnd line rest
end_of_end line between rest (a, same) (b, same_too) = (a ++ b, same ∙ ap (λ (l : List ℕ). a ++ l) same_too ∙ sym (append_assoc a b rest))

whole_end : (line rest : List ℕ) → line ≡ rest → IsEnd line rest
whole_end line rest same = ([], same)

blank_end : (b : Bool) (byte : ℕ) (line : List ℕ) → IsEnd line (behind_blanks line) → IsEnd (byte ∷ line) (cond b (behind_blanks line) (byte ∷ line))
blank_end true byte line (front, same) = (byte ∷ front, ap (λ (l : List ℕ). byte ∷ l) same)
blank_end false byte line h = ([], refl)

pub blanks_end : (line : List ℕ) → IsEnd line (behind_blanks line)
blanks_end [] = ([], refl)
blanks_end (byte ∷ line) = blank_end (eqb byte 32) byte line (blanks_end line)

sign_end : (s : ℕ) (line inner : List ℕ) → line ≡ s ∷ inner → IsEnd line inner
sign_end s line inner is = (s ∷ [], is)

pub end_shorter : (line rest : List ℕ) → IsEnd line rest → length rest ≤ length line
end_shorter line rest (front, same) = let long : length line ≡ length (front ++ rest) = ap length same in omega (arith, long, length-append front rest)

items_end : {X : Type 0} (n s i : ℕ) (item : ℕ → List ℕ → Read X)
    → ((i : ℕ) (l : List ℕ) (x : X) (r : List ℕ) → item i l ≡ Ok (x, r) → IsEnd l r)
    → (line : List ℕ) (ys : List X) (rest : List ℕ) → at_most n s i item line ≡ Ok (ys, rest) → IsEnd line rest
items_end zero s i item ends_it line ys rest is =
    subst (λ (l : List ℕ). IsEnd line l) (ok_same [] ys (behind_blanks line) rest is).1 (blanks_end line)
items_end (suc n) s i item ends_it line ys rest is =
    elim (branch s (one_more (item i) (at_most n s (suc i) item)) none_more (behind_blanks line) (Ok (ys, rest)) is) [
      | inl b ↦
          let found = item_ok (item i b.0) (at_most n s (suc i) item) ys rest b.2 in
          end_of_end line (behind_blanks line) rest (blanks_end line)
          (end_of_end (behind_blanks line) b.0 rest (sign_end s (behind_blanks line) b.0 b.1)
          (end_of_end b.0 found.2 rest (ends_it i b.0 found.0 found.2 found.3) (items_end n s (suc i) item ends_it found.2 found.1 rest found.4)))
      | inr b ↦ subst (λ (l : List ℕ). IsEnd line l) (ok_same [] ys (behind_blanks line) rest b.1).1 (blanks_end line)
    ]

-- where there is a value beyond a limit, there are no limits
free_if : {X : Type 0} (limits : Bool) (why : Refusal) (r : Read X) (x : X) (rest : List ℕ) → cond limits (Err (Limit why)) r ≡ Ok (x, rest) → (limits ≡ false) × (r ≡ Ok (x, rest))
free_if true why r x rest is = absurd cc
free_if false why r x rest is = (refl, is)

-- reading leaves an end of the line
pub leaves_end : {X : Type 0} (limits : Bool) (g : Grammar X) (before line : List ℕ) (x : X) (rest : List ℕ) → read_at limits g before line ≡ Ok (x, rest) → IsEnd line rest
leaves_end limits (done x) before line y rest is = whole_end line rest (ok_same x y line rest is).1
leaves_end limits unfit before line y rest is = absurd cc
leaves_end limits (exceeds why free) before line y rest is =
    leaves_end limits free before line y rest (free_if limits why (read_at limits free before line) y rest is).1
leaves_end limits (no_blob why) before line y rest is = absurd cc
leaves_end limits (spaced g) before line y rest is =
    end_of_end line (behind_blanks line) rest (blanks_end line) (leaves_end limits g before (behind_blanks line) y rest is)
leaves_end limits (takes wanted go) before line y rest is =
    let found = token_ok line wanted (token_at line) (λ t between. read_at limits (go t) line between) y rest is in
    let some = found_some found.0 line found.2 found.3 in
    end_of_end line found.2 rest (some.0, some.1) (leaves_end limits (go found.1) line found.2 y rest found.5)
leaves_end limits (on_sign s first second) before line y rest is =
    elim (branch s (λ rest. read_at limits first rest rest) (λ here. read_at limits second here here) line (Ok (y, rest)) is) [
      | inl b ↦ end_of_end line b.0 rest (sign_end s line b.0 b.1) (leaves_end limits first b.0 b.0 y rest b.2)
      | inr b ↦ leaves_end limits second line line y rest b.1
    ]
leaves_end limits (on_end first second) before line y rest is =
    elim (ends (read_at limits first [] []) (λ here. read_at limits second here here) line (Ok (y, rest)) is) [
      | inl b ↦ end_of_end line [] rest (whole_end line [] b.0) (leaves_end limits first [] [] y rest b.1)
      | inr b ↦ leaves_end limits second line line y rest b.1
    ]
leaves_end limits (follows first go) before line y rest is =
    let found = and_then_ok (read_at limits first before line) (λ x between. read_at limits (go x) between between) y rest is in
    end_of_end line found.1 rest (leaves_end limits first before line found.0 found.1 found.2) (leaves_end limits (go found.0) found.1 found.1 y rest found.3)
leaves_end limits (each s i item) before line y rest is =
    items_end (length line) s i (λ i rest. read_at limits (item i) rest rest) (λ i l x r. leaves_end limits (item i) l l x r) line y rest is

-- no reading leaves more than it is given
pub shorter : {X : Type 0} (limits : Bool) (g : Grammar X) (before line : List ℕ) (x : X) (rest : List ℕ) → read_at limits g before line ≡ Ok (x, rest) → length rest ≤ length line
shorter limits g before line x rest is = end_shorter line rest (leaves_end limits g before line x rest is)

-- ---- what is read, and what is spelled

no_items : {X : Type 0} (s i : ℕ) (Item : ℕ → X → Form) (line : List ℕ) (ys : List X) (rest : List ℕ) → begins (λ byte. eqb byte s) (behind_blanks line) ≡ false
    → none_more (behind_blanks line) ≡ Ok (ys, rest) → More s i Item ys line rest
no_items s i Item line ys rest none is =
    let same = ok_same [] ys (behind_blanks line) rest is in
    subst (λ ys. More s i Item ys line rest) same.0 (sym same.1, subst (λ (l : List ℕ). begins (λ byte. eqb byte s) l ≡ false) same.1 none)

items_spelled : {X : Type 0} (n s i : ℕ) (item : ℕ → List ℕ → Read X) (Item : ℕ → X → Form)
    → ((i : ℕ) (l : List ℕ) (x : X) (r : List ℕ) → item i l ≡ Ok (x, r) → length r ≤ length l)
    → ((i : ℕ) (l : List ℕ) (x : X) (r : List ℕ) → item i l ≡ Ok (x, r) → Item i x l r)
    → (line : List ℕ) (ys : List X) (rest : List ℕ) → length line ≤ n → at_most n s i item line ≡ Ok (ys, rest) → More s i Item ys line rest
items_spelled zero s i item Item less each_is [] ys rest enough is =
    no_items s i Item [] ys rest refl is
items_spelled zero s i item Item less each_is (byte ∷ line) ys rest enough is = absurd (omega arith)
items_spelled (suc n) s i item Item less each_is line ys rest enough is =
    elim (branch s (one_more (item i) (at_most n s (suc i) item)) none_more (behind_blanks line) (Ok (ys, rest)) is) [
      | inl b ↦
          let found = item_ok (item i b.0) (at_most n s (suc i) item) ys rest b.2 in
          let more : More s (suc i) Item found.1 found.2 rest = items_spelled n s (suc i) item Item less each_is found.2 found.1 rest (omega (arith, sign_shorter s line b.0 b.1, less i b.0 found.0 found.2 found.3)) found.4 in
          subst (λ ys. More s i Item ys line rest) (sym found.5) (b.0, found.2, b.1, each_is i b.0 found.0 found.2 found.3, more)
      | inr b ↦ no_items s i Item line ys rest b.0 b.1
    ]

-- What is read of a line is spelled there.
pub spelled : {X : Type 0} (limits : Bool) (g : Grammar X) (before line : List ℕ) (x : X) (rest : List ℕ) → read_at limits g before line ≡ Ok (x, rest) → Spells limits g x line rest
spelled limits (done x) before line y rest is = let same = ok_same x y line rest is in (sym same.0, sym same.1)
spelled limits unfit before line y rest is = absurd cc
spelled limits (exceeds why free) before line y rest is =
    let found = free_if limits why (read_at limits free before line) y rest is in
    (found.0, spelled limits free before line y rest found.1)
spelled limits (no_blob why) before line y rest is = absurd cc
spelled limits (spaced g) before line y rest is = spelled limits g before (behind_blanks line) y rest is
spelled limits (takes wanted go) before line y rest is =
    let found = token_ok line wanted (token_at line) (λ t between. read_at limits (go t) line between) y rest is in
    (found.0, found.1, found.2, scanned_begins found.0 line found.2 found.3, found.4, spelled limits (go found.1) line found.2 y rest found.5)
spelled limits (on_sign s first second) before line y rest is =
    elim (branch s (λ rest. read_at limits first rest rest) (λ here. read_at limits second here here) line (Ok (y, rest)) is) [
      | inl b ↦ inl (b.0, b.1, spelled limits first b.0 b.0 y rest b.2)
      | inr b ↦ inr (b.0, spelled limits second line line y rest b.1)
    ]
spelled limits (on_end first second) before line y rest is =
    elim (ends (read_at limits first [] []) (λ here. read_at limits second here here) line (Ok (y, rest)) is) [
      | inl b ↦ inl (b.0, spelled limits first [] [] y rest b.1)
      | inr b ↦ inr (b.0, spelled limits second line line y rest b.1)
    ]
spelled limits (follows first go) before line y rest is =
    let found = and_then_ok (read_at limits first before line) (λ x between. read_at limits (go x) between between) y rest is in
    (found.0, found.1, spelled limits first before line found.0 found.1 found.2, spelled limits (go found.0) found.1 found.1 y rest found.3)
spelled limits (each s i item) before line y rest is =
    items_spelled (length line) s i (λ i rest. read_at limits (item i) rest rest) (λ i. Spells limits (item i)) (λ i l x r. shorter limits (item i) l l x r) (λ i l x r. spelled limits (item i) l l x r) line y rest (le_refl (length line)) is

-- a sign, or none, decides
sign_is : {Y : Type 0} (s : ℕ) (go other : List ℕ → Read Y) (line inner : List ℕ) → line ≡ s ∷ inner → by_sign s go other line ≡ go inner
sign_is s go other line inner is = rw is (ap (λ b. behind_or (cond b (Some inner) None) go (other (s ∷ inner))) (eq-eqb s s refl))

no_sign : {Y : Type 0} (s : ℕ) (go other : List ℕ → Read Y) (line : List ℕ) → begins (λ byte. eqb byte s) line ≡ false → by_sign s go other line ≡ other line
no_sign s go other [] none = refl
no_sign s go other (byte ∷ rest) none = rw none refl

items_read : {X : Type 0} (n s i : ℕ) (item : ℕ → List ℕ → Read X) (Item : ℕ → X → Form)
    → ((i : ℕ) (l : List ℕ) (x : X) (r : List ℕ) → item i l ≡ Ok (x, r) → length r ≤ length l)
    → ((i : ℕ) (l : List ℕ) (x : X) (r : List ℕ) → Item i x l r → item i l ≡ Ok (x, r))
    → (line : List ℕ) (ys : List X) (rest : List ℕ) → length line ≤ n → More s i Item ys line rest → at_most n s i item line ≡ Ok (ys, rest)
items_read zero s i item Item less each_is line [] rest enough is = rw is.0 refl
items_read zero s i item Item less each_is line (y ∷ ys) rest enough is = absurd (omega (arith, sign_shorter s line is.0 is.2))
items_read (suc n) s i item Item less each_is line [] rest enough is =
    no_sign s (one_more (item i) (at_most n s (suc i) item)) none_more (behind_blanks line) (subst (λ (l : List ℕ). begins (λ byte. eqb byte s) l ≡ false) is.0 is.1) ∙ ap (λ here. Ok ([], here)) (sym is.0)
items_read (suc n) s i item Item less each_is line (y ∷ ys) rest enough is =
    let one = each_is i is.0 y is.1 is.3 in
    sign_is s (one_more (item i) (at_most n s (suc i) item)) none_more (behind_blanks line) is.0 is.2
    ∙ ap (λ r. and_then r (λ x behind. and_then (at_most n s (suc i) item behind) (with_item x))) one
    ∙ ap (λ r. and_then r (with_item y)) (items_read n s (suc i) item Item less each_is is.1 ys rest (omega (arith, sign_shorter s line is.0 is.2, less i is.0 y is.1 one)) is.4)

-- What a line spells is read there.
pub is_read : {X : Type 0} (limits : Bool) (g : Grammar X) (before line : List ℕ) (x : X) (rest : List ℕ) → Spells limits g x line rest → read_at limits g before line ≡ Ok (x, rest)
is_read limits (done x) before line y rest is = rw (is.0, is.1) refl
is_read limits unfit before line y rest is = absurd is
is_read limits (exceeds why free) before line y rest is =
    ap (λ (b : Bool). cond b (Err (Limit why)) (read_at limits free before line)) is.0 ∙ is_read limits free before line y rest is.1
is_read limits (no_blob why) before line y rest is = absurd is
is_read limits (spaced g) before line y rest is = is_read limits g before (behind_blanks line) y rest is
is_read limits (takes wanted go) before line y rest is =
    ap (λ o. token_then line (wanted_in wanted o) (λ t between. read_at limits (go t) line between)) (begins_scanned is.0 line is.2 is.3)
    ∙ ap (λ w. token_then line (taken w is.2) (λ t between. read_at limits (go t) line between)) is.4
    ∙ is_read limits (go is.1) line is.2 y rest is.5
is_read limits (on_sign s first second) before line y rest is =
    elim is [
      | inl b ↦ sign_is s (λ rest. read_at limits first rest rest) (λ here. read_at limits second here here) line b.0 b.1 ∙ is_read limits first b.0 b.0 y rest b.2
      | inr b ↦ no_sign s (λ rest. read_at limits first rest rest) (λ here. read_at limits second here here) line b.0 ∙ is_read limits second line line y rest b.1
    ]
is_read limits (on_end first second) before line y rest is =
    elim is [
      | inl b ↦ at_end (read_at limits first [] []) (λ here. read_at limits second here here) line b.0 ∙ is_read limits first [] [] y rest b.1
      | inr b ↦ no_end (read_at limits first [] []) (λ here. read_at limits second here here) line b.0 ∙ is_read limits second line line y rest b.1
    ]
is_read limits (follows first go) before line y rest is =
    ap (λ r. and_then r (λ x between. read_at limits (go x) between between)) (is_read limits first before line is.0 is.1 is.2) ∙ is_read limits (go is.0) is.1 is.1 y rest is.3
is_read limits (each s i item) before line y rest is =
    items_read (length line) s i (λ i rest. read_at limits (item i) rest rest) (λ i. Spells limits (item i)) (λ i l x r. shorter limits (item i) l l x r) (λ i l x r. is_read limits (item i) l l x r) line y rest (le_refl (length line)) is

-- ---- with the limits, and without them

-- the same is read, or a limit refuses it
abbrev pub Same : {X : Type 0} → Read X → Read X → Type 0
Same r free = (r ≡ free) ⊎ ((why : Refusal) × (r ≡ Err (Limit why)))

limit_passes : {X Y : Type 0} (r : Read X) (go : X → List ℕ → Read Y) (why : Refusal) → r ≡ Err (Limit why) → and_then r go ≡ Err (Limit why)
limit_passes r go why is = ap (λ r. and_then r go) is

same_then_by : {X Y : Type 0} (free : Read X) (go other : X → List ℕ → Read Y) → ((x : X) (rest : List ℕ) → Same (go x rest) (other x rest)) → Same (and_then free go) (and_then free other)
same_then_by (Ok (x, rest)) go other same = same x rest
same_then_by (Err fault) go other same = inl refl

same_then : {X Y : Type 0} (r free : Read X) (go other : X → List ℕ → Read Y) → Same r free → ((x : X) (rest : List ℕ) → Same (go x rest) (other x rest)) → Same (and_then r go) (and_then free other)
same_then r free go other (inl e) same = subst (λ r. Same (and_then r go) (and_then free other)) (sym e) (same_then_by free go other same)
same_then r free go other (inr (why, e)) same = inr (why, limit_passes r go why e)

same_token : {T Y : Type 0} (here : List ℕ) (o : Option (T × List ℕ)) (go other : T → List ℕ → Read Y) → ((t : T) (rest : List ℕ) → Same (go t rest) (other t rest)) → Same (token_then here o go) (token_then here o other)
same_token here None go other same = inl refl
same_token here (Some (t, rest)) go other same = same t rest

same_behind : {Y : Type 0} (o : Option (List ℕ)) (go go_free : List ℕ → Read Y) (other other_free : Read Y) → ((rest : List ℕ) → Same (go rest) (go_free rest)) → Same other other_free → Same (behind_or o go other) (behind_or o go_free other_free)
same_behind None go go_free other other_free has lacks = lacks
same_behind (Some rest) go go_free other other_free has lacks = has rest

same_end : {Y : Type 0} (line : List ℕ) (ended ended_free : Read Y) (other other_free : List ℕ → Read Y) → Same ended ended_free → ((here : List ℕ) → Same (other here) (other_free here)) → Same (by_end ended other line) (by_end ended_free other_free line)
same_end [] ended ended_free other other_free has lacks = has
same_end (byte ∷ rest) ended ended_free other other_free has lacks = lacks (byte ∷ rest)

same_items : {X : Type 0} (n s i : ℕ) (item free : ℕ → List ℕ → Read X) → ((i : ℕ) (l : List ℕ) → Same (item i l) (free i l)) → (line : List ℕ) → Same (at_most n s i item line) (at_most n s i free line)
same_items zero s i item free same line = inl refl
same_items (suc n) s i item free same line =
    same_behind (sign_at s (behind_blanks line)) (one_more (item i) (at_most n s (suc i) item)) (one_more (free i) (at_most n s (suc i) free)) (none_more (behind_blanks line)) (none_more (behind_blanks line))
    (λ inner. same_then (item i inner) (free i inner) _ _ (same i inner) (λ x between.
    same_then (at_most n s (suc i) item between) (at_most n s (suc i) free between) (with_item x) (with_item x) (same_items n s (suc i) item free same between) (λ xs rest. inl refl)))
    (inl refl)

pub same_free : {X : Type 0} (g : Grammar X) (before line : List ℕ) → Same (read_at true g before line) (read_at false g before line)
same_free (done x) before line = inl refl
same_free unfit before line = inl refl
same_free (exceeds why free) before line = inr (why, refl)
same_free (no_blob why) before line = inl refl
same_free (spaced g) before line = same_free g before (behind_blanks line)
same_free (takes wanted go) before line =
    same_token line (wanted_in wanted (token_at line)) (λ t rest. read_at true (go t) line rest) (λ t rest. read_at false (go t) line rest) (λ t rest. same_free (go t) line rest)
same_free (on_sign s first second) before line =
    same_behind (sign_at s line) (λ rest. read_at true first rest rest) (λ rest. read_at false first rest rest) (read_at true second line line) (read_at false second line line) (λ rest. same_free first rest rest) (same_free second line line)
same_free (on_end first second) before line =
    same_end line (read_at true first [] []) (read_at false first [] []) (λ here. read_at true second here here) (λ here. read_at false second here here) (same_free first [] []) (λ here. same_free second here here)
same_free (follows first go) before line =
    same_then (read_at true first before line) (read_at false first before line) (λ x rest. read_at true (go x) rest rest) (λ x rest. read_at false (go x) rest rest) (same_free first before line) (λ x rest. same_free (go x) rest rest)
same_free (each s i item) before line =
    same_items (length line) s i (λ i rest. read_at true (item i) rest rest) (λ i rest. read_at false (item i) rest rest) (λ i l. same_free (item i) l l) line

-- what is spelled within the limits is spelled
pub within_free : {X : Type 0} (g : Grammar X) (x : X) (line rest : List ℕ) → Spells true g x line rest → Spells false g x line rest
within_free g x line rest is =
    let e = is_read true g line line x rest is in
    elim (same_free g line line) [
      | inl same ↦ spelled false g line line x rest (sym same ∙ e)
      | inr limit ↦ let bad = sym limit.1 ∙ e in absurd cc
    ]

-- What the fault of a reading leaves of what the line spells: beyond the limits something, at a limit, and else
-- nothing.
abbrev pub LeavesSpelled : LineFault → Type 0 → Type 0
LeavesSpelled (Limit why) within = within → ⊥
LeavesSpelled fault within = ⊥

left_by : {X : Type 0} (fault : LineFault) (g : Grammar X) (x : X) (line rest : List ℕ) → read g line ≡ Err fault → Same (read g line) (read_at false g line line) → Spells false g x line rest → LeavesSpelled fault (Spells true g x line rest)
left_by fault g x line rest is (inl same) spells = let bad = sym is ∙ same ∙ is_read false g line line x rest spells in absurd cc
left_by (Limit why) g x line rest is (inr limit) spells = λ within. let bad = sym is ∙ is_read true g line line x rest within in absurd cc
left_by (Syntax left) g x line rest is (inr limit) spells = let bad = sym is ∙ limit.1 in absurd cc
left_by (BadBlob why) g x line rest is (inr limit) spells = let bad = sym is ∙ limit.1 in absurd cc
left_by OutOfMemory g x line rest is (inr limit) spells = let bad = sym is ∙ limit.1 in absurd cc

pub left_spelled : {X : Type 0} (fault : LineFault) (g : Grammar X) (x : X) (line rest : List ℕ) → read g line ≡ Err fault → Spells false g x line rest → LeavesSpelled fault (Spells true g x line rest)
left_spelled fault g x line rest is spells = left_by fault g x line rest is (same_free g line line) spells

pub one_value : {X : Type 0} (limits : Bool) (g : Grammar X) (line : List ℕ) (x y : X) (rest other : List ℕ) → Spells limits g x line rest → Spells limits g y line other → (x ≡ y) × (rest ≡ other)
one_value limits g line x y rest other a b = ok_same x y rest other (sym (is_read limits g line line x rest a) ∙ is_read limits g line line y other b)

-- ---- rounds of items

more_same : {X : Type 0} (f g : List ℕ → Read (List X)) (r : Read X) → ((x : X) (b : List ℕ) → r ≡ Ok (x, b) → f b ≡ g b)
    → and_then r (λ x behind. and_then (f behind) (with_item x)) ≡ and_then r (λ x behind. and_then (g behind) (with_item x))
more_same f g (Ok (x, b)) same = ap (λ r. and_then r (with_item x)) (same x b refl)
more_same f g (Err fault) same = refl

by_sign_same : {Y : Type 0} (s : ℕ) (f g other : List ℕ → Read Y) (line : List ℕ) → ((inner : List ℕ) → line ≡ s ∷ inner → f inner ≡ g inner)
    → by_sign s f other line ≡ by_sign s g other line
by_sign_same s f g other line same =
    elim (branch s f other line (by_sign s f other line) refl) [
      | inl b ↦ sym b.2 ∙ same b.0 b.1 ∙ sym (sign_is s g other line b.0 b.1)
      | inr b ↦ sym b.1 ∙ sym (no_sign s g other line b.0)
    ]

-- more rounds than the line has bytes change nothing
pub enough : {X : Type 0} (n m s i : ℕ) (item : ℕ → List ℕ → Read X)
    → ((i : ℕ) (l : List ℕ) (x : X) (r : List ℕ) → item i l ≡ Ok (x, r) → length r ≤ length l)
    → (line : List ℕ) → length line ≤ n → length line ≤ m → at_most n s i item line ≡ at_most m s i item line
enough zero zero s i item less line n_enough m_enough = refl
enough zero (suc m) s i item less [] n_enough m_enough = refl
enough zero (suc m) s i item less (byte ∷ line) n_enough m_enough = absurd (omega arith)
enough (suc n) zero s i item less [] n_enough m_enough = refl
enough (suc n) zero s i item less (byte ∷ line) n_enough m_enough = absurd (omega arith)
enough (suc n) (suc m) s i item less line n_enough m_enough =
    by_sign_same s (one_more (item i) (at_most n s (suc i) item)) (one_more (item i) (at_most m s (suc i) item)) none_more (behind_blanks line) (λ inner is.
    let shorter = sign_shorter s line inner is in
    more_same (at_most n s (suc i) item) (at_most m s (suc i) item) (item i inner) (λ x b made.
    enough n m s (suc i) item less b (omega (arith, less i inner x b made, shorter)) (omega (arith, less i inner x b made, shorter))))

abbrev at_all : {X : Type 0} → ℕ → ℕ → (ℕ → Grammar X) → List ℕ → Read (List X)
at_all s i item line = read (each s i item) line

-- one round of items behind signs
one_round : {X : Type 0} (s i : ℕ) (item : ℕ → Grammar X) (line : List ℕ)
    → read (each s i item) line ≡ by_sign s (one_more (read (item i)) (at_all s (suc i) item)) none_more (behind_blanks line)
one_round s i item line =
    let less = λ (i : ℕ) (l : List ℕ) (x : _) (r : List ℕ). shorter true (item i) l l x r in
    let items = λ (i : ℕ). read (item i) in
    enough (length line) (suc (length line)) s i items less line (le_refl (length line)) (omega arith)
    ∙ by_sign_same s (one_more (read (item i)) (at_most (length line) s (suc i) items)) (one_more (read (item i)) (at_all s (suc i) item)) none_more (behind_blanks line) (λ inner is.
    more_same (at_most (length line) s (suc i) items) (at_all s (suc i) item) (read (item i) inner) (λ x b made.
    enough (length line) (length b) s (suc i) items less b (omega (arith, sign_shorter s line inner is, less i inner x b made)) (le_refl (length b))))

-- ---- faults

-- a fault of the first is that of both
pub fails_through : {X Y : Type 0} (fault : LineFault) (r : Read X) (go : X → List ℕ → Read Y) → Fails fault r → Fails fault (and_then r go)
fails_through (Syntax left) r go h = ap (λ r. and_then r go) h
fails_through (Limit why) r go h = ap (λ r. and_then r go) h
fails_through (BadBlob why) r go h = ap (λ r. and_then r go) h
fails_through OutOfMemory r go h = tt

-- ---- loops

pub first_item : {X : Type 0} (s : ℕ) (item : ℕ → Grammar X) (line : List ℕ) (x : X) (rest : List ℕ) → read (item 0) line ≡ Ok (x, rest)
    → read (separated s item) line ≡ onto (x ∷ []) (read (each s 1 item) rest)
first_item s item line x rest is =
    ap (λ r. and_then r (λ first behind. and_then (read (each s 1 item) behind) (λ others rest. Ok (first ∷ others, rest)))) is

onto_onto : {X : Type 0} (front : List X) (x : X) (r : Read (List X)) → onto front (and_then r (with_item x)) ≡ onto (front ++ x ∷ []) r
onto_onto front x (Ok (xs, rest)) = ap (λ xs. Ok (xs, rest)) (sym (append_assoc front (x ∷ []) xs))
onto_onto front x (Err fault) = refl

item_round : {X : Type 0} (s i : ℕ) (item : ℕ → Grammar X) (here mid : List ℕ) → sign_at s (behind_blanks here) ≡ Some mid
    → read (each s i item) here ≡ one_more (read (item i)) (at_all s (suc i) item) mid
item_round s i item here mid sign =
    one_round s i item here ∙ ap (λ o. behind_or o (one_more (read (item i)) (at_all s (suc i) item)) (none_more (behind_blanks here))) sign

-- the items so far, and those that are left
abbrev pub so_far : {X : Type 0} → ℕ → (ℕ → Grammar X) → List X → List ℕ → Read (List X)
so_far s item front here = onto front (read (each s (length front) item) here)

pub next_item : {X : Type 0} (s : ℕ) (item : ℕ → Grammar X) (front all : List X) (here mid : List ℕ) (x : X) (behind : List ℕ)
    → sign_at s (behind_blanks here) ≡ Some mid → read (item (length front)) mid ≡ Ok (x, behind) → all ≡ front ++ x ∷ []
    → so_far s item front here ≡ so_far s item all behind
next_item s item front all here mid x behind sign is all_is =
    let i = length front in
    let longer : suc i ≡ length (front ++ x ∷ []) = omega (arith, length-append front (x ∷ [])) in
    ap (onto front) (item_round s i item here mid sign ∙ ap (λ r. and_then r (λ x behind. and_then (at_all s (suc i) item behind) (with_item x))) is)
    ∙ onto_onto front x (at_all s (suc i) item behind)
    ∙ ap (λ i. onto (front ++ x ∷ []) (read (each s i item) behind)) longer
    ∙ ap (λ all. so_far s item all behind) (sym all_is)

pub last_item : {X : Type 0} (s : ℕ) (item : ℕ → Grammar X) (front : List X) (here rest : List ℕ) → (sign_at s (behind_blanks here) ≡ None) × (rest ≡ behind_blanks here)
    → so_far s item front here ≡ Ok (front, rest)
last_item s item front here rest none =
    let i = length front in
    ap (onto front) (one_round s i item here ∙ ap (λ o. behind_or o (one_more (read (item i)) (at_all s (suc i) item)) (none_more (behind_blanks here))) none.0)
    ∙ ap (λ xs. Ok (xs, behind_blanks here)) (append-nil front) ∙ ap (λ rest. Ok (front, rest)) (sym none.1)

-- the fault of an item is that of all
pub unread_item : {X : Type 0} (s : ℕ) (item : ℕ → Grammar X) (front : List X) (here mid : List ℕ) (fault : LineFault)
    → sign_at s (behind_blanks here) ≡ Some mid → Fails fault (read (item (length front)) mid) → Fails fault (so_far s item front here)
unread_item s item front here mid fault sign fails =
    let i = length front in
    subst (λ r. Fails fault (onto front r)) (sym (item_round s i item here mid sign))
    (fails_through fault (one_more (read (item i)) (at_all s (suc i) item) mid) (λ xs rest. Ok (front ++ xs, rest))
    (fails_through fault (read (item i) mid) (λ x behind. and_then (at_all s (suc i) item behind) (with_item x)) fails))

sign_less_if : (b : Bool) (byte : ℕ) (rest mid : List ℕ) → cond b (Some rest) None ≡ Some mid → length mid < length (byte ∷ rest)
sign_less_if true byte rest mid is = let same : rest ≡ mid = cc in rw (← same) (omega arith)
sign_less_if false byte rest mid is = absurd cc

sign_less : (s : ℕ) (line mid : List ℕ) → sign_at s line ≡ Some mid → length mid < length line
sign_less s [] mid is = absurd cc
sign_less s (byte ∷ rest) mid is = sign_less_if (byte == s) byte rest mid is

-- each round takes at least its sign
pub item_less : {X : Type 0} (s : ℕ) (item : Grammar X) (here mid : List ℕ) (x : X) (behind : List ℕ)
    → sign_at s (behind_blanks here) ≡ Some mid → read item mid ≡ Ok (x, behind) → length behind < length here
item_less s item here mid x behind sign is = omega (arith, blanks_shorter here, sign_less s (behind_blanks here) mid sign, shorter true item mid mid x behind is)

-- ---- exits by `?`

pub err_made : {T X : Type 0} (r : Result T LineFault) (Made : T → Type 0) (fault : LineFault) (answer other : Read X)
    → IsErrAnd r (λ e. e ≡ fault) → answer ≡ other → Fails fault other → MatchResult r Made (λ fault. Fails fault answer)
err_made (Ok x) Made fault answer other is same fails = absurd is
err_made (Err why) Made fault answer other is same fails =
    subst (λ why. Fails why answer) (sym is) (subst (λ r. Fails fault r) (sym same) fails)

pub err_read : {X : Type 0} (r : Result X LineFault) (rest : List ℕ) (fault : LineFault) (answer other : Read X)
    → IsErrAnd r (λ e. e ≡ fault) → answer ≡ other → Fails fault other → Reads r rest answer
err_read (Ok x) rest fault answer other is same fails = absurd is
err_read (Err why) rest fault answer other is same fails =
    subst (λ why. Fails why answer) (sym is) (subst (λ r. Fails fault r) (sym same) fails)

pub err_reads : {X A : Type 0} (r : Result (Vec X A) LineFault) (rest : List ℕ) (fault : LineFault) (answer other : Read (List X))
    → IsErrAnd r (λ e. e ≡ fault) → answer ≡ other → Fails fault other → Reads (seen_items r) rest answer
err_reads (Ok x) rest fault answer other is same fails = absurd is
err_reads (Err why) rest fault answer other is same fails =
    subst (λ why. Fails why answer) (sym is) (subst (λ r. Fails fault r) (sym same) fails)
