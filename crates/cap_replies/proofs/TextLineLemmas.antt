-- The first line of a text.
use Rattle.std.proofs.Common.{◌≡◌, ◌∙◌, ℕ, zero, suc, ◌+◌, ◌<◌, ◌≤◌, Bool, true, false, cond, ◌||◌, ◌==◌, List, [], ◌∷◌, ◌++◌, length, get_or, take, drop, drop-cons, take-append-drop, ap, ap₂, refl, sym, subst, arith, add-one, le_refl, take_all}
use Rattle.std.specs.List.{list_any, onto_first}
use Rattle.std.proofs.lemmas.Bool.{eqb-true}
use Rattle.std.proofs.lemmas.List.Folds.{list_any_more}
use Rattle.memchr.specs.Find.{NoneBefore, Nowhere, Passes, is_byte}
use Rattle.cap_replies.specs.TextLines.{split_lines}

abbrev pub has_line_feed : List ℕ → Bool
has_line_feed = list_any (λ byte. byte == 10)

pub line_cut : (line rest : List ℕ) → has_line_feed line ≡ false → split_lines (line ++ 10 ∷ rest) ≡ line ∷ split_lines rest
line_cut [] rest clear = refl
line_cut (b ∷ line) rest clear =
    elim (b == 10) as (λ is. (is || has_line_feed line) ≡ false → cond is ([] ∷ split_lines (line ++ 10 ∷ rest)) (onto_first b (split_lines (line ++ 10 ∷ rest))) ≡ (b ∷ line) ∷ split_lines rest) [
      | true ↦ λ e. absurd (cc e)
      | false ↦ λ e. ap (onto_first b) (line_cut line rest e)
    ] clear

pub line_last : (b : ℕ) (bytes : List ℕ) → has_line_feed (b ∷ bytes) ≡ false → split_lines (b ∷ bytes) ≡ (b ∷ bytes) ∷ []
line_last b [] clear =
    elim (b == 10) as (λ is. (is || false) ≡ false → cond is ([] ∷ []) ((b ∷ []) ∷ []) ≡ (b ∷ []) ∷ []) [
      | true ↦ λ e. absurd (cc e)
      | false ↦ λ e. refl
    ] clear
line_last b (c ∷ bytes) clear =
    elim (b == 10) as (λ is. (is || has_line_feed (c ∷ bytes)) ≡ false → cond is ([] ∷ split_lines (c ∷ bytes)) (onto_first b (split_lines (c ∷ bytes))) ≡ (b ∷ c ∷ bytes) ∷ []) [
      | true ↦ λ e. absurd (cc e)
      | false ↦ λ e. ap (onto_first b) (line_last c bytes e)
    ] clear

pub line_alone : (bytes : List ℕ) → 0 < length bytes → has_line_feed bytes ≡ false → split_lines bytes ≡ bytes ∷ []
line_alone [] some clear = absurd (omega (arith, some))
line_alone (b ∷ bytes) some clear = line_last b bytes clear

-- the line ends at this byte
pub line_at : (text : List ℕ) (i d : ℕ) → i < length text → get_or text i d ≡ 10 → has_line_feed (take i text) ≡ false → split_lines text ≡ take i text ∷ split_lines (drop (i + 1) text)
line_at text i d within feed clear =
    let n : suc i ≡ i + 1 = omega arith in
    let behind : drop i text ≡ get_or text i d ∷ drop (i + 1) text = drop-cons text i d within ∙ (λ k. get_or text i d ∷ drop (n k) text) in
    let parts : text ≡ take i text ++ 10 ∷ drop (i + 1) text = sym (take-append-drop i text) ∙ ap (λ (l : List ℕ). take i text ++ l) (behind ∙ ap (λ (b : ℕ). b ∷ drop (i + 1) text) feed) in
    ap split_lines parts ∙ line_cut (take i text) (drop (i + 1) text) clear

-- it does not
pub line_more : (text : List ℕ) (i byte : ℕ) → i < length text → byte ≡ get_or text i byte → (byte == 10) ≡ false → has_line_feed (take i text) ≡ false → has_line_feed (take (i + 1) text) ≡ false
line_more text i byte within is other clear = list_any_more (λ b. b == 10) text i byte within ∙ ap₂ (λ (x y : Bool). x || y) clear (ap (λ (b : ℕ). b == 10) (sym is) ∙ other)

not_true : (b : Bool) → (b ≡ true → ⊥) → b ≡ false
not_true true never = absurd (never refl)
not_true false never = refl

-- no line feed before a place
clear_before : (text : List ℕ) (n : ℕ) → n ≤ length text → Nowhere (Passes (is_byte 10) text) 0 n → has_line_feed (take n text) ≡ false
clear_before text zero le none = refl
clear_before text (suc n) le none =
    let before = clear_before text n (omega arith) (λ k low less. none k low (omega arith)) in
    let other : (get_or text n 0 == 10) ≡ false = not_true (get_or text n 0 == 10) (none n (omega arith) (omega arith)) in
    rw (← add-one n) (list_any_more (λ b. b == 10) text n 0 (omega arith) ∙ ap₂ (λ (x y : Bool). x || y) before other)

-- the first line ends at the first line feed
pub line_found : (text : List ℕ) (k : ℕ) → NoneBefore (Passes (is_byte 10) text) 0 (length text) k × Passes (is_byte 10) text k
    → split_lines text ≡ take k text ∷ split_lines (drop (k + 1) text)
line_found text k found =
    line_at text k 0 found.0.high (eqb-true (get_or text k 0) 10 found.1) (clear_before text k (omega (arith, found.0.high)) found.0.before)

-- there is none
pub line_none : (text : List ℕ) → 0 < length text → Nowhere (Passes (is_byte 10) text) 0 (length text) → split_lines text ≡ text ∷ []
line_none text some none =
    line_alone text some (subst (λ (l : List ℕ). has_line_feed l ≡ false) (take_all (length text) text (le_refl (length text))) (clear_before text (length text) (le_refl (length text)) none))
