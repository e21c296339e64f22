-- Pieces that come one behind the other.
use Rattle.std.proofs.Common.{◌≡◌, ℕ, List, [], ◌∷◌, ◌++◌, Option, None, Vec, arith, drop, length, subst, refl, sym, ap, ap₂, ◌∙◌, append_assoc, append-nil}
use Rattle.std.specs.Option.{option_to_list}
use Rattle.cap_run.specs.Pieces.{joined}

same_behind : {X : Type 0} (xs : List X) → xs ≡ drop 1 xs → xs ≡ []
same_behind [] e = refl
same_behind (x ∷ xs) e = let long : length (x ∷ xs) ≡ length xs = ap length e in absurd (omega arith)

-- there is no first piece
pub none_popped : {X : Type 0} (first : Option X) (old new : List X) → first ≡ None → old ≡ option_to_list first ++ new → new ≡ drop 1 old → old ≡ []
none_popped {X} first old new none parts rest =
    let same : old ≡ new = subst (λ (o : Option X). old ≡ option_to_list o ++ new) none parts in
    same_behind old (same ∙ rest)

module _ {Z : Type 0} where
  joined-last : (full : List (Vec ℕ Z)) (last : Vec ℕ Z) → joined (full ++ last ∷ []) ≡ joined full ++ last.items
  joined-last [] last = append-nil last.items
  joined-last (piece ∷ full) last = ap (λ (l : List ℕ). piece.items ++ l) (joined-last full last) ∙ sym (append_assoc piece.items (joined full) last.items)

  -- the last piece is full, and an empty one follows it
  pub begun : (full new : List (Vec ℕ Z)) (old last next : Vec ℕ Z) (bytes : List ℕ) → joined full ++ old.items ≡ bytes → last ≡ old → new ≡ full ++ last ∷ [] → next.items ≡ []
      → joined new ++ next.items ≡ bytes
  begun full new old last next bytes are same more none =
      ap₂ (λ (a b : List ℕ). a ++ b) (ap joined more ∙ joined-last full last ∙ ap (λ (v : Vec ℕ Z). joined full ++ v.items) same) none
      ∙ append-nil (joined full ++ old.items) ∙ are

  -- one piece more is copied
  pub copied : (old new : List (Vec ℕ Z)) (piece : Vec ℕ Z) (bytes more last whole : List ℕ) → bytes ++ (joined old ++ last) ≡ whole → old ≡ piece ∷ new → more ≡ bytes ++ piece.items
      → more ++ (joined new ++ last) ≡ whole
  copied old new piece bytes more last whole are first is =
      ap (λ (l : List ℕ). l ++ (joined new ++ last)) is ∙ append_assoc bytes piece.items (joined new ++ last)
      ∙ ap (λ (l : List ℕ). bytes ++ l) (sym (append_assoc piece.items (joined new) last))
      ∙ ap (λ (l : List (Vec ℕ Z)). bytes ++ (joined l ++ last)) (sym first) ∙ are

  -- the last piece is copied
  pub none_left : (full : List (Vec ℕ Z)) (bytes more last whole : List ℕ) → bytes ++ (joined full ++ last) ≡ whole → full ≡ [] → more ≡ bytes ++ last → more ≡ whole
  none_left full bytes more last whole are none is = is ∙ ap (λ (l : List (Vec ℕ Z)). bytes ++ (joined l ++ last)) (sym none) ∙ are
