-- The first blob of an input that has several.
use Rattle.std.proofs.Common.{◌≡◌, ◌∙◌, ℕ, zero, suc, ◌+◌, ◌-◌, ◌<◌, ◌≤◌, Bool, true, false, cond, List, [], ◌∷◌, Option, Some, None, length, take, drop, ap, sym, refl, arith}
use Rattle.std.specs.Prelude.{nat_le}
use Rattle.std.proofs.lemmas.Bool.{leb-true}
use Rattle.std.proofs.lemmas.List.{length-drop}
use Rattle.std.specs.Option.{option_map_or}
use Rattle.cap_run.specs.BlobList.{frame_at, frame_len, frames}

abbrev behind_of : Option (List ℕ × List ℕ) → List ℕ
behind_of None = []
behind_of (Some frame) = frame.1

-- what is behind a frame is shorter
pub frame_shorter : (bytes : List ℕ) (frame : List ℕ × List ℕ) → frame_at bytes ≡ Some frame → length frame.1 < length bytes
frame_shorter bytes frame is =
    elim (nat_le (8 + frame_len bytes) (length bytes)) as (λ t. nat_le (8 + frame_len bytes) (length bytes) ≡ t → cond t (Some (take (frame_len bytes) (drop 8 bytes), drop (frame_len bytes) (drop 8 bytes))) None ≡ Some frame → length frame.1 < length bytes) [
      | true ↦ λ le e.
          let fits = leb-true (8 + frame_len bytes) (length bytes) le in
          let same : drop (frame_len bytes) (drop 8 bytes) ≡ frame.1 = ap behind_of e in
          let long : length frame.1 ≡ length bytes - 8 - frame_len bytes = ap (λ (l : List ℕ). length l) (sym same) ∙ length-drop (frame_len bytes) (drop 8 bytes) ∙ ap (λ (n : ℕ). n - frame_len bytes) (length-drop 8 bytes) in
          omega (arith, fits, long)
      | false ↦ λ le e. absurd (cc e)
    ] refl is

frames_alike : (m n : ℕ) (bytes : List ℕ) → length bytes ≤ m → length bytes ≤ n → frames m bytes ≡ frames n bytes
frames_alike zero zero bytes a b = refl
frames_alike zero (suc n) [] a b = refl
frames_alike zero (suc n) (x ∷ xs) a b = absurd (omega (arith, a))
frames_alike (suc m) zero [] a b = refl
frames_alike (suc m) zero (x ∷ xs) a b = absurd (omega (arith, b))
frames_alike (suc m) (suc n) [] a b = refl
frames_alike (suc m) (suc n) (x ∷ xs) a b =
    elim (frame_at (x ∷ xs)) as (λ r. frame_at (x ∷ xs) ≡ r → option_map_or (λ (f : List ℕ × List ℕ). Some f.0 ∷ frames m f.1) r (None ∷ []) ≡ option_map_or (λ (f : List ℕ × List ℕ). Some f.0 ∷ frames n f.1) r (None ∷ [])) [
      | Some f ↦ λ e.
          let less = frame_shorter (x ∷ xs) f e in
          ap (λ (l : List (Option (List ℕ))). Some f.0 ∷ l) (frames_alike m n f.1 (omega (arith, less, a)) (omega (arith, less, b)))
      | None ↦ λ e. refl
    ] refl

-- the first frame, and those of the bytes behind it
pub frame_first : (bytes : List ℕ) (frame : List ℕ × List ℕ) → 0 < length bytes → frame_at bytes ≡ Some frame → frames (length bytes) bytes ≡ Some frame.0 ∷ frames (length frame.1) frame.1
frame_first [] frame some is = absurd (omega (arith, some))
frame_first (x ∷ xs) frame some is =
    let less = frame_shorter (x ∷ xs) frame is in
    ap (λ (r : Option (List ℕ × List ℕ)). option_map_or (λ (f : List ℕ × List ℕ). Some f.0 ∷ frames (length xs) f.1) r (None ∷ [])) is
    ∙ ap (λ (l : List (Option (List ℕ))). Some frame.0 ∷ l) (frames_alike (length xs) (length frame.1) frame.1 (omega (arith, less)) (omega arith))

pub frame_none : (bytes : List ℕ) → 0 < length bytes → frame_at bytes ≡ None → frames (length bytes) bytes ≡ None ∷ []
frame_none [] some is = absurd (omega (arith, some))
frame_none (x ∷ xs) some is =
    ap (λ (r : Option (List ℕ × List ℕ)). option_map_or (λ (f : List ℕ × List ℕ). Some f.0 ∷ frames (length xs) f.1) r (None ∷ [])) is
