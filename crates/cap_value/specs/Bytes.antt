-- Texts, blobs and names as lists of bytes.
use Rattle.std.specs.Prelude.{◌≡◌, ◌↔◌, ℕ, ◌<◌, List, EachIndex, slice_index, Result, Ok, Err, Bool, length}
use Rattle.std.specs.Prelude.{nat_le, ◌==◌, ◌&&◌, not, if◌then◌else◌, nat_eq}
use Rattle.std.proofs.Common.{subst}
use Rattle.std.proofs.lemmas.Cmp.{nat_list_cmp_total}
use Rattle.std.specs.Cmp.{tied_itself}
use Rattle.std.specs.FinMap.{nat_cmp-IsAntisymmetric, slice_cmp-IsAntisymmetric}
use Rattle.std.specs.declared.cmp.Ordering.{Ordering}
use Rattle.std.specs.declared.cmp.Ordering.TheVariants.{Equal}
use Rattle.std.specs.Ordering.{nat_cmp}
use Rattle.std.specs.List.{list_any}
use Rattle.std.specs.Cmp.Lexicographic.{slice_cmp, pointwise}
use Rattle.cap_value.specs.declared.refusal.Refusal.{Refusal}
use Rattle.cap_value.specs.declared.refusal.Refusal.TheVariants.{TooLong, BadName}

-- byte by byte, and a list before what extends it
abbrev pub bytes_cmp : List ℕ → List ℕ → Ordering
bytes_cmp = slice_cmp nat_cmp

abbrev pub bytes_eq : List ℕ → List ℕ → Bool
bytes_eq = pointwise nat_eq

-- each is below 256
abbrev pub AreBytes : List ℕ → Type 0
AreBytes bytes = EachIndex bytes (λ i. slice_index bytes i < 256)

-- different bytes are unequal in the order
pub bytes_cmp-Equal : (xs ys : List ℕ) → (bytes_cmp xs ys ≡ Equal) ↔ (xs ≡ ys)
bytes_cmp-Equal xs ys = (
  slice_cmp-IsAntisymmetric nat_cmp-IsAntisymmetric xs ys,
  λ e. subst (λ zs. bytes_cmp xs zs ≡ Equal) e
      (tied_itself nat_list_cmp_total xs),
)

-- a text or a blob, refused where it has more than 1,000,000,000 bytes
abbrev pub within_limit : List ℕ → Result (List ℕ) Refusal
within_limit bytes = if nat_le (length bytes) 1000000000 then Ok bytes else Err TooLong

-- a name has 1 to 255 bytes, none of them zero
abbrev pub is_name : List ℕ → Bool
is_name bytes =
    nat_le 1 (length bytes) && nat_le (length bytes) 255 && not (list_any (λ byte. byte == 0) bytes)

abbrev pub name_of : List ℕ → Result (List ℕ) Refusal
name_of bytes = if is_name bytes then Ok bytes else Err BadName
