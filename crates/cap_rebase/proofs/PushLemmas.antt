-- What is left of each element of a list, one more at a time.
use Rattle.std.proofs.Common.{◌≡◌, ◌∙◌, ℕ, ◌+◌, ◌<◌, Bool, true, false, cond, List, [], ◌∷◌, ◌++◌, Option, Some, None, get_or, length, drop, refl, ap, sym}
use Rattle.std.specs.Prelude.{filter, filter_map}
use Rattle.std.specs.List.{cons_option}
use Rattle.std.proofs.lemmas.List.{append_assoc, drop_more}
use Rattle.cap_changes.specs.declared.row_change.RowChange.{RowChange}
use Rattle.cap_rebase.specs.Flag.{are_of_one_row}
use Rattle.cap_rebase.specs.Rebase.{rebased_next, rebased_over}

onto : {Y : Type 0} (made more : List Y) (o : Option Y) → (made ++ cons_option o []) ++ more ≡ made ++ cons_option o more
onto made more None = append_assoc made [] more
onto made more (Some y) = append_assoc made (y ∷ []) more

pub left_more : {X Y : Type 0} (h : X → Option Y) (made all : List Y) (xs others : List X) (x : X) (o : Option Y) → xs ≡ x ∷ others → o ≡ h x →
    made ++ filter_map h xs ≡ all → (made ++ cons_option o []) ++ filter_map h others ≡ all
left_more h made all xs others x o parts one so_far =
    onto made (filter_map h others) o
    ∙ ap (λ (p : Option _). made ++ cons_option p (filter_map h others)) one
    ∙ sym (ap (λ (l : List _). made ++ filter_map h l) parts)
    ∙ so_far

-- the same of a slice
pub left_more_at : {X Y : Type 0} (h : X → Option Y) (made all : List Y) (xs : List X) (i : ℕ) (d : X) (o : Option Y) → i < length xs → o ≡ h (get_or xs i d) →
    made ++ filter_map h (drop i xs) ≡ all → (made ++ cons_option o []) ++ filter_map h (drop (i + 1) xs) ≡ all
left_more_at h made all xs i d o within one so_far =
    left_more h made all (drop i xs) (drop (i + 1) xs) (get_or xs i d) o (drop_more xs i d within) one so_far

-- one remote change more
pub over_more : {A : Type 0} (flags : List Bool) (local : RowChange A) (remotes others : List (RowChange A)) (remote : RowChange A) (left left' all : Option (RowChange A)) → remotes ≡ remote ∷ others →
    left' ≡ rebased_over flags left (filter (are_of_one_row flags local) (remote ∷ [])) →
    rebased_over flags left (filter (are_of_one_row flags local) remotes) ≡ all → rebased_over flags left' (filter (are_of_one_row flags local) others) ≡ all
over_more {A} flags local remotes others remote left left' all parts is so_far =
    ap (λ (o : Option (RowChange A)). rebased_over flags o more) is
    ∙ by_row (are_of_one_row flags local remote)
    ∙ sym (ap (λ (l : List (RowChange A)). rebased_over flags left (filter (are_of_one_row flags local) l)) parts)
    ∙ so_far
  where
    more : List (RowChange A)
    more = filter (are_of_one_row flags local) others

    by_row : (b : Bool) → rebased_over flags (rebased_over flags left (cond b (remote ∷ []) [])) more ≡ rebased_over flags left (cond b (remote ∷ more) more)
    by_row true = refl
    by_row false = refl

-- over one change, which is of the row or not
module _ {A : Type 0} (flags : List Bool) (local remote : RowChange A) (left : Option (RowChange A)) where
  pub its_row : are_of_one_row flags local remote ≡ true → rebased_next flags left remote ≡ rebased_over flags left (filter (are_of_one_row flags local) (remote ∷ []))
  its_row one = sym (ap (λ (b : Bool). rebased_over flags left (cond b (remote ∷ []) [])) one)

  pub other_row : are_of_one_row flags local remote ≡ false → left ≡ rebased_over flags left (filter (are_of_one_row flags local) (remote ∷ []))
  other_row none = sym (ap (λ (b : Bool). rebased_over flags left (cond b (remote ∷ []) [])) none)
