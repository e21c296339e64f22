-- The letters of a word as flags.
use Rattle.std.proofs.Common.{◌≡◌, ◌<◌, ◌+◌, ℕ, List, [], ◌∷◌, ◌++◌, length, get_or, drop, Bool, Option, Some, None, refl, ap, sym, ◌∙◌, add-one, drop-cons, append_assoc, append-nil}
use Rattle.cap_script.specs.Language.{flags_in, key_letter, with_flag}

abbrev pub onto_flags : List Bool → Option (List Bool) → Option (List Bool)
onto_flags front None = None
onto_flags front (Some flags) = Some (front ++ flags)

flag_step : (front : List Bool) (flag : Bool) (o : Option (List Bool)) → onto_flags front (with_flag (Some flag) o) ≡ onto_flags (front ++ flag ∷ []) o
flag_step front flag None = refl
flag_step front flag (Some flags) = ap Some (sym (append_assoc front (flag ∷ []) flags))

first_flag : (i : ℕ) (xs : List ℕ) → i < length xs → flags_in (drop i xs) ≡ with_flag (key_letter (get_or xs i 0)) (flags_in (drop (i + 1) xs))
first_flag i xs less = rw (add-one, drop-cons xs i 0) refl

pub next_flag : (front all : List Bool) (i letter : ℕ) (flag : Bool) (xs : List ℕ) → i < length xs → letter ≡ get_or xs i 0 → key_letter letter ≡ Some flag → all ≡ front ++ flag ∷ []
    → onto_flags front (flags_in (drop i xs)) ≡ onto_flags all (flags_in (drop (i + 1) xs))
next_flag front all i letter flag xs less is flag_is all_is =
    ap (onto_flags front) (first_flag i xs less ∙ ap (λ o. with_flag o (flags_in (drop (i + 1) xs))) (ap key_letter (sym is) ∙ flag_is))
    ∙ flag_step front flag (flags_in (drop (i + 1) xs)) ∙ ap (λ all. onto_flags all (flags_in (drop (i + 1) xs))) (sym all_is)

pub no_flag : (front : List Bool) (i letter : ℕ) (xs : List ℕ) → i < length xs → letter ≡ get_or xs i 0 → key_letter letter ≡ None
    → onto_flags front (flags_in (drop i xs)) ≡ None
no_flag front i letter xs less is none =
    ap (onto_flags front) (first_flag i xs less ∙ ap (λ o. with_flag o (flags_in (drop (i + 1) xs))) (ap key_letter (sym is) ∙ none))

pub last_flag : (front : List Bool) → onto_flags front (flags_in []) ≡ Some front
last_flag front = ap Some (append-nil front)
