-- The forms that commands have in common can be read on from where they begin.
use Rattle.std.proofs.Common.{◌≡◌, ℕ, Bool, true, false, eqb, List, [], ◌∷◌, codes, refl, ap}
use Rattle.std.proofs.lemmas.Bool.{or_parts}
use Rattle.cap_value.specs.Bytes.{bytes_eq, name_of}
use Rattle.cap_value.specs.Value.{blob_value, text_value}
use Rattle.cap_value.specs.declared.value.Value.TheVariants as made
use Rattle.cap_filter.specs.Tokens.{is_word}
use Rattle.cap_language.specs.Forms.{Words, a_number, a_word, any_token, behind, either, keyword, name, natural, one_of, separated, sign, skip, value, value_of, values, within}
use Rattle.cap_language.specs.Grammar.{done, follows, read, read_at, unfit}
use Rattle.cap_language.specs.Tokens.{Blob, Integer, Text, Token, Word, is_blank, is_letter, signed}
use Rattle.cap_language.proofs.OpenGrammars.{Eats, Form, eats_next, form_both, form_map, form_next, form_separated, form_sign, kind_done, kind_either, kind_one_of, kind_unfit, kind_within, number_token, sample_fits, word_token}
use Rattle.cap_language.proofs.OpenLaws.{OpenKind, Tails, goes_with, open_done}

-- ---- signs

pub goes_44 : (byte : ℕ) → goes_with byte ≡ false → eqb byte 44 ≡ false
goes_44 byte e = (or_parts (eqb byte 44) _ e).0

pub goes_59 : (byte : ℕ) → goes_with byte ≡ false → eqb byte 59 ≡ false
goes_59 byte e = (or_parts (eqb byte 59) (eqb byte 64) (or_parts (eqb byte 44) _ e).1).0

pub goes_64 : (byte : ℕ) → goes_with byte ≡ false → eqb byte 64 ≡ false
goes_64 byte e = (or_parts (eqb byte 59) (eqb byte 64) (or_parts (eqb byte 44) _ e).1).1

-- ---- words, names and numbers

pub form_keyword : (c : ℕ) (w : List ℕ) → is_letter c ≡ true → eqb c 120 ≡ false → is_word (c ∷ w) ≡ true → is_blank c ≡ false → goes_with c ≡ false → bytes_eq (c ∷ w) (c ∷ w) ≡ true → Form (keyword (c ∷ w))
unfolding keyword
form_keyword c w letter no_x all plain other same =
    let words : Words (Unit {0}) = (c ∷ w, skip) ∷ [] in
    form_next a_word (one_of words) (kind_one_of Tails words (open_done Tails (tt {0}), tt {0}))
    (sample_fits a_word (one_of words) (Word (c ∷ w)) c w (c ∷ w) plain other (word_token c w letter no_x all) refl (tt {0})
    (λ before line. ap (λ (b : Bool). read_at true (either b (behind skip) unfit) before line) same))

pub eats_keyword : (w : List ℕ) → Eats (read (keyword w))
unfolding keyword
eats_keyword w = eats_next a_word (one_of ((w, skip) ∷ []))

pub form_natural : Form natural
unfolding natural
form_natural = form_next a_number done (λ n. kind_done Tails n) (sample_fits a_number done (Integer false 1) 49 [] 1 refl refl number_token refl 1 (λ before line. refl))

pub form_name : Form name
unfolding name
form_name =
    form_next a_word (λ w. within (name_of w) w) (λ w. kind_within Tails (name_of w) w)
    (sample_fits a_word (λ w. within (name_of w) w) (Word (116 ∷ [])) 116 [] (116 ∷ []) refl refl (word_token 116 [] refl refl refl) refl (116 ∷ []) (λ before line. refl))

-- ---- values

module _ {A : Type 0} where
  value_kind : (t : Token) → OpenKind Tails (value_of {A = A} t)
  value_kind (Word w) = kind_either Tails (bytes_eq w (codes "null")) (done made.Null) unfit (kind_done Tails made.Null) (kind_unfit Tails)
  value_kind (Integer negative n) = kind_done Tails (made.Int (signed negative n))
  value_kind (Text t) = kind_within Tails (text_value t) (made.Text t)
  value_kind (Blob bytes) = kind_within Tails (blob_value bytes) (made.Blob bytes)

  pub form_value : Form (value {A = A})
  unfolding value
  form_value =
      form_next any_token value_of value_kind
      (sample_fits any_token value_of (Word (codes "null")) 110 (117 ∷ 108 ∷ 108 ∷ []) (Word (codes "null")) refl refl (word_token 110 (117 ∷ 108 ∷ 108 ∷ []) refl refl refl) refl made.Null (λ before line. refl))

  pub form_values : Form (values {A = A})
  unfolding values
  form_values =
      form_both (sign 40) (λ u. follows (separated 44 (λ i. value)) (λ fields. follows (sign 41) (λ u. done fields))) (form_sign 40 refl refl)
      (λ u. form_both (separated 44 (λ i. value)) (λ fields. follows (sign 41) (λ u. done fields)) (form_separated 44 goes_44 (λ i. value) (λ i. let form = form_value in form.inner) form_value)
      (λ fields. form_map (sign 41) (λ u. fields) (form_sign 41 refl refl)))
