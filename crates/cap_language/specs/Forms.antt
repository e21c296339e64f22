-- What commands have in common: words, signs, numbers, names and values.
use Rattle.std.specs.Prelude.{ℕ, nat_le, Bool, true, false, List, [], ◌∷◌, Option, Some, None, Result, Ok}
use Rattle.std.specs.Prelude.{Err, codes}
use Rattle.cap_value.specs.Bytes.{bytes_eq, name_of}
use Rattle.cap_value.specs.Value.{text_value, blob_value}
use Rattle.cap_value.specs.declared.refusal.Refusal.{Refusal}
use Rattle.cap_value.specs.declared.value.Value.{Value}
use Rattle.cap_value.specs.declared.value.Value.TheVariants as made
use Rattle.cap_row.specs.Fields.{Fields}
use Rattle.cap_language.specs.Grammar.{Grammar, done, unfit, exceeds, takes, on_sign, each, ◌>>=◌, next}
use Rattle.cap_language.specs.Grammar.{where_sign, where_end}
use Rattle.cap_language.specs.Grammar.{Read, Wanted, read_at, token_then, wanted_in}
use Rattle.cap_language.specs.Scanning.{token_at}
use Rattle.cap_language.specs.Tokens.{Token, Word, Integer, Text, Blob, signed}

abbrev pub any_token : Wanted Token
any_token t = Some t

abbrev pub a_word : Wanted (List ℕ)
a_word (Word w) = Some w
a_word _ = None

-- an integer without `-`
abbrev pub a_number : Wanted ℕ
a_number (Integer false n) = Some n
a_number _ = None

abbrev pub a_blob : Wanted (List ℕ)
a_blob (Blob bytes) = Some bytes
a_blob _ = None

abbrev pub either : {X : Type 0} → Bool → Grammar X → Grammar X → Grammar X
either true first second = first
either false first second = second

-- nothing
abbrev pub skip : Grammar (Unit {0})
skip = done tt

-- this, within its limit, or without the limits the other
abbrev pub within : {X : Type 0} → Result X Refusal → X → Grammar X
within (Ok x) free = done x
within (Err why) free = exceeds why (done free)

-- what is read behind a token
abbrev pub behind : {X : Type 0} → Grammar X → Grammar X
behind grammar = skip >>= λ _. grammar

-- words, and what is read behind each
abbrev pub Words : Type 0 → Type 1
Words X = List (List ℕ × Grammar X)

-- what is read behind this word
abbrev pub one_of : {X : Type 0} → Words X → List ℕ → Grammar X
one_of [] found = unfit
one_of ((w, grammar) ∷ others) found = either (bytes_eq found w) (behind grammar) (one_of others found)

-- one or more, with this sign before each but the first
abbrev pub separated : {X : Type 0} → ℕ → (ℕ → Grammar X) → Grammar (List X)
separated s item = item 0 >>= λ first. each s 1 item >>= λ others. done (first ∷ others)

abbrev pub sign : ℕ → Grammar (Unit {0})
sign s = where_sign s skip unfit

-- the line's end
abbrev pub at_end : Grammar (Unit {0})
at_end = where_end skip unfit

unfoldable pub keyword : List ℕ → Grammar (Unit {0})
keyword w = next a_word (one_of ((w, skip) ∷ []))

unfoldable pub natural : Grammar ℕ
natural = next a_number done

-- a name of a table or of a saved database
unfoldable pub name : Grammar (List ℕ)
name = next a_word (λ w. within (name_of w) w)

-- a worker with this number, where it is one, and a space right behind it
abbrev pub worker_behind : Bool → ℕ → Grammar (Option ℕ)
worker_behind is_one n = either is_one (on_sign 32 (done (Some n)) unfit) unfit

-- the worker behind its `@`: a number of at most 63 right there
abbrev pub worker_number : Grammar (Option ℕ)
worker_number = takes a_number (λ n. worker_behind (nat_le n 63) n)

-- `@` and the worker, or no `@`
unfoldable pub worker : Grammar (Option ℕ)
worker = where_sign 64 worker_number (done None)

module _ {A : Type 0} where
  abbrev pub value_of : Token → Grammar (Value A)
  value_of (Word w) = either (bytes_eq w (codes "null")) (done made.Null) unfit
  value_of (Integer negative n) = done (made.Int (signed negative n))
  value_of (Text t) = within (text_value t) (made.Text t)
  value_of (Blob bytes) = within (blob_value bytes) (made.Blob bytes)

  unfoldable pub value : Grammar (Value A)
  value = next any_token value_of

  -- the value of the token right here
  abbrev pub value_here : List ℕ → Read (Value A)
  value_here here =
      token_then here (wanted_in any_token (token_at here))
      (λ token rest. read_at true (value_of token) here rest)

  -- one value or more, between parentheses
  unfoldable pub values : Grammar (Fields A)
  values = do
    _ ← sign 40
    values ← separated 44 (λ _. value)
    _ ← sign 41
    done values
