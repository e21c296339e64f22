-- Parsing a filter from left to right, up to the first token that does not fit or the first node that exceeds
-- a limit.
use Rattle.std.specs.Prelude.{ℕ, zero, suc, ◌-◌, List, [], ◌∷◌, ◌++◌, length, Bool, true, false, nat_lt}
use Rattle.std.specs.Prelude.{if◌then◌else◌, Option, Some, None, Result, Ok, Err, codes}
use Rattle.std.specs.Result.{result_map_both}
use Rattle.cap_value.specs.Bytes.{bytes_eq}
use Rattle.cap_value.specs.declared.refusal.Refusal.{Refusal}
use Rattle.cap_value.specs.declared.refusal.Refusal.TheVariants.{BadFilter, TooDeep}
use Rattle.cap_filter.specs.declared.reading.Keyword.{Keyword}
use Rattle.cap_filter.specs.declared.reading.Keyword.TheVariants as keywords
use Rattle.cap_filter.specs.declared.reading.Stop.{Stop}
use Rattle.cap_filter.specs.declared.reading.Stop.TheVariants.{Unfit, Deep}
use Rattle.cap_filter.specs.Plain.{rules}
use Rattle.cap_filter.specs.Rule.{Rule, all, nothing, is, starts, ends, negation, conjunction, disjunction}
use Rattle.cap_filter.specs.Tokens.{Token, word, opening, closing, comma, Tokens, tokens_of, text_of}

-- the word that begins a filter, if it is one
unfoldable pub keyword_of : List ℕ → Option Keyword
keyword_of w =
    if bytes_eq w (codes "all") then Some keywords.All
    else if bytes_eq w (codes "nothing") then Some keywords.Nothing
    else if bytes_eq w (codes "is") then Some keywords.Is
    else if bytes_eq w (codes "starts") then Some keywords.Starts
    else if bytes_eq w (codes "ends") then Some keywords.Ends
    else if bytes_eq w (codes "not") then Some keywords.Not
    else if bytes_eq w (codes "and") then Some keywords.And
    else if bytes_eq w (codes "or") then Some keywords.Or
    else None

-- a filter that is begun around the next one: a `not`, or a list with the members before it
pub data Frame : Type 0 where
  negated : Frame
  listed : Bool → List Rule → Frame

-- what may come next
pub data Next : Type 0 where
  -- a filter
  a_filter : List Frame → Next
  -- the text that the filter compares names with
  a_text : (List ℕ → Rule) → List Frame → Next
  -- the parenthesis of an `and` (true) or an `or`
  a_list : Bool → List Frame → Next
  -- the first member of a list, or its end
  a_member : Bool → List Frame → Next
  -- a comma, or the end of a list, behind these members
  more : Bool → List Rule → List Frame → Next
  -- the end of the text: this is the filter
  an_end : Rule → Next

abbrev pub list_of : Bool → List Rule → Rule
list_of true rs = conjunction (rules rs)
list_of false rs = disjunction (rules rs)

-- behind a whole filter inside these
abbrev pub behind_filter : Rule → List Frame → Next
behind_filter r [] = an_end r
behind_filter r (negated ∷ frames) = behind_filter (negation r) frames
behind_filter r (listed every members ∷ frames) = more every (members ++ r ∷ []) frames

-- behind a keyword
abbrev pub behind_keyword : Keyword → List Frame → Next
behind_keyword keywords.All frames = behind_filter all frames
behind_keyword keywords.Nothing frames = behind_filter nothing frames
behind_keyword keywords.Is frames = a_text is frames
behind_keyword keywords.Starts frames = a_text starts frames
behind_keyword keywords.Ends frames = a_text ends frames
behind_keyword keywords.Not frames = a_filter (negated ∷ frames)
behind_keyword keywords.And frames = a_list true frames
behind_keyword keywords.Or frames = a_list false frames

-- the effect of a token: parsing goes on, with room for this many more filters; it does not fit; or it
-- exceeds a limit
pub data Move : Type 0 where
  on : Next → ℕ → Move
  unfit : Move
  too_deep : Move

abbrev pub within : List Frame → ℕ → Next → Move
within frames zero next = too_deep
within frames (suc room) next = if nat_lt (length frames) 32 then on next room else too_deep

abbrev pub at_keyword : List Frame → ℕ → Option Keyword → Move
at_keyword frames room None = unfit
at_keyword frames room (Some keyword) = within frames room (behind_keyword keyword frames)

abbrev pub start : List Frame → ℕ → Token → Move
start frames room (word w) = at_keyword frames room (keyword_of w)
start frames room t = unfit

abbrev pub behind_text : (List ℕ → Rule) → List Frame → ℕ → Option (List ℕ) → Move
behind_text make frames room None = unfit
behind_text make frames room (Some text) = on (behind_filter (make text) frames) room

abbrev pub step : Next → ℕ → Token → Move
step (a_filter frames) room t = start frames room t
step (a_text make frames) room t = behind_text make frames room (text_of t)
step (a_list every frames) room opening = on (a_member every frames) room
step (a_list every frames) room t = unfit
step (a_member every frames) room closing = on (behind_filter (list_of every []) frames) room
step (a_member every frames) room t = start (listed every [] ∷ frames) room t
step (more every members frames) room comma = on (a_filter (listed every members ∷ frames)) room
step (more every members frames) room closing = on (behind_filter (list_of every members) frames) room
step (more every members frames) room t = unfit
step (an_end r) room t = unfit

-- where the text ends
abbrev pub whole_filter : Next → Result Rule Stop
whole_filter (an_end r) = Ok r
whole_filter _ = Err (Unfit 0)

abbrev pub next_run : ℕ → Move → (Next → ℕ → Result Rule Stop) → Result Rule Stop
next_run left (on next room) rest = rest next room
next_run left unfit rest = Err (Unfit left)
next_run left too_deep rest = Err Deep

unfoldable pub run : Next → ℕ → Tokens → Result Rule Stop
run next room [] = whole_filter next
run next room ((left, t) ∷ rest) = next_run left (step next room t) (λ n r. run n r rest)

abbrev pub refusal : List ℕ → Stop → Refusal
refusal text (Unfit left) = BadFilter (length text - left)
refusal text Deep = TooDeep

-- the filter that the text spells, or why there is none
unfoldable pub filter_of : List ℕ → Result Rule Refusal
filter_of text = result_map_both (λ r. r) (refusal text) (run (a_filter []) 1000 (tokens_of text))

-- The parts of the parser: what the tokens begin with, or why they do not.

abbrev pub keyword_read : ℕ → Tokens → Option Keyword → Result (Keyword × Tokens) Stop
keyword_read left rest None = Err (Unfit left)
keyword_read left rest (Some keyword) = Ok (keyword, rest)

abbrev pub keyword_at : Tokens → Result (Keyword × Tokens) Stop
keyword_at [] = Err (Unfit 0)
keyword_at ((left, word w) ∷ rest) = keyword_read left rest (keyword_of w)
keyword_at ((left, t) ∷ rest) = Err (Unfit left)

abbrev pub text_read : ℕ → Tokens → Option (List ℕ) → Result (List ℕ × Tokens) Stop
text_read left rest None = Err (Unfit left)
text_read left rest (Some text) = Ok (text, rest)

abbrev pub text_at : Tokens → Result (List ℕ × Tokens) Stop
text_at [] = Err (Unfit 0)
text_at ((left, t) ∷ rest) = text_read left rest (text_of t)

abbrev pub opening_at : Tokens → Result Tokens Stop
opening_at [] = Err (Unfit 0)
opening_at ((left, opening) ∷ rest) = Ok rest
opening_at ((left, t) ∷ rest) = Err (Unfit left)

abbrev pub closing_at : Tokens → Option Tokens
closing_at [] = None
closing_at ((left, closing) ∷ rest) = Some rest
closing_at ((left, t) ∷ rest) = None

-- whether a list goes on
abbrev pub separator_at : Tokens → Result (Bool × Tokens) Stop
separator_at [] = Err (Unfit 0)
separator_at ((left, comma) ∷ rest) = Ok (true, rest)
separator_at ((left, closing) ∷ rest) = Ok (false, rest)
separator_at ((left, t) ∷ rest) = Err (Unfit left)

abbrev pub end_at : Tokens → Result (Unit {0}) Stop
end_at [] = Ok tt
end_at ((left, t) ∷ rest) = Err (Unfit left)
