-- Texts that are written piece by piece.
use Rattle.std.proofs.Common.{add-one, ◌≡◌, ◌≢◌, ℕ, zero, suc, ◌+◌, ◌/◌, ◌%◌, ◌<◌, ◌&&◌, Bool, true, eqb, List, [], ◌∷◌, ◌++◌, length, take, get_or, Option, Some, None, Result, Ok, Err, MatchOption, true≢false, refl, sym, subst, ap, ◌∙◌, arith, rules, append_assoc, append-nil, inl, inr, codes}
use Rattle.std.specs.Borrow.{Bor}
use Rattle.std.specs.Fmt.{digit_glyph, digits, format_spec, padded_integral, HasWritten, IsPlainFormatter}
use Rattle.std.specs.declared.fmt.Formatter.{Formatter}
use Rattle.std.specs.Io.KnownBytes.{Appends}
use Rattle.std.specs.List.{filter_map, flat_map, join_by}
use Rattle.std.specs.Prelude.{◌^◌, ◌-◌, ◌≤◌, ◌==◌, drop, is_some, false, if◌then◌else◌, OnOk, slice_index}
use Rattle.std.proofs.KnownBytes.{Appends-nil, Appends-trans}
use Rattle.std.proofs.Output.{has_written_append, has_written_of_eq}
use Rattle.std.proofs.lemmas.Bool.{and_parts, cases_lt, eq-eqb, eqb-true, ne_eqb}
use Rattle.std.proofs.lemmas.Fmt.{hex_byte}
use Rattle.std.proofs.lemmas.List.{drop_all, drop_more, flat_map_more, take_more}
use Rattle.hex.specs.Hex.{encode_lower, encode_with, lower_digits}
use Rattle.cap_value.specs.declared.value.Value.{Value}
use Rattle.cap_field.specs.declared.value_ref.ValueRef.{ValueRef}
use Rattle.cap_changes.specs.Entries.{TableEntries}
use Rattle.cap_changes.specs.FieldReading.{field_of}
use Rattle.cap_show.specs.Code.DefinedFields.{comma_text, is_first_after, next_text}
use Rattle.cap_show.specs.Code.Equations.{asked_value, is_empty, next_equation}
use Rattle.cap_show.specs.ShowText.{doubled, group_text, list_text}
use Rattle.cap_show.specs.Sql.{equation, equations, separator, unless_none}

-- the front of a list that is one item longer
pub take_item : {X : Type 0} (xs : List X) (i : ℕ) (x : X) → i < length xs → x ≡ get_or xs i x → take (i + 1) xs ≡ take i xs ++ x ∷ []
take_item xs i x lt is = take_more xs i x lt ∙ ap (λ y. take i xs ++ y ∷ []) (sym is)

-- one piece more
pub pieces_more : {X : Type 0} (f : X → List ℕ) (xs : List X) (i : ℕ) (x : X) → i < length xs → x ≡ get_or xs i x → flat_map f (take i xs) ++ f x ≡ flat_map f (take (i + 1) xs)
pieces_more f xs i x lt is = flat_map_more f [] (take i xs) x ∙ ap (flat_map f) (sym (take_item xs i x lt is))

pub pieces_at : {X : Type 0} (f : X → List ℕ) (xs : List X) (i : ℕ) (d : X) → i < length xs → flat_map f (take i xs) ++ f (get_or xs i d) ≡ flat_map f (take (i + 1) xs)
pieces_at f xs i d lt = flat_map_more f [] (take i xs) (get_or xs i d) ∙ ap (flat_map f) (sym (take_more xs i d lt))

-- a writer's bytes, behind two pieces
pub appends_more : (a b c : Option (List ℕ)) (xs ys zs : List ℕ) → xs ++ ys ≡ zs → Appends a b xs → Appends b c ys → Appends a c zs
appends_more a b c xs ys zs is first second = subst (Appends a c) is (Appends-trans a b c xs ys first second)

pub on_ok_more : {T E : Type 0} (r : Result T E) (a b c : Option (List ℕ)) (xs ys zs : List ℕ) → xs ++ ys ≡ zs → Appends a b xs → OnOk r (Appends b c ys) → OnOk r (Appends a c zs)
on_ok_more (Ok v) a b c xs ys zs is first second = appends_more a b c xs ys zs is first second
on_ok_more (Err e) a b c xs ys zs is first second = tt

-- a first line, and the groups of a list that has any
pub headed : {X : Type 0} (one : X → List ℕ) (kind : List ℕ) (shown groups : List (TableEntries X)) (none : Bool) → none ≡ false → none ≡ (length groups == 0) → shown ≡ groups
    → (kind ++ 10 ∷ []) ++ flat_map (group_text one) shown ≡ list_text one kind groups
headed one kind shown [] none some e is = absurd (true≢false (sym e ∙ some))
headed one kind shown (group ∷ groups) none some e is =
    ap (λ gs. (kind ++ 10 ∷ []) ++ flat_map (group_text one) gs) is ∙ append_assoc kind (10 ∷ []) (flat_map (group_text one) (group ∷ groups))

-- ---- quotes

doubled_plain : (q : ℕ) (w : List ℕ) → ((i : ℕ) → i < length w → get_or w i 0 ≢ q) → doubled q w ≡ w
doubled_plain q [] none = refl
doubled_plain q (x ∷ xs) none = rw (ne_eqb x q (none 0 (omega arith))) (ap (λ (l : List ℕ). x ∷ l) (doubled_plain q xs (λ i lt. none (suc i) (omega arith))))

doubled_cut : (q : ℕ) (piece after : List ℕ) → ((i : ℕ) → i < length piece → get_or piece i 0 ≢ q) → doubled q (piece ++ q ∷ after) ≡ piece ++ q ∷ q ∷ doubled q after
doubled_cut q [] after none = rw (eq-eqb q q refl) refl
doubled_cut q (x ∷ piece) after none = rw (ne_eqb x q (none 0 (omega arith))) (ap (λ (l : List ℕ). x ∷ l) (doubled_cut q piece after (λ i lt. none (suc i) (omega arith))))

pub doubled_parts : (q : ℕ) (bs : List ℕ) (r : Option (Bor (List ℕ) × Bor (List ℕ))) → MatchOption r ((i : ℕ) → i < length bs → get_or bs i 0 ≢ q) (λ x. (bs ≡ x.0.now ++ (q ∷ x.1.now)) × ((i : ℕ) → i < length x.0.now → get_or x.0.now i 0 ≢ q))
    → MatchOption r (doubled q bs ≡ bs) (λ x. (bs ≡ x.0.now ++ q ∷ x.1.now) × (doubled q bs ≡ x.0.now ++ q ∷ q ∷ doubled q x.1.now))
doubled_parts q bs None h = doubled_plain q bs h
doubled_parts q bs (Some x) h = (h.0, ap (doubled q) h.0 ∙ doubled_cut q x.0.now x.1.now h.1)

-- a piece and its quotes are written, and the rest is left
pub one_piece : (done piece after whole rest : List ℕ) (q : ℕ) → rest ≡ piece ++ q ∷ q ∷ after → done ++ rest ≡ whole → (done ++ (piece ++ q ∷ q ∷ [])) ++ after ≡ whole
one_piece done piece after whole rest q is so_far =
    append_assoc done (piece ++ q ∷ q ∷ []) after
    ∙ ap (λ (l : List ℕ). done ++ l) (append_assoc piece (q ∷ q ∷ []) after ∙ sym is) ∙ so_far

-- ---- hex digits

pub hex_more : (xs : List ℕ) (b : ℕ) → encode_lower xs ++ encode_lower (b ∷ []) ≡ encode_lower (xs ++ b ∷ [])
unfolding encode_with
hex_more [] b = refl
hex_more (x ∷ xs) b = ap (λ (l : List ℕ). slice_index lower_digits (x / 16) ∷ slice_index lower_digits (x % 16) ∷ l) (hex_more xs b)

pub hex_nil : encode_lower [] ≡ []
unfolding encode_with
hex_nil = refl

pub hex_at : (xs : List ℕ) (i : ℕ) → i < length xs → encode_lower (take i xs) ++ encode_lower (get_or xs i 0 ∷ []) ≡ encode_lower (take (i + 1) xs)
hex_at xs i lt = hex_more (take i xs) (get_or xs i 0) ∙ ap encode_lower (sym (take_more xs i 0 lt))

abbrev all_same : ℕ → Bool
all_same zero = true
all_same (suc n) = eqb (slice_index lower_digits n) (digit_glyph false n) && all_same n

all_same-at : (n d : ℕ) → all_same n ≡ true → d < n → slice_index lower_digits d ≡ digit_glyph false d
all_same-at zero d h lt = absurd (omega arith)
all_same-at (suc n) d h lt =
    let parts = and_parts (eqb (slice_index lower_digits n) (digit_glyph false n)) (all_same n) h in
    elim (cases_lt d n) [
      | inl below ↦ all_same-at n d parts.1 below
      | inr top ↦
          let e : d ≡ n = omega arith in
          rw e (eqb-true _ _ parts.0)
    ]

pub byte_digits : (b : ℕ) → b < 256 → padded_integral (format_spec 32 0 4 2 (2 ^ 64 - 1)) false [] (digits 16 false b) ≡ encode_lower (b ∷ [])
unfolding encode_with
byte_digits b lt =
    hex_byte false b lt
    ∙ rw (all_same-at 16 (b / 16) refl (omega arith), all_same-at 16 (b % 16) refl (omega arith)) refl

-- ---- what is left to write

-- what is written, and what is left
abbrev pub WrittenSoFar : {W : Type 0} → (W → List ℕ → W → Type 0) → Formatter W → Formatter W → List ℕ → List ℕ → Type 0
WrittenSoFar took f g left all = IsPlainFormatter f → (done : List ℕ) × HasWritten took f done g × (done ++ left ≡ all)

module _ {W : Type 0} (took : W → List ℕ → W → Type 0) where
  pub written_none : (f : Formatter W) (left all : List ℕ) → left ≡ all → WrittenSoFar took f f left all
  written_none f left all is = λ plain. ([], search rules, is)

  pub written_more : (f g h : Formatter W) (piece left others all : List ℕ) → left ≡ piece ++ others → WrittenSoFar took f g left all → (IsPlainFormatter g → HasWritten took g piece h) → WrittenSoFar took f h others all
  written_more f g h piece left others all is so_far next = λ plain.
      let before = so_far plain in (
        before.0 ++ piece,
        has_written_append _ _ _ _ _ _ before.1 (next before.1.plain),
        append_assoc before.0 piece others ∙ ap (λ (l : List ℕ). before.0 ++ l) (sym is) ∙ before.2,
      )

  pub written_all : (f g : Formatter W) (left all : List ℕ) → left ≡ [] → WrittenSoFar took f g left all → IsPlainFormatter f → HasWritten took f all g
  written_all f g left all none so_far plain =
      let before = so_far plain in
      has_written_of_eq _ _ _ _ _ (sym (append-nil before.0) ∙ ap (λ (l : List ℕ). before.0 ++ l) (sym none) ∙ before.2) before.1

-- the same of a writer's bytes
abbrev pub AppendedSoFar : Option (List ℕ) → Option (List ℕ) → List ℕ → List ℕ → Type 0
AppendedSoFar a b left all = (done : List ℕ) × Appends a b done × (done ++ left ≡ all)

pub appended_none : (a : Option (List ℕ)) (left all : List ℕ) → left ≡ all → AppendedSoFar a a left all
appended_none a left all is = ([], Appends-nil a, is)

pub appended_more : (a b c : Option (List ℕ)) (piece left others all : List ℕ) → left ≡ piece ++ others → AppendedSoFar a b left all → Appends b c piece → AppendedSoFar a c others all
appended_more a b c piece left others all is so_far next = (
  so_far.0 ++ piece,
  Appends-trans a b c so_far.0 piece so_far.1 next,
  append_assoc so_far.0 piece others ∙ ap (λ (l : List ℕ). so_far.0 ++ l) (sym is) ∙ so_far.2,
)

pub appended_all : (a b : Option (List ℕ)) (left all : List ℕ) → left ≡ [] → AppendedSoFar a b left all → Appends a b all
appended_all a b left all none so_far = subst (Appends a b) (sym (append-nil so_far.0) ∙ ap (λ (l : List ℕ). so_far.0 ++ l) (sym none) ∙ so_far.2) so_far.1

-- ---- items with separators between them

-- those that are left, behind others or none
abbrev pub joined_left : {X : Type 0} → (X → List ℕ) → List ℕ → Bool → List X → List ℕ
joined_left f separator is_first xs = if is_first then join_by f separator xs else flat_map (λ x. separator ++ f x) xs

-- the defined fields
abbrev pub defined : {X : Type 0} → List (Option X) → List X
defined fields = filter_map (λ field. field) fields

-- a field is taken
pub defined_left : {X : Type 0} (f : X → List ℕ) (is_first : Bool) (fields others : List (Option X)) (field : Option X) → fields ≡ field ∷ others
    → joined_left f (codes ",") is_first (defined fields) ≡ next_text f is_first field ++ joined_left f (codes ",") (is_first_after is_first field) (defined others)
defined_left f is_first fields others field is = ap (λ fs. joined_left f (codes ",") is_first (defined fs)) is ∙ taken is_first field
  where
    taken : (is_first : Bool) (field : Option _) → joined_left f (codes ",") is_first (defined (field ∷ others)) ≡ next_text f is_first field ++ joined_left f (codes ",") (is_first_after is_first field) (defined others)
    taken true None = refl
    taken true (Some x) = refl
    taken false None = refl
    taken false (Some x) = refl

pub none_defined : {X : Type 0} (f : X → List ℕ) (is_first : Bool) (fields : List (Option X)) → fields ≡ [] → joined_left f (codes ",") is_first (defined fields) ≡ []
none_defined f is_first fields none = ap (λ fs. joined_left f (codes ",") is_first (defined fs)) none ∙ no_more is_first
  where
    no_more : (is_first : Bool) → joined_left f (codes ",") is_first [] ≡ []
    no_more true = refl
    no_more false = refl

-- ---- equations

-- the equations of a column and of those behind it
abbrev pub then_equation : {A : Type 0} → ℕ → Option (Value A) → List (List ℕ) → List (List ℕ)
then_equation column None texts = texts
then_equation column (Some value) texts = equation column value ∷ texts

one_column : {A : Type 0} (of_key is_key : Bool) (column : ℕ) (flags : List Bool) (field : Option (Value A)) (fields : List (Option (Value A)))
    → equations of_key column (is_key ∷ flags) (field ∷ fields) ≡ then_equation column (asked_value of_key is_key field) (equations of_key (column + 1) flags fields)
one_column true true column flags None fields = refl
one_column true true column flags (Some value) fields = refl
one_column true false column flags None fields = refl
one_column true false column flags (Some value) fields = refl
one_column false true column flags None fields = refl
one_column false true column flags (Some value) fields = refl
one_column false false column flags None fields = refl
one_column false false column flags (Some value) fields = refl

no_flags : (A : Type 0) (of_key : Bool) (column : ℕ) (fields : List (Option (Value A))) → equations of_key column [] fields ≡ []
no_flags A of_key column [] = refl
no_flags A of_key column (field ∷ fields) = refl

no_fields : (A : Type 0) (of_key : Bool) (column : ℕ) (flags : List Bool) → equations {A = A} of_key column flags [] ≡ []
no_fields A of_key column [] = refl
no_fields A of_key column (is_key ∷ flags) = refl

module _ {A : Type 0} (of_key : Bool) (i : ℕ) (flags : List Bool) (fields : List (Option (Value A))) where
  -- a column is written next, or is passed over
  pub equations_next : (is_key : Bool) (field value : Option (Value A)) (others : List (Option (Value A)))
      → i < length flags → is_key ≡ get_or flags i false → fields ≡ field ∷ others → value ≡ asked_value of_key is_key field
      → equations of_key i (drop i flags) fields ≡ then_equation i value (equations of_key (i + 1) (drop (i + 1) flags) others)
  equations_next is_key field value others lt is_flag is asked =
      ap (λ fs. equations of_key i fs fields) (drop_more flags i false lt)
      ∙ ap (λ fs. equations of_key i (get_or flags i false ∷ drop (i + 1) flags) fs) is
      ∙ ap (λ k. equations of_key i (k ∷ drop (i + 1) flags) (field ∷ others)) (sym is_flag)
      ∙ one_column of_key is_key i (drop (i + 1) flags) field others
      ∙ ap (λ v. then_equation i v (equations of_key (i + 1) (drop (i + 1) flags) others)) (sym asked)

  -- behind the last column
  pub no_more_flags : length flags ≤ i → equations of_key i (drop i flags) fields ≡ []
  no_more_flags le = ap (λ fs. equations of_key i fs fields) (drop_all i flags le) ∙ no_flags A of_key i fields

  -- behind the last field
  pub no_more_fields : fields ≡ [] → equations of_key i (drop i flags) fields ≡ []
  no_more_fields none = ap (λ fs. equations of_key i (drop i flags) fs) none ∙ no_fields A of_key i (drop i flags)

-- what is left to write at a column
abbrev pub left_at : {A : Type 0} → Bool → Bool → ℕ → List Bool → List (Option (Value A)) → List ℕ
left_at is_first of_key i flags fields =
    joined_left (λ text. text) (separator of_key) is_first (equations of_key i (drop i flags) fields)

pub equation_left : {A : Type 0} (is_first of_key : Bool) (i : ℕ) (value : Option (Value A)) (texts others : List (List ℕ)) → texts ≡ then_equation i value others
    → joined_left (λ text. text) (separator of_key) is_first texts ≡ next_equation is_first of_key i value ++ joined_left (λ text. text) (separator of_key) (is_first_after is_first value) others
equation_left {A = A} is_first of_key i value texts others is = ap (λ ts. joined_left (λ text. text) (separator of_key) is_first ts) is ∙ taken is_first value
  where
    taken : (is_first : Bool) (value : Option (Value A)) → joined_left (λ text. text) (separator of_key) is_first (then_equation i value others)
        ≡ next_equation is_first of_key i value ++ joined_left (λ text. text) (separator of_key) (is_first_after is_first value) others
    taken true None = refl
    taken true (Some value) = refl
    taken false None = refl
    taken false (Some value) = refl

pub no_equation : (is_first of_key : Bool) (texts : List (List ℕ)) → texts ≡ [] → joined_left (λ text. text) (separator of_key) is_first texts ≡ []
no_equation true of_key texts none = ap (λ ts. join_by (λ text. text) (separator of_key) ts) none
no_equation false of_key texts none = ap (λ ts. flat_map (λ text. separator of_key ++ text) ts) none

-- ---- whether there is an equation

pub equation_found : (A : Type 0) (i : ℕ) (found : Option ValueRef) (texts : List (List ℕ)) → is_some found ≡ true → is_empty (then_equation {A = A} i (field_of found) texts) ≡ false
equation_found A i None texts some = absurd (true≢false (sym some))
equation_found A i (Some value) texts some = refl

pub none_found : (A : Type 0) (i : ℕ) (found : Option ValueRef) (texts : List (List ℕ)) → is_some found ≡ false → then_equation {A = A} i (field_of found) texts ≡ texts
none_found A i None texts none = refl
none_found A i (Some value) texts none = absurd (true≢false none)

-- a statement that is not left out
pub stands : (texts : List (List ℕ)) (statement : List ℕ) (none : Bool) → none ≡ false → none ≡ is_empty texts → statement ≡ unless_none texts statement
stands [] statement none some is = absurd (true≢false (sym is ∙ some))
stands (text ∷ texts) statement none some is = refl

pub left_out : (texts : List (List ℕ)) (statement : List ℕ) (none : Bool) → none ≡ true → none ≡ is_empty texts → unless_none texts statement ≡ []
left_out [] statement none is_none is = refl
left_out (text ∷ texts) statement none is_none is = absurd (true≢false (sym is_none ∙ is))
