-- Records side by side, one column at a time.
use Rattle.std.proofs.Common.{◌≡◌, ℕ, ◌+◌, ◌<◌, List, [], ◌∷◌, ◌++◌, Bool, true, false, not, ◌&&◌, ◌||◌, cond, is_some, is_none, length, drop, get_or, Option, Some, None, IfSome, refl, sym, ap, ◌∙◌}
use Rattle.std.specs.List.{list_all, list_any}
use Rattle.std.proofs.lemmas.List.{drop_more}
use Rattle.cap_value.specs.Bytes.{bytes_eq}
use Rattle.cap_value.specs.declared.value.Value.{Value}
use Rattle.cap_value.specs.Value.{IsValue}
use Rattle.cap_field.specs.declared.value_ref.ValueRef.{ValueRef}
use Rattle.cap_changes.specs.Column.{by_column}
use Rattle.cap_changes.specs.Field.{field_bytes, record_bytes}
use Rattle.cap_changes.specs.FieldReading.{field_of}
use Rattle.cap_changes.specs.FieldRecord.{RecordFields}
use Rattle.cap_changes.specs.Record.{BeginsWithField}
use Rattle.cap_changes.proofs.PutLemmas.{put_on}
use Rattle.cap_group.specs.Record.{field_eq}
use Rattle.cap_group.proofs.FieldLemmas.{field_eq_bytes}
use Rattle.cap_rebase.specs.Rebase.{field_left, new_left, old_left}

module _ {X Y : Type 0} (pick : Bool → X → X → Y) where
  no_left : (flags : List Bool) (right : List X) → by_column pick flags [] right ≡ []
  no_left [] right = refl
  no_left (flag ∷ flags) right = refl

  no_right : (flags : List Bool) (left : List X) → by_column pick flags left [] ≡ []
  no_right [] left = refl
  no_right (flag ∷ flags) [] = refl
  no_right (flag ∷ flags) (x ∷ left) = refl

  -- the columns that are left, where there is none and where there is one
  pub left_ends : (flags : List Bool) (left right : List X) → left ≡ [] → by_column pick flags left right ≡ []
  left_ends flags left right none = rw none (no_left flags right)

  pub right_ends : (flags : List Bool) (left right : List X) → right ≡ [] → by_column pick flags left right ≡ []
  right_ends flags left right none = rw none (no_right flags left)

  pub goes_on : (flags : List Bool) (i : ℕ) (left right lefts rights : List X) (x y : X) → i < length flags → left ≡ x ∷ lefts → right ≡ y ∷ rights
      → by_column pick (drop i flags) left right ≡ pick (get_or flags i false) x y ∷ by_column pick (drop (i + 1) flags) lefts rights
  goes_on flags i left right lefts rights x y within is is' = rw (is, is', drop_more flags i false within) refl

none_of : (A : Type 0) (other : Option ValueRef) (none : Bool) → is_some other ≡ not none → none ≡ is_none (field_of {A = A} other)
none_of A None true e = refl
none_of A None false e = absurd cc
none_of A (Some value) true e = absurd cc
none_of A (Some value) false e = refl

is_same : (key eq : Bool) → (key && not eq) ≡ false → (not key || eq) ≡ true
is_same true true e = refl
is_same true false e = cc
is_same false eq e = refl

is_not_same : (key eq : Bool) → (key && not eq) ≡ true → (not key || eq) ≡ false
is_not_same true true e = cc
is_not_same true false e = refl
is_not_same false eq e = cc

module _ {A : Type 0} where
  -- ---- the keys of two records

  abbrev pub same_key : Bool → Option (Value A) → Option (Value A) → Bool
  same_key key x y = not key || field_eq x y

  abbrev pub are_same : List Bool → RecordFields A → RecordFields A → Bool
  are_same flags left right = list_all (λ same. same) (by_column same_key flags left right)

  by_bytes : (key : Bool) (x y : Option (Value A)) (one other : List ℕ) (differ : Bool) → one ≡ field_bytes x → other ≡ field_bytes y → IfSome x IsValue → IfSome y IsValue
      → differ ≡ (key && not (bytes_eq one other)) → differ ≡ (key && not (field_eq x y))
  by_bytes key x y one other differ one_is other_is p q is =
      is ∙ ap (λ (b : Bool). key && not b) (ap (λ (l : List ℕ). bytes_eq l other) one_is ∙ ap (bytes_eq (field_bytes x)) other_is ∙ field_eq_bytes x y p q)

  pub keys_go_on : (flags : List Bool) (i : ℕ) (left right lefts rights : RecordFields A) (one other : List ℕ) (differ : Bool) → i < length flags
      → BeginsWithField left one lefts → BeginsWithField right other rights → differ ≡ (get_or flags i false && not (bytes_eq one other)) → differ ≡ false
      → are_same (drop i flags) left right ≡ are_same (drop (i + 1) flags) lefts rights
  keys_go_on flags i left right lefts rights one other differ within (x, parts, one_is, p) (y, parts', other_is, q) differ_is none =
      ap (list_all (λ same. same)) (goes_on same_key flags i left right lefts rights x y within parts parts')
      ∙ ap (λ (b : Bool). b && are_same (drop (i + 1) flags) lefts rights)
      (is_same (get_or flags i false) (field_eq x y) (sym (by_bytes (get_or flags i false) x y one other differ one_is other_is p q differ_is) ∙ none))

  pub keys_differ : (flags : List Bool) (i : ℕ) (left right lefts rights : RecordFields A) (one other : List ℕ) (differ : Bool) → i < length flags
      → BeginsWithField left one lefts → BeginsWithField right other rights → differ ≡ (get_or flags i false && not (bytes_eq one other)) → differ ≡ true
      → are_same (drop i flags) left right ≡ false
  keys_differ flags i left right lefts rights one other differ within (x, parts, one_is, p) (y, parts', other_is, q) differ_is some =
      ap (list_all (λ same. same)) (goes_on same_key flags i left right lefts rights x y within parts parts')
      ∙ ap (λ (b : Bool). b && are_same (drop (i + 1) flags) lefts rights)
      (is_not_same (get_or flags i false) (field_eq x y) (sym (by_bytes (get_or flags i false) x y one other differ one_is other_is p q differ_is) ∙ some))

  -- ---- the new fields that are left

  pub no_local : (local remote : RecordFields A) → local ≡ [] → new_left local remote ≡ []
  no_local local remote none = rw none refl

  nothing_left : (local : RecordFields A) → new_left local [] ≡ []
  nothing_left [] = refl
  nothing_left (field ∷ local) = refl

  pub no_remote : (local remote : RecordFields A) → remote ≡ [] → new_left local remote ≡ []
  no_remote local remote none = rw none (nothing_left local)

  left_goes_on : (local remote locals remotes : RecordFields A) (x y : Option (Value A)) → local ≡ x ∷ locals → remote ≡ y ∷ remotes → new_left local remote ≡ field_left x y ∷ new_left locals remotes
  left_goes_on local remote locals remotes x y is is' = rw (is, is') refl

  any_goes_on : (local remote locals remotes : RecordFields A) (x y : Option (Value A)) (left : Bool) → local ≡ x ∷ locals → remote ≡ y ∷ remotes → left ≡ is_some (field_left x y)
      → list_any is_some (new_left local remote) ≡ (left || list_any is_some (new_left locals remotes))
  any_goes_on local remote locals remotes x y left is is' left_is =
      ap (list_any is_some) (left_goes_on local remote locals remotes x y is is') ∙ ap (λ (b : Bool). b || list_any is_some (new_left locals remotes)) (sym left_is)

  pub any_more : (local remote locals remotes : RecordFields A) (x y : Option (Value A)) (left : Bool) → local ≡ x ∷ locals → remote ≡ y ∷ remotes → left ≡ is_some (field_left x y) → left ≡ false
      → list_any is_some (new_left locals remotes) ≡ list_any is_some (new_left local remote)
  any_more local remote locals remotes x y left is is' left_is none =
      sym (any_goes_on local remote locals remotes x y left is is' left_is ∙ ap (λ (b : Bool). b || list_any is_some (new_left locals remotes)) none)

  pub any_found : (local remote locals remotes : RecordFields A) (x y : Option (Value A)) (left : Bool) → local ≡ x ∷ locals → remote ≡ y ∷ remotes → left ≡ is_some (field_left x y) → left ≡ true
      → true ≡ list_any is_some (new_left local remote)
  any_found local remote locals remotes x y left is is' left_is some =
      sym (any_goes_on local remote locals remotes x y left is is' left_is ∙ ap (λ (b : Bool). b || list_any is_some (new_left locals remotes)) some)

  left_bytes : (x y : Option (Value A)) → cond (is_none y) (field_bytes x) (0 ∷ []) ≡ field_bytes (field_left x y)
  left_bytes x None = refl
  left_bytes x (Some value) = refl

  pub new_put : (local remote locals remotes : RecordFields A) (field out out' all : List ℕ) (other : Option ValueRef) (left : Bool)
      → BeginsWithField local field locals → remote ≡ field_of other ∷ remotes → is_some other ≡ not left → out' ≡ out ++ cond left field (0 ∷ [])
      → out ++ record_bytes (new_left local remote) ≡ all → out' ++ record_bytes (new_left locals remotes) ≡ all
  new_put local remote locals remotes field out out' all other left (x, parts, spelled, fits) parts' left_is put so_far =
      let same : cond left field (0 ∷ []) ≡ field_bytes (field_left x (field_of other)) =
      ap (λ (b : Bool). cond b field (0 ∷ [])) (none_of A other left left_is) ∙ ap (λ (f : List ℕ). cond (is_none (field_of {A = A} other)) f (0 ∷ [])) spelled ∙ left_bytes x (field_of other) in
      put_on out out' (cond left field (0 ∷ [])) (record_bytes (new_left locals remotes)) (record_bytes (new_left local remote)) all put
      (ap record_bytes (left_goes_on local remote locals remotes x (field_of other) parts parts') ∙ ap (λ (b : List ℕ). b ++ record_bytes (new_left locals remotes)) (sym same)) so_far

  -- ---- the old fields of the columns that are left

  kept_bytes : (kept : Bool) (x : Option (Value A)) → cond kept (field_bytes x) (0 ∷ []) ≡ field_bytes (cond kept x None)
  kept_bytes true x = refl
  kept_bytes false x = refl

  pub old_put : (flags : List Bool) (i : ℕ) (old new remote olds news remotes : RecordFields A) (was out out' all : List ℕ) (is other : Option ValueRef) (kept : Bool) → i < length flags
      → BeginsWithField old was olds → new ≡ field_of is ∷ news → remote ≡ field_of other ∷ remotes
      → kept ≡ (get_or flags i false || is_some (field_left {A = A} (field_of is) (field_of other))) → out' ≡ out ++ cond kept was (0 ∷ [])
      → out ++ record_bytes (by_column old_left (drop i flags) old (new_left new remote)) ≡ all → out' ++ record_bytes (by_column old_left (drop (i + 1) flags) olds (new_left news remotes)) ≡ all
  old_put flags i old new remote olds news remotes was out out' all is other kept within (x, parts, spelled, fits) parts' parts'' kept_is put so_far =
      let left : Option (Value A) = field_left (field_of is) (field_of other) in
      let same : cond kept was (0 ∷ []) ≡ field_bytes (old_left (get_or flags i false) x left) =
      ap (λ (f : List ℕ). cond kept f (0 ∷ [])) spelled ∙ kept_bytes kept x ∙ ap (λ (b : Bool). field_bytes (cond b x None)) kept_is in
      let more = goes_on old_left flags i old (new_left new remote) olds (new_left news remotes) x left within parts (left_goes_on new remote news remotes (field_of is) (field_of other) parts' parts'') in
      put_on out out' (cond kept was (0 ∷ [])) (record_bytes (by_column old_left (drop (i + 1) flags) olds (new_left news remotes))) (record_bytes (by_column old_left (drop i flags) old (new_left new remote))) all put
      (ap record_bytes more ∙ ap (λ (b : List ℕ). b ++ record_bytes (by_column old_left (drop (i + 1) flags) olds (new_left news remotes))) (sym same)) so_far
