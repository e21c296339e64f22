-- Changes in the order of their keys, put row by row: they are what the changes make together, and stay so when they
-- are made one for each row again.
use Rattle.std.proofs.Common.{◌≡◌, ℕ, ◌+◌, ◌-◌, ◌<◌, Bool, false, List, [], ◌∷◌, ◌++◌, length, map, drop, get_or, Option, Some, None, refl, ap, sym, subst, ◌∙◌, append-nil, append_assoc, arith}
use Rattle.std.specs.Option.{option_to_list}
use Rattle.std.proofs.Math.Seq.{drop-length}
use Rattle.std.specs.Prelude.{All, IfSome, IsTrue}
use Rattle.std.specs.List.Sorted.{IsSorted}
use Rattle.std.specs.Ordering.{is_lt}
use Rattle.std.specs.declared.cmp.Ordering.TheVariants.{Less, Greater}
use Rattle.std.specs.Cmp.{tied_itself}
use Rattle.std.proofs.lemmas.List.{get_or_default, map-append, map-id}
use Rattle.std.proofs.lemmas.Option.{IfSome_then}
use Rattle.std.proofs.lemmas.Simd.{map-map}
use Rattle.cap_row.specs.Fields.{Fields}
use Rattle.cap_row.specs.Key.{fields_cmp, fields_cmp_total}
use Rattle.cap_tree.specs.Tree.{IsOrdered, get}
use Rattle.cap_tree.proofs.EntryLemmas.{Each, below_middle, each_turn, get-past, put_entry-past, take_entry-past, reversed, sorted_nil}
use Rattle.cap_changes.specs.Entries.{TableEntries}
use Rattle.cap_changes.proofs.LeftLemmas.{drop_here}
use Rattle.cap_group.specs.Combined.{KeepRows}
use Rattle.cap_group.specs.KeyedChanges.{KeyedChanges, change_after, entries_of, keyed_of, no_changes, set_change, with_change, with_changes}
use Rattle.cap_group.specs.Place.{IsPlace, Place, place_cmp, place_eq}
use Rattle.cap_group.proofs.SortLemmas.{all_ordered}

module _ {A X : Type 0} where
  -- what the changes of a row are together, under its key
  abbrev pub at_key : Fields A → Option X → List (Fields A × X)
  at_key k o = map (λ x. (k, x)) (option_to_list o)

  get_at : (es : List (Fields A × X)) (k : Fields A) (o : Option X) → Each fields_cmp Greater k es → get fields_cmp (es ++ at_key k o) k ≡ o
  get_at es k None past = get-past fields_cmp k es [] past
  get_at es k (Some x) past = get-past fields_cmp k es ((k, x) ∷ []) past ∙ rw (tied_itself fields_cmp_total k) refl

  set_at : (es : List (Fields A × X)) (k : Fields A) (o made : Option X) → Each fields_cmp Greater k es → set_change (es ++ at_key k o) k made ≡ es ++ at_key k made
  set_at es k None None past = take_entry-past fields_cmp k es [] past
  set_at es k (Some x) None past = take_entry-past fields_cmp k es ((k, x) ∷ []) past ∙ rw (tied_itself fields_cmp_total k) refl
  set_at es k None (Some y) past = put_entry-past fields_cmp k y es [] past
  set_at es k (Some x) (Some y) past = put_entry-past fields_cmp k y es ((k, x) ∷ []) past ∙ rw (tied_itself fields_cmp_total k) refl

module _ {A X : Type 0} (key : List Bool → X → Fields A) (combine : List Bool → X → X → Option X) (table : List ℕ) (flags : List Bool) where
  -- each change under its key
  abbrev under : List X → List (Fields A × X)
  under xs = map (λ x. (key flags x, x)) xs

  abbrev with_entries : List (Fields A × X) → KeyedChanges A X
  with_entries es = record { table = table; schema = flags; changes = es }

  -- changes whose keys rise are put one behind another
  pub rising : (xs : List X) (es : List (Fields A × X)) → IsOrdered fields_cmp (es ++ under xs) → with_changes key combine (with_entries es) xs ≡ with_entries (es ++ under xs)
  rising [] es s = rw append-nil refl
  rising (x ∷ xs) es s =
      let k = key flags x in
      let past = each_turn fields_cmp (λ y. fields_cmp y k ≡ Less) (λ y. fields_cmp k y ≡ Greater) (λ y. reversed fields_cmp_total y k Less) es (below_middle fields_cmp es (k, x) (under xs) s) in
      let none = rw append-nil at (get_at es k None past) in
      let put = rw append-nil at (set_at es k None (Some x) past) in
      rw (none, put) (rw append_assoc at (rising xs (es ++ (k, x) ∷ []) (rw append_assoc s)))

  abbrev keyed : List X → KeyedChanges A X
  keyed xs = with_entries (under xs)

  module _ (fits : List Bool → X → Bool) where
    -- a change that fits, of the row under a key
    abbrev Own : Fields A → X → Type 0
    Own k x = IsTrue (fits flags x) × (key flags x ≡ k)

    own_after : (Values : X → Type 0) → KeepRows fits key Values combine → (k : Fields A) (o : Option X) (x : X) → IfSome o (Own k) → Own k x → IfSome (change_after combine flags o x) (Own k)
    own_after Values keeps k None x own one = one
    own_after Values keeps k (Some present) x own one = IfSome_then (combine flags present x) (keeps flags present x own.0 one.0) (λ change is. (is.fit, is.keyed (one.1 ∙ sym own.1) ∙ own.1))

    -- the last of the changes under the key of its row
    last_row : (xs : List X) (k : Fields A) (o : Option X) → IfSome o (Own k) → under (xs ++ option_to_list o) ≡ under xs ++ at_key k o
    last_row xs k None own = map-append (λ x. (key flags x, x)) xs []
    last_row xs k (Some x) own = map-append (λ x. (key flags x, x)) xs (x ∷ []) ∙ ap (λ at. under xs ++ (at, x) ∷ []) own.1

    -- they are behind those of the rows before, also at the key of a later row
    all_past : (k p : Fields A) → fields_cmp k p ≡ Less → (xs : List X) (o : Option X) → Each fields_cmp Greater k (under xs) → IfSome o (Own k) → Each fields_cmp Greater p (under (xs ++ option_to_list o))
    all_past k p rise [] None past own = tt
    all_past k p rise [] (Some x) past own = (rw own.1 (reversed fields_cmp_total k p Less rise), tt)
    all_past k p rise (x ∷ xs) o past own =
        let below = reversed fields_cmp_total k (key flags x) Greater past.0 in
        (reversed fields_cmp_total (key flags x) p Less (fields_cmp_total.trans (key flags x) k p below rise), all_past k p rise xs o past.1 own)

    module _ (all : List (Place A X)) where
      abbrev changes_from : ℕ → List X
      changes_from i = map (λ (p : Place A X). p.change) (drop i all)

      abbrev whole : KeyedChanges A X
      whole = with_changes key combine (no_changes table flags) (changes_from 0)

      -- so many changes are put: those of the rows before the one under this key, and what those of it are together so far
      pub record IsPut (k : Fields A) (i : ℕ) (xs : List X) (o : Option X) : Type 0 where
        pub past : Each fields_cmp Greater k (under xs)
        pub own : IfSome o (Own k)
        pub left : with_changes key combine (keyed (xs ++ option_to_list o)) (changes_from i) ≡ whole

      module _ (Values : X → Type 0) (keeps : KeepRows fits key Values combine) (each : All (IsPlace key fits flags) all) (i : ℕ) (p : Place A X) (within : i < length all) (is : p ≡ get_or all i p) where
        own_at : Own p.key p.change
        own_at = subst (λ (q : Place A X). Own q.key q.change) (sym is) ((each i p within).fit, sym (each i p within).keyed)

        -- one more of the same row
        pub put_same : (k : Fields A) (xs : List X) (o : Option X) → k ≡ p.key → IsPut k i xs o → IsPut p.key (i + 1) xs (change_after combine flags o p.change)
        put_same k xs o same so_far =
            let before = subst (λ (k : Fields A). IsPut k i xs o) same so_far in
            let made = change_after combine flags o p.change in
            let own = own_after Values keeps p.key o p.change before.own own_at in
            let at_end : with_change key combine (keyed (xs ++ option_to_list o)) p.change ≡ keyed (xs ++ option_to_list made) =
            rw (own_at.1, last_row xs p.key o before.own, get_at (under xs) p.key o before.past, set_at (under xs) p.key o made before.past, last_row xs p.key made own) refl in
            record {
              past = before.past;
              own = own;
              left = ap (λ (t : KeyedChanges A X). with_changes key combine t (changes_from (i + 1))) (sym at_end) ∙ rw (drop_here all i p within is) at before.left;
            }

        -- the first one of another row
        pub put_other : (q : Place A X) (xs : List X) (o : Option X) → q ≡ get_or all (i - 1) q → 0 < i → IsSorted place_cmp all → place_eq q p ≡ false → IsPut q.key i xs o → IsPut p.key (i + 1) (xs ++ option_to_list o) (Some p.change)
        put_other q xs o q_is some sorted other before =
            let n : (i - 1) + 1 ≡ i = omega arith in
            let ordered : is_lt (fields_cmp p.key q.key) ≡ false = rw (n, get_or_default all i q p within, ← is, ← q_is) at (sorted (i - 1) q (omega arith) (omega arith)) in
            let turned = rw (fields_cmp_total.antisymm p.key q.key) at ordered in
            let rise : fields_cmp q.key p.key ≡ Less = grind (arith, turned, other) in
            put_same p.key (xs ++ option_to_list o) None refl (record { past = all_past q.key p.key rise xs o before.past before.own; own = tt; left = rw append-nil before.left })

      -- all are put
      pub all_put : (k : Fields A) (group : TableEntries X) (o : Option X) → group.table ≡ table → group.schema ≡ flags → IsPut k (length all) group.changes o →
          let made : TableEntries X = record group { changes = group.changes ++ option_to_list o } in (made ≡ entries_of whole) × (keyed_of key combine made ≡ whole)
      all_put k group o of_table of_flags put =
          let ys = group.changes ++ option_to_list o in
          let made : record group { changes = ys } ≡ record { table = table; schema = flags; changes = ys } = λ i. record { table = of_table i; schema = of_flags i; changes = ys } in
          let is : keyed ys ≡ whole = rw drop-length at put.left in
          let sorted : IsOrdered fields_cmp (under ys) = subst (λ (t : KeyedChanges A X). IsOrdered fields_cmp t.changes) (sym is) (all_ordered key combine (changes_from 0) (no_changes table flags) (sorted_nil fields_cmp)) in
          (made ∙ rw (← is, map-map, map-id) refl, ap (keyed_of key combine) made ∙ rising ys [] sorted ∙ is)
