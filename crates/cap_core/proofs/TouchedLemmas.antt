-- The records of a list of touches, and what one more touch makes of them.
use Rattle.std.proofs.lemmas.List.{append-nil}
use Rattle.std.proofs.Common.{◌≡◌, Bool, true, cond, Option, Some, None, List, [], ◌∷◌, ◌++◌, ◌&&◌, map, refl, sym, ap, subst, append_assoc, ◌∙◌, Ordering, T, arith}
use Rattle.std.specs.Prelude.{filter, is_some}
use Rattle.std.proofs.lemmas.List.Folds.{list_all-append}
use Rattle.std.proofs.lemmas.List.Elements.{filter-append}
use Rattle.std.specs.Option.{option_map}
use Rattle.std.specs.Ordering.{eq_by_cmp, is_lt}
use Rattle.std.specs.FinMap as map_of
use Rattle.std.specs.FinMap.{IsAntisymmetric}
use Rattle.std.specs.FinMap.Entries.{find, put, below_all, is_sorted, is_sorted-put, find-put, same_entries}
use Rattle.cap_row.specs.Fields.{Fields}
use Rattle.cap_row.specs.Key.{fields_cmp, fields_cmp_total}
pub use Rattle.cap_table.proofs.KeptLemmas.{put_entry-put}
pub use Rattle.cap_table.proofs.TableLemmas.{fields_same, tied}
use Rattle.cap_tree.specs.Tree.{get, put_entry}
use Rattle.cap_session.specs.declared.record.Record.{Record}
use Rattle.cap_session.specs.Records.{Touch as RowTouch, record_after, touch as with_touch, with_touches}
use Rattle.cap_core.specs.Session.{all_indirect, records_of}
use Rattle.cap_core.specs.Touch.{Touch}

module _ {K X : Type 0} (R : K → K → Ordering) where
  pub get-find : (es : List (K × X)) (q : K) → get R es q ≡ find R q es
  get-find [] q = refl
  get-find (e ∷ es) q = ap (cond (eq_by_cmp R q e.0) (Some e.1)) (get-find es q)

  -- an entry that goes last is found where none is found before
  pub find-push : (q k : K) (v : X) (es : List (K × X)) → find R q (es ++ (k, v) ∷ []) ≡ cond (is_some (find R q es)) (find R q es) (cond (eq_by_cmp R q k) (Some v) None)
  find-push q k v [] = refl
  find-push q k v (e ∷ es) = grind (arith, find-push q k v es)

module _ {K X Y : Type 0} (R : K → K → Ordering) (g : K → X → Y) where
  pub find-map : IsAntisymmetric R → (q : K) (es : List (K × X)) → find R q (map (λ e. (e.0, g e.0 e.1)) es) ≡ option_map (g q) (find R q es)
  find-map same q [] = refl
  find-map same q (e ∷ es) = grind (arith, tied R q e.0 same, find-map same q es)

  below_all-map : (x : K) (es : List (K × X)) → below_all R x (map (λ e. (e.0, g e.0 e.1)) es) ≡ below_all R x es
  below_all-map x [] = refl
  below_all-map x (e ∷ es) = ap (λ b. is_lt (R x e.0) && b) (below_all-map x es)

  pub is_sorted-map : (es : List (K × X)) → is_sorted R (map (λ e. (e.0, g e.0 e.1)) es) ≡ is_sorted R es
  is_sorted-map [] = refl
  is_sorted-map (e ∷ es) = λ i. below_all-map e.0 es i && is_sorted-map es i

module _ {A : Type 0} where
  -- what is kept of a key after these touches
  unfoldable pub touched_at : List (Fields A × Touch A) → Fields A → Option (Record A)
  touched_at touches key = option_map (λ touch. record { image = touch.image; indirect = all_indirect touches key }) (find fields_cmp key touches)

  pub find-records_of : (touches : List (Fields A × Touch A)) (key : Fields A) → find fields_cmp key (records_of touches) ≡ touched_at touches key
  unfolding records_of touched_at
  find-records_of touches key =
      let firsts = map_of.from_entries {R = fields_cmp} touches in
      find-map fields_cmp (λ k touch. record { image = touch.image; indirect = all_indirect touches k }) fields_same key (map_of.entries firsts)
      ∙ ap (option_map (λ touch. record { image = touch.image; indirect = all_indirect touches key })) (sym (map_of.get-entries firsts key) ∙ map_of.get-from_entries fields_cmp_total touches key)

  pub is_sorted-records_of : (touches : List (Fields A × Touch A)) → T (is_sorted fields_cmp (records_of touches))
  unfolding records_of
  is_sorted-records_of touches =
      subst T (sym (is_sorted-map fields_cmp (λ k touch. record { image = touch.image; indirect = all_indirect touches k }) (map_of.entries (map_of.from_entries {R = fields_cmp} touches)))) (map_of.entries_sorted (map_of.from_entries {R = fields_cmp} touches))

  -- one more touch counts for its own key
  mark-push : (touches : List (Fields A × Touch A)) (key : Fields A) (touch : Touch A) (q : Fields A)
      → all_indirect (touches ++ (key, touch) ∷ []) q ≡ (all_indirect touches q && cond (eq_by_cmp fields_cmp q key) touch.indirect true)
  mark-push touches key touch q =
      let ties : Fields A × Touch A → Bool = λ t. eq_by_cmp fields_cmp q t.0 in
      let last : List (Fields A × Touch A) = (key, touch) ∷ [] in
      let both = filter-append ties touches last in
      let each = list_all-append (λ (t : Fields A × Touch A). t.1.indirect) (filter ties touches) (filter ties last) in
      grind arith

  -- a key without a touch counts as indirect
  mark-none : (touches : List (Fields A × Touch A)) (q : Fields A) → find fields_cmp q touches ≡ None → all_indirect touches q ≡ true
  mark-none [] q none = refl
  mark-none (t ∷ touches) q none = grind (arith, mark-none touches q)

  touched_at-push : (touches : List (Fields A × Touch A)) (key : Fields A) (touch : Touch A) (q : Fields A)
      → touched_at (touches ++ (key, touch) ∷ []) q ≡ cond (eq_by_cmp fields_cmp q key) (Some (record_after (touched_at touches key) touch.image touch.indirect)) (touched_at touches q)
  unfolding touched_at
  touched_at-push touches key touch q =
      grind (arith, find-push fields_cmp q key touch touches, mark-push touches key touch q, mark-none touches q, tied fields_cmp q key fields_same)

  -- a touch under its key, as a session records it
  abbrev pub told : Fields A × Touch A → RowTouch A
  told found = record { key = found.0; image = found.1.image; indirect = found.1.indirect }

  pub records_of-push : (touches : List (Fields A × Touch A)) (touch : Fields A × Touch A) → records_of (touches ++ touch ∷ []) ≡ with_touch (records_of touches) (told touch)
  records_of-push touches touch =
      let made : Record A = record_after (touched_at touches touch.0) touch.1.image touch.1.indirect in
      same_entries fields_cmp fields_cmp_total fields_same (records_of (touches ++ touch ∷ [])) (put fields_cmp touch.0 made (records_of touches))
      (is_sorted-records_of (touches ++ touch ∷ []))
      (is_sorted-put fields_cmp fields_cmp_total touch.0 made (records_of touches) (is_sorted-records_of touches))
      (λ q. find-records_of (touches ++ touch ∷ []) q
      ∙ touched_at-push touches touch.0 touch.1 q
      ∙ sym (find-put fields_cmp fields_cmp_total q touch.0 made (records_of touches)
      ∙ ap (λ found. cond (eq_by_cmp fields_cmp q touch.0) (Some made) found) (find-records_of touches q)))
      ∙ sym (put_entry-put fields_cmp fields_same (records_of touches) touch.0 made)
      ∙ ap (λ found. put_entry fields_cmp (records_of touches) touch.0 (record_after found touch.1.image touch.1.indirect)) (sym (get-find fields_cmp (records_of touches) touch.0 ∙ find-records_of touches touch.0))

  -- touches one after the other
  pub records_of-append : (touches more : List (Fields A × Touch A)) → records_of (touches ++ more) ≡ with_touches (records_of touches) (map told more)
  records_of-append touches [] = ap records_of (append-nil touches)
  records_of-append touches (touch ∷ more) = ap records_of (sym (append_assoc touches (touch ∷ []) more)) ∙ records_of-append (touches ++ touch ∷ []) more ∙ ap (λ records. with_touches records (map told more)) (records_of-push touches touch)

  pub records_of-none : records_of {A = A} [] ≡ []
  unfolding touched_at
  records_of-none = same_entries fields_cmp fields_cmp_total fields_same (records_of []) [] (is_sorted-records_of []) tt (find-records_of [])
