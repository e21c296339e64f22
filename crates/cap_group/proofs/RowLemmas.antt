-- The change at each key of a table is what the changes of that key make together.
use Rattle.std.proofs.Common.{◌≡◌, arith, ℕ, Bool, cond, List, [], ◌∷◌, Option, Some, None, refl, ◌∙◌}
use Rattle.std.specs.Prelude.{fold}
use Rattle.cap_row.specs.Fields.{Fields}
use Rattle.cap_row.specs.Key.{fields_cmp, fields_cmp_total, fields_eq, fields_eq_decides}
use Rattle.cap_tree.specs.Tree.{IsOrdered, get}
use Rattle.cap_tree.proofs.EntryLemmas.{ordered_put, ordered_take, put_entry-Updates, sorted_nil, take_entry-Updates}
use Rattle.cap_group.specs.KeyedChanges.{KeyedChanges, change_after, no_changes, set_change, with_change, with_changes}
use Rattle.cap_group.specs.Rows.{changes_of_row, together}

module _ {A X : Type 0} where
  set_at : (es : List (Fields A × X)) → IsOrdered fields_cmp es → (k q : Fields A) (o : Option X) →
      get fields_cmp (set_change es k o) q ≡ cond (fields_eq k q) o (get fields_cmp es q)
  set_at es s k q None = take_entry-Updates fields_cmp fields_cmp_total k es s q
  set_at es s k q (Some x) = put_entry-Updates fields_cmp fields_cmp_total k x es q

  pub set_ordered : (es : List (Fields A × X)) → IsOrdered fields_cmp es → (k : Fields A) (o : Option X) → IsOrdered fields_cmp (set_change es k o)
  set_ordered es s k None = ordered_take fields_cmp fields_cmp_total k es s
  set_ordered es s k (Some x) = ordered_put fields_cmp fields_cmp_total k x es s

module _ {A X : Type 0} (key : List Bool → X → Fields A) (combine : List Bool → X → X → Option X) where
  -- the change at a key after one more
  one_more : (keyed : KeyedChanges A X) → IsOrdered fields_cmp keyed.changes → (q : Fields A) (x : X) (later : List X) →
      fold (change_after combine keyed.schema) (get fields_cmp (with_change key combine keyed x).changes q) later
      ≡ fold (change_after combine keyed.schema) (get fields_cmp keyed.changes q) (cond (fields_eq (key keyed.schema x) q) (x ∷ later) later)
  one_more keyed s q x later =
      rw (set_at keyed.changes s (key keyed.schema x) q (change_after combine keyed.schema (get fields_cmp keyed.changes (key keyed.schema x)) x))
      (grind (arith, fields_eq_decides (key keyed.schema x) q))

  row_from : (changes : List X) (keyed : KeyedChanges A X) → IsOrdered fields_cmp keyed.changes → (q : Fields A) →
      get fields_cmp (with_changes key combine keyed changes).changes q
      ≡ fold (change_after combine keyed.schema) (get fields_cmp keyed.changes q) (changes_of_row key keyed.schema q changes)
  row_from [] keyed s q = refl
  row_from (x ∷ xs) keyed s q =
      row_from xs (with_change key combine keyed x) (set_ordered keyed.changes s (key keyed.schema x) (change_after combine keyed.schema (get fields_cmp keyed.changes (key keyed.schema x)) x)) q
      ∙ one_more keyed s q x (changes_of_row key keyed.schema q xs)

  pub row_alone : (table : List ℕ) (flags : List Bool) (changes : List X) (q : Fields A) →
      get fields_cmp (with_changes key combine (no_changes table flags) changes).changes q ≡ together combine flags (changes_of_row key flags q changes)
  row_alone table flags changes q = row_from changes (no_changes table flags) (sorted_nil fields_cmp) q
