-- The records of a table after touches.
use Rattle.std.proofs.Common.{arith, ◌≡◌, Bool, true, false, cond, Option, Some, None, List, [], ◌||◌, not, refl, ap, ◌∙◌, ◌+◌, ℕ, ◌∷◌, length, sym, ap₂, subst, Ordering, Less, Equal, Greater}
use Rattle.std.specs.List.{cons_option}
use Rattle.std.specs.Cmp.{Equal-is, eq_by_cmp_equiv, tied_itself}
use Rattle.std.specs.Ordering.{is_eq}
use Rattle.std.specs.Prelude.{is_some}
use Rattle.cap_row.specs.Fields.{Fields}
use Rattle.cap_row.specs.Key.{fields_cmp, fields_cmp_total, fields_eq}
use Rattle.cap_tree.specs.Tree.{IsOrdered, get, put_entry}
use Rattle.cap_tree.proofs.EntryLemmas.{ordered_put, put_entry-Updates, each_put, each_turn, length-put_entry, reversed}
use Rattle.cap_table.proofs.TableLemmas.{fields_same}
use Rattle.cap_database.proofs.BackLemmas.{there-already}
use Rattle.cap_session.specs.declared.record.Record.{Record}
use Rattle.cap_session.specs.Records.{Records, Touch, record_after, touch, with_touches}
use Rattle.cap_tree.specs.Shape.{EachBelow}
use Rattle.cap_session.specs.Code.Latest.{IsLast, with_latest}

module _ {A : Type 0} where
  -- a key that was touched directly, or indirectly as now, stays as it is
  pub touch-unchanged : (records : Records A) (t : Touch A) (r : Record A) → IsOrdered fields_cmp records → get fields_cmp records t.key ≡ Some r → (not r.indirect || t.indirect) ≡ true → touch records t ≡ records
  touch-unchanged records t r ordered is unchanged =
      let kept : record_after (get fields_cmp records t.key) t.image t.indirect ≡ r = grind arith in
      ap (put_entry fields_cmp records t.key) kept ∙ there-already fields_cmp fields_cmp_total fields_same records t.key r ordered is

  -- a touch more or none, and then others
  pub touch-first : (records : Records A) (first : Option (Touch A)) (others : List (Touch A)) → with_touches (with_touches records (cons_option first [])) others ≡ with_touches records (cons_option first others)
  touch-first records None others = refl
  touch-first records (Some t) others = refl

  -- what is found after a put
  pub get-put : (records : Records A) (k : Fields A) (r : Record A) (q : Fields A) → get fields_cmp (put_entry fields_cmp records k r) q ≡ cond (fields_eq q k) (Some r) (get fields_cmp records q)
  get-put records k r q =
      put_entry-Updates fields_cmp fields_cmp_total k r records q ∙ ap (λ b. cond b (Some r) (get fields_cmp records q)) ((eq_by_cmp_equiv fields_cmp_total).symm k q)

  -- what is found at a key that was touched
  pub found-touched : (records : Records A) (t : Touch A) → get fields_cmp (touch records t) t.key ≡ Some (record_after (get fields_cmp records t.key) t.image t.indirect)
  found-touched records t =
      let found = get fields_cmp records t.key in
      let made = record_after found t.image t.indirect in
      get-put records t.key made t.key
      ∙ ap (λ b. cond b (Some made) found) ((Equal-is (fields_cmp t.key t.key)).1 (tied_itself fields_cmp_total t.key))

-- ---- records of a tree with one more at its key: their number, and what is found

module _ {K V : Type 0} (R : K → K → Ordering) where
  put_some : (es : List (K × V)) (k : K) (v : V) → put_entry R es k v ≡ [] → ⊥
  put_some [] k v e = cc
  put_some (x ∷ xs) k v e = grind arith

module _ {A : Type 0} where
  -- a key above one that is above those of the records is above them too
  above_all : (q k : Fields A) (records : Records A) → fields_cmp q k ≡ Greater → EachBelow fields_cmp k records → EachBelow fields_cmp q records
  above_all q k records above each =
      each_turn fields_cmp (λ y. fields_cmp k y ≡ Greater) (λ y. fields_cmp q y ≡ Greater)
      (λ y below. reversed fields_cmp_total y q Less (fields_cmp_total.trans y k q (reversed fields_cmp_total k y Greater below) (reversed fields_cmp_total q k Greater above))) records each

  above_none : (q : Fields A) (records : Records A) → EachBelow fields_cmp q records → get fields_cmp records q ≡ None
  above_none q [] each = refl
  above_none q (r ∷ rs) each = rw each.0 (above_none q rs each.1)

  -- a record that is put beside a tree
  pub put-last : (tree all : Records A) (k : Fields A) (r : Record A) (above : Bool) → tree ≡ all → IsOrdered fields_cmp all → (above ≡ true → EachBelow fields_cmp k all)
      → IsOrdered fields_cmp (put_entry fields_cmp tree k r) × (above ≡ true → EachBelow fields_cmp k tree)
  put-last tree all k r above same ordered below = rw same (ordered_put fields_cmp fields_cmp_total k r all ordered, below)

  -- The records of a tree and the one that was put last, where there is one.
  module _ (tree : Records A) (latest : Option (Fields A × Record A)) (last : Fields A × Record A) (is : latest ≡ Some last) where
    pub latest_some : with_latest tree latest ≡ [] → ⊥
    latest_some empty = put_some fields_cmp tree last.0 last.1 (ap (with_latest tree) (sym is) ∙ empty)

    pub counted : (found : Option (Record A)) (count : ℕ) → count ≡ length tree → IsOrdered fields_cmp tree → get fields_cmp tree last.0 ≡ found → count + cond (is_some found) 0 1 ≡ length (with_latest tree latest)
    counted found count all ordered there =
        ap₂ (λ n r. n + cond (is_some r) 0 1) all (sym there) ∙ sym (length-put_entry fields_cmp fields_cmp_total last.0 last.1 tree ordered) ∙ ap (λ l. length (with_latest tree l)) (sym is)

    found : (q : Fields A) (same : Bool) → fields_eq q last.0 ≡ same → get fields_cmp (with_latest tree latest) q ≡ cond same (Some last.1) (get fields_cmp tree q)
    found q same e = ap (λ l. get fields_cmp (with_latest tree l) q) is ∙ get-put tree last.0 last.1 q ∙ ap (λ b. cond b (Some last.1) (get fields_cmp tree q)) e

    pub get_latest : (q : Fields A) → fields_cmp q last.0 ≡ Equal → Some last.1 ≡ get fields_cmp (with_latest tree latest) q
    get_latest q same = sym (found q true (ap is_eq same))

    pub get_below : (q : Fields A) → fields_cmp q last.0 ≡ Less → get fields_cmp tree q ≡ get fields_cmp (with_latest tree latest) q
    get_below q below = sym (found q false (ap is_eq below))

    pub get_above : (q : Fields A) → fields_cmp q last.0 ≡ Greater → get fields_cmp tree q ≡ get fields_cmp (with_latest tree latest) q
    get_above q above = sym (found q false (ap is_eq above))

    pub get_past : (q : Fields A) → fields_cmp q last.0 ≡ Greater → IsLast tree latest → None ≡ get fields_cmp (with_latest tree latest) q
    get_past q above past =
        sym (above_none q tree (above_all q last.0 tree above (subst (IsLast tree) is past))) ∙ get_above q above

    -- a key above the latest is above all where it is above the tree
    pub above_both : (q : Fields A) → fields_cmp q last.0 ≡ Greater → EachBelow fields_cmp q tree → EachBelow fields_cmp q (with_latest tree latest)
    above_both q above each =
        subst (λ l. EachBelow fields_cmp q (with_latest tree l)) (sym is)
        (each_put fields_cmp fields_cmp_total (λ y. fields_cmp q y ≡ Greater) last.0 last.1 tree above each)

    -- and so it is where the latest is the last
    pub above_last : (q : Fields A) → fields_cmp q last.0 ≡ Greater → IsLast tree latest → EachBelow fields_cmp q (with_latest tree latest)
    above_last q above past = above_both q above (above_all q last.0 tree above (subst (IsLast tree) is past))
