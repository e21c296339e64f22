-- Changesets in a row, concatenated in two steps.
use Rattle.std.proofs.Common.{◌≡◌, ℕ, Bool, Option, Some, None, Ok, Result, List, [], ◌∷◌, ◌++◌, refl, sym, ap, subst, ◌∙◌}
use Rattle.std.specs.Prelude.{map}
use Rattle.std.specs.List.{AllByRecursion, cons_option}
use Rattle.std.proofs.lemmas.List.{append-nil}
use Rattle.std.specs.Option.{ForSome}
use Rattle.cap_row.specs.Fields.{Fields}
use Rattle.cap_changes.specs.Change.{change_of}
use Rattle.cap_changes.specs.Group.{TableChanges}
use Rattle.cap_changes.specs.declared.row_change.RowChange.{RowChange}
use Rattle.cap_codec.specs.declared.read.Contents.{Contents}
use Rattle.cap_codec.specs.declared.read.Contents.TheVariants.{Changes}
use Rattle.cap_group.specs.ChangeGroup.{concat_of}
use Rattle.cap_group.specs.Rows.{Follow, IsRowUnder}
use Rattle.cap_group_laws.proofs.JoinLemmas.{followed}
use Rattle.cap_captures.specs.Captures.{as_direct}
use Rattle.cap_captures.specs.Rows.{AreInARow, HasTogether, all_row_changes, row_changes}
use Rattle.cap_captures.proofs.ConcatLemmas.{IsMade, concatenated, concatenated-whole, last_under, some_same}
use Rattle.cap_captures.proofs.RecordLemmas.{all-first, all-last, direct-same, flat-append, follow-next}

same_list : {E A : Type 0} {x y : List (TableChanges A)} → (let held : Result (Contents A) E = Ok (Changes x) in held) ≡ Ok (Changes y) → x ≡ y
same_list e = cc

module _ {A : Type 0} where
  follow-both : (flags : List Bool) (key : Fields A) (first mid last : Option (Fields A)) (xs ys : List (RowChange A)) → Follow flags key first xs mid → Follow flags key mid ys last → Follow flags key first (xs ++ ys) last
  follow-both flags key first mid last [] ys is others = subst (λ row. Follow flags key row ys last) (sym is) others
  follow-both flags key first mid last (x ∷ xs) ys h others = (h.0, h.1, h.2, follow-both flags key h.0 mid last xs ys h.3 others)

  -- the change from one row to another, alone
  follow-one : (flags : List Bool) (key : Fields A) (indirect : Bool) (first last : Option (Fields A)) → ForSome last (IsRowUnder flags key) → Follow flags key first (cons_option (change_of flags indirect first last) []) last
  follow-one flags key indirect first last under = follow-next flags key indirect first [] first last refl under (change_of flags indirect first last) refl

  -- two changesets in a row
  both-follow : (columns : List ℕ → Option (List Bool)) (first mid last : List ℕ → Fields A → Option (Fields A)) (one other : List (TableChanges A))
      → AreInARow columns first mid (one ∷ []) → AreInARow columns mid last (other ∷ []) → AreInARow columns first last (one ∷ other ∷ [])
  both-follow columns first mid last one other in_a_row others_follow = record {
    schemas = (in_a_row.schemas.0, others_follow.schemas);
    under = in_a_row.under;
    rows = λ name flags key known.
        subst (λ cs. Follow flags key (first name key) (cs ++ all_row_changes name key (other ∷ [])) (last name key)) (append-nil (row_changes name key one))
        (follow-both flags key (first name key) (mid name key) (last name key) (all_row_changes name key (one ∷ [])) (all_row_changes name key (other ∷ [])) (in_a_row.rows name flags key known) (others_follow.rows name flags key known));
  }

  -- a concatenation leads from the first rows to the last, as its changesets do
  module _ (columns : List ℕ → Option (List Bool)) (first last : List ℕ → Fields A → Option (Fields A)) (lists : List (List (TableChanges A))) (in_a_row : AreInARow columns first last lists) where
    whole-of : (groups : List (TableChanges A)) → concat_of (map Changes lists) ≡ Ok (Changes groups) → HasTogether columns lists groups
    whole-of groups is =
        let made = concatenated columns first last lists in_a_row in
        subst (HasTogether columns lists) (same_list (sym made.1 ∙ is)) made.2

    known-of : (groups : List (TableChanges A)) → concat_of (map Changes lists) ≡ Ok (Changes groups) → AllByRecursion (λ group. columns group.table ≡ Some group.schema) groups
    known-of groups is =
        let made = concatenated-whole columns first last lists in_a_row in
        subst (AllByRecursion (λ group. columns group.table ≡ Some group.schema)) (same_list (sym made.1 ∙ is)) (all-known made.0 made.2.each)
      where
        all-known : (groups : List (TableChanges A)) → AllByRecursion (IsMade columns lists) groups → AllByRecursion (λ group. columns group.table ≡ Some group.schema) groups
        all-known [] all = tt
        all-known (group ∷ groups) all = (all.0.known, all-known groups all.1)

    -- what it has of a row
    row-is : (groups : List (TableChanges A)) → concat_of (map Changes lists) ≡ Ok (Changes groups) → (name : List ℕ) (flags : List Bool) (key : Fields A) → columns name ≡ Some flags
        → (indirect : Bool) × (row_changes name key groups ≡ cons_option (change_of flags indirect (first name key) (last name key)) [])
    row-is groups is name flags key known =
        let whole = followed flags key (first name key) (all_row_changes name key lists) (last name key) (in_a_row.under name flags key known) (in_a_row.rows name flags key known) in
        (whole.0, (whole-of groups is).rows name flags key known ∙ ap (λ o. cons_option o []) whole.1)

    one-follows : (groups : List (TableChanges A)) → concat_of (map Changes lists) ≡ Ok (Changes groups) → AreInARow columns first last (groups ∷ [])
    one-follows groups is = record {
      schemas = (known-of groups is, tt);
      under = in_a_row.under;
      rows = λ name flags key known.
          let row = row-is groups is name flags key known in
          let under = last_under flags key (first name key) (all_row_changes name key lists) (last name key) (in_a_row.under name flags key known) (in_a_row.rows name flags key known) in
          subst (λ cs. Follow flags key (first name key) cs (last name key)) (sym (append-nil (row_changes name key groups) ∙ row.1)) (follow-one flags key row.0 (first name key) (last name key) under);
    }

  -- two concatenations of changesets in a row from the same first rows to the same last ones
  alike : (columns : List ℕ → Option (List Bool)) (first last : List ℕ → Fields A → Option (Fields A)) (lists others : List (List (TableChanges A))) → AreInARow columns first last lists → AreInARow columns first last others
      → (one other : List (TableChanges A)) → concat_of (map Changes lists) ≡ Ok (Changes one) → concat_of (map Changes others) ≡ Ok (Changes other) → (name : List ℕ) (key : Fields A) → map as_direct (row_changes name key one) ≡ map as_direct (row_changes name key other)
  alike columns first last lists others in_a_row others_follow one other is is' name key =
      elim (columns name) as (λ o. columns name ≡ o → map as_direct (row_changes name key one) ≡ map as_direct (row_changes name key other)) [
        | None ↦ λ none.
            ap (map as_direct) ((whole-of columns first last lists in_a_row one is).others name key none ∙ sym ((whole-of columns first last others others_follow other is').others name key none))
        | Some flags ↦ λ known.
            let row = row-is columns first last lists in_a_row one is name flags key known in
            let row' = row-is columns first last others others_follow other is' name flags key known in
            ap (map as_direct) row.1 ∙ direct-same flags row.0 row'.0 (first name key) (last name key) ∙ ap (map as_direct) (sym row'.1)
      ] refl

  -- changes that lead from one row to another do so by a row between them
  follow-split : (flags : List Bool) (key : Fields A) (first last : Option (Fields A)) (xs ys : List (RowChange A)) → Follow flags key first (xs ++ ys) last → (mid : Option (Fields A)) × Follow flags key first xs mid × Follow flags key mid ys last
  follow-split flags key first last [] ys h = (first, refl, h)
  follow-split flags key first last (x ∷ xs) ys h = let rest = follow-split flags key h.0 last xs ys h.3 in (rest.0, (h.0, h.1, h.2, rest.1), rest.2)

  module _ (columns : List ℕ → Option (List Bool)) (first last : List ℕ → Fields A → Option (Fields A)) (lists others : List (List (TableChanges A))) (in_a_row : AreInARow columns first last (lists ++ others)) where
    split : (name : List ℕ) (flags : List Bool) (key : Fields A) → columns name ≡ Some flags
        → (mid : Option (Fields A)) × Follow flags key (first name key) (all_row_changes name key lists) mid × Follow flags key mid (all_row_changes name key others) (last name key)
    split name flags key known =
        follow-split flags key (first name key) (last name key) (all_row_changes name key lists) (all_row_changes name key others)
        (subst (λ cs. Follow flags key (first name key) cs (last name key)) (flat-append (row_changes name key) lists others) (in_a_row.rows name flags key known))

    -- the row between them
    between : (name : List ℕ) → Fields A → (o : Option (List Bool)) → columns name ≡ o → Option (Fields A)
    between name key None is = None
    between name key (Some flags) is = (split name flags key is).0

    abbrev mid : List ℕ → Fields A → Option (Fields A)
    mid name key = between name key (columns name) refl

    to-mid : (name : List ℕ) (flags : List Bool) (key : Fields A) (o : Option (List Bool)) (is : columns name ≡ o) → o ≡ Some flags
        → Follow flags key (first name key) (all_row_changes name key lists) (between name key o is) × Follow flags key (between name key o is) (all_row_changes name key others) (last name key)
    unfolding between
    to-mid name flags key None is known = cc
    to-mid name flags key (Some found) is known =
        subst (λ fs. Follow fs key (first name key) (all_row_changes name key lists) (split name found key is).0 × Follow fs key (split name found key is).0 (all_row_changes name key others) (last name key)) (some_same known)
        ((split name found key is).1, (split name found key is).2)

    lists-follow : AreInARow columns first mid lists
    lists-follow = record {
      schemas = all-first _ lists others in_a_row.schemas;
      under = in_a_row.under;
      rows = λ name flags key known. (to-mid name flags key (columns name) refl known).0;
    }

    others-follow : AreInARow columns mid last others
    others-follow = record {
      schemas = all-last _ lists others in_a_row.schemas;
      under = λ name flags key known. last_under flags key (first name key) (all_row_changes name key lists) (mid name key) (in_a_row.under name flags key known) (lists-follow.rows name flags key known);
      rows = λ name flags key known. (to-mid name flags key (columns name) refl known).1;
    }

    pub in-steps : (one other both whole : List (TableChanges A)) × (concat_of (map Changes lists) ≡ Ok (Changes one)) × (concat_of (map Changes others) ≡ Ok (Changes other))
        × (concat_of (Changes one ∷ Changes other ∷ []) ≡ Ok (Changes both)) × (concat_of (map Changes (lists ++ others)) ≡ Ok (Changes whole))
        × ((name : List ℕ) (key : Fields A) → map as_direct (row_changes name key both) ≡ map as_direct (row_changes name key whole))
    in-steps =
        let one = concatenated columns first mid lists lists-follow in
        let other = concatenated columns mid last others others-follow in
        let steps = both-follow columns first mid last one.0 other.0 (one-follows columns first mid lists lists-follow one.0 one.1) (one-follows columns mid last others others-follow other.0 other.1) in
        let both = concatenated columns first last (one.0 ∷ other.0 ∷ []) steps in
        let whole = concatenated columns first last (lists ++ others) in_a_row in (
          one.0,
          other.0,
          both.0,
          whole.0,
          one.1,
          other.1,
          both.1,
          whole.1,
          alike columns first last (one.0 ∷ other.0 ∷ []) (lists ++ others) steps in_a_row both.0 whole.0 both.1 whole.1,
        )
