-- A row that no change of a blob names stays as it was, and the first change that names it carries it.
use Rattle.std.proofs.Common.{◌≡◌, ℕ, true, false, Option, Some, None, Result, Ok, Err, IfOk, List, [], ◌++◌, length, refl, sym, ap, append_assoc, ◌∙◌, arith, is_some, option_and_then, find, option_map, append-nil}
use Rattle.std.specs.Cmp.Lexicographic.{bytes_decides}
use Rattle.std.proofs.lemmas.List.Folds.{list_any-append}
use Rattle.cap_database.specs.Carried.{CarryFirstRows, is_of_row}
use Rattle.cap_database.proofs.StayLemmas.{either_false, found-in, found-row, get-put-other, get-take-other, named-table, other_key, put-stays, unnamed-rows}
use Rattle.cap_apply.proofs.Common.{list_any, bytes_cmp, Refusal, Fields, fields_cmp, get, put_entry, take_entry-absent, is_key_of, TableState, Changed, changes_to, row_at, Tables, schema_of, table_of, Direct, Change, schema_of-put, fields_same, Contents, AppliedState, apply, nothing_applied, row_comes, row_goes, with_row, requested_of, row_after, Policy}
use Rattle.cap_apply.proofs.ChangeLemmas.{change_leaves, same_columns}
use Rattle.cap_apply.proofs.GroupLemmas.{groups_keep}

module _ {A : Type 0} where
  module _ (name : List ℕ) (key : Fields A) where
    -- what is left has more changes; where none of these names the row it is as it was, and the first that does carries it
    pub record MoreChanges (database : Tables A) (changes : List (Change A)) (left : Tables A) (all : List (Change A)) : Type 0 where
      pub more : List (Change A)
      pub are : all ≡ changes ++ more
      pub stays : list_any (is_of_row name key) more ≡ false → row_at left name key ≡ row_at database name key
      pub there : list_any (is_of_row name key) more ≡ true → is_some (schema_of database name) ≡ true
      pub columns : schema_of left name ≡ schema_of database name
      pub carries : (change : Change A) → find (is_of_row name key) more ≡ Some change → change.before ≡ row_at database name key

    nothing-more : (database : Tables A) (changes : List (Change A)) → MoreChanges database changes database changes
    nothing-more database changes = record {
      more = [];
      are = sym (append-nil changes);
      stays = λ _. refl;
      there = λ named. cc;
      columns = refl;
      carries = λ change is. cc;
    }

    abbrev pub AppliedMore : AppliedState A → Result (AppliedState A) Refusal → Type 0
    AppliedMore state r = IfOk r (λ left. MoreChanges state.database state.changes left.database left.changes)

    both-more : (first next last : Tables A) (start so_far all : List (Change A)) → MoreChanges first start next so_far → MoreChanges next so_far last all → MoreChanges first start last all
    both-more first next last start so_far all a b = record {
      more = a.more ++ b.more;
      are = b.are ∙ ap (λ cs. cs ++ b.more) a.are ∙ append_assoc start a.more b.more;
      stays = λ unnamed. grind (arith, list_any-append (is_of_row name key) a.more b.more, a.stays, b.stays);
      there = λ named. grind (arith, list_any-append (is_of_row name key) a.more b.more, a.there, b.there, a.columns);
      columns = b.columns ∙ a.columns;
      carries = found-in (is_of_row name key) (λ change. change.before ≡ row_at first name key) a.more b.more a.carries (λ none change is. b.carries change is ∙ a.stays none);
    }

    -- a row under a key that goes, comes or is replaced
    row-stays : (other : List ℕ) (table : TableState A) (own : Fields A) (before after : Option (Fields A)) (database : Tables A) (changes : List (Change A)) → table_of database other ≡ Some table → get fields_cmp table.keyed own ≡ before
        → MoreChanges database changes (put_entry bytes_cmp database other (with_row table own after)) (changes ++ changes_to other Direct (row_goes own before ++ row_comes own after))
    row-stays other table own before after database changes there found = record {
      more = changes_to other Direct (row_goes own before ++ row_comes own after);
      are = refl;
      stays = λ unnamed. put-stays name key database other (with_row table own after)
          (λ same. kept before after found (sym (unnamed-rows name key other Direct (row_goes own before ++ row_comes own after) same) ∙ unnamed)
          ∙ ap (option_and_then (λ t. get fields_cmp t.keyed key)) (sym there) ∙ ap (λ n. row_at database n key) (sym same));
      there = λ named.
          let same : name ≡ other = (bytes_decides name other).0 (named-table name key other Direct (row_goes own before ++ row_comes own after) named) in
          ap (λ n. is_some (schema_of database n)) same ∙ ap (λ t. is_some (option_map (λ s. s.schema) t)) there;
      columns = schema_of-put database other table (with_row table own after) there (same_columns table own after) name;
      carries = found-row name key (λ row. row ≡ row_at database name key) other Direct (row_goes own before ++ row_comes own after)
          (λ same changed at. carried before after found changed at ∙ ap (option_and_then (λ t. get fields_cmp t.keyed key)) (sym there) ∙ ap (λ n. row_at database n key) (sym same));
    }
      where
        kept : (before after : Option (Fields A)) → get fields_cmp table.keyed own ≡ before → list_any (λ changed. is_key_of changed.0 key) (row_goes own before ++ row_comes own after) ≡ false
            → get fields_cmp (with_row table own after).keyed key ≡ get fields_cmp table.keyed key
        kept None None found unnamed = ap (λ es. get fields_cmp es key) (take_entry-absent fields_cmp own table.keyed found)
        kept None (Some row) found unnamed = get-put-other table.keyed own row key (other_key own key (either_false (is_key_of (Some own) key) false unnamed))
        kept (Some old) None found unnamed = get-take-other table.keyed own key (other_key own key (either_false (is_key_of (Some own) key) false unnamed))
        kept (Some old) (Some row) found unnamed = get-put-other table.keyed own row key (other_key own key (either_false (is_key_of (Some own) key) _ unnamed))

        carried : (before after : Option (Fields A)) → get fields_cmp table.keyed own ≡ before → (changed : Changed A) → find (λ c. is_key_of c.0 key) (row_goes own before ++ row_comes own after) ≡ Some changed
            → changed.1 ≡ get fields_cmp table.keyed key
        carried before after found changed at = grind (arith, fields_same own key)

    pub apply-more : (tables : Tables A) (blob : Contents A) (policy : Policy) → AppliedMore (nothing_applied tables) (apply tables blob policy)
    apply-more tables blob policy =
        groups_keep policy (λ _ _. Unit {0}) (λ state. MoreChanges tables [] state.database state.changes) (λ _ _ still. still)
        (λ number other flags asked state _ so_far. change_leaves (λ left all. MoreChanges tables [] left all) policy number other flags asked state so_far (λ h own before _ found.
        let after = row_after (length h.table.schema) asked.patch before in
        both-more tables state.database (put_entry bytes_cmp state.database other (with_row h.table own after)) [] state.changes _ so_far
        (row-stays other h.table own before after state.database state.changes h.there found)))
        (requested_of blob) 0 0 (nothing_applied tables) (λ _ _ _ _ _ _. tt) (nothing-more tables [])

  -- what is so of each row is so of a blob
  each-row : (P : AppliedState A → Type 0) (tables : Tables A) (blob : Contents A) (policy : Policy)
      → ((left : AppliedState A) → ((name : List ℕ) (key : Fields A) → MoreChanges name key tables [] left.database left.changes) → P left) → IfOk (apply tables blob policy) P
  each-row P tables blob policy says =
      elim (apply tables blob policy) as (λ r. ((name : List ℕ) (key : Fields A) → AppliedMore name key (nothing_applied tables) r) → IfOk r P) [ Ok left ↦ says left | Err why ↦ λ _. tt ]
      (λ name key. apply-more name key tables blob policy)

  pub apply-carries : (tables : Tables A) (blob : Contents A) (policy : Policy) → IfOk (apply tables blob policy) (λ left. CarryFirstRows tables left.changes)
  apply-carries tables blob policy = each-row (λ left. CarryFirstRows tables left.changes) tables blob policy
      (λ left each name key change at. (each name key).carries change (ap (find (is_of_row name key)) (sym (each name key).are) ∙ at))

  -- each table keeps its columns
  pub blob_columns : (tables : Tables A) (blob : Contents A) (policy : Policy) → IfOk (apply tables blob policy) (λ left. (name : List ℕ) → schema_of left.database name ≡ schema_of tables name)
  blob_columns tables blob policy = each-row (λ left. (name : List ℕ) → schema_of left.database name ≡ schema_of tables name) tables blob policy (λ left each name. (each name []).columns)
