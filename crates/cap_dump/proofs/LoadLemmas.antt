-- A dump that is loaded into a database without tables.
use Rattle.std.proofs.Common.{◌≡◌, ℕ, suc, ◌+◌, ◌≤◌, ◌<◌, Bool, true, false, cond, Some, None, Ok, List, [], ◌∷◌, ◌++◌, length, map, filter, refl, sym, ap, subst, ◌∙◌, arith, append_assoc, lt-ltb, length-append}
use Rattle.std.specs.Prelude.{IfOk, is_some}
use Rattle.std.specs.declared.cmp.Ordering.TheVariants.{Less, Equal, Greater}
use Rattle.std.specs.Cmp.{Equal-is, tied_itself}
use Rattle.std.specs.FinMap.Entries.{below_all, is_sorted}
use Rattle.std.specs.List.{AllByRecursion, list_all, list_any}
use Rattle.std.specs.Ordering.{eq_by_cmp}
use Rattle.std.proofs.lemmas.Bool.{and_from, and_parts}
use Rattle.std.proofs.lemmas.Cmp.{nat_list_cmp_total}
use Rattle.std.proofs.lemmas.List.{append-nil}
use Rattle.std.proofs.lemmas.List.Elements.{All-from_recursion}
use Rattle.cap_value.specs.Bytes.{bytes_cmp}
use Rattle.cap_value.specs.declared.refusal.Refusal.TheVariants.{TableExists}
use Rattle.cap_row.specs.Fields.{Fields}
use Rattle.cap_row.specs.Key.{fields_cmp, fields_cmp_total}
use Rattle.cap_row.specs.Schema.{has_key}
use Rattle.cap_tree.specs.Tree.{put_entry}
use Rattle.cap_tree.proofs.EntryLemmas.{Each, get-past, put_entry-past, reversed, sorted_nil}
use Rattle.cap_table.specs.Operation.{empty_table}
use Rattle.cap_table.specs.Sound.{IsRising, is_keyed_row}
use Rattle.cap_table.specs.Table.{TableState}
use Rattle.cap_database.specs.Tables.{AreRising, EachRises, Tables, create, created, refused_create, table_of}
use Rattle.cap_changes.specs.Entries.{IsFitting}
use Rattle.cap_changes.specs.Fits.{change_fits}
use Rattle.cap_changes.specs.declared.row_change.RowChange.{RowChange}
use Rattle.cap_changes.proofs.ChangeLemmas.{full_fits}
use Rattle.cap_codec.specs.declared.read.Contents.{Contents}
use Rattle.cap_codec.specs.declared.read.Contents.TheVariants.{Changes}
use Rattle.cap_apply.specs.Applied.{AppliedState}
use Rattle.cap_apply.specs.Apply.{and_then, apply}
use Rattle.cap_apply.specs.Captured.{AllAfter, AllBefore, AreOthers, TableRows, changes_of}
use Rattle.cap_apply.specs.Difference.{Difference, RowsAfter}
use Rattle.cap_apply.specs.Fitting.{FitsItsColumns}
use Rattle.cap_apply.specs.Policy.{always}
use Rattle.cap_apply.specs.declared.policy.Answer.TheVariants.{Abort}
use Rattle.cap_apply.specs.declared.policy.Policy.{Policy}
use Rattle.cap_apply_laws.proofs.BlobLemmas.{changeset_gives}
use Rattle.cap_apply.proofs.OrderLemmas.{found-rises}
use Rattle.cap_dump.specs.Dump.{AreHeldWhole, dump, insert_of, inserts_of, keyed_part, keyed_parts}
use Rattle.cap_dump.specs.Load.{create_each, filled, load, loaded, named_in, refused_load, tables_in}
use Rattle.cap_dump.proofs.RowLemmas.{first_below, found_under, keyed_row, keys_same, names_same, new_row_of, new_rows, same_by_get, sorted_parts}

-- blobs keep the order of tables, a law of cap_apply
abbrev pub KeepOrder : Type 0 → Type 0
KeepOrder A = (tables : Tables A) (blob : Contents A) (policy : Policy) → AreRising tables → FitsItsColumns blob → IfOk (apply tables blob policy) (λ left. AreRising left.database)

none_there : (A : Type 0) (names : List (List ℕ × List Bool)) → list_any (λ n. is_some (table_of {A = A} [] n.0)) names ≡ false
none_there A [] = refl
none_there A (n ∷ names) = none_there A names

module _ {A : Type 0} where
  -- ---- the tables to come

  -- a name and columns, an empty table, and the rows of a table as differences from it
  abbrev named : List ℕ × TableState A → List ℕ × List Bool
  named p = (p.0, p.1.schema)

  abbrev blank : List ℕ × TableState A → List ℕ × TableState A
  blank p = (p.0, empty_table p.1.schema)

  abbrev rows_of : List ℕ × TableState A → TableRows A
  rows_of p = record { name = p.0; table = empty_table p.1.schema; differences = map new_row_of p.1.keyed }

  -- a table that has key columns, no row without a key, and the first id
  pub record IsPart (table : TableState A) : Type 0 where
    pub keyed : has_key table.schema ≡ true
    pub loose : table.loose ≡ []
    pub next_id : table.next_id ≡ 1
    pub rises : IsRising table

  abbrev pub AreParts : Tables A → Type 0
  AreParts parts = AllByRecursion (λ p. IsPart p.1) parts

  -- each of these names is below all of those
  abbrev AreBelow : Tables A → Tables A → Type 0
  AreBelow done parts = AllByRecursion (λ d. below_all bytes_cmp d.0 parts ≡ true) done

  above_done : (done : Tables A) (p : List ℕ × TableState A) (parts : Tables A) → AreBelow done (p ∷ parts) → Each bytes_cmp Greater p.0 done
  above_done [] p parts below = tt
  above_done (d ∷ done) p parts below =
      (reversed nat_list_cmp_total d.0 p.0 Less (first_below bytes_cmp d.0 p parts below.0).0, above_done done p parts below.1)

  below_more : (done : Tables A) (p : List ℕ × TableState A) (parts : Tables A) → AreBelow done (p ∷ parts) → below_all bytes_cmp p.0 parts ≡ true → AreBelow (done ++ blank p ∷ []) parts
  below_more [] p parts below own = (own, tt)
  below_more (d ∷ done) p parts below own = ((first_below bytes_cmp d.0 p parts below.0).1, below_more done p parts below.1 own)

  not_there : (done : Tables A) (name : List ℕ) → Each bytes_cmp Greater name done → table_of done name ≡ None
  not_there done name above = ap (λ es. table_of es name) (sym (append-nil done)) ∙ get-past bytes_cmp name done [] above

  put_last : (done : Tables A) (name : List ℕ) (table : TableState A) → Each bytes_cmp Greater name done → put_entry bytes_cmp done name table ≡ done ++ (name, table) ∷ []
  put_last done name table above = ap (λ es. put_entry bytes_cmp es name table) (sym (append-nil done)) ∙ put_entry-past bytes_cmp name table done [] above

  may_create : (done : Tables A) (name : List ℕ) → table_of done name ≡ None → length done < 64 → refused_create done name ≡ None
  may_create done name none few = rw (none, lt-ltb (length done) 64 few) refl

  one_created : (done : Tables A) (p : List ℕ × TableState A) → Each bytes_cmp Greater p.0 done → length done < 64 → create done p.0 p.1.schema ≡ Ok (done ++ blank p ∷ [])
  one_created done p above few =
      ap (λ why. created why done p.0 p.1.schema) (may_create done p.0 (not_there done p.0 above) few) ∙ ap (λ es. Ok es) (put_last done p.0 (empty_table p.1.schema) above)

  -- each table is created behind those before it
  all_created : (done parts : Tables A) → AreBelow done parts → is_sorted bytes_cmp parts ≡ true → length done + length parts ≤ 64 → create_each done (map named parts) ≡ Ok (done ++ map blank parts)
  all_created done [] below sorted few = ap (λ es. Ok es) (sym (append-nil done))
  all_created done (p ∷ parts) below sorted few =
      let order = sorted_parts bytes_cmp p parts sorted in
      let fewer : length done < 64 = omega arith in
      let still : length (done ++ blank p ∷ []) + length parts ≤ 64 = omega (arith, length-append done (blank p ∷ [])) in
      ap (λ made. and_then made (λ next. create_each next (map named parts))) (one_created done p (above_done done p parts below) fewer)
      ∙ all_created (done ++ blank p ∷ []) parts (below_more done p parts below order.0) order.1 still
      ∙ ap (λ es. Ok es) (append_assoc done (blank p ∷ []) (map blank parts))

  -- ---- their rows

  others_above : (name : List ℕ) (parts : Tables A) → below_all bytes_cmp name parts ≡ true → AreOthers name (map rows_of parts)
  others_above name [] below = tt
  others_above name (p ∷ parts) below =
      let first = first_below bytes_cmp name p parts below in
      (λ same. let tie : bytes_cmp name p.0 ≡ Equal = (Equal-is (bytes_cmp name p.0)).0 (ap (λ n. eq_by_cmp bytes_cmp name n) (sym same) ∙ (Equal-is (bytes_cmp name name)).1 (tied_itself nat_list_cmp_total name)) in absurd cc, others_above name parts first.1)

  before_in : (database done parts : Tables A) → database ≡ done ++ map blank parts → AreBelow done parts → is_sorted bytes_cmp parts ≡ true → AreParts parts → AllBefore (map rows_of parts) database
  before_in database done [] is below sorted are = tt
  before_in database done (p ∷ parts) is below sorted are =
      let order = sorted_parts bytes_cmp p parts sorted in
      let self : eq_by_cmp bytes_cmp p.0 p.0 ≡ true = (Equal-is (bytes_cmp p.0 p.0)).1 (tied_itself nat_list_cmp_total p.0) in
      let there : table_of database p.0 ≡ Some (empty_table p.1.schema) =
      ap (λ es. table_of es p.0) is ∙ get-past bytes_cmp p.0 done (map blank (p ∷ parts)) (above_done done p parts below) ∙ ap (λ b. cond b (Some (empty_table p.1.schema)) (table_of (map blank parts) p.0)) self in (
        record {
          there = there;
          rows = new_rows p.1.schema p.1.keyed are.0.rises.sound.keyed are.0.rises.keys;
          ordered = sorted_nil fields_cmp;
        },
        others_above p.0 parts order.0,
        before_in database (done ++ blank p ∷ []) parts (is ∙ sym (append_assoc done (blank p ∷ []) (map blank parts))) (below_more done p parts below order.0) order.1 are.1,
      )

  blank_rises : (schema : List Bool) → IsRising (empty_table {A = A} schema)
  blank_rises schema = record {
    sound = record { keyed = refl; loose = refl; first = omega arith; last = omega arith };
    keys = refl;
    ids = refl;
  }

  blank_below : (name : List ℕ) (parts : Tables A) → below_all bytes_cmp name parts ≡ true → below_all bytes_cmp name (map blank parts) ≡ true
  blank_below name [] below = refl
  blank_below name (p ∷ parts) below = let first = first_below bytes_cmp name p parts below in rw first.0 (blank_below name parts first.1)

  blanks_sorted : (parts : Tables A) → is_sorted bytes_cmp parts ≡ true → is_sorted bytes_cmp (map blank parts) ≡ true
  blanks_sorted [] sorted = refl
  blanks_sorted (p ∷ parts) sorted =
      let order = sorted_parts bytes_cmp p parts sorted in and_from (below_all bytes_cmp p.0 (map blank parts)) _ (blank_below p.0 parts order.0) (blanks_sorted parts order.1)

  blanks_rise : (parts : Tables A) → EachRises (map blank parts)
  blanks_rise [] = tt
  blanks_rise (p ∷ parts) = (blank_rises p.1.schema, blanks_rise parts)

  -- ---- the changes fit

  inserts_fit : (schema : List Bool) (rows : List (Fields A × Fields A)) → AllByRecursion (λ row. is_keyed_row schema row.0 row.1 ≡ true) rows → AllByRecursion (λ change. change_fits schema change ≡ true) (map (λ row. insert_of row.1) rows)
  inserts_fit schema [] stand = tt
  inserts_fit schema (row ∷ rows) stand = (full_fits schema row.1 (keyed_row schema row.0 row.1 stand.0), inserts_fit schema rows stand.1)

  each_stands : (schema : List Bool) (rows : List (Fields A × Fields A)) → list_all (λ row. is_keyed_row schema row.0 row.1) rows ≡ true → AllByRecursion (λ row. is_keyed_row schema row.0 row.1 ≡ true) rows
  each_stands schema [] stand = tt
  each_stands schema (row ∷ rows) stand =
      let parts = and_parts (is_keyed_row schema row.0 row.1) (list_all (λ r. is_keyed_row schema r.0 r.1) rows) stand in (parts.0, each_stands schema rows parts.1)

  pub table_fits : (p : List ℕ × TableState A) → has_key p.1.schema ≡ true → IsRising p.1 → IsFitting change_fits (inserts_of p)
  table_fits p keyed rises = record {
    keyed = keyed;
    each = All-from_recursion (λ change. change_fits p.1.schema change ≡ true) (map (λ row. insert_of row.1) p.1.keyed)
        (inserts_fit p.1.schema p.1.keyed (each_stands p.1.schema p.1.keyed rises.sound.keyed));
  }

  tables_fit : (parts : Tables A) → AreParts parts → AllByRecursion (IsFitting change_fits) (map inserts_of parts)
  tables_fit [] are = tt
  tables_fit (p ∷ parts) are = (table_fits p are.0.keyed are.0.rises, tables_fit parts are.1)

  -- ---- what the application leaves

  -- a table with the rows now is the table that was dumped
  same_table : (p : List ℕ × TableState A) (database : Tables A) (h : RowsAfter p.0 (empty_table p.1.schema) (map new_row_of p.1.keyed) database) → IsPart p.1 → IsRising h.found → h.found ≡ p.1
  same_table p database h is rises =
      let keyed : h.found.keyed ≡ p.1.keyed =
      same_by_get fields_cmp fields_cmp_total keys_same h.found.keyed p.1.keyed rises.keys is.rises.keys (λ q. found_under p.1.keyed h.found q h.rows (h.other_rows q)) in
      λ i. record { schema = h.columns i; keyed = keyed i; loose = (h.loose ∙ sym is.loose) i; next_id = (h.next_id ∙ sym is.next_id) i }

  found_by_name : (parts : Tables A) (database : Tables A) (name : List ℕ) → EachRises database → AreParts parts → AllAfter (map rows_of parts) database
      → (AreOthers name (map rows_of parts) → table_of database name ≡ None) → table_of database name ≡ table_of parts name
  found_by_name [] database name rise are after others = others tt
  found_by_name (p ∷ parts) database name rise are after others =
      elim (eq_by_cmp bytes_cmp name p.0) as (λ b. eq_by_cmp bytes_cmp name p.0 ≡ b → table_of database name ≡ cond b (Some p.1) (table_of parts name)) [
        | true ↦ λ is.
            let same : name ≡ p.0 = names_same name p.0 ((Equal-is (bytes_cmp name p.0)).0 is) in
            ap (table_of database) same ∙ after.0.there
            ∙ ap Some (same_table p database after.0 are.0 (found-rises database p.0 after.0.found rise after.0.there))
        | false ↦ λ is. found_by_name parts database name rise are.1 after.1
            (λ apart. others (λ same. let tie : eq_by_cmp bytes_cmp name p.0 ≡ true = ap (eq_by_cmp bytes_cmp name) (sym same) ∙ (Equal-is (bytes_cmp name name)).1 (tied_itself nat_list_cmp_total name) in let clash : false ≡ true = sym is ∙ tie in absurd cc, apart))
      ] refl

  same_groups : (parts : Tables A) → map changes_of (map rows_of parts) ≡ map inserts_of parts
  same_groups [] = refl
  same_groups (p ∷ parts) = λ i. record { table = p.0; schema = p.1.schema; changes = same_changes p.1.keyed i } ∷ same_groups parts i
    where
      same_changes : (rows : List (Fields A × Fields A)) → map (λ (d : Difference A). d.change) (map new_row_of rows) ≡ map (λ row. insert_of row.1) rows
      same_changes [] = refl
      same_changes (row ∷ rows) = ap (λ (l : List (RowChange A)). insert_of row.1 ∷ l) (same_changes rows)

  same_names : (parts : Tables A) → map named_in (map inserts_of parts) ≡ map named parts
  same_names [] = refl
  same_names (p ∷ parts) = ap (λ l. named p ∷ l) (same_names parts)

  -- the application to the empty tables leaves the parts
  filled_parts : KeepOrder A → (parts : Tables A) → is_sorted bytes_cmp parts ≡ true → AreParts parts → filled (Changes (map inserts_of parts)) (map blank parts) ≡ Ok parts
  filled_parts keep parts sorted are =
      let blob = Changes (map inserts_of parts) in
      let made = map blank parts in
      let gives = changeset_gives (always Abort) (map rows_of parts) made (before_in made [] parts refl tt sorted are) in
      let left = gives.0 in
      let applied : apply made blob (always Abort) ≡ Ok left = ap (λ list. apply made (Changes list) (always Abort)) (sym (same_groups parts)) ∙ gives.1 in
      let rises : AreRising left.database =
      subst (λ answer. IfOk answer (λ (l : AppliedState A). AreRising l.database)) applied
      (keep made blob (always Abort) (record { names = blanks_sorted parts sorted; each = blanks_rise parts }) (All-from_recursion (IsFitting change_fits) (map inserts_of parts) (tables_fit parts are))) in
      let same : left.database ≡ parts =
      same_by_get bytes_cmp nat_list_cmp_total names_same left.database parts rises.names sorted
      (λ name. found_by_name parts left.database name rises.each are gives.2 (λ apart. gives.3 name apart ∙ nowhere name parts apart)) in
      ap (λ answer. and_then answer (λ l. Ok l.database)) applied ∙ ap (λ tables. Ok tables) same
    where
      nowhere : (name : List ℕ) (parts : Tables A) → AreOthers name (map rows_of parts) → table_of (map blank parts) name ≡ None
      nowhere name [] apart = refl
      nowhere name (p ∷ parts) apart =
          elim (eq_by_cmp bytes_cmp name p.0) as (λ b. eq_by_cmp bytes_cmp name p.0 ≡ b → cond b (Some (empty_table p.1.schema)) (table_of (map blank parts) name) ≡ None) [
            | true ↦ λ is. absurd (apart.0 (names_same name p.0 ((Equal-is (bytes_cmp name p.0)).0 is)))
            | false ↦ λ is. nowhere name parts apart.1
          ] refl

  loaded_parts : KeepOrder A → (parts : Tables A) → is_sorted bytes_cmp parts ≡ true → length parts ≤ 64 → AreParts parts → load [] (Changes (map inserts_of parts)) ≡ Ok parts
  loaded_parts keep parts sorted few are =
      let within : length {A = List ℕ × TableState A} [] + length parts ≤ 64 = omega (arith, few) in
      let blob = Changes (map inserts_of parts) in
      let created : create_each [] (tables_in blob) ≡ Ok (map blank parts) = ap (create_each []) (same_names parts) ∙ all_created [] parts tt sorted within in
      let free : refused_load [] blob ≡ None = ap (λ b. cond b (Some TableExists) None) (none_there A (tables_in blob)) in
      ap (λ why. loaded why [] blob) free ∙ ap (λ made. and_then made (filled blob)) created ∙ filled_parts keep parts sorted are

  -- ---- the parts of a database

  parts_below : (name : List ℕ) (tables : Tables A) → below_all bytes_cmp name tables ≡ true → below_all bytes_cmp name (keyed_parts tables) ≡ true
  parts_below name [] below = refl
  parts_below name (t ∷ tables) below =
      let first = first_below bytes_cmp name t tables below in
      elim (has_key t.1.schema) as (λ b. below_all bytes_cmp name (map (λ (n : List ℕ × TableState A). (n.0, keyed_part n.1)) (cond b (t ∷ filter (λ n. has_key n.1.schema) tables) (filter (λ n. has_key n.1.schema) tables))) ≡ true) [
        | true ↦ rw first.0 (parts_below name tables first.1)
        | false ↦ parts_below name tables first.1
      ]

  parts_sorted : (tables : Tables A) → is_sorted bytes_cmp tables ≡ true → is_sorted bytes_cmp (keyed_parts tables) ≡ true
  parts_sorted [] sorted = refl
  parts_sorted (t ∷ tables) sorted =
      let order = sorted_parts bytes_cmp t tables sorted in
      elim (has_key t.1.schema) as (λ b. is_sorted bytes_cmp (map (λ (n : List ℕ × TableState A). (n.0, keyed_part n.1)) (cond b (t ∷ filter (λ n. has_key n.1.schema) tables) (filter (λ n. has_key n.1.schema) tables))) ≡ true) [
        | true ↦ and_from (below_all bytes_cmp t.0 (keyed_parts tables)) _ (parts_below t.0 tables order.0) (parts_sorted tables order.1)
        | false ↦ parts_sorted tables order.1
      ]

  parts_few : (tables : Tables A) → length (keyed_parts tables) ≤ length tables
  parts_few [] = omega arith
  parts_few (t ∷ tables) =
      let more : length (keyed_parts tables) ≤ length tables = parts_few tables in
      let one : length (keyed_parts tables) ≤ suc (length tables) = omega (arith, more) in
      let both : suc (length (keyed_parts tables)) ≤ suc (length tables) = omega (arith, more) in
      elim (has_key t.1.schema) as (λ b. length {A = List ℕ × TableState A} (map (λ (n : List ℕ × TableState A). (n.0, keyed_part n.1)) (cond b (t ∷ filter (λ (n : List ℕ × TableState A). has_key n.1.schema) tables) (filter (λ (n : List ℕ × TableState A). has_key n.1.schema) tables))) ≤ suc (length tables)) [
        | true ↦ both
        | false ↦ one
      ]

  pub part_rises : (table : TableState A) → IsRising table → IsRising (keyed_part table)
  part_rises table rises = record {
    sound = record { keyed = rises.sound.keyed; loose = refl; first = omega arith; last = omega arith };
    keys = rises.keys;
    ids = refl;
  }

  pub parts_are : (tables : Tables A) → EachRises tables → AreParts (keyed_parts tables)
  parts_are [] rise = tt
  parts_are (t ∷ tables) rise =
      elim (has_key t.1.schema) as (λ b. has_key t.1.schema ≡ b → AreParts (map (λ (n : List ℕ × TableState A). (n.0, keyed_part n.1)) (cond b (t ∷ filter (λ n. has_key n.1.schema) tables) (filter (λ n. has_key n.1.schema) tables)))) [
        | true ↦ λ is. (record { keyed = is; loose = refl; next_id = refl; rises = part_rises t.1 rise.0 }, parts_are tables rise.1)
        | false ↦ λ is. parts_are tables rise.1
      ] refl

  -- what is dumped and loaded into a database without tables
  pub loaded_again : KeepOrder A → (tables : Tables A) → AreRising tables → length tables ≤ 64 → load [] (Changes (dump tables)) ≡ Ok (keyed_parts tables)
  loaded_again keep tables rise few =
      let fewer : length (keyed_parts tables) ≤ 64 = omega (arith, parts_few tables) in
      loaded_parts keep (keyed_parts tables) (parts_sorted tables rise.names) fewer (parts_are tables rise.each)

  -- tables that are held whole
  pub whole_parts : (tables : Tables A) → AreHeldWhole tables → keyed_parts tables ≡ tables
  whole_parts [] whole = refl
  whole_parts (t ∷ tables) whole =
      ap (λ b. map (λ (n : List ℕ × TableState A). (n.0, keyed_part n.1)) (cond b (t ∷ filter (λ n. has_key n.1.schema) tables) (filter (λ n. has_key n.1.schema) tables))) whole.0.keyed
      ∙ (λ i. (t.0, record { schema = t.1.schema; keyed = t.1.keyed; loose = sym whole.0.loose i; next_id = sym whole.0.next_id i }) ∷ whole_parts tables whole.1 i)
