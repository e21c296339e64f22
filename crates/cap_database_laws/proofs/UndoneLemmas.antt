-- A row that is inserted into a table of a database, and then deleted.
use Rattle.std.proofs.Common.{◌≡◌, ℕ, true, false, Some, Ok, List, [], ◌∷◌, refl, sym, ap, ◌∙◌, arith, subst, T}
use Rattle.std.proofs.lemmas.Cmp.{nat_list_cmp_total}
use Rattle.std.specs.Cmp.Lexicographic.{nat_list_eq_equiv}
use Rattle.std.specs.Cmp.{tied_itself}
use Rattle.std.specs.FinMap.Entries.{is_sorted, same_entries}
use Rattle.cap_value.specs.Bytes.{bytes_cmp, bytes_eq}
use Rattle.cap_tree.specs.Tree.{put_entry, get}
use Rattle.cap_table.specs.Table.{TableState}
use Rattle.cap_database.specs.Operation.{act, step}
use Rattle.cap_database.specs.Tables.{AreRising, Tables, table_of}
use Rattle.cap_database.specs.declared.op.Op.{Op}
use Rattle.cap_database.proofs.StepLemmas.{act_step}
use Rattle.cap_database.proofs.KeptLemmas.{get-put, names_same, same_name, get-find, sorted-put, each-found}
use Rattle.cap_database.proofs.WritesLemmas.{sets-commute}
use Rattle.cap_row.specs.Fields.{Fields}
use Rattle.cap_row.specs.Key.{key_of}
use Rattle.cap_table.specs.Operation.{delete_row, insert_row}
use Rattle.cap_table.specs.declared.row_ref.RowRef.TheVariants.{Key}
use Rattle.cap_database.specs.declared.cause.Cause.{Cause}
use Rattle.cap_database.specs.declared.op.Action.TheVariants.{Insert, Delete}
use Rattle.cap_database.proofs.BackLemmas.{again}
use Rattle.cap_table.specs.Sound.{IsRising}
use Rattle.cap_database_laws.specs.Apart.{AreApart, Commute, CommuteIn, next_of, rows_touched}
use Rattle.cap_database.specs.Read.{row_at}
use Rattle.cap_database_laws.proofs.RowsLemmas.{rows-commute}

module _ {A : Type 0} where
  -- what an accepted operation found and left
  was_stepped : (tables : Tables A) (op : Op A) (after : Tables A) → step tables op ≡ Ok after
      → (table : TableState A) × (left : TableState A) × (table_of tables op.table ≡ Some table) × (act table op.action ≡ Ok left) × (put_entry bytes_cmp tables op.table left ≡ after)
  was_stepped tables op after ok = grind arith

  -- the same of a table that is known
  pub stepped-in : (tables : Tables A) (op : Op A) (after : Tables A) (name : List ℕ) (table : TableState A) → op.table ≡ name → table_of tables name ≡ Some table → step tables op ≡ Ok after
      → (left : TableState A) × (act table op.action ≡ Ok left) × (put_entry bytes_cmp tables name left ≡ after)
  stepped-in tables op after name table named there ok = grind (arith, named, there, ok)

  -- another table is as it was
  elsewhere : (tables : Tables A) (m n : List ℕ) (table : TableState A) → (m ≡ n → ⊥) → table_of (put_entry bytes_cmp tables m table) n ≡ table_of tables n
  elsewhere tables m n table apart = grind (arith, get-put tables m table n, same_name n m, apart)

  pub commute : (tables one both : Tables A) (first second : Op A) → AreRising tables → bytes_eq first.table second.table ≡ false → step tables first ≡ Ok one → step one second ≡ Ok both
      → (other : Tables A) × (step tables second ≡ Ok other) × (step other first ≡ Ok both)
  commute tables one both first second rise apart ran then =
      let differ : first.table ≡ second.table → ⊥ = λ e. let clash : true ≡ false = sym (nat_list_eq_equiv.refl first.table) ∙ ap (bytes_eq first.table) e ∙ apart in cc in
      let (table, left, here, acts, one_is) = was_stepped tables first one ran in
      let (table', left', here', acts', both_is) = was_stepped one second both then in
      let there : table_of tables second.table ≡ Some table' = sym (elsewhere tables first.table second.table left differ) ∙ ap (λ (ts : Tables A). table_of ts second.table) one_is ∙ here' in
      let other = put_entry bytes_cmp tables second.table left' in
      let found : table_of other first.table ≡ Some table = elsewhere tables second.table first.table left' (λ e. differ (sym e)) ∙ here in (
        other,
        act_step tables second table' left' there acts',
        act_step other first table left found acts
            ∙ ap Ok (sym (sets-commute bytes_cmp nat_list_cmp_total names_same tables ((first.table, Some left) ∷ []) ((second.table, Some left') ∷ []) ((differ, tt), tt) rise.names) ∙ ap (λ (ts : Tables A). put_entry bytes_cmp ts second.table left') one_is ∙ both_is),
      )

module _ {X : Type 0} where
  -- the last of two puts under a name stands
  pub put-again : (es : List (List ℕ × X)) (name : List ℕ) (a b : X) → is_sorted bytes_cmp es ≡ true → put_entry bytes_cmp (put_entry bytes_cmp es name a) name b ≡ put_entry bytes_cmp es name b
  put-again es name a b s = again bytes_cmp nat_list_cmp_total es name b a

  -- what is put in its own place leaves the list
  put-there : (es : List (List ℕ × X)) (name : List ℕ) (x : X) → is_sorted bytes_cmp es ≡ true → get bytes_cmp es name ≡ Some x → put_entry bytes_cmp es name x ≡ es
  put-there es name x s there =
      same_entries bytes_cmp nat_list_cmp_total names_same (put_entry bytes_cmp es name x) es
      (subst T (sym (sorted-put es name x s)) tt)
      (subst T (sym s) tt)
      (λ q.
      let after = get-find (put_entry bytes_cmp es name x) q in
      let before = get-find es q in
      let found = get-put es name x q in
      let named = same_name q name in
      grind (arith, after, before, found, named))

  -- what was put stands under its name
  pub put-found : (es : List (List ℕ × X)) (name : List ℕ) (x : X) → get bytes_cmp (put_entry bytes_cmp es name x) name ≡ Some x
  put-found es name x = grind (arith, get-put es name x name, tied_itself nat_list_cmp_total name)

module _ {A : Type 0} (undoes : (before after : TableState A) (row key : Fields A) → key_of before.schema row ≡ Some key → insert_row before row ≡ Ok after → delete_row after (Key key) ≡ Ok before) where
  pub insert_then_delete : (tables after : Tables A) (name : List ℕ) (table : TableState A) (row key : Fields A) (one two : Cause) → AreRising tables → table_of tables name ≡ Some table → key_of table.schema row ≡ Some key
      → step tables (record { table = name; action = Insert row; cause = one }) ≡ Ok after → step after (record { table = name; action = Delete (Key key); cause = two }) ≡ Ok tables
  insert_then_delete tables after name table row key one two rise there own ran =
      let (left, acts, is) = stepped-in tables (record { table = name; action = Insert row; cause = one }) after name table refl there ran in
      let found : table_of after name ≡ Some left = ap (λ (ts : Tables A). table_of ts name) (sym is) ∙ put-found tables name left in
      act_step after (record { table = name; action = Delete (Key key); cause = two }) left table found (undoes table left row key own acts)
      ∙ ap Ok (ap (λ (ts : Tables A). put_entry bytes_cmp ts name table) (sym is) ∙ put-again tables name left table rise.names ∙ put-there tables name table rise.names there)

-- ---- operations on different rows of one table of a database

module _ {A : Type 0} where
  -- the same keyed rows in a table are the same in the database
  keyed-put : (tables : Tables A) (name : List ℕ) (x y : TableState A) → x.keyed ≡ y.keyed → (q : List ℕ) (key : Fields A) → row_at (put_entry bytes_cmp tables name x) q key ≡ row_at (put_entry bytes_cmp tables name y) q key
  keyed-put tables name x y same q key = grind (arith, get-put tables name x q, get-put tables name y q, same)

  module _ (tables one other both : Tables A) (op : Op A) (table left right last : TableState A) (rise : AreRising tables) (there : table_of tables op.table ≡ Some table)
      (one_is : put_entry bytes_cmp tables op.table left ≡ one) (other_is : put_entry bytes_cmp tables op.table right ≡ other) (both_is : put_entry bytes_cmp one op.table last ≡ both)
      (made : Commute table left right last op.action) where
    last_is : put_entry bytes_cmp other op.table made.last ≡ put_entry bytes_cmp tables op.table made.last
    last_is = ap (λ (ts : Tables A). put_entry bytes_cmp ts op.table made.last) (sym other_is) ∙ put-again tables op.table right made.last rise.names

    all_is : put_entry bytes_cmp tables op.table last ≡ both
    all_is = sym (put-again tables op.table left last rise.names) ∙ ap (λ (ts : Tables A). put_entry bytes_cmp ts op.table last) one_is ∙ both_is

    alike : made.last ≡ last → put_entry bytes_cmp other op.table made.last ≡ both
    alike e = last_is ∙ ap (put_entry bytes_cmp tables op.table) e ∙ all_is

    next_same : (after : Tables A) (new : TableState A) → put_entry bytes_cmp tables op.table new ≡ after → next_of after op.table ≡ next_of tables op.table → new.next_id ≡ table.next_id
    next_same after new is e = grind (arith, put-found tables op.table new, is, e, there)

    commute_in : CommuteIn tables one other both op
    commute_in = record {
      last = put_entry bytes_cmp other op.table made.last;
      accepted = act_step other op right made.last (ap (λ (ts : Tables A). table_of ts op.table) (sym other_is) ∙ put-found tables op.table right) made.accepted;
      keyed = λ q key.
          ap (λ (ts : Tables A). row_at ts q key) last_is ∙ keyed-put tables op.table made.last last made.keyed q key ∙ ap (λ (ts : Tables A). row_at ts q key) all_is;
      first_gives_none = λ e. alike (made.first_gives_none (next_same one left one_is e));
      second_gives_none = λ e. alike (made.second_gives_none (next_same other right other_is e));
    }

  pub rows-commute-in : (tables one other both : Tables A) (first second : Op A) (table : TableState A) → AreRising tables → second.table ≡ first.table → table_of tables first.table ≡ Some table
      → AreApart (rows_touched table first.action) (rows_touched table second.action) → step tables first ≡ Ok one → step tables second ≡ Ok other → step one second ≡ Ok both → CommuteIn tables one other both first
  rows-commute-in tables one other both first second table rise same there apart ran_first ran_second ran_both =
      let (left, acts, one_is) = stepped-in tables first one first.table table refl there ran_first in
      let (right, acts', other_is) = stepped-in tables second other first.table table same there ran_second in
      let found : table_of one first.table ≡ Some left = ap (λ (ts : Tables A). table_of ts first.table) (sym one_is) ∙ put-found tables first.table left in
      let (last, acts'', both_is) = stepped-in one second both first.table left same found ran_both in
      let made = rows-commute table left right last first.action second.action (each-found IsRising tables first.table table rise.each there) apart acts acts' acts'' in
      commute_in tables one other both first table left right last rise there one_is other_is both_is made
