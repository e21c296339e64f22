-- After any history the tables' names rise, and in each table keys and ids rise and rows stand where they belong.
use Rattle.std.proofs.Common.{◌≡◌, ◌<◌, ◌≤◌, ℕ, Bool, true, Some, None, List, [], ◌∷◌, length, refl, subst, arith, Ordering, Less}
use Rattle.std.specs.Prelude.{IfOk, reverse}
use Rattle.std.specs.List.{All, AllByRecursion, list_all}
use Rattle.std.specs.List.Sorted.{IsStrictlySortedBy}
use Rattle.std.specs.Map.{keys_of}
use Rattle.std.specs.Ordering.{nat_cmp}
use Rattle.std.specs.FinMap.Entries.{below_all, is_sorted}
use Rattle.std.proofs.lemmas.Bool.Decides.{nat_tests}
use Rattle.std.proofs.lemmas.List.Elements.{All-from_recursion, All-weaker}
use Rattle.std.proofs.lemmas.List.Recursion.{and_at}
use Rattle.cap_row.specs.Fields.{Fields}
use Rattle.cap_row.specs.Key.{fields_cmp, key_of}
use Rattle.cap_tree.specs.Tree.{IsOrdered}
use Rattle.cap_table.specs.Sound.{IsRising, is_keyed_row, is_loose_row}
use Rattle.cap_table.specs.Table.{TableState}
use Rattle.cap_database.specs.Operation.{run}
use Rattle.cap_database.specs.Tables.{AreRising, Tables, create}
use Rattle.cap_database.specs.declared.op.Op.{Op}
use Rattle.cap_apply.specs.Apply.{apply}
use Rattle.cap_apply.specs.Fitting.{FitsItsColumns}
use Rattle.cap_apply.specs.declared.policy.Policy.{Policy}
use Rattle.cap_codec.specs.declared.read.Contents.{Contents}
use Rattle.cap_core.specs.declared.event.Event.{Event}
use Rattle.cap_core.specs.Answer.{state}
use Rattle.cap_core.specs.History.{main, snapshot}
use Rattle.cap_core.specs.Past.{Past}
use Rattle.cap_core.specs.Table.{BlobFits, BlobsFit, BlobsFitPast, IsKeyed, IsLoose}
use Rattle.cap_core.proofs.CarriedLemmas.{event-each}
use Rattle.cap_core.proofs.SoundLemmas.{is_keyed_row-key_of, is_keyed_row-wide}

pub each_passes : {X : Type 0} (test : X → Bool) (P : X → Type 0) → ((x : X) → test x ≡ true → P x) → (xs : List X) → list_all test xs ≡ true → All P xs
each_passes test P says xs all k d lt = says _ (and_at (list_all test) test refl (λ _ _. refl) xs k d lt all)

module _ {K X : Type 0} (R : K → K → Ordering) where
  each_above : (x : K) (es : List (K × X)) → below_all R x es ≡ true → AllByRecursion (λ y. R x y ≡ Less) (keys_of es)
  each_above x [] below = tt
  each_above x (e ∷ es) below = (grind arith, each_above x es (grind arith))

  pub ordered : (es : List (K × X)) → is_sorted R es ≡ true → IsOrdered R es
  unfolding IsStrictlySortedBy
  ordered [] s = tt
  ordered (e ∷ es) s = (each_above e.0 es (grind arith), ordered es (grind arith))

  below-each : (x : K) (es : List (K × X)) → AllByRecursion (λ y. R x y ≡ Less) (keys_of es) → below_all R x es ≡ true
  below-each x [] above = refl
  below-each x (e ∷ es) above = grind (arith, above.0, below-each x es above.1)

  pub sorted : (es : List (K × X)) → IsOrdered R es → is_sorted R es ≡ true
  unfolding IsStrictlySortedBy
  sorted [] s = refl
  sorted (e ∷ es) s = grind (arith, below-each e.0 es s.0, sorted es s.1)

module _ {A : Type 0} where
  -- ---- a table

  pub keyed_is : (table : TableState A) → IsRising table → IsKeyed table
  keyed_is table rising = record {
    rise = ordered fields_cmp table.keyed rising.keys;
    wide = each_passes (λ row. is_keyed_row table.schema row.0 row.1) (λ row. length row.1 ≡ length table.schema) (λ row is. is_keyed_row-wide table.schema row.0 row.1 is) table.keyed rising.sound.keyed;
    own = each_passes (λ row. is_keyed_row table.schema row.0 row.1) (λ row. key_of table.schema row.1 ≡ Some row.0) (λ row is. is_keyed_row-key_of table.schema row.0 row.1 is) table.keyed rising.sound.keyed;
  }

  pub loose_is : (table : TableState A) → IsRising table → IsLoose table
  loose_is table rising =
      let test : ℕ × Fields A → Bool = λ row. is_loose_row table.schema table.next_id row.0 row.1 in
      let each = λ (P : ℕ × Fields A → Type 0) (says : (row : ℕ × Fields A) → test row ≡ true → P row). each_passes test P says table.loose rising.sound.loose in
      record {
        rise = ordered nat_cmp table.loose rising.ids;
        wide = each (λ row. length row.1 ≡ length table.schema) (λ row is. grind (arith, nat_tests));
        keyless = each (λ row. key_of table.schema row.1 ≡ None) (λ row is. grind arith);
        first = each (λ row. 1 ≤ row.0) (λ row is. grind (arith, nat_tests));
        given = each (λ row. row.0 < table.next_id) (λ row is. grind (arith, nat_tests));
      }

  -- what is so of each table that rises
  pub each_rising : (P : TableState A → Type 0) → ((table : TableState A) → IsRising table → P table) → (tables : Tables A) → AreRising tables → All (λ named. P named.1) tables
  each_rising P says tables rise =
      All-weaker (λ named. IsRising named.1) (λ named. P named.1) (λ named. says named.1) tables (All-from_recursion (λ named. IsRising named.1) tables rise.each)

  -- ---- what a command and a history leave, by what operations and new tables do

  module _ (empty : AreRising {A = A} [])
      (runs : (tables : Tables A) (ops : List (Op A)) → AreRising tables → IfOk (run tables ops) (λ left. AreRising left.database))
      (creates : (tables : Tables A) (name : List ℕ) (schema : List Bool) → AreRising tables → IfOk (create tables name schema) AreRising)
      (applies : (tables : Tables A) (blob : Contents A) (policy : Policy) → AreRising tables → FitsItsColumns blob → IfOk (apply tables blob policy) (λ left. AreRising left.database)) where
    pub main-rises : (past : Past A) → BlobsFitPast past → AreRising (main past)
    main-rises [] fits = empty
    main-rises (event ∷ past) fits =
        let before = main-rises past fits.1 in
        event-each (snapshot past) (λ effect. AreRising effect.database) before event (λ name schema. creates (main past) name schema before) (λ ops. runs (main past) ops before)
        (λ blob policy quiet is. applies (main past) blob policy before (subst BlobFits is fits.0))

    pub tables_rising : (h : List (Event A)) → BlobsFit h → AreRising (state h).main
    unfolding state BlobsFit
    tables_rising h fits = main-rises (reverse h) fits
