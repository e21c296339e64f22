-- What a diff finds are rows of the saved table, under their keys.
use Rattle.std.proofs.Common.{◌≡◌, ℕ, Bool, true, Option, Some, None, List, [], ◌∷◌, Ok, refl, sym, subst, arith}
use Rattle.std.specs.Prelude.{fold}
use Rattle.std.specs.List.{list_all}
use Rattle.cap_row.specs.Fields.{Fields}
use Rattle.cap_row.specs.Key.{fields_cmp}
use Rattle.cap_row.specs.Schema.{flags_eq}
use Rattle.cap_tree.specs.Tree.{get}
use Rattle.cap_compare.specs.Beside.{alone, beside, first_of, put_beside}
use Rattle.cap_table.specs.Sound.{IsRising, is_keyed_row}
use Rattle.cap_table.specs.Table.{TableState}
use Rattle.cap_database.specs.Tables.{EachRises, Tables, table_of}
use Rattle.cap_database.proofs.KeptLemmas.{each-found}
use Rattle.cap_compare.specs.Compare.{compare, difference_at, differences, image_at}
use Rattle.cap_compare.specs.declared.difference.Difference.{Difference}
use Rattle.cap_core.specs.CanCapture.{is_own_image}
use Rattle.cap_core.specs.Code.Sound.{are_own_differences}
use Rattle.cap_core.proofs.SmallLemmas.{first}
use Rattle.cap_core.proofs.SoundLemmas.{found-passes, list_all-filter_map, list_all-map, list_all-put_entry}
use Rattle.cap_core.proofs.TouchedLemmas.{fields_same}

flags-same : (a b : List Bool) → flags_eq a b ≡ true → a ≡ b
flags-same [] b t = grind arith
flags-same (x ∷ xs) [] t = cc
flags-same (x ∷ xs) (y ∷ ys) t = grind (arith, flags-same xs ys)

module _ {A : Type 0} (schema : List Bool) where
  -- the row of the first table is stored under its own key
  stands : Fields A × (Option (Fields A) × Option (Fields A)) → Bool
  stands row = is_own_image (Some schema) row.0 row.1.0

  found-stands : (rows : List (Fields A × (Option (Fields A) × Option (Fields A)))) (key : Fields A) (found : Option (Option (Fields A) × Option (Fields A))) → list_all stands rows ≡ true → get fields_cmp rows key ≡ found → is_own_image (Some schema) key (first_of found) ≡ true
  unfolding stands
  found-stands rows key None all is = refl
  found-stands rows key (Some row) all is = found-passes fields_cmp stands fields_same rows key row all is

  merged-stand : (seconds : List (Fields A × Fields A)) (rows : List (Fields A × (Option (Fields A) × Option (Fields A)))) → list_all stands rows ≡ true → list_all stands (fold (put_beside fields_cmp) rows seconds) ≡ true
  unfolding stands
  merged-stand [] rows all = all
  merged-stand (row ∷ seconds) rows all =
      merged-stand seconds (put_beside fields_cmp rows row)
      (list_all-put_entry fields_cmp stands rows row.0 (first_of (get fields_cmp rows row.0), Some row.1) all (found-stands rows row.0 (get fields_cmp rows row.0) all refl))

  differences-stand : (from to : List (Fields A × Fields A)) → list_all (λ row. is_keyed_row schema row.0 row.1) from ≡ true → are_own_differences (Some schema) (differences from to) ≡ true
  unfolding stands beside
  differences-stand from to all =
      list_all-filter_map stands (λ (difference : Difference A). is_own_image (Some schema) difference.key difference.image) (λ row. difference_at row.0 (image_at row.1.0 row.1.1))
      (λ row is. grind arith) (beside fields_cmp from to) (merged-stand to (alone from)
      (list_all-map (λ (row : Fields A × Fields A). is_keyed_row schema row.0 row.1) stands (λ row. (row.0, (Some row.1, None))) (λ row is. is) from all))

module _ {A : Type 0} where
  -- two tables that were compared
  pub record WasCompared (database : Tables A) (name : List ℕ) (table : TableState A) (found : List (Difference A)) : Type 0 where
    pub first : TableState A
    pub there : table_of database name ≡ Some first
    pub same : first.schema ≡ table.schema
    pub is : found ≡ differences first.keyed table.keyed

  pub was_compared : (database : Tables A) (name : List ℕ) (table : TableState A) (found : List (Difference A)) (from : Option (TableState A)) → table_of database name ≡ from → compare from table ≡ Ok found → WasCompared database name table found
  was_compared database name table found None at is = cc
  was_compared database name table found (Some first) at is = record { first = first; there = at; same = grind (arith, flags-same first.schema table.schema); is = grind arith }

  -- where a table was compared with that of a database whose rows stand
  pub compared-stand : (database : Tables A) (name : List ℕ) (table : TableState A) (found : List (Difference A)) → EachRises database → compare (table_of database name) table ≡ Ok found → are_own_differences (Some table.schema) found ≡ true
  compared-stand database name table found rises is =
      let two = was_compared database name table found (table_of database name) refl is in
      subst (λ ds. are_own_differences (Some table.schema) ds ≡ true) (sym two.is)
      (subst (λ schema. are_own_differences (Some schema) (differences two.first.keyed table.keyed) ≡ true) two.same
      (differences-stand two.first.schema two.first.keyed table.keyed (each-found IsRising database name two.first rises two.there).sound.keyed))
