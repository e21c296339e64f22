-- Names, keys and ids still rise, and rows are under their own keys, after any blob that fits its tables is applied.
use Rattle.std.proofs.Common.{arith, ◌≡◌, ℕ, Bool, true, Option, Some, List, map, length, All, IfOk, IfSome}
use Rattle.cap_table.proofs.KeptLemmas.{with_key-rises, without-rises}
use Rattle.cap_apply.proofs.Common.{AllByRecursion, All-map, All-weaker, Fields, fields_cmp, key_of, has_key, get, IsRising, TableState, Key, own-row, AreRising, EachRises, Tables, table_of, each-found, each-put, sorted-put, AreFitting, IsFitting, TableEntries, change_fits, patch_fits, Patch, Contents, Changes, Patches, AppliedState, apply, change_applied, nothing_applied, with_row, Requested, requested_by_change, requested_by_patch, requested_in, requested_of, FitsItsColumns, key_record_of, key_values, row_after, Policy}
use Rattle.cap_apply.proofs.ChangeLemmas.{HasTarget, change_leaves}
use Rattle.cap_apply.proofs.GroupLemmas.{AllAsked, groups_keep}
use Rattle.cap_apply.proofs.KeyLemmas.{Keyed, change-keyed, patch-keyed}
use Rattle.cap_apply.proofs.RowLemmas.{key_of-new_row, key_of-set_fields, length-new_row, length-set_fields}

module _ {A : Type 0} where
  pub found-rises : (tables : Tables A) (name : List ℕ) (table : TableState A) → AllByRecursion (λ named. IsRising named.1) tables → table_of tables name ≡ Some table → IsRising table
  found-rises tables name table all found = each-found IsRising tables name table all found

  -- the row that a change leaves has the table's width and the key
  pub leaves-own : (flags : List Bool) (patch : Patch A) (database : Tables A) (name : List ℕ) (h : HasTarget database name flags) → EachRises database → has_key flags ≡ true → Keyed flags patch
      → (key : Fields A) (before : Option (Fields A)) → key ≡ key_values flags (key_record_of patch) → get fields_cmp h.table.keyed key ≡ before
      → IfSome (row_after (length h.table.schema) patch before) (λ row. (length row ≡ length h.table.schema) × (key_of h.table.schema row ≡ Some key))
  leaves-own flags patch database name h each has keyed key before is found =
      let own = λ (row : Fields A). own-row h.table key row (found-rises database name h.table each h.there).sound in
      grind (arith, h.fit, length-new_row {A = A} flags h.table.schema, key_of-new_row {A = A} flags h.table.schema, key_of-set_fields {A = A} flags h.table.schema, length-set_fields {A = A}, own)

  -- ---- changes that have keys

  -- the columns have a key, and the change its key fields
  abbrev pub HasItsKey : List Bool → Requested A → Type 0
  HasItsKey flags requested = (has_key flags ≡ true) × Keyed flags requested.patch

  groups-keyed : {X : Type 0} (f : List Bool → X → Requested A) (fits : List Bool → X → Bool) → ((flags : List Bool) (x : X) → fits flags x ≡ true → Keyed flags (f flags x).patch)
      → (groups : List (TableEntries X)) → AreFitting fits groups → All (AllAsked HasItsKey) (map (requested_in f) groups)
  groups-keyed f fits says groups all =
      All-map (AllAsked HasItsKey) (requested_in f) groups (All-weaker (IsFitting fits) (λ group. AllAsked HasItsKey (requested_in f group)) (λ group fit.
      All-map (HasItsKey group.schema) (f group.schema) group.changes
      (All-weaker (λ x. fits group.schema x ≡ true) (λ x. HasItsKey group.schema (f group.schema x)) (λ x met. (fit.keyed, says group.schema x met)) group.changes fit.each)) groups all)

  pub blob-keyed : (blob : Contents A) → FitsItsColumns blob → All (AllAsked HasItsKey) (requested_of blob)
  blob-keyed (Changes groups) all = groups-keyed requested_by_change change_fits change-keyed groups all
  blob-keyed (Patches groups) all = groups-keyed requested_by_patch patch_fits patch-keyed groups all

  -- ---- what is left

  row-rises : (table : TableState A) (key : Fields A) (row : Option (Fields A)) → IsRising table → IfSome row (λ r. (length r ≡ length table.schema) × (key_of table.schema r ≡ Some key))
      → IsRising (with_row table key row)
  row-rises table key row rise own = grind (arith, with_key-rises {A = A}, without-rises table (Key key))

  change-rises : (policy : Policy) (number : ℕ) (name : List ℕ) (flags : List Bool) (requested : Requested A) (state : AppliedState A) → HasItsKey flags requested → AreRising state.database
      → IfOk (change_applied policy number name flags requested state) (λ left. AreRising left.database)
  change-rises policy number name flags requested state keyed rise =
      change_leaves (λ tables changes. AreRising tables) policy number name flags requested state rise (λ h key before is found.
      let after = row_after (length h.table.schema) requested.patch before in
      let own = leaves-own flags requested.patch state.database name h rise.each keyed.0 keyed.1 key before is found in
      record {
        names = sorted-put state.database name (with_row h.table key after) rise.names;
        each = each-put IsRising state.database name (with_row h.table key after) rise.each (row-rises h.table key after (found-rises state.database name h.table rise.each h.there) own);
      })

  pub apply_rises : (tables : Tables A) (blob : Contents A) (policy : Policy) → AreRising tables → FitsItsColumns blob → IfOk (apply tables blob policy) (λ left. AreRising left.database)
  apply_rises tables blob policy rise fits =
      groups_keep policy HasItsKey (λ state. AreRising state.database) (λ _ _ still. still) (change-rises policy) (requested_of blob) 0 0 (nothing_applied tables) (blob-keyed blob fits) rise
