-- The ids of loose rows, from one state of a table, and of a database, to a later one.
use Rattle.std.specs.Prelude.{◌≡◌, ℕ, ◌≤◌, ◌<◌, Some, None, true, false, is_some, List}
use Rattle.std.specs.Ordering.{nat_cmp}
use Rattle.cap_tree.specs.Tree.{get}
use Rattle.cap_table.specs.Table.{TableState}
use Rattle.cap_database.specs.Tables.{Tables, table_of}

module _ {A : Type 0} where
  -- ids count upwards, and none is given again
  pub record GivesIdsOnce (before after : TableState A) : Type 0 where
    -- the next id never falls
    pub next : before.next_id ≤ after.next_id
    -- a row under an id that no row had is under one that was not given before, and is given now
    pub new : (id : ℕ) → is_some (get nat_cmp before.loose id) ≡ false
        → is_some (get nat_cmp after.loose id) ≡ true
        → (before.next_id ≤ id) × (id < after.next_id)
    -- an id that was given and names no row names none ever after
    pub gone : (id : ℕ) → id < before.next_id → get nat_cmp before.loose id ≡ None
        → get nat_cmp after.loose id ≡ None

  -- each table is still there, and has given no id again
  abbrev pub GiveIdsOnce : Tables A → Tables A → Type 0
  GiveIdsOnce before after =
      (name : List ℕ) (table : TableState A) → table_of before name ≡ Some table →
      (left : TableState A) × (table_of after name ≡ Some left) × GivesIdsOnce table left
