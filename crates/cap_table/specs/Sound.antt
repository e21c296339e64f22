-- What holds of every table: keyed rows are under their own keys, loose rows under ids that were given.
use Rattle.std.specs.Prelude.{ℕ, ◌≤◌, ◌^◌, Bool, false, Option, Some, None, List, length, is_some, nat_lt}
use Rattle.std.specs.Prelude.{◌==◌, ◌&&◌, not, IsTrue}
use Rattle.std.specs.List.{list_all}
use Rattle.std.specs.Ordering.{nat_cmp}
use Rattle.std.specs.FinMap.Entries.{is_sorted}
use Rattle.cap_row.specs.Fields.{Fields}
use Rattle.cap_row.specs.Key.{key_of, fields_cmp, fields_eq}
use Rattle.cap_table.specs.Table.{TableState}

-- an id from 1 on, below the next one
abbrev pub is_given : ℕ → ℕ → Bool
is_given next id = nat_lt 0 id && nat_lt id next

module _ {A : Type 0} where
  abbrev pub is_key_of : Option (Fields A) → Fields A → Bool
  is_key_of None key = false
  is_key_of (Some own) key = fields_eq own key

  -- a row of a table with these columns, under its own key
  abbrev pub is_keyed_row : List Bool → Fields A → Fields A → Bool
  is_keyed_row schema key row = (length row == length schema) && is_key_of (key_of schema row) key

  -- a row of a table with these columns that has no key, under an id that was given
  abbrev pub is_loose_row : List Bool → ℕ → ℕ → Fields A → Bool
  is_loose_row schema next id row =
      (length row == length schema) && not (is_some (key_of schema row)) && is_given next id

  -- ids start at 1, and the last one that is given is 2 ^ 63 - 1
  pub record IsTable (table : TableState A) : Type 0 where
    pub keyed : IsTrue (list_all (λ row. is_keyed_row table.schema row.0 row.1) table.keyed)
    pub loose : IsTrue (list_all (λ row. is_loose_row table.schema table.next_id row.0 row.1) table.loose)
    pub first : 1 ≤ table.next_id
    pub last : table.next_id ≤ 2 ^ 63

  -- the same, and keys and ids rise
  pub record IsRising (table : TableState A) : Type 0 where
    pub sound : IsTable table
    pub keys : IsTrue (is_sorted fields_cmp table.keyed)
    pub ids : IsTrue (is_sorted nat_cmp table.loose)
