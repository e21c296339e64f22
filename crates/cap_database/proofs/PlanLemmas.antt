-- What an operation writes to its table, apart from what it needs of the table.
use Rattle.std.proofs.Common.{◌≡◌, ℕ, ◌+◌, ◌^◌, Bool, false, Option, Some, None, Result, Ok, Err, List, [], ◌∷◌, length, refl, arith}
use Rattle.std.specs.Prelude.{◌==◌, if◌then◌else◌, is_some, nat_lt, option_and_then}
use Rattle.std.specs.Ordering.{nat_cmp}
use Rattle.std.specs.FinMap.{nat_cmp-IsAntisymmetric}
use Rattle.std.proofs.lemmas.Cmp.{nat_cmp_total}
use Rattle.cap_value.specs.declared.refusal.Refusal.{Refusal}
use Rattle.cap_value.specs.declared.refusal.Refusal.TheVariants.{WrongWidth, BadColumn, Duplicate, NoRow, IdsSpent}
use Rattle.cap_row.specs.Fields.{Fields}
use Rattle.cap_row.specs.Key.{fields_cmp, fields_cmp_total, fields_eq, key_of}
use Rattle.cap_row.specs.Row.{are_columns, columns_of, row_with}
use Rattle.cap_tree.specs.Tree.{get}
use Rattle.cap_table.proofs.TableLemmas.{fields_same}
use Rattle.cap_table.specs.Operation.{moved, placed, row_of, updated}
use Rattle.cap_table.specs.Table.{TableState}
use Rattle.cap_table.specs.declared.row_ref.RowRef.{RowRef}
use Rattle.cap_table.specs.declared.row_ref.RowRef.TheVariants.{Key, Loose}
use Rattle.cap_database.specs.Assigned.{Assigned}
use Rattle.cap_database.specs.Operation.{act}
use Rattle.cap_database.specs.declared.op.Action.{Action}
use Rattle.cap_database.specs.declared.op.Action.TheVariants.{Insert, Update, Delete}
use Rattle.cap_database.proofs.WritesLemmas.{sets}

-- rows that come and go by their keys, and by ids that were given; and a row that takes the next id
pub record Plan (A : Type 0) : Type 0 where
  pub keys : List (Fields A × Option (Fields A))
  pub ids : List (ℕ × Option (Fields A))
  pub fresh : Option (Fields A)

module _ {A : Type 0} where
  abbrev pub id_writes : ℕ → List (ℕ × Option (Fields A)) → Option (Fields A) → List (ℕ × Option (Fields A))
  id_writes next ids None = ids
  id_writes next ids (Some row) = (next, Some row) ∷ []

  abbrev pub next_after : ℕ → Option (Fields A) → ℕ
  next_after next None = next
  next_after next (Some row) = next + 1

  abbrev pub applied : TableState A → Plan A → TableState A
  applied t plan = record {
    schema = t.schema;
    keyed = sets fields_cmp fields_cmp_total fields_same t.keyed plan.keys;
    loose = sets nat_cmp nat_cmp_total nat_cmp-IsAntisymmetric t.loose (id_writes t.next_id plan.ids plan.fresh);
    next_id = next_after t.next_id plan.fresh;
  }

  abbrev pub planned : TableState A → Result (Plan A) Refusal → Result (TableState A) Refusal
  planned t (Ok plan) = Ok (applied t plan)
  planned t (Err why) = Err why

  -- ---- what is written, by the row that was found, whether the new key is taken, and whether an id is left

  abbrev pub unless_taken : Bool → Plan A → Result (Plan A) Refusal
  unless_taken taken plan = if taken then Err Duplicate else Ok plan

  abbrev pub if_left : Bool → Plan A → Result (Plan A) Refusal
  if_left left plan = if left then Ok plan else Err IdsSpent

  abbrev pub placed_plan : Fields A → Option (Fields A) → Bool → Bool → Result (Plan A) Refusal
  placed_plan row (Some key) taken left = unless_taken taken (record { keys = (key, Some row) ∷ []; ids = []; fresh = None })
  placed_plan row None taken left = if_left left (record { keys = []; ids = []; fresh = Some row })

  abbrev pub moved_plan : RowRef A → Fields A → Option (Fields A) → Bool → Bool → Result (Plan A) Refusal
  moved_plan (Key old) row (Some new) taken left =
      if fields_eq old new then Ok (record { keys = (new, Some row) ∷ []; ids = []; fresh = None })
      else unless_taken taken (record { keys = (old, None) ∷ (new, Some row) ∷ []; ids = []; fresh = None })
  moved_plan (Key old) row None taken left = if_left left (record { keys = (old, None) ∷ []; ids = []; fresh = Some row })
  moved_plan (Loose id) row (Some new) taken left = unless_taken taken (record { keys = (new, Some row) ∷ []; ids = (id, None) ∷ []; fresh = None })
  moved_plan (Loose id) row None taken left = Ok (record { keys = []; ids = (id, Some row) ∷ []; fresh = None })

  abbrev pub updated_plan : List Bool → RowRef A → Assigned A → Option (Fields A) → Bool → Bool → Result (Plan A) Refusal
  updated_plan schema name fields None taken left = Err NoRow
  updated_plan schema name fields (Some row) taken left = moved_plan name (row_with fields row) (key_of schema (row_with fields row)) taken left

  abbrev pub gone_plan : RowRef A → Plan A
  gone_plan (Key key) = record { keys = (key, None) ∷ []; ids = []; fresh = None }
  gone_plan (Loose id) = record { keys = []; ids = (id, None) ∷ []; fresh = None }

  abbrev pub plan_of : List Bool → Action A → Option (Fields A) → Bool → Bool → Result (Plan A) Refusal
  plan_of schema (Insert row) found taken left = if length row == length schema then placed_plan row (key_of schema row) taken left else Err WrongWidth
  plan_of schema (Update name fields) found taken left =
      if are_columns (length schema) (columns_of fields) then updated_plan schema name fields found taken left else Err BadColumn
  plan_of schema (Delete name) found taken left = if is_some found then Ok (gone_plan name) else Err NoRow

  -- the row that an operation finds
  abbrev pub found_by : TableState A → Action A → Option (Fields A)
  found_by t (Insert row) = None
  found_by t (Update name fields) = row_of t name
  found_by t (Delete name) = row_of t name

  abbrev pub key_given : List Bool → Action A → Option (Fields A) → Option (Fields A)
  key_given schema (Insert row) found = key_of schema row
  key_given schema (Update name fields) found = option_and_then (λ row. key_of schema (row_with fields row)) found
  key_given schema (Delete name) found = None

  abbrev pub is_taken : TableState A → Option (Fields A) → Bool
  is_taken t None = false
  is_taken t (Some key) = is_some (get fields_cmp t.keyed key)

  abbrev pub plan_on : TableState A → Action A → Result (Plan A) Refusal
  plan_on t a = plan_of t.schema a (found_by t a) (is_taken t (key_given t.schema a (found_by t a))) (nat_lt t.next_id (2 ^ 63))

  -- ---- an operation does what is planned

  placed-planned : (t : TableState A) (row : Fields A) (key : Option (Fields A)) → placed t row key ≡ planned t (placed_plan row key (is_taken t key) (nat_lt t.next_id (2 ^ 63)))
  placed-planned t row (Some key) = grind arith
  placed-planned t row None = grind arith

  moved-planned : (t : TableState A) (name : RowRef A) (row : Fields A) (key : Option (Fields A)) → moved t name row key ≡ planned t (moved_plan name row key (is_taken t key) (nat_lt t.next_id (2 ^ 63)))
  moved-planned t (Key old) row (Some new) = grind arith
  moved-planned t (Key old) row None = grind arith
  moved-planned t (Loose id) row (Some new) = grind arith
  moved-planned t (Loose id) row None = refl

  updated-planned : (t : TableState A) (name : RowRef A) (fields : Assigned A) (found : Option (Fields A))
      → updated t name fields found ≡ planned t (updated_plan t.schema name fields found (is_taken t (option_and_then (λ row. key_of t.schema (row_with fields row)) found)) (nat_lt t.next_id (2 ^ 63)))
  updated-planned t name fields None = refl
  updated-planned t name fields (Some row) = moved-planned t name (row_with fields row) (key_of t.schema (row_with fields row))

  pub act-planned : (t : TableState A) (a : Action A) → act t a ≡ planned t (plan_on t a)
  act-planned t (Insert row) = grind (arith, placed-planned t row (key_of t.schema row))
  act-planned t (Update name fields) = grind (arith, updated-planned t name fields (row_of t name))
  act-planned t (Delete (Key key)) = grind arith
  act-planned t (Delete (Loose id)) = grind arith
