-- The limits that a table keeps, which its value alone does not show.
use Rattle.std.specs.Prelude.{ℕ, List, All, IsTrue, IsUtf8}
use Rattle.std.specs.List.{AllByRecursion}
use Rattle.cap_value.specs.Bytes.{is_name}
use Rattle.cap_value.specs.Value.{IsValue}
use Rattle.cap_row.specs.Fields.{Fields}
use Rattle.cap_row.specs.Schema.{is_schema}
use Rattle.cap_table.specs.Table.{TableState}

module _ {A : Type 0} where
  -- each field of each row is a value
  abbrev pub HaveValues : List (Fields A × Fields A) → Type 0
  HaveValues rows = AllByRecursion (λ row. All IsValue row.1) rows

  -- the name, the columns and the values of a table keep the limits
  pub record HasLimits (named : List ℕ × TableState A) : Type 0 where
    pub name : IsTrue (is_name named.0)
    pub utf8 : IsUtf8 named.0
    pub columns : IsTrue (is_schema named.1.schema)
    pub values : HaveValues named.1.keyed
