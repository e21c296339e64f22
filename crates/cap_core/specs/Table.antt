-- What holds of every table after any history whose blobs fit their tables.
use Rattle.std.specs.Prelude.{◌≡◌, ◌<◌, ◌≤◌, Some, None, List, [], ◌∷◌, length, reverse}
use Rattle.std.specs.List.{All}
use Rattle.std.specs.Ordering.{nat_cmp}
use Rattle.cap_row.specs.Key.{fields_cmp, key_of}
use Rattle.cap_table.specs.Table.{TableState}
use Rattle.cap_tree.specs.Tree.{IsOrdered}
use Rattle.cap_apply.specs.Fitting.{FitsItsColumns}
use Rattle.cap_core.specs.declared.command.Command.{Command}
use Rattle.cap_core.specs.declared.command.Command.TheVariants.{Apply}
use Rattle.cap_core.specs.declared.event.Event.{Event}
use Rattle.cap_core.specs.Past.{Past}

module _ {A : Type 0} where
  -- the keys rise, and each keyed row is as wide as the table and is stored under its own primary key
  pub record IsKeyed (table : TableState A) : Type 0 where
    pub rise : IsOrdered fields_cmp table.keyed
    pub wide : All (λ row. length row.1 ≡ length table.schema) table.keyed
    pub own : All (λ row. key_of table.schema row.1 ≡ Some row.0) table.keyed

  -- the ids rise, and each other row is as wide as the table, has no primary key, and is stored under an id
  -- that was assigned
  pub record IsLoose (table : TableState A) : Type 0 where
    pub rise : IsOrdered nat_cmp table.loose
    pub wide : All (λ row. length row.1 ≡ length table.schema) table.loose
    pub keyless : All (λ row. key_of table.schema row.1 ≡ None) table.loose
    pub first : All (λ row. 1 ≤ row.0) table.loose
    pub given : All (λ row. row.0 < table.next_id) table.loose

  -- the changes of the blob that the command applies, if any, fit the columns of their groups, as those of
  -- every blob that a program can make
  abbrev pub BlobFits : Command A → Type 0
  BlobFits (Apply blob policy quiet) = FitsItsColumns blob
  BlobFits _ = Unit {0}

  -- so does each blob that was applied
  abbrev pub BlobsFitPast : Past A → Type 0
  BlobsFitPast [] = Unit {0}
  BlobsFitPast (event ∷ past) = BlobFits event.command × BlobsFitPast past

  -- the same of a history, the first event first
  unfoldable pub BlobsFit : List (Event A) → Type 0
  BlobsFit history = BlobsFitPast (reverse history)
