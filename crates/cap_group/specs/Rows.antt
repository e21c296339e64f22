-- The changes of one row, one after another.
use Rattle.std.specs.Prelude.{◌≡◌, Bool, List, [], ◌∷◌, Option, Some, None, fold, filter, length}
use Rattle.std.specs.Option.{ForSome}
use Rattle.cap_row.specs.Fields.{Fields}
use Rattle.cap_row.specs.Key.{fields_eq, key_fields}
use Rattle.cap_changes.specs.Change.{change_of}
use Rattle.cap_changes.specs.declared.row_change.RowChange.{RowChange}
use Rattle.cap_changes.specs.declared.row_change.RowChange.TheVariants.{Insert, Update, Delete}
use Rattle.cap_group.specs.KeyedChanges.{change_after}

module _ {A X : Type 0} (key : List Bool → X → Fields A) where
  -- the changes of the row under a key
  abbrev pub changes_of_row : List Bool → Fields A → List X → List X
  changes_of_row flags row changes = filter (λ change. fields_eq (key flags change) row) changes

-- what changes of one row are together
abbrev pub together : {X : Type 0} → (List Bool → X → X → Option X) → List Bool → List X → Option X
together combine flags changes = fold (change_after combine flags) None changes

module _ {A : Type 0} where
  abbrev pub is_indirect : RowChange A → Bool
  is_indirect (Insert indirect new) = indirect
  is_indirect (Update indirect old new) = indirect
  is_indirect (Delete indirect old) = indirect

  -- a row of a table with these key flags, under this key
  pub record IsRowUnder (flags : List Bool) (key : Fields A) (row : Fields A) : Type 0 where
    pub wide : length row ≡ length flags
    pub under : key_fields flags row ≡ key

  -- From the first row, or its absence, each change leads to another row under the key, and the last change
  -- to the last row.
  abbrev pub Follow : List Bool → Fields A → Option (Fields A) → List (RowChange A) → Option (Fields A) →
      Type 0
  Follow flags key first [] last = first ≡ last
  Follow flags key first (change ∷ changes) last =
      (next : Option (Fields A)) × ForSome next (IsRowUnder flags key)
      × (change_of flags (is_indirect change) first next ≡ Some change)
      × Follow flags key next changes last
