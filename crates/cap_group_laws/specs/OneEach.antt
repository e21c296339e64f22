-- Lists with one change for each row, as SQLite makes them.
use Rattle.std.specs.Prelude.{Bool, List, map, All}
use Rattle.std.specs.List.{IsDistinct}
use Rattle.std.specs.List.Sorted.{IsStrictlySortedBy}
use Rattle.cap_value.specs.Bytes.{bytes_eq}
use Rattle.cap_row.specs.Fields.{Fields}
use Rattle.cap_row.specs.Key.{fields_cmp}
use Rattle.cap_changes.specs.Entries.{TableEntries}
use Rattle.cap_codec.specs.declared.read.Contents.{Contents}
use Rattle.cap_codec.specs.declared.read.Contents.TheVariants.{Changes, Patches}
use Rattle.cap_group.specs.ChangeKey.{change_key, patch_key}

module _ {A X : Type 0} (key : List Bool → X → Fields A) where
  -- one group for each table, and in it one change for each row, in the order of the keys
  pub record HasOneForEachRow (groups : List (TableEntries X)) : Type 0 where
    pub tables : IsDistinct bytes_eq (map (λ group. group.table) groups)
    pub rows : All (λ group. IsStrictlySortedBy fields_cmp (map (key group.schema) group.changes)) groups

module _ {A : Type 0} where
  abbrev pub BlobHasOneForEachRow : Contents A → Type 0
  BlobHasOneForEachRow (Changes groups) = HasOneForEachRow change_key groups
  BlobHasOneForEachRow (Patches groups) = HasOneForEachRow patch_key groups
