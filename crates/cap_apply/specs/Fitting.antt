-- Blobs whose changes fit the columns that their groups have. The tables of a database may have others: such
-- a group is skipped.
use Rattle.cap_changes.specs.Entries.{AreFitting}
use Rattle.cap_changes.specs.Fits.{change_fits, patch_fits}
use Rattle.cap_codec.specs.declared.read.Contents.{Contents}
use Rattle.cap_codec.specs.declared.read.Contents.TheVariants.{Changes, Patches}

module _ {A : Type 0} where
  -- each group has a key column, and its changes fit its columns
  abbrev pub FitsItsColumns : Contents A → Type 0
  FitsItsColumns (Changes list) = AreFitting change_fits list
  FitsItsColumns (Patches list) = AreFitting patch_fits list
