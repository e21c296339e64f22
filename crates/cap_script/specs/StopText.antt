-- The text of where an application that stops at each conflict stands.
use Rattle.std.specs.Prelude.{ℕ, List, [], ◌∷◌, ◌++◌, Option, Some, None, Ok, codes, decimal, slice_get}
use Rattle.cap_changes.specs.Entries.{TableEntries}
use Rattle.cap_codec.specs.declared.read.Contents.{Contents}
use Rattle.cap_codec.specs.declared.read.Contents.TheVariants.{Changes, Patches}
use Rattle.cap_applier.specs.Applier.{ApplierState, met}
use Rattle.cap_applier.specs.Progress.{ProgressState}
use Rattle.cap_applier.specs.declared.row_conflict.RowConflict.{RowConflict}
use Rattle.cap_show.specs.ShowText.{change_text, head_text, patch_text}
use Rattle.cap_script.specs.RowText.{get_text}
use Rattle.cap_script.specs.Words.{kind_word}

module _ {X : Type 0} (one : X → List ℕ) where
  -- a change, behind the line of its group, as a shown blob has it
  abbrev pub change_of : TableEntries X → Option X → List ℕ
  change_of group (Some change) = head_text group.table group.schema ++ one change
  change_of group None = []

  abbrev pub change_in : Option (TableEntries X) → ℕ → List ℕ
  change_in (Some group) place = change_of group (slice_get group.changes place)
  change_in None place = []

module _ {A : Type 0} where
  -- the change that comes next
  abbrev pub next_change_text : Contents A → ProgressState A → List ℕ
  next_change_text (Changes list) p = change_in change_text (slice_get list p.group) p.change
  next_change_text (Patches list) p = change_in patch_text (slice_get list p.group) p.change

  -- the number of the change in the blob, the conflict's kind, the change, and the row that is there
  abbrev pub conflict_text : ApplierState A → RowConflict A → List ℕ
  conflict_text s conflict =
      codes "conflict " ++ (decimal s.progress.number ++ (codes " " ++ (kind_word conflict.kind
      ++ (10 ∷ (next_change_text s.blob s.progress ++ get_text (Ok conflict.row))))))

  abbrev pub met_text : ApplierState A → Option (RowConflict A) → List ℕ
  met_text s (Some conflict) = conflict_text s conflict
  met_text s None = codes "no conflict"

  -- the conflict at which it stands, if any
  abbrev pub stop_text : ApplierState A → List ℕ
  stop_text s = met_text s (met s)
