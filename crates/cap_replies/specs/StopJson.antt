-- Where an application that stops at each conflict stands, as JSON (RFC 8259): an object on a line.
use Rattle.std.specs.Prelude.{ℕ, Bool, Option, Some, None, List, [], ◌∷◌, ◌++◌, codes, slice_get}
use Rattle.json.specs.Print.{print}
use Rattle.json.specs.Token.{Token}
use Rattle.json.specs.Token as token
use Rattle.cap_changes.specs.Entries.{TableEntries}
use Rattle.cap_codec.specs.declared.read.Contents.{Contents}
use Rattle.cap_codec.specs.declared.read.Contents.TheVariants.{Changes, Patches}
use Rattle.cap_applier.specs.Applier.{ApplierState, met}
use Rattle.cap_applier.specs.Progress.{ProgressState}
use Rattle.cap_applier.specs.declared.row_conflict.RowConflict.{RowConflict}
use Rattle.cap_show.specs.Json.{change, patch, text_member}
use Rattle.cap_script.specs.Words.{kind_word}
use Rattle.cap_replies.specs.ReplyJson.{found, kind, line_members, number_member}

module _ {X : Type 0} (one : List ℕ → List Bool → X → List Token) where
  -- a change as in a shown blob; where there is none, null
  abbrev pub change_of : TableEntries X → Option X → List Token
  change_of group (Some x) = one group.table group.schema x
  change_of group None = token.null ∷ []

  abbrev pub change_in : Option (TableEntries X) → ℕ → List Token
  change_in (Some group) place = change_of group (slice_get group.changes place)
  change_in None place = token.null ∷ []

module _ {A : Type 0} where
  -- the change that comes next
  abbrev pub next_change : Contents A → ProgressState A → List Token
  next_change (Changes list) p = change_in change (slice_get list p.group) p.change
  next_change (Patches list) p = change_in patch (slice_get list p.group) p.change

  -- the number of the change in the blob, the conflict's kind, the change, and the row that is there, or null
  abbrev pub conflict_members : ApplierState A → RowConflict A → List Token
  conflict_members s conflict =
      kind (codes "conflict") ++ (number_member (codes "change") s.progress.number
      ++ (text_member (codes "kind") (kind_word conflict.kind)
      ++ ((token.key (codes "content") ∷ next_change s.blob s.progress)
      ++ token.key (codes "row") ∷ found conflict.row)))

  abbrev pub met_members : ApplierState A → Option (RowConflict A) → List Token
  met_members s (Some conflict) = conflict_members s conflict
  met_members s None = kind (codes "noconflict")

  abbrev pub stop_members : ApplierState A → List Token
  stop_members s = met_members s (met s)

  -- where it stands behind the line with this number
  unfoldable pub stop_json : ℕ → Option ℕ → ApplierState A → List ℕ
  stop_json number worker s =
      print (token.begin_object ∷ (line_members number worker ++ (stop_members s ++ token.end_object ∷ [])))
