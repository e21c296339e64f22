-- The records of the touched rows of one table.
use Rattle.std.specs.Prelude.{Bool, Option, Some, None, List, fold, ◌&&◌}
use Rattle.cap_row.specs.Fields.{Fields}
use Rattle.cap_row.specs.Key.{fields_cmp}
use Rattle.cap_tree.specs.Tree.{get, put_entry}
use Rattle.cap_session.specs.declared.record.Record.{Record}

-- the touched keys in order, each with its first image and its indirect flag
abbrev pub Records : Type 0 → Type 0
Records A = List (Fields A × Record A)

-- A touch of a key: the row under the key before the commit, or in the saved table of a diff, if any, and
-- whether the touch is indirect.
pub record Touch (A : Type 0) : Type 0 where
  pub key : Fields A
  pub image : Option (Fields A)
  pub indirect : Bool

module _ {A : Type 0} where
  -- the record after a touch: it keeps its image, and stays indirect only where the touch is indirect too
  abbrev pub record_after : Option (Record A) → Option (Fields A) → Bool → Record A
  record_after None image indirect = record { image = image; indirect = indirect }
  record_after (Some r) image indirect = record { image = r.image; indirect = r.indirect && indirect }

  abbrev pub touch : Records A → Touch A → Records A
  touch records t =
      put_entry fields_cmp records t.key (record_after (get fields_cmp records t.key) t.image t.indirect)

  -- the records after touches, in order of time
  abbrev pub with_touches : Records A → List (Touch A) → Records A
  with_touches records touches = fold touch records touches
