-- The records of a table in the code: those of a tree, and the one that was put last.
use Rattle.std.specs.Prelude.{Option, Some, None}
use Rattle.std.specs.Borrow.{Bor}
use Rattle.cap_row.specs.Fields.{Fields}
use Rattle.cap_row.specs.Key.{fields_cmp}
use Rattle.cap_tree.specs.Shape.{EachBelow}
use Rattle.cap_tree.specs.Tree.{put_entry}
use Rattle.cap_session.specs.declared.record.Record.{Record}
use Rattle.cap_session.specs.Records.{Records}

module _ {A : Type 0} where
  abbrev pub with_latest : Records A → Option (Fields A × Record A) → Records A
  with_latest tree None = tree
  with_latest tree (Some latest) = put_entry fields_cmp tree latest.0 latest.1

  -- the same where the latest is a reference
  abbrev pub before_tree : Option (Bor (Fields A) × Bor (Record A)) → Records A → Records A
  before_tree None tree = tree
  before_tree (Some latest) tree = put_entry fields_cmp tree latest.0.now latest.1.now

  -- the key of the latest, where there is one, is above those of the tree
  abbrev pub IsLast : Records A → Option (Fields A × Record A) → Type 0
  IsLast tree None = Unit {0}
  IsLast tree (Some latest) = EachBelow fields_cmp latest.0 tree
