-- A rebaser: the buffers with which it is configured, one after the other, and a changeset over them (The
-- Session Extension, "Rebasing changesets").
use Rattle.std.specs.Prelude.{ℕ, ◌+◌, Bool, List, [], ◌∷◌, ◌++◌, Option, Some, None, Result, Ok, Err, not}
use Rattle.std.specs.Prelude.{map, filter, filter_map, flat_map, ◌&&◌, if◌then◌else◌}
use Rattle.std.specs.List.{list_any}
use Rattle.cap_value.specs.Bytes.{bytes_eq}
use Rattle.cap_row.specs.Schema.{flags_eq}
use Rattle.cap_changes.specs.Group.{TableChanges}
use Rattle.cap_changes.specs.declared.row_change.RowChange.{RowChange}
use Rattle.cap_codec.specs.Writable.{has_some}
use Rattle.cap_rebase.specs.Flag.{are_of_one_row}
use Rattle.cap_rebase.specs.Rebase.{rebased_over}
use Rattle.cap_rebase.specs.declared.refusal.RebaseRefusal.{RebaseRefusal}
use Rattle.cap_rebase.specs.declared.refusal.RebaseRefusal.TheVariants.{OtherColumns}

-- the buffers, in the order in which they were given
abbrev pub Buffers : Type 0 → Type 0
Buffers A = List (List (TableChanges A))

abbrev pub unless : {X : Type 0} → Option RebaseRefusal → X → Result X RebaseRefusal
unless None x = Ok x
unless (Some why) x = Err why

module _ {A : Type 0} where
  -- groups of one table, with other columns or another key
  abbrev pub differ_in_columns : TableChanges A → TableChanges A → Bool
  differ_in_columns a b = bytes_eq a.table b.table && not (flags_eq a.schema b.schema)

  -- a group of a buffer has other columns
  abbrev pub has_other_columns : Buffers A → TableChanges A → Bool
  has_other_columns buffers group = list_any (λ buffer. list_any (differ_in_columns group) buffer) buffers

  -- the first group of which a buffer has other columns, where the first one has this place
  abbrev pub refused_from : ℕ → Buffers A → List (TableChanges A) → Option RebaseRefusal
  refused_from place buffers [] = None
  refused_from place buffers (group ∷ groups) =
      if has_other_columns buffers group then Some (OtherColumns place)
      else refused_from (place + 1) buffers groups

  abbrev pub refused : Buffers A → List (TableChanges A) → Option RebaseRefusal
  refused buffers groups = refused_from 0 buffers groups

  -- the rebaser with one buffer more
  abbrev pub configured : Buffers A → List (TableChanges A) → Result (Buffers A) RebaseRefusal
  configured buffers buffer = unless (refused buffers buffer) (buffers ++ buffer ∷ [])

  -- the changes of the row of a local change, of a group of its table
  abbrev pub of_its_row : TableChanges A → RowChange A → TableChanges A → List (RowChange A)
  of_its_row group local other =
      if bytes_eq group.table other.table && flags_eq group.schema other.schema
      then filter (are_of_one_row group.schema local) other.changes
      else []

  -- those of all buffers
  abbrev pub buffered : Buffers A → TableChanges A → RowChange A → List (RowChange A)
  buffered buffers group local = flat_map (flat_map (of_its_row group local)) buffers

  -- a local change of a group over all buffered changes of its row
  abbrev pub rebased_in : Buffers A → TableChanges A → RowChange A → Option (RowChange A)
  rebased_in buffers group local = rebased_over group.schema (Some local) (buffered buffers group local)

  -- each change in its place
  abbrev pub rebased_group : Buffers A → TableChanges A → TableChanges A
  rebased_group buffers group =
      record group { changes = filter_map (rebased_in buffers group) group.changes }

  -- a group of which no change is left is left out
  abbrev pub rebased_list : Buffers A → List (TableChanges A) → List (TableChanges A)
  rebased_list buffers groups =
      filter (λ group. has_some group.changes) (map (rebased_group buffers) groups)

  -- the changeset over the buffers, or its refusal
  abbrev pub rebase : Buffers A → List (TableChanges A) → Result (List (TableChanges A)) RebaseRefusal
  rebase buffers groups = unless (refused buffers groups) (rebased_list buffers groups)
