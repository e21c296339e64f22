-- A changegroup: what blobs that are added to it, one after the other, make together (The Session Extension,
-- "sqlite3changegroup_add").
use Rattle.std.specs.Prelude.{ℕ, ◌+◌, Bool, List, [], ◌∷◌, Option, Some, None, Result, Ok, Err, map, filter}
use Rattle.std.specs.Prelude.{◌&&◌, if◌then◌else◌}
use Rattle.std.specs.List.{list_any}
use Rattle.std.specs.Option.{unwrap_or}
use Rattle.cap_row.specs.Fields.{Fields}
use Rattle.cap_row.specs.Schema.{flags_eq}
use Rattle.cap_changes.specs.Entries.{TableEntries}
use Rattle.cap_changes.specs.declared.row_change.RowChange.{RowChange}
use Rattle.cap_changes.specs.declared.patch.Patch.{Patch}
use Rattle.cap_codec.specs.declared.read.Contents.{Contents}
use Rattle.cap_codec.specs.declared.read.Contents.TheVariants.{Changes, Patches}
use Rattle.cap_codec.specs.Writable.{has_some}
use Rattle.cap_group.specs.ChangeKey.{change_key, patch_key}
use Rattle.cap_group.specs.Combined.{combined, patches_combined}
use Rattle.cap_group.specs.KeyedChanges.{KeyedChanges, entries_of, no_changes}
use Rattle.cap_group.specs.KeyedChanges.{table_at, with_changes, with_table}
use Rattle.cap_group.specs.declared.refusal.GroupRefusal.{GroupRefusal}
use Rattle.cap_group.specs.declared.refusal.GroupRefusal.TheVariants.{OtherKind, OtherColumns}

-- the tables with changes of changesets and those with changes of patchsets, each in the order of their first
-- change
pub record GroupContent (A : Type 0) : Type 0 where
  pub changes : List (KeyedChanges A (RowChange A))
  pub patches : List (KeyedChanges A (Patch A))

-- the next step, unless there was a refusal
abbrev pub and_then : {X Y E : Type 0} → Result X E → (X → Result Y E) → Result Y E
and_then (Ok x) next = next x
and_then (Err why) next = Err why

module _ {A X : Type 0} (key : List Bool → X → Fields A) (combine : List Bool → X → X → Option X) where
  -- the changes of a group's table so far, none where there is no such table
  abbrev pub table_of : List (KeyedChanges A X) → TableEntries X → KeyedChanges A X
  table_of tables group = unwrap_or (table_at tables group.table) (no_changes group.table group.schema)

  -- The changes of a group are added, one after the other. The group is refused, by its place in its blob,
  -- where the table had other columns.
  abbrev pub with_group : ℕ → List (KeyedChanges A X) → TableEntries X →
      Result (List (KeyedChanges A X)) GroupRefusal
  with_group place tables group =
      if flags_eq (table_of tables group).schema group.schema
      then Ok (with_table tables (with_changes key combine (table_of tables group) group.changes))
      else Err (OtherColumns place)

  -- the groups, one after the other, up to the first that is refused
  abbrev pub with_groups : ℕ → List (KeyedChanges A X) → List (TableEntries X) →
      Result (List (KeyedChanges A X)) GroupRefusal
  with_groups place tables [] = Ok tables
  with_groups place tables (group ∷ groups) =
      if has_some group.changes
      then and_then (with_group place tables group) (λ more. with_groups (place + 1) more groups)
      else with_groups (place + 1) tables groups

abbrev pub has_changes : {X : Type 0} → List (TableEntries X) → Bool
has_changes groups = list_any (λ group. has_some group.changes) groups

-- the tables that have changes, each as a group of a list
abbrev pub groups_of : {A X : Type 0} → List (KeyedChanges A X) → List (TableEntries X)
groups_of tables = filter (λ group. has_some group.changes) (map entries_of tables)

module _ {A : Type 0} where
  abbrev pub empty_group : GroupContent A
  empty_group = record { changes = []; patches = [] }

  -- a blob that has changes of one kind is refused where the group has tables of the other
  abbrev pub refused_kind : GroupContent A → Contents A → Option GroupRefusal
  refused_kind group (Changes groups) =
      if has_changes groups && has_some group.patches then Some OtherKind else None
  refused_kind group (Patches groups) =
      if has_changes groups && has_some group.changes then Some OtherKind else None

  abbrev pub added_unless : Option GroupRefusal → GroupContent A → Contents A →
      Result (GroupContent A) GroupRefusal
  added_unless (Some why) group blob = Err why
  added_unless None group (Changes groups) =
      and_then (with_groups change_key combined 0 group.changes groups)
      (λ tables. Ok (record group { changes = tables }))
  added_unless None group (Patches groups) =
      and_then (with_groups patch_key (λ flags. patches_combined) 0 group.patches groups)
      (λ tables. Ok (record group { patches = tables }))

  -- the changegroup after a blob
  abbrev pub added : GroupContent A → Contents A → Result (GroupContent A) GroupRefusal
  added group blob = added_unless (refused_kind group blob) group blob

  -- as a blob: a patchset where there are patches, else a changeset
  abbrev pub contents_of : GroupContent A → Contents A
  contents_of group =
      if has_some (groups_of group.patches) then Patches (groups_of group.patches)
      else Changes (groups_of group.changes)

  -- the changegroup after these blobs, one after the other
  abbrev pub all_added : GroupContent A → List (Contents A) → Result (GroupContent A) GroupRefusal
  all_added group [] = Ok group
  all_added group (blob ∷ blobs) = and_then (added group blob) (λ more. all_added more blobs)

  -- the concatenation of blobs
  abbrev pub concat_of : List (Contents A) → Result (Contents A) GroupRefusal
  concat_of blobs = and_then (all_added empty_group blobs) (λ group. Ok (contents_of group))
