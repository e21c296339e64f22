-- A blob applied to a database under a policy (The Session Extension, "sqlite3changeset_apply").
use Rattle.std.specs.Prelude.{ℕ, ◌+◌, Bool, true, false, Option, Some, None, Result, Ok, Err, List, [], ◌∷◌}
use Rattle.std.specs.Prelude.{◌++◌, length, is_some}
use Rattle.cap_value.specs.Bytes.{bytes_cmp}
use Rattle.cap_value.specs.declared.refusal.Refusal.{Refusal}
use Rattle.cap_row.specs.Fields.{Fields}
use Rattle.cap_row.specs.Key.{fields_cmp}
use Rattle.cap_tree.specs.Tree.{get, put_entry}
use Rattle.cap_table.specs.Table.{TableState}
pub use Rattle.cap_database.specs.Keyed.{with_row}
use Rattle.cap_database.specs.Operation.{Changed, changes_to}
use Rattle.cap_database.specs.Tables.{Tables}
use Rattle.cap_database.specs.declared.cause.Cause.TheVariants.{Direct}
use Rattle.cap_changes.specs.Entries.{TableEntries}
use Rattle.cap_codec.specs.declared.read.Contents.{Contents}
use Rattle.cap_apply.specs.Applied.{AppliedState}
use Rattle.cap_apply.specs.Requested.{Requested, requested_of}
use Rattle.cap_apply.specs.Policy.{is_made}
use Rattle.cap_apply.specs.Report.{noted_in, with_omitted, with_skipped}
use Rattle.cap_apply.specs.Row.{key_record_of, key_values, row_after, conflict_of}
use Rattle.cap_apply.specs.Target.{target}
use Rattle.cap_apply.specs.declared.conflict.ConflictKind.{ConflictKind}
use Rattle.cap_apply.specs.declared.policy.Policy.{Policy}

-- the next step, unless there was a refusal
abbrev pub and_then : {X Y E : Type 0} → Result X E → (X → Result Y E) → Result Y E
and_then (Ok x) next = next x
and_then (Err why) next = Err why

module _ {A : Type 0} where
  -- ---- one change

  -- the row goes from under the key, where there is one
  abbrev pub row_goes : Fields A → Option (Fields A) → List (Changed A)
  row_goes key None = []
  row_goes key (Some row) = (Some key, Some row) ∷ []

  -- the row comes under the key, where there is one
  abbrev pub row_comes : Fields A → Option (Fields A) → List (Changed A)
  row_comes key None = []
  row_comes key (Some row) = (Some key, None) ∷ []

  -- the row under a key is replaced: one change for the old row, and one for the new row
  abbrev pub with_row_in : List ℕ → TableState A → Fields A → Option (Fields A) → Option (Fields A) →
      AppliedState A → AppliedState A
  with_row_in name table key before after state = record state {
    database = put_entry bytes_cmp state.database name (with_row table key after);
    changes = state.changes ++ changes_to name Direct (row_goes key before ++ row_comes key after);
  }

  abbrev pub counted : AppliedState A → AppliedState A
  counted state = record state { report = record state.report { applied = state.report.applied + 1 } }

  abbrev pub left_out : ℕ → AppliedState A → AppliedState A
  left_out number state = record state { report = with_omitted number state.report }

  abbrev pub noted : Policy → ℕ → Option ConflictKind → AppliedState A → AppliedState A
  noted policy number conflict state =
      record state { report = noted_in policy number conflict state.report }

  -- applied or omitted, or the refusal of the blob
  abbrev pub concluded : Result Bool Refusal → AppliedState A → AppliedState A →
      Result (AppliedState A) Refusal
  concluded (Ok true) made omitted = Ok made
  concluded (Ok false) made omitted = Ok omitted
  concluded (Err why) made omitted = Err why

  -- a change of a table, by the row under its key and its conflict
  abbrev pub change_at : Policy → ℕ → List ℕ → Requested A → TableState A → Fields A → Option (Fields A) →
      Option ConflictKind → AppliedState A →
      Result (AppliedState A) Refusal
  change_at policy number name requested table key before conflict state =
      concluded (is_made policy number conflict)
      (counted (with_row_in name table key before (row_after (length table.schema) requested.patch before)
      (noted policy number conflict state)))
      (left_out number (noted policy number conflict state))

  abbrev pub change_under : Policy → ℕ → List ℕ → List Bool → Requested A → TableState A → Fields A →
      AppliedState A → Result (AppliedState A) Refusal
  change_under policy number name flags requested table key state =
      change_at policy number name requested table key (get fields_cmp table.keyed key)
      (conflict_of flags requested.old requested.patch (get fields_cmp table.keyed key)) state

  -- a change of a group that is skipped does nothing
  abbrev pub change_in : Policy → ℕ → List ℕ → List Bool → Requested A → Option (TableState A) →
      AppliedState A → Result (AppliedState A) Refusal
  change_in policy number name flags requested None state = Ok state
  change_in policy number name flags requested (Some table) state =
      change_under policy number name flags requested table
      (key_values flags (key_record_of requested.patch)) state

  -- one change of a group with this name and these key flags, after what was applied before it
  abbrev pub change_applied : Policy → ℕ → List ℕ → List Bool → Requested A → AppliedState A →
      Result (AppliedState A) Refusal
  change_applied policy number name flags requested state =
      change_in policy number name flags requested (target state.database name flags) state

  -- ---- changes, one after another

  abbrev pub changes_applied : Policy → ℕ → List ℕ → List Bool → List (Requested A) → AppliedState A →
      Result (AppliedState A) Refusal
  changes_applied policy number name flags [] state = Ok state
  changes_applied policy number name flags (requested ∷ rest) state =
      and_then (change_applied policy number name flags requested state)
      (λ next. changes_applied policy (number + 1) name flags rest next)

  abbrev pub skipped : ℕ → AppliedState A → AppliedState A
  skipped place state = record state { report = with_skipped place state.report }

  abbrev pub skipped_unless : Bool → ℕ → AppliedState A → AppliedState A
  skipped_unless true place state = state
  skipped_unless false place state = skipped place state

  -- the changes of a group, or the report that it is skipped
  abbrev pub group_applied : Policy → ℕ → ℕ → TableEntries (Requested A) → AppliedState A →
      Result (AppliedState A) Refusal
  group_applied policy place number group state =
      changes_applied policy number group.table group.schema group.changes
      (skipped_unless (is_some (target state.database group.table group.schema)) place state)

  -- groups, numbered from this index on, and their changes from this number on
  abbrev pub groups_applied : Policy → ℕ → ℕ → List (TableEntries (Requested A)) → AppliedState A →
      Result (AppliedState A) Refusal
  groups_applied policy place number [] state = Ok state
  groups_applied policy place number (group ∷ rest) state =
      and_then (group_applied policy place number group state)
      (λ next. groups_applied policy (place + 1) (number + length group.changes) rest next)

  abbrev pub nothing_applied : Tables A → AppliedState A
  nothing_applied database = record {
    database = database;
    changes = [];
    report = record { applied = 0; conflicts = []; omitted = []; skipped = [] };
  }

  -- all changes of the blob, or the refusal by the policy
  abbrev pub apply : Tables A → Contents A → Policy → Result (AppliedState A) Refusal
  apply database blob policy = groups_applied policy 0 0 (requested_of blob) (nothing_applied database)
