-- The names that most proofs of this crate and of its laws cite, passed on from one place. Declares nothing.
pub use Rattle.std.proofs.lemmas.List.{drop_more, length-map, length-replicate}
pub use Rattle.std.proofs.lemmas.List.Elements.{All-cons, All-head, All-map, All-nil, All-tail, All-weaker}
pub use Rattle.std.proofs.lemmas.Result.{IfOk-at_ok, IfOk-weaker, on_ok_weaker}
pub use Rattle.std.proofs.lemmas.Simd.{map-map}
pub use Rattle.std.specs.Cmp.{eq_by_cmp_equiv, tied_itself}
pub use Rattle.std.specs.List.{AllByRecursion, enumerate_from, list_all, list_any}
pub use Rattle.cap_value.specs.Bytes.{bytes_cmp, bytes_cmp-Equal, bytes_eq}
pub use Rattle.cap_value.specs.Value.{IsValue, is_null, value_cmp_total, value_eq_decides}
pub use Rattle.cap_value.specs.declared.refusal.Refusal.{Refusal}
pub use Rattle.cap_value.specs.declared.value.Value.{Value}
pub use Rattle.cap_value.specs.declared.value.Value.TheVariants.{Null}
pub use Rattle.cap_row.specs.Fields.{Fields}
pub use Rattle.cap_row.specs.Key.{fields_cmp, fields_cmp-Equal, fields_cmp_total, fields_eq, fields_eq_decides, is_key, key_fields, key_of}
pub use Rattle.cap_row.specs.Row.{are_columns, columns_of, new_value, row_with}
pub use Rattle.cap_row.specs.Schema.{has_key}
pub use Rattle.cap_tree.proofs.EntryLemmas.{ordered_put, ordered_take, put_entry-Updates, take_entry-Updates, take_entry-absent}
pub use Rattle.cap_tree.specs.Tree.{IsOrdered, get, put_entry, take_entry}
pub use Rattle.cap_table.proofs.BackLemmas.{found-own, own-row}
pub use Rattle.cap_table.proofs.TableLemmas.{fields_same}
pub use Rattle.cap_table.specs.Operation.{with_key, without}
pub use Rattle.cap_table.specs.Sound.{IsRising, is_key_of}
pub use Rattle.cap_table.specs.Table.{TableState}
pub use Rattle.cap_table.specs.declared.row_ref.RowRef.TheVariants.{Key}
pub use Rattle.cap_database.proofs.KeptLemmas.{each-found, each-put, schema_of-put, sorted-put}
pub use Rattle.cap_database.specs.Operation.{Changed, act, changes, changes_to, run}
pub use Rattle.cap_database.specs.Read.{row_at}
pub use Rattle.cap_database.specs.Tables.{AreRising, EachRises, Tables, schema_of, table_of}
pub use Rattle.cap_database.specs.declared.cause.Cause.TheVariants.{Direct}
pub use Rattle.cap_database.specs.declared.change.Change.{Change}
pub use Rattle.cap_changes.proofs.ChangeLemmas.{other_order}
pub use Rattle.cap_changes.proofs.LeftLemmas.{drop_here, taken}
pub use Rattle.cap_changes.proofs.PassLemmas.{flags-cons, flags-past}
pub use Rattle.cap_changes.proofs.PatchLemmas.{patch_of-fits}
pub use Rattle.cap_changes.specs.Change.{IsKeyedRow, full_record}
pub use Rattle.cap_changes.specs.Entries.{AllFit, AreFitting, IsFitting, TableEntries}
pub use Rattle.cap_changes.specs.FieldRecord.{RecordFields}
pub use Rattle.cap_changes.specs.Fits.{change_fits, patch_fits}
pub use Rattle.cap_changes.specs.Patch.{patch_list_of, patch_of, patches_of, update_record}
pub use Rattle.cap_changes.specs.Requirements.{new_requirements, requirements, satisfy}
pub use Rattle.cap_changes.specs.declared.patch.Patch.{Patch}
pub use Rattle.cap_changes.specs.declared.row_change.RowChange.{RowChange}
pub use Rattle.cap_codec.specs.declared.read.Contents.{Contents}
pub use Rattle.cap_codec.specs.declared.read.Contents.TheVariants.{Changes, Patches}
pub use Rattle.cap_apply.specs.Applied.{AppliedState}
pub use Rattle.cap_apply.specs.Apply.{and_then, apply, change_applied, change_at, change_in, changes_applied, concluded, counted, group_applied, groups_applied, left_out, noted, nothing_applied, row_comes, row_goes, skipped, skipped_unless, with_row, with_row_in}
pub use Rattle.cap_apply.specs.Captured.{AllAfter, AllBefore, AllDiffer, AreOthers, GivesAllRowsNow, TableRows, changes_of, total}
pub use Rattle.cap_apply.specs.Difference.{AllApplied, AreApart, Difference, GivesRowsNow, HoldAfter, HoldBefore, IsDifference, IsUnder, OtherTables, RowsAfter, RowsBefore, requested_by_changes, requested_by_inverses, turned}
pub use Rattle.cap_apply.specs.Fitting.{FitsItsColumns}
pub use Rattle.cap_apply.specs.Operations.{AreRun, IsMadeOrOmitted, deletes, directly, inserts, operations_of_change, operations_of_patch, other_fields, updates}
pub use Rattle.cap_apply.specs.Policy.{is_made}
pub use Rattle.cap_apply.specs.Report.{ReportState}
pub use Rattle.cap_apply.specs.Requested.{Requested, requested_by_change, requested_by_patch, requested_in, requested_of}
pub use Rattle.cap_apply.specs.Row.{assigned_from, conflict_of, has_old_values, key_record_of, key_values, new_row, row_after, set_fields}
pub use Rattle.cap_apply.specs.Target.{columns_fit, target}
pub use Rattle.cap_apply.specs.declared.conflict.ConflictKind.{ConflictKind}
pub use Rattle.cap_apply.specs.declared.policy.Policy.{Policy}
