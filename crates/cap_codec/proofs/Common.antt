-- The names that most proofs cite, passed on from one place. Declares nothing.
pub use Rattle.std.proofs.Common.{◌≡◌, ℕ, zero, suc, ◌≤◌, ◌⊎◌, inl, inr, Bool, false, nat_le, List, [], ◌∷◌, ◌++◌, length, map, Result, Ok, IsTrue, IsUtf8, refl, ap, ◌∙◌, append_assoc, arith, length-append, ◌+◌, ◌<◌, true, nat_lt, ◌&&◌, take, drop, get_or, position, Some, if◌then◌else◌, sym, add-one, length-take, drop-drop, take_at, drop_at, take-append-drop, ◌==◌, Err, append-nil, Option, None, IfSome, subst, length-drop, IfOk, ◌-◌, ◌*◌, cond, le-ltb, rules, min, ◌||◌, not, replicate, lt-ltb, filter}
pub use Rattle.std.proofs.lemmas.Bool.{and_parts, eq-eqb, eqb-true, cases_Bool, ne_eqb, ltb-true, ltb-false, eqb-false, and_cases, cases_lt, lt-leb, leb-false}
pub use Rattle.std.proofs.lemmas.Bool.Decides.{nat_tests}
pub use Rattle.std.proofs.lemmas.List.{length-map, get_or-take, length-take-le, drop-append-le, take-append-le, take_rest, nil_from_length, get_or_past, get_or-replicate, length-replicate}
pub use Rattle.std.proofs.lemmas.List.Folds.{list_any_none}
pub use Rattle.std.proofs.lemmas.List.FromFn.{fill_by_all, map-range_with_len_more}
pub use Rattle.std.proofs.lemmas.List.Sums.{count_by_more_yes, count_by_more_no, fails_before_first}
pub use Rattle.std.proofs.lemmas.Result.{err_from_is_err_and}
pub use Rattle.std.proofs.lemmas.Str.{is_utf8-from_IsUtf8, IsUtf8-from_is_utf8, IsUtf8-nil, IsUtf8-from_ascii}
pub use Rattle.std.specs.List.{list_any, position_or_len, range_with_len, count_by, flat_map, AllByRecursion}
pub use Rattle.std.specs.Str.{is_utf8}
pub use Rattle.cap_changes.proofs.ChangeLoops.{behind_of, behind-is}
pub use Rattle.cap_changes.specs.ChangeBytes.{change_bytes, patch_bytes}
unfoldable pub use Rattle.cap_changes.specs.ChangeReading.{change_at, patch_at, changes_at}
pub use Rattle.cap_changes.specs.ChangeReading.{is_set, behind, with_changes}
pub use Rattle.cap_changes.specs.Entries.{TableEntries}
unfoldable pub use Rattle.cap_changes.specs.FieldReading.{content_at, field_at}
pub use Rattle.cap_changes.specs.FieldReading.{typed_at, allows}
pub use Rattle.cap_changes.specs.Group.{TableChanges}
pub use Rattle.cap_changes.specs.Operation.{is_operation}
pub use Rattle.cap_changes.specs.PatchGroup.{TablePatches}
unfoldable pub use Rattle.cap_changes.specs.RecordReading.{record_at}
pub use Rattle.cap_changes.specs.Spelling.{SpellsEach, SpellsChange, SpellsPatch}
pub use Rattle.cap_changes.specs.declared.field_requirement.FieldRequirement.{FieldRequirement}
unfoldable pub use Rattle.cap_codec.specs.BlobReading.{groups_at, blob_at}
pub use Rattle.cap_codec.specs.BlobReading.{entries_at, wrong_kind}
pub use Rattle.cap_codec.specs.Changeset.{key_place, flags_bytes, entries_bytes, header_bytes, list_bytes}
unfoldable pub use Rattle.cap_codec.specs.HeaderReading.{count_at, flags_at, name_at, header_at}
pub use Rattle.cap_codec.specs.HeaderReading.{is_zero, Header}
pub use Rattle.cap_codec.specs.Missing.{skip_at, content_len_at, skip_content}
unfoldable pub use Rattle.cap_codec.specs.Pieces.{Leads, Lacks, IsQuiet}
pub use Rattle.cap_codec.specs.Pieces.{is_cut, ends_early, lasting, ended, kind_byte, one_as, part_as, GoesOn, IsScanned, IsLookedAt, IsPlace}
pub use Rattle.cap_codec.specs.Spelling.{SpellsGroup, SpellsChanges, SpellsPatches, Spells}
pub use Rattle.cap_codec.specs.Stream.{IsBlobOf, ReadsOn, EndsReads, read_fault}
pub use Rattle.cap_codec.specs.Writable.{IsTable, IsGroupOf, IsGroup, IsPatchGroup, IsWritable, has_some, blob_bytes, blob_bytes_with, with_some, HasNoEmptyGroup}
pub use Rattle.cap_codec.specs.declared.key_flags.KeyFlags.{KeyFlags}
pub use Rattle.cap_codec.specs.declared.key_flags.KeyFlags.TheVariants.{Ones, Places}
pub use Rattle.cap_codec.specs.declared.read.Contents.{Contents}
pub use Rattle.cap_codec.specs.declared.read.Contents.TheVariants.{Changes, Patches}
pub use Rattle.cap_codec.specs.declared.scan.Kind.{Kind}
pub use Rattle.cap_field.proofs.Binds.{bind_ok, check_ok, ok_is, err_is, chosen}
pub use Rattle.cap_field.proofs.FieldAgain.{varint_again, bytes_again, sized_again, text_again}
pub use Rattle.cap_field.proofs.Spelled.{AreLow, low_behind, varint_spelled, bytes_spelled, are_low, low_front, sized_spelled}
unfoldable pub use Rattle.cap_field.specs.FieldReading.{sized_at, text_at}
unfoldable pub use Rattle.cap_field.specs.Reading.{varint_at}
pub use Rattle.cap_field.specs.Reading.{fault, place, ◌>>=◌, byte_at, bytes_at, varint_from}
unfoldable pub use Rattle.cap_field.specs.Varint.{varint_bytes}
pub use Rattle.cap_field.specs.declared.fault.BlobFault.{BlobFault}
pub use Rattle.cap_field.specs.declared.fault.FaultKind.{FaultKind}
pub use Rattle.cap_field.specs.declared.fault.FaultKind.TheVariants.{BadName, Truncated, BadHeader, BadVarint, BadField, Real, BadText, BadRecord}
pub use Rattle.cap_row.specs.Schema.{has_key, is_schema}
pub use Rattle.cap_value.specs.Bytes.{is_name, AreBytes}
pub use Rattle.cap_value.specs.Memory.{RefusesUnlessMemory, AnswersUnlessMemory}
pub use Rattle.cap_value.specs.declared.memory.Fault.{Fault}
pub use Rattle.cap_value.specs.declared.memory.Fault.TheVariants.{Refused, OutOfMemory}
