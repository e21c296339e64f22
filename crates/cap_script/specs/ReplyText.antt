-- The text of a reply, as it is printed.
use Rattle.std.specs.Prelude.{ℕ, Bool, List, [], ◌∷◌, ◌++◌, Option, Some, None, codes, decimal, length}
use Rattle.std.specs.List.{flat_map}
use Rattle.hex.specs.Hex.{encode_lower}
use Rattle.cap_changes.specs.Group.{TableChanges}
use Rattle.cap_changes.specs.Patch.{patch_list_of}
use Rattle.cap_codec.specs.Changeset.{list_bytes_with}
use Rattle.cap_codec.specs.Patchset.{patch_list_bytes_with}
use Rattle.cap_codec.specs.declared.key_flags.KeyFlags.TheVariants.{Ones}
use Rattle.cap_codec.specs.declared.read.Contents.{Contents}
use Rattle.cap_codec.specs.declared.read.Contents.TheVariants.{Changes, Patches}
use Rattle.cap_apply.specs.Report.{ReportState}
use Rattle.cap_apply.specs.declared.conflict.Conflict.{Conflict}
use Rattle.cap_applier.specs.Chosen.{in_blob, number_in_blob}
use Rattle.cap_applier.specs.Numbering.{NumberingState}
use Rattle.cap_database.specs.Tables.{Tables}
use Rattle.cap_dump.specs.Dump.{dump_bytes}
use Rattle.cap_rebase.specs.Buffer.{buffer_of}
use Rattle.cap_core.specs.declared.command.Command.{Command}
use Rattle.cap_core.specs.declared.command.Command.TheVariants as command
use Rattle.cap_core.specs.declared.session_command.SessionCommand.TheVariants.{IsEmpty}
use Rattle.cap_core.specs.declared.reply.Reply.{Reply}
use Rattle.cap_core.specs.declared.reply.Reply.TheVariants.{Done, Written, Applied, Session, Snapshot, Flag}
use Rattle.cap_core.specs.declared.reply.Reply.TheVariants.{Capture, Databases, Dump, Refused, Sessions}
use Rattle.cap_core.specs.declared.reply.Reply.TheVariants.{Tables as TablesListed}
use Rattle.cap_script.specs.ListText.{databases_text, on_word, sessions_text, tables_text, true_word}
use Rattle.cap_script.specs.RefusalText.{refusal_text}
use Rattle.cap_script.specs.RowText.{snapshot_text}
use Rattle.cap_script.specs.Words.{answer_word, kind_word}
use Rattle.cap_script.specs.declared.line.Detail.{Detail}
use Rattle.cap_script.specs.declared.line.Detail.TheVariants as detail
use Rattle.cap_script.specs.declared.line.Line.{Line}
use Rattle.cap_script.specs.declared.line.Show.{Show}
use Rattle.cap_script.specs.declared.line.Show.TheVariants.{Accepted, Buffer, Changeset, Decided, Patchset}
use Rattle.cap_script.specs.declared.line.Show.TheVariants.{Report}

-- lower case hex digits, or `-` where there are no bytes
abbrev pub hex_or_dash : List ℕ → List ℕ
hex_or_dash [] = codes "-"
hex_or_dash (byte ∷ bytes) = encode_lower (byte ∷ bytes)

-- the version that was made, and how many changes were made and omitted, and how many groups were skipped
abbrev pub applied_text : ℕ → ReportState → List ℕ
applied_text version report =
    codes "ok version " ++ (decimal version
    ++ (codes ", applied " ++ (decimal report.applied
    ++ (codes ", omitted " ++ (decimal (length report.omitted)
    ++ (codes ", skipped " ++ decimal (length report.skipped)))))))

-- the same, and how many groups were passed over, since a filter does not accept their tables
abbrev pub accepted_text : ℕ → ℕ → ReportState → List ℕ
accepted_text version groups report =
    applied_text version report ++ (codes ", passed " ++ decimal groups)

-- the same of an application that stopped at each conflict, which may have a filter
abbrev pub decided_text : ℕ → Option ℕ → ReportState → List ℕ
decided_text version None report = applied_text version report
decided_text version (Some groups) report = accepted_text version groups report

-- the change that had a conflict, the conflict's kind, and the answer to it
abbrev pub conflict_text : Conflict → List ℕ
conflict_text conflict =
    10 ∷ (codes "conflict " ++ (decimal conflict.change
    ++ (codes " " ++ (kind_word conflict.kind ++ (codes " " ++ answer_word conflict.answer)))))

-- what became of a change or a group, and its number
abbrev pub number_text : List ℕ → ℕ → List ℕ
number_text word number = 10 ∷ (word ++ (codes " " ++ decimal number))

-- the conflicts, the omitted changes and the skipped groups, each on a line of its own, after the line before
abbrev pub report_text : ReportState → List ℕ
report_text report =
    flat_map conflict_text report.conflicts
    ++ (flat_map (number_text (codes "omitted")) report.omitted
    ++ flat_map (number_text (codes "skipped")) report.skipped)

module _ {A : Type 0} where
  -- the changes of a changeset that met a conflict, each with its answer. A patchset has no buffer.
  abbrev pub buffer_digits : Contents A → List Conflict → List ℕ
  buffer_digits (Changes list) conflicts = hex_or_dash (list_bytes_with Ones (buffer_of list conflicts))
  buffer_digits (Patches list) conflicts = codes "none"

  -- the buffer of the application of a blob, on a line of its own, after the line before
  abbrev pub buffer_text : Command A → List Conflict → List ℕ
  buffer_text (command.Apply contents policy quiet) conflicts =
      10 ∷ (codes "buffer " ++ buffer_digits contents conflicts)
  buffer_text _ conflicts = []

  -- The outcome of the command, an apply to the tables that a filter accepts. Its report has the numbers in
  -- the whole blob, its buffer is of what was applied.
  abbrev pub accepted_detail : Detail → NumberingState → Command A → ReportState → List ℕ
  accepted_detail detail.Counts numbering asked report = []
  accepted_detail detail.Report numbering asked report = report_text (in_blob numbering report)
  accepted_detail detail.Buffer numbering asked report = buffer_text asked report.conflicts

  abbrev pub accepted_shown : Detail → NumberingState → Command A → ℕ → ReportState → List ℕ
  accepted_shown detail numbering asked version report =
      accepted_text version numbering.passed.groups report ++ accepted_detail detail numbering asked report

  -- the outcome of the command, an apply
  abbrev pub applied_shown : Show A → Command A → ℕ → ReportState → List ℕ
  applied_shown Report asked version report = applied_text version report ++ report_text report
  applied_shown Buffer asked version report =
      applied_text version report ++ buffer_text asked report.conflicts
  applied_shown (Accepted detail numbering) asked version report =
      accepted_shown detail numbering asked version report
  applied_shown _ asked version report = applied_text version report

  -- the number of a refused operation or change; of what a filter accepts of a blob, its number in the blob
  abbrev pub place_in : Show A → ℕ → ℕ
  place_in (Accepted detail numbering) place = number_in_blob numbering.changes place
  place_in show place = place

  -- the version that was made, and what an application that was committed so did
  abbrev pub written_text : Show A → ℕ → List ℕ
  written_text (Decided report passed) version = decided_text version passed report
  written_text show version = codes "ok version " ++ decimal version

  -- whether a session is empty is true or false, and a flag is on or off
  abbrev pub flag_text : Command A → Bool → List ℕ
  flag_text (command.Session session IsEmpty) flag = true_word flag
  flag_text _ flag = on_word flag

  -- the text of a capture
  abbrev pub capture_text : Show A → List (TableChanges A) → List ℕ
  capture_text (Changeset flags) changes = codes "changeset " ++ hex_or_dash (list_bytes_with flags changes)
  capture_text (Patchset flags) changes =
      codes "patchset " ++ hex_or_dash (patch_list_bytes_with flags (patch_list_of changes))
  capture_text _ changes = codes "ok"

  -- the text of a dump
  abbrev pub dump_text : Show A → Tables A → List ℕ
  dump_text (Changeset flags) tables = codes "changeset " ++ hex_or_dash (dump_bytes flags tables)
  dump_text _ tables = codes "ok"

  -- the text of the reply to a line's command
  unfoldable pub reply_text : Line A → Reply A → List ℕ
  reply_text line Done = codes "ok"
  reply_text line (Written version) = written_text line.show version
  reply_text line (Applied version report) = applied_shown line.show line.command version report
  reply_text line (Session number) = codes "session " ++ decimal number
  reply_text line (Databases names) = databases_text names
  reply_text line (Sessions sessions) = sessions_text sessions
  reply_text line (TablesListed tables) = tables_text tables
  reply_text line (Snapshot snapshot) = snapshot_text line.show snapshot
  reply_text line (Flag flag) = flag_text line.command flag
  reply_text line (Capture capture) = capture_text line.show capture.changes
  reply_text line (Dump snapshot) = dump_text line.show snapshot.database
  reply_text line (Refused (Some place) why) =
      codes "refused at " ++ (decimal (place_in line.show place) ++ (codes ": " ++ refusal_text why))
  reply_text line (Refused None why) = codes "refused: " ++ refusal_text why
