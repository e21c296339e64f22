-- The reply to a line of a workload as JSON (RFC 8259): an object on a line.
use Rattle.std.specs.Prelude.{ℕ, Bool, Option, Some, None, Result, Ok, Err, List, [], ◌∷◌, ◌++◌, codes, decimal, map}
use Rattle.std.specs.List.{flat_map}
use Rattle.std.specs.Option.{option_map}
use Rattle.hex.specs.Hex.{encode_lower}
use Rattle.json.specs.Print.{print}
use Rattle.json.specs.Token.{Token}
use Rattle.json.specs.Token as token
use Rattle.cap_value.specs.declared.refusal.Refusal.{Refusal}
use Rattle.cap_value.specs.declared.refusal.Refusal.TheVariants.{Stale}
use Rattle.cap_row.specs.Fields.{Fields}
use Rattle.cap_table.specs.declared.row_ref.RowRef.{RowRef}
use Rattle.cap_table.specs.declared.row_ref.RowRef.TheVariants.{Key, Loose}
use Rattle.cap_database.specs.Snapshot.{SnapshotState}
use Rattle.cap_database.specs.Read.{read, rows_of}
use Rattle.cap_changes.specs.Patch.{patch_list_of}
use Rattle.cap_codec.specs.Changeset.{list_bytes_with}
use Rattle.cap_codec.specs.Patchset.{patch_list_bytes_with}
use Rattle.cap_codec.specs.declared.key_flags.KeyFlags.TheVariants.{Ones}
use Rattle.cap_codec.specs.declared.read.Contents.{Contents}
use Rattle.cap_codec.specs.declared.read.Contents.TheVariants.{Changes, Patches}
use Rattle.cap_applier.specs.Chosen.{in_blob}
use Rattle.cap_apply.specs.Report.{ReportState}
use Rattle.cap_apply.specs.declared.conflict.Conflict.{Conflict}
use Rattle.cap_dump.specs.Dump.{dump_bytes}
use Rattle.cap_rebase.specs.Buffer.{buffer_of}
use Rattle.cap_core.specs.Capture.{CaptureState}
use Rattle.cap_core.specs.declared.command.Command.{Command}
use Rattle.cap_core.specs.declared.command.Command.TheVariants as command
use Rattle.cap_core.specs.declared.listed_session.ListedSession.{ListedSession}
use Rattle.cap_core.specs.declared.listed_table.ListedTable.{ListedTable}
use Rattle.cap_core.specs.declared.reply.Reply.{Reply}
use Rattle.cap_core.specs.declared.reply.Reply.TheVariants.{Done, Written, Applied, Session, Snapshot, Flag}
use Rattle.cap_core.specs.declared.reply.Reply.TheVariants.{Capture, Databases, Dump, Refused, Sessions}
use Rattle.cap_core.specs.declared.reply.Reply.TheVariants.{Tables}
use Rattle.cap_script.specs.ListText.{columns_text}
use Rattle.cap_script.specs.RefusalText.{refusal_name}
use Rattle.cap_script.specs.ReplyText.{place_in}
use Rattle.cap_script.specs.Words.{answer_word, kind_word}
use Rattle.cap_script.specs.declared.line.Detail.TheVariants as detail
use Rattle.cap_script.specs.declared.line.Line.{Line}
use Rattle.cap_script.specs.declared.line.Show.{Show}
use Rattle.cap_script.specs.declared.line.Show.TheVariants.{Accepted, Buffer, Changeset, Decided, Get}
use Rattle.cap_script.specs.declared.line.Show.TheVariants.{Patchset, Scan, Step}
use Rattle.cap_show.specs.Json.{text_member, value}

-- ---- members

-- a member that is a number
unfoldable pub number_member : List ℕ → ℕ → List Token
number_member name number = token.key name ∷ token.number (decimal number) ∷ []

-- the same, where there is a number
abbrev pub optional_member : List ℕ → Option ℕ → List Token
optional_member name None = []
optional_member name (Some number) = number_member name number

-- a member that is an array of numbers
unfoldable pub numbers_member : List ℕ → List ℕ → List Token
numbers_member name numbers =
    token.key name ∷ token.begin_array
    ∷ (map (λ number. token.number (decimal number)) numbers ++ token.end_array ∷ [])

-- a member that is an array of texts
unfoldable pub texts_member : List ℕ → List (List ℕ) → List Token
texts_member name texts =
    token.key name ∷ token.begin_array ∷ (map (λ text. token.string text) texts ++ token.end_array ∷ [])

-- a member that is true or false
unfoldable pub flag_member : List ℕ → Bool → List Token
flag_member name flag = token.key name ∷ token.boolean flag ∷ []

-- which reply it is
abbrev pub kind : List ℕ → List Token
kind word = text_member (codes "reply") word

-- which reply it is, and the version of the tables
abbrev pub kind_at : List ℕ → ℕ → List Token
kind_at word version = kind word ++ number_member (codes "version") version

-- hex digits of a blob
abbrev pub blob_reply : List ℕ → ℕ → List ℕ → List Token
blob_reply word version bytes = kind_at word version ++ text_member word (encode_lower bytes)

-- the number of the line in its text, and the number after its `@`, where it has one
abbrev pub line_members : ℕ → Option ℕ → List Token
line_members number worker =
    number_member (codes "line") number ++ optional_member (codes "worker") worker

-- ---- refusals

-- the version that a stale batch was made on, the present version, and the item that has changed
abbrev pub stale_members : Refusal → List Token
stale_members (Stale base now item) =
    number_member (codes "base") base ++ (number_member (codes "now") now
    ++ optional_member (codes "item") item)
stale_members why = []

-- the index of the refused operation or change, where there is one, and the rule's number and name
abbrev pub refused : Option ℕ → Refusal → List Token
refused at why =
    kind (codes "refused") ++ (optional_member (codes "at") at
    ++ (text_member (codes "refusal") (refusal_name why) ++ stale_members why))

-- a refusal that has a number and a name alone
abbrev pub named_refusal : List ℕ → List Token
named_refusal name = kind (codes "refused") ++ text_member (codes "refusal") name

-- ---- applied blobs

-- the change that had a conflict, the conflict's kind, and the answer to it
unfoldable pub conflict : Conflict → List Token
conflict c =
    token.begin_object ∷ (number_member (codes "change") c.change
    ++ (text_member (codes "kind") (kind_word c.kind)
    ++ (text_member (codes "answer") (answer_word c.answer) ++ token.end_object ∷ [])))

unfoldable pub conflicts_member : List Conflict → List Token
conflicts_member conflicts =
    token.key (codes "conflicts") ∷ token.begin_array ∷ (flat_map conflict conflicts ++ token.end_array ∷ [])

-- how many changes were made, the conflicts, the omitted changes and the skipped groups
abbrev pub report : ReportState → List Token
report r =
    number_member (codes "applied") r.applied ++ (conflicts_member r.conflicts
    ++ (numbers_member (codes "omitted") r.omitted ++ numbers_member (codes "skipped") r.skipped))

module _ {A : Type 0} where
  -- what a filter accepts of a blob has its numbers in the blob
  abbrev pub report_in : Show A → ReportState → ReportState
  report_in (Accepted detail numbering) r = in_blob numbering r
  report_in show r = r

  -- how many groups were passed over, where there is a filter
  abbrev pub passed_member : Show A → List Token
  passed_member (Accepted detail numbering) = number_member (codes "passed") numbering.passed.groups
  passed_member show = []

  -- the version that was made, and what an application that was committed so did
  abbrev pub written : Show A → ℕ → List Token
  written (Decided r passed) version =
      kind_at (codes "applied") version ++ (report r ++ optional_member (codes "passed") passed)
  written show version = kind_at (codes "written") version

  -- the hex digits of the buffer of an application; a patchset has none
  abbrev pub buffer : Contents A → List Conflict → List Token
  buffer (Changes list) conflicts =
      token.string (encode_lower (list_bytes_with Ones (buffer_of list conflicts))) ∷ []
  buffer (Patches list) conflicts = token.null ∷ []

  -- the buffer of the command, an apply
  abbrev pub asked_buffer : Command A → List Conflict → List Token
  asked_buffer (command.Apply contents policy quiet) conflicts =
      token.key (codes "buffer") ∷ buffer contents conflicts
  asked_buffer asked conflicts = []

  -- the same, where the line asks for it
  abbrev pub buffer_member : Show A → Command A → List Conflict → List Token
  buffer_member Buffer asked conflicts = asked_buffer asked conflicts
  buffer_member (Accepted detail.Buffer numbering) asked conflicts = asked_buffer asked conflicts
  buffer_member show asked conflicts = []

  -- ---- rows

  -- the values of a row
  unfoldable pub row : Fields A → List Token
  row fields = token.begin_array ∷ (flat_map value fields ++ token.end_array ∷ [])

  -- a row without a key has its id
  abbrev pub id_member : RowRef A → List Token
  id_member (Key key) = []
  id_member (Loose id) = number_member (codes "id") id

  unfoldable pub named_row : RowRef A × Fields A → List Token
  named_row named =
      token.begin_object ∷ (id_member named.0 ++ token.key (codes "row") ∷ (row named.1 ++ token.end_object ∷ []))

  unfoldable pub rows_member : List (RowRef A × Fields A) → List Token
  rows_member rows =
      token.key (codes "rows") ∷ token.begin_array ∷ (flat_map named_row rows ++ token.end_array ∷ [])

  -- a row, or null where there is none
  abbrev pub found : Option (Fields A) → List Token
  found (Some fields) = row fields
  found None = token.null ∷ []

  -- the row that is asked for
  abbrev pub get_reply : ℕ → Result (Option (Fields A)) Refusal → List Token
  get_reply version (Ok fields) = kind_at (codes "row") version ++ token.key (codes "row") ∷ found fields
  get_reply version (Err why) = refused None why

  -- all rows of a table
  abbrev pub scan_reply : ℕ → Result (List (RowRef A × Fields A)) Refusal → List Token
  scan_reply version (Ok rows) = kind_at (codes "rows") version ++ rows_member rows
  scan_reply version (Err why) = refused None why

  -- A step of a transaction reads a snapshot where no transaction is open.
  abbrev pub snapshot_reply : Show A → SnapshotState A → List Token
  snapshot_reply (Get table name) s = get_reply s.version (read s.database table name)
  snapshot_reply (Scan table) s = scan_reply s.version (rows_of s.database table)
  snapshot_reply (Step step) s = named_refusal (codes "E21 NoTransaction")
  snapshot_reply show s = kind (codes "done")

  -- ---- captures

  abbrev pub capture_reply : Show A → CaptureState A → List Token
  capture_reply (Changeset flags) c =
      blob_reply (codes "changeset") c.version (list_bytes_with flags c.changes)
  capture_reply (Patchset flags) c =
      blob_reply (codes "patchset") c.version (patch_list_bytes_with flags (patch_list_of c.changes))
  capture_reply show c = kind (codes "done")

  -- a dump, with the version of the tables
  abbrev pub dump_reply : Show A → SnapshotState A → List Token
  dump_reply (Changeset flags) s =
      blob_reply (codes "changeset") s.version (dump_bytes flags s.database)
  dump_reply show s = kind (codes "done")

  -- ---- what is listed

  -- a session's number, its flags, whether it is empty, and its attached tables
  unfoldable pub session : ListedSession A → List Token
  session s =
      token.begin_object ∷ (number_member (codes "session") s.number
      ++ (flag_member (codes "enabled") s.enabled
      ++ (flag_member (codes "indirect") s.indirect
      ++ (flag_member (codes "empty") s.is_empty
      ++ (texts_member (codes "tables") s.attached ++ token.end_object ∷ [])))))

  unfoldable pub sessions_member : List (ListedSession A) → List Token
  sessions_member sessions =
      token.key (codes "sessions") ∷ token.begin_array
      ∷ (flat_map session sessions ++ token.end_array ∷ [])

  -- a table's name, its columns as `create` reads them, and how many rows it has with a key and without one
  unfoldable pub table : ListedTable A → List Token
  table t =
      token.begin_object ∷ (text_member (codes "table") t.name
      ++ (text_member (codes "columns") (columns_text t.schema)
      ++ (number_member (codes "keyed") t.keyed
      ++ (number_member (codes "loose") t.loose ++ token.end_object ∷ []))))

  unfoldable pub tables_member : List (ListedTable A) → List Token
  tables_member tables =
      token.key (codes "tables") ∷ token.begin_array ∷ (flat_map table tables ++ token.end_array ∷ [])

  -- ---- the object

  -- which reply it is, and what it has
  abbrev pub reply_members : Line A → Reply A → List Token
  reply_members line Done = kind (codes "done")
  reply_members line (Written version) = written line.show version
  reply_members line (Applied version r) =
      kind_at (codes "applied") version ++ (report (report_in line.show r)
      ++ (passed_member line.show ++ buffer_member line.show line.command r.conflicts))
  reply_members line (Session number) =
      kind (codes "session") ++ number_member (codes "session") number
  reply_members line (Databases names) =
      kind (codes "databases") ++ texts_member (codes "databases") names
  reply_members line (Sessions sessions) = kind (codes "sessions") ++ sessions_member sessions
  reply_members line (Tables tables) = kind (codes "tables") ++ tables_member tables
  reply_members line (Snapshot snapshot) = snapshot_reply line.show snapshot
  reply_members line (Flag flag) = kind (codes "flag") ++ flag_member (codes "flag") flag
  reply_members line (Capture capture) = capture_reply line.show capture
  reply_members line (Dump snapshot) = dump_reply line.show snapshot
  reply_members line (Refused at why) = refused (option_map (place_in line.show) at) why

  -- the reply to the line with this number
  unfoldable pub reply_json : ℕ → Line A → Reply A → List ℕ
  reply_json number line reply =
      print (token.begin_object
      ∷ (line_members number line.worker ++ (reply_members line reply ++ token.end_object ∷ [])))
