-- The commands can be read on from where they begin.
use Rattle.std.proofs.Common.{◌≡◌, ℕ, Bool, true, false, leb, List, [], ◌∷◌, length, Option, Some, None, Result, Ok, Err, codes, refl}
use Rattle.cap_value.specs.declared.refusal.Refusal.TheVariants.{TooLong, TooMany}
use Rattle.cap_value.specs.declared.value.Value.{Value}
use Rattle.cap_row.specs.Fields.{Fields}
use Rattle.cap_row.specs.Key.{key_from}
use Rattle.cap_row.specs.Schema.{schema_of}
use Rattle.cap_table.specs.declared.row_ref.RowRef.{RowRef}
use Rattle.cap_table.specs.declared.row_ref.RowRef.TheVariants.{Loose}
use Rattle.cap_database.specs.declared.cause.Cause.{Cause}
use Rattle.cap_database.specs.declared.cause.Cause.TheVariants.{Direct, Cascade}
use Rattle.cap_database.specs.declared.op.Action.TheVariants.{Insert, Update, Delete}
use Rattle.cap_database.specs.declared.op.Op.{Op}
use Rattle.cap_codec.specs.BlobReading.{blob_at}
use Rattle.cap_field.specs.declared.fault.BlobFault.{BlobFault}
use Rattle.cap_codec.specs.declared.key_flags.KeyFlags.{KeyFlags}
use Rattle.cap_codec.specs.declared.key_flags.KeyFlags.TheVariants.{Ones, Places}
use Rattle.cap_codec.specs.declared.read.Contents.{Contents}
use Rattle.cap_codec.specs.declared.read.Contents.TheVariants.{Changes}
use Rattle.cap_session.specs.declared.session_change.SessionChange.{SessionChange}
use Rattle.cap_filter.specs.Printed.{quote}
use Rattle.cap_apply.specs.declared.policy.Answer.{Answer}
use Rattle.cap_apply.specs.declared.policy.Answer.TheVariants.{Omit, Replace, Abort}
use Rattle.cap_apply.specs.declared.policy.Policy.{Policy}
use Rattle.cap_txn.specs.declared.answered_call.Asked.TheVariants as asked
use Rattle.cap_core.specs.declared.command.Command.{Command}
use Rattle.cap_core.specs.declared.command.Command.TheVariants as made
use Rattle.cap_core.specs.declared.session_command.SessionCommand.{SessionCommand}
use Rattle.cap_core.specs.declared.session_command.SessionCommand.TheVariants as told
use Rattle.cap_language.specs.Forms.{Words, a_blob, a_word, either, keyword, name, natural, one_of, separated, sign, value, values}
use Rattle.cap_language.specs.Grammar.{Grammar, done, exceeds, follows, next, read, read_at, unfit}
use Rattle.cap_language.specs.Tokens.{Blob, Word}
use Rattle.cap_language.proofs.FormLaws.{eats_keyword, form_keyword, form_name, form_natural, form_value, form_values, goes_44, goes_59}
use Rattle.cap_script.specs.Language.{alone, answer, application, apply_each, apply_quiet, applying, attach, back, batch, called, captured, capturing, cascaded, columns, commands, commit, commit_at, contents, contents_of, create, delete, diff, drop_database, dump, each_conflict, field, fields, filter_behind, flag, flagged, flags_in, from_diff, from_dump, get, insert, key_flags, nth_operation, numbered, numbering, numbers, operation, operations, policy, put, report, rollback, row, row_of, save, scan, schema, session_flag, session_key_flags, setting, spelled_step, update, with_words}
use Rattle.cap_script.specs.declared.command.Spelled.{Spelled}
use Rattle.cap_script.specs.declared.command.Spelled.TheVariants.{Filter, Whole}
use Rattle.cap_script.specs.declared.line.Detail.{Detail}
use Rattle.cap_script.specs.declared.line.Detail.TheVariants.{Buffer, Counts, Report}
use Rattle.cap_script.specs.declared.line.Show.{Show}
use Rattle.cap_script.specs.declared.line.Show.TheVariants as show
use Rattle.cap_script.specs.declared.step.Step.{Step}
use Rattle.cap_script.specs.declared.step.Step.TheVariants as step
use Rattle.cap_language.proofs.OpenGrammars.{AreOpen, Form, Last, blob_token, eats_follows, eats_map, eats_next, finish_full, form_both, form_map, form_next, form_separated, form_sign, kind_done, kind_either, kind_exceeds, kind_no_blob, kind_one_of, kind_unfit, kind_within, last_both, last_end, last_form, last_map, last_next, last_or, open_limit, sample_fits, sample_then, word_token}
use Rattle.cap_language.proofs.OpenLaws.{Nothing, Nothings, Open, OpenKind, Tail, Tails, nothing_tail, nothing_tails, open_done, open_next, same_tail}

-- ---- columns and flags

columns_kind : (flags : Option (List Bool)) → OpenKind Tails (columns flags)
columns_kind None = kind_unfit Tails
columns_kind (Some flags) = kind_within Tails (schema_of flags) flags

form_schema : Form schema
unfolding schema
form_schema =
    form_next a_word (λ w. columns (flags_in w)) (λ w. columns_kind (flags_in w))
    (sample_fits a_word (λ w. columns (flags_in w)) (Word (107 ∷ [])) 107 [] (107 ∷ []) refl refl (word_token 107 [] refl refl refl) refl (true ∷ []) (λ before line. refl))

form_flag : Form flag
unfolding flag
form_flag =
    let words = (codes "on", done (Some true)) ∷ (codes "off", done (Some false)) ∷ (codes "ask", done None) ∷ [] in
    form_next a_word (one_of words) (kind_one_of Tails words (open_done Tails (Some true), (open_done Tails (Some false), (open_done Tails None, tt))))
    (sample_fits a_word (one_of words) (Word (codes "on")) 111 (110 ∷ []) (codes "on") refl refl (word_token 111 (110 ∷ []) refl refl refl) refl (Some true) (λ before line. refl))

form_numbers : Form numbers
unfolding numbers
form_numbers = form_separated 44 goes_44 (λ i. natural) (λ i. let form = form_natural in form.inner) form_natural

form_answer : Form answer
unfolding answer
form_answer =
    let words = (codes "omit", done Omit) ∷ (codes "replace", done Replace) ∷ (codes "abort", done Abort) ∷ [] in
    form_next a_word (one_of words) (kind_one_of Tails words (open_done Tails Omit, (open_done Tails Replace, (open_done Tails Abort, tt))))
    (sample_fits a_word (one_of words) (Word (codes "omit")) 111 (109 ∷ 105 ∷ 116 ∷ []) (codes "omit") refl refl (word_token 111 (109 ∷ 105 ∷ 116 ∷ []) refl refl refl) refl Omit (λ before line. refl))

abbrev policy_of : Answer → Answer → Answer → Policy
policy_of a b c = record { on_data = a; on_notfound = b; on_conflict = c }

form_policy : Form policy
unfolding policy
form_policy =
    form_both answer (λ a. follows answer (λ b. follows answer (λ c. done (policy_of a b c)))) form_answer
    (λ a. form_both answer (λ b. follows answer (λ c. done (policy_of a b c))) form_answer (λ b. form_map answer (policy_of a b) form_answer))

form_places : Form (follows (keyword (codes "places")) (λ u. done Places))
form_places = form_map (keyword (codes "places")) (λ u. Places) (form_keyword 112 (108 ∷ 97 ∷ 99 ∷ 101 ∷ 115 ∷ []) refl refl refl refl refl refl)

last_key_flags : Last Nothings key_flags
unfolding key_flags
last_key_flags = last_end Ones (follows (keyword (codes "places")) (λ u. done Places)) form_places (eats_map (keyword (codes "places")) (λ u. Places) (eats_keyword (codes "places")))

-- ---- what is read of a session

abbrev pair : {X : Type 0} → ℕ → X → ℕ × X
pair session x = (session, x)

form_session_flag : Form session_flag
unfolding session_flag
form_session_flag = form_both natural (λ session. follows flag (λ asked. done (pair session asked))) form_natural (λ session. form_map flag (pair session) form_flag)

last_session_key_flags : Last Nothings session_key_flags
unfolding session_key_flags
last_session_key_flags =
    last_both Nothings nothing_tails natural (λ session. follows key_flags (λ flags. done (pair session flags))) form_natural
    (λ session. last_map Nothings key_flags (pair session) last_key_flags)

-- ---- how an application ends

-- what may follow it: nothing, where no filter does
module _ (T : Detail × Bool → List ℕ → Type 0) (tails : (made : Detail × Bool) (line : List ℕ) → T made line → Tail line) (ended : (detail : Detail) (line : List ℕ) → T (detail, false) line → Nothing line) where
  abbrev filter_word : Detail → Grammar (Detail × Bool)
  filter_word detail = follows (keyword (codes "filter")) (λ u. done (detail, true))

  form_filter_word : (detail : Detail) → Form (filter_word detail)
  form_filter_word detail = form_map (keyword (codes "filter")) (λ u. (detail, true)) (form_keyword 102 (105 ∷ 108 ∷ 116 ∷ 101 ∷ 114 ∷ []) refl refl refl refl refl refl)

  last_filter_behind : (detail : Detail) → Last T (filter_behind detail)
  unfolding filter_behind
  last_filter_behind detail =
      last_or T (detail, false) (ended detail) (filter_word detail) (last_form T tails (filter_word detail) (form_filter_word detail))
      (eats_map (keyword (codes "filter")) (λ u. (detail, true)) (eats_keyword (codes "filter")))

  abbrev report_words : Words (Detail × Bool)
  report_words = (codes "report", filter_behind Report) ∷ (codes "buffer", filter_behind Buffer) ∷ (codes "filter", done (Counts, true)) ∷ []

  last_report_word : Last T (next a_word (one_of report_words))
  last_report_word =
      let a = last_filter_behind Report in
      let b = last_filter_behind Buffer in
      last_next T tails a_word (one_of report_words) (kind_one_of T report_words (a.inner, (b.inner, (open_done T (Counts, true), tt))))
      (sample_fits a_word (one_of report_words) (Word (codes "filter")) 102 (105 ∷ 108 ∷ 116 ∷ 101 ∷ 114 ∷ []) (codes "filter") refl refl (word_token 102 (105 ∷ 108 ∷ 116 ∷ 101 ∷ 114 ∷ []) refl refl refl) refl (Counts, true) (λ before line. refl))

  last_report : Last T report
  unfolding report
  last_report = last_or T (Counts, false) (ended Counts) (next a_word (one_of report_words)) last_report_word (eats_next a_word (one_of report_words))

-- the text of a filter, behind a space
abbrev pub filter_text : List ℕ
filter_text = 32 ∷ codes "all"

abbrev delete_word : List ℕ
delete_word = 101 ∷ 108 ∷ 101 ∷ 116 ∷ 101 ∷ []

module _ {A : Type 0} where
  -- ---- rows and operations

  abbrev key_row : Grammar (RowRef A)
  key_row = follows values (λ fields. done (row_of (key_from fields)))

  abbrev loose_row : Grammar (RowRef A)
  loose_row = follows natural (λ id. done (Loose id))

  form_loose : Form loose_row
  form_loose = form_map natural Loose form_natural

  form_row : Form (row {A = A})
  unfolding row
  form_row =
      let words = (codes "key", key_row) ∷ (codes "loose", loose_row) ∷ [] in
      let key = form_map values (λ (fields : Fields A). row_of (key_from fields)) form_values in
      let loose = form_loose in
      form_next a_word (one_of words) (kind_one_of Tails words (key.inner, (loose.inner, tt)))
      (sample_then a_word (one_of words) (Word (codes "loose")) 108 (111 ∷ 111 ∷ 115 ∷ 101 ∷ []) (codes "loose") refl refl (word_token 108 (111 ∷ 111 ∷ 115 ∷ 101 ∷ []) refl refl refl) refl loose_row (λ before line. refl) loose.sample)

  abbrev set_field : ℕ → Value A → ℕ × Value A
  set_field column value = (column, value)

  form_field : Form (field {A = A})
  unfolding field
  form_field =
      form_both natural (λ column. follows (sign 61) (λ u. follows value (λ v. done (set_field column v)))) form_natural
      (λ column. form_both (sign 61) (λ u. follows value (λ v. done (set_field column v))) (form_sign 61 refl refl) (λ u. form_map value (set_field column) form_value))

  form_fields : Form (fields {A = A})
  unfolding fields
  form_fields =
      form_both (keyword (codes "set")) (λ u. separated 44 (λ i. field)) (form_keyword 115 (101 ∷ 116 ∷ []) refl refl refl refl refl refl)
      (λ u. form_separated 44 goes_44 (λ i. field) (λ i. let form = form_field in form.inner) form_field)

  abbrev inserted : Cause → List ℕ → Fields A → Op A
  inserted cause table row = record { table = table; cause = cause; action = Insert row }

  form_insert : (cause : Cause) → Form (insert {A = A} cause)
  unfolding insert
  form_insert cause = form_both name (λ table. follows values (λ row. done (inserted cause table row))) form_name (λ table. form_map values (inserted cause table) form_values)

  abbrev deleted : Cause → List ℕ → RowRef A → Op A
  deleted cause table row = record { table = table; cause = cause; action = Delete row }

  form_delete : (cause : Cause) → Form (delete {A = A} cause)
  unfolding delete
  form_delete cause = form_both name (λ table. follows row (λ row. done (deleted cause table row))) form_name (λ table. form_map row (deleted cause table) form_row)

  form_update : (cause : Cause) → Form (update {A = A} cause)
  unfolding update
  form_update cause =
      form_both name (λ table. follows row (λ row. follows fields (λ set. done (record { table = table; cause = cause; action = Update row set })))) form_name
      (λ table. form_both row (λ row. follows fields (λ set. done (record { table = table; cause = cause; action = Update row set }))) form_row
      (λ row. form_map fields (λ set. record { table = table; cause = cause; action = Update row set }) form_fields))

  form_cascaded : Form (cascaded {A = A})
  unfolding cascaded
  form_cascaded =
      let words = (codes "insert", insert Cascade) ∷ (codes "update", update Cascade) ∷ (codes "delete", delete Cascade) ∷ [] in
      let a = form_insert Cascade in
      let b = form_update Cascade in
      let d = form_delete Cascade in
      form_next a_word (one_of words) (kind_one_of Tails words (a.inner, (b.inner, (d.inner, tt))))
      (sample_then a_word (one_of words) (Word (codes "delete")) 100 delete_word (codes "delete") refl refl (word_token 100 delete_word refl refl refl) refl (delete Cascade) (λ before line. refl) d.sample)

  form_operation : Form (operation {A = A} false)
  unfolding operation
  form_operation =
      let words = (codes "insert", insert Direct) ∷ (codes "update", update Direct) ∷ (codes "delete", delete Direct) ∷ (codes "cascade", cascaded) ∷ [] in
      let a = form_insert Direct in
      let b = form_update Direct in
      let d = form_delete Direct in
      let c = form_cascaded in
      form_next a_word (one_of words) (kind_one_of Tails words (a.inner, (b.inner, (d.inner, (c.inner, tt)))))
      (sample_then a_word (one_of words) (Word (codes "delete")) 100 delete_word (codes "delete") refl refl (word_token 100 delete_word refl refl refl) refl (delete Direct) (λ before line. refl) d.sample)

  open_full : Open Tails (read (operation {A = A} true))
  unfolding operation
  open_full =
      let words = (codes "insert", exceeds TooMany (insert Direct)) ∷ (codes "update", exceeds TooMany (update Direct)) ∷ (codes "delete", exceeds TooMany (delete Direct)) ∷ (codes "cascade", exceeds TooMany cascaded) ∷ [] in
      let full = open_limit {X = Op A} Tails TooMany in
      open_next Tails same_tail a_word (one_of words) (kind_one_of Tails words (full, (full, (full, (full, tt)))))
      (finish_full a_word (one_of words) (Word (codes "delete")) 100 delete_word (codes "delete") refl refl (word_token 100 delete_word refl refl refl) refl (λ before line. refl))

  open_operation : (is_full : Bool) → Open Tails (read (operation {A = A} is_full))
  open_operation true = open_full
  open_operation false = let form = form_operation in form.inner

  form_operations : Form (operations {A = A})
  unfolding operations
  form_operations = form_separated 59 goes_59 nth_operation (λ i. open_operation (leb 10000 i)) form_operation

  form_batch : (base : Option ℕ) → Form (batch {A = A} base)
  unfolding batch
  form_batch base = form_map operations (λ ops. record { base = base; ops = ops; reads = None }) form_operations

  -- ---- blobs

  blob_kind : (r : Result (Contents A) BlobFault) → OpenKind Tails (contents_of r)
  blob_kind (Ok blob) = kind_done Tails blob
  blob_kind (Err why) = kind_no_blob Tails why

  abbrev of_bytes : List ℕ → Grammar (Contents A)
  of_bytes bytes = either (leb (length bytes) 1000000000) (contents_of (blob_at bytes)) (exceeds TooLong unfit)

  empty_blob : (before line : List ℕ) → read_at true (of_bytes []) before line ≡ Ok (Changes [], line)
  unfolding blob_at
  empty_blob before line = refl

  form_contents : Form (contents {A = A})
  unfolding contents
  form_contents =
      form_next a_blob of_bytes (λ bytes. kind_either Tails (leb (length bytes) 1000000000) (contents_of (blob_at bytes)) (exceeds TooLong unfit) (blob_kind (blob_at bytes)) (kind_exceeds Tails TooLong unfit))
      (sample_fits a_blob of_bytes (Blob []) 120 (quote ∷ (quote ∷ [])) [] refl refl blob_token refl (Changes []) empty_blob)

  -- ---- what may follow a command

  -- nothing behind a whole command, or the text of a filter
  abbrev pub Closing : Spelled A → List ℕ → Type 0
  Closing (Whole command show) line = Nothing line
  Closing (Filter what) line = line ≡ filter_text

  pub closing_tail : (said : Spelled A) (line : List ℕ) → Closing said line → Tail line
  closing_tail (Whole command show) line nil = nothing_tail line nil
  closing_tail (Filter what) line is = rw is (refl, refl)

  -- ---- commands

  closing : (g : Grammar (Spelled A)) → Form g → Open Closing (read g)
  closing g form = let last = last_form Closing closing_tail g form in last.inner

  abbrev plainly : Command A → Spelled A
  plainly command = Whole command show.Plain

  abbrev told_plainly : ℕ → SessionCommand A → Spelled A
  told_plainly session command = plainly (made.Session session command)

  open_create : Open Closing (read (create {A = A}))
  unfolding create
  open_create =
      closing (follows name (λ table. follows schema (λ schema. done (plainly (made.CreateTable table schema)))))
      (form_both name (λ table. follows schema (λ schema. done (plainly (made.CreateTable table schema)))) form_name (λ table. form_map schema (λ schema. plainly (made.CreateTable table schema)) form_schema))

  open_commit : Open Closing (read (commit {A = A}))
  unfolding commit
  open_commit = closing (follows (batch None) (λ batch. done (plainly (made.Commit batch)))) (form_map (batch None) (λ batch. plainly (made.Commit batch)) (form_batch None))

  open_commit_at : Open Closing (read (commit_at {A = A}))
  unfolding commit_at
  open_commit_at =
      closing (follows natural (λ base. follows (batch (Some base)) (λ batch. done (plainly (made.Commit batch)))))
      (form_both natural (λ base. follows (batch (Some base)) (λ batch. done (plainly (made.Commit batch)))) form_natural (λ base. form_map (batch (Some base)) (λ batch. plainly (made.Commit batch)) (form_batch (Some base))))

  last_applying : (quiet : List ℕ) → Last Closing (applying {A = A} quiet)
  unfolding applying
  last_applying quiet =
      last_both Closing closing_tail contents (λ blob. follows policy (λ policy. follows report (λ detail. done (application blob policy quiet detail)))) form_contents
      (λ blob. last_both Closing closing_tail policy (λ policy. follows report (λ detail. done (application blob policy quiet detail))) form_policy
      (λ policy. last_map Closing report (application blob policy quiet)
      (last_report (λ detail. Closing (application blob policy quiet detail)) (λ detail. closing_tail (application blob policy quiet detail)) (λ detail line nil. nil))))

  open_apply : Open Closing (read (applying {A = A} []))
  open_apply = let last = last_applying [] in last.inner

  open_apply_quiet : Open Closing (read (apply_quiet {A = A}))
  unfolding apply_quiet
  open_apply_quiet = let last = last_both Closing closing_tail numbers (λ quiet. applying quiet) form_numbers last_applying in last.inner

  open_apply_each : Open Closing (read (apply_each {A = A}))
  unfolding apply_each
  open_apply_each =
      let last = last_both Closing closing_tail contents (λ blob. follows (filter_behind Counts) (λ behind. done (each_conflict blob behind))) form_contents
      (λ blob. last_map Closing (filter_behind Counts) (each_conflict blob)
      (last_filter_behind (λ behind. Closing (each_conflict blob behind)) (λ behind. closing_tail (each_conflict blob behind)) (λ detail line nil. nil) Counts)) in
      last.inner

  open_get : Open Closing (read (get {A = A}))
  unfolding get
  open_get =
      closing (follows name (λ table. follows row (λ row. done (Whole made.Read (show.Get table row)))))
      (form_both name (λ table. follows row (λ row. done (Whole made.Read (show.Get table row)))) form_name (λ table. form_map row (λ row. Whole made.Read (show.Get table row)) form_row))

  open_scan : Open Closing (read (scan {A = A}))
  unfolding scan
  open_scan = closing (follows name (λ table. done (Whole made.Read (show.Scan table)))) (form_map name (λ table. Whole made.Read (show.Scan table)) form_name)

  open_save : Open Closing (read (save {A = A}))
  unfolding save
  open_save = closing (follows name (λ database. done (plainly (made.SaveAs database)))) (form_map name (λ database. plainly (made.SaveAs database)) form_name)

  open_drop_database : Open Closing (read (drop_database {A = A}))
  unfolding drop_database
  open_drop_database = closing (follows name (λ database. done (plainly (made.DropDatabase database)))) (form_map name (λ database. plainly (made.DropDatabase database)) form_name)

  open_numbered : (f : ℕ → Spelled A) → Open Closing (read (numbering f))
  open_numbered f = closing (numbering f) (form_map natural f form_natural)

  open_attach : Open Closing (read (attach {A = A}))
  unfolding attach
  open_attach =
      closing (follows natural (λ session. follows name (λ table. done (told_plainly session (told.Attach table)))))
      (form_both natural (λ session. follows name (λ table. done (told_plainly session (told.Attach table)))) form_natural (λ session. form_map name (λ table. told_plainly session (told.Attach table)) form_name))

  open_setting : (change_to : Option Bool → SessionChange A) → Open Closing (read (setting change_to))
  open_setting change_to = closing (setting change_to) (form_map session_flag (λ (session, asked). told_plainly session (told.Change (change_to asked))) form_session_flag)

  open_diff : Open Closing (read (diff {A = A}))
  unfolding diff
  open_diff =
      closing (follows natural (λ session. follows name (λ from. follows name (λ table. done (told_plainly session (told.Diff from table))))))
      (form_both natural (λ session. follows name (λ from. follows name (λ table. done (told_plainly session (told.Diff from table))))) form_natural
      (λ session. form_both name (λ from. follows name (λ table. done (told_plainly session (told.Diff from table)))) form_name (λ from. form_map name (λ table. told_plainly session (told.Diff from table)) form_name)))

  open_capturing : (what : SessionCommand A × (KeyFlags → Show A)) → Open Closing (read (capturing what))
  open_capturing (command, shown) =
      let last = last_map Closing session_key_flags (λ (session, flags). Whole (made.Session session command) (shown flags)) last_session_key_flags in last.inner

  open_dump : Open Closing (read (dump {A = A}))
  unfolding dump
  open_dump = let last = last_map Closing key_flags (λ flags. Whole made.Dump (show.Changeset flags)) last_key_flags in last.inner

  -- ---- steps of a transaction

  open_called : (operation : Grammar (Op A)) → Form operation → Open Closing (read (called operation))
  open_called operation form =
      closing (follows operation (λ op. done (spelled_step (step.Call (asked.Op op)))))
      (form_map operation (λ op. spelled_step (step.Call (asked.Op op))) form)

  abbrev back_to : ℕ → Step A
  back_to number = step.Call (asked.BackTo (record { number = number }))

  abbrev to_savepoint : Grammar (Step A)
  to_savepoint = follows (keyword (codes "to")) (λ u. follows natural (λ number. done (back_to number)))

  form_to_savepoint : Form to_savepoint
  form_to_savepoint =
      form_both (keyword (codes "to")) (λ u. follows natural (λ number. done (back_to number))) (form_keyword 116 (111 ∷ []) refl refl refl refl refl refl)
      (λ u. form_map natural back_to form_natural)

  last_back : Last Nothings (back {A = A})
  unfolding back
  last_back =
      last_end step.Rollback to_savepoint form_to_savepoint
      (eats_follows (keyword (codes "to")) (λ u. follows natural (λ number. done (back_to number))) (eats_keyword (codes "to")))

  open_rollback : Open Closing (read (rollback {A = A}))
  unfolding rollback
  open_rollback = let last = last_map Closing back spelled_step last_back in last.inner

  open_put : Open Closing (read (put {A = A}))
  unfolding put
  open_put = closing (follows values (λ row. done (spelled_step (step.Put row)))) (form_map values (λ (row : Fields A). spelled_step (step.Put row)) form_values)

  open_words : {X : Type 0} (grammar : X → Grammar (Spelled A)) → ((x : X) → Open Closing (read (grammar x))) → (words : List (List ℕ × X)) (others : Words (Spelled A)) → AreOpen Closing others → AreOpen Closing (with_words grammar words others)
  open_words grammar opens [] others all = all
  open_words grammar opens ((w, x) ∷ words) others all = (opens x, open_words grammar opens words others all)

  pub open_commands : (w : List ℕ) → OpenKind Closing (one_of (commands {A = A}) w)
  open_commands = kind_one_of Closing commands (
    open_create,
    (
      open_commit,
      (
        open_commit_at,
        (
          open_apply,
          (
            open_apply_quiet,
            (
              open_apply_each,
              (
                open_get,
                (
                  open_scan,
                  (
                    open_save,
                    (
                      open_drop_database,
                      (
                        open_attach,
                        open_words setting open_setting flagged from_diff (
                          open_diff,
                          open_words capturing open_capturing captured from_dump (
                            open_dump,
                            (
                              open_called (insert Direct) (form_insert Direct),
                              (
                                open_called (update Direct) (form_update Direct),
                                (
                                  open_called (delete Direct) (form_delete Direct),
                                  (
                                    open_called cascaded form_cascaded,
                                    (open_rollback, (open_put, open_words numbering open_numbered numbered (with_words done alone []) (open_words done (open_done Closing) alone [] tt))),
                                  ),
                                ),
                              ),
                            ),
                          ),
                        ),
                      ),
                    ),
                  ),
                ),
              ),
            ),
          ),
        ),
      ),
    ),
  )
