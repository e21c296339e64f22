use Rattle.std.proofs.Common.{◌≡◌, ◌⊎◌, List, ℕ, IsErrAnd, false, inr, string_bytes, subst, sym}
use Rattle.std.proofs.lemmas.Result.{err_from_is_err_and}
use Rattle.cap_run.specs.declared.fault.RunFault.TheVariants.{NotUtf8}
use Rattle.cap_run.specs.RunFault.{IsNoWorkload, IsOfText, IsUnread, is_script}
use Rattle.cap_script.specs.FirstRefused.{SpellsWithin}
use Rattle.cap_replies.specs.Lines.{LinesLeft, SpellsRun}
use Rattle.cap_run.proofs.HistoryLemmas.{begins_nothing}
use Rattle.cap_run.proofs.InputLemmas.{each_text, fault_of_text, known_text, no_script_fault, no_text_fault, text_known, unread_no_script, unread_of_text, unspelled_early, unspelled_no_workload, reads_passed, reads_unspelled, input_spelled, unread_early}
use Rattle.cap_run.proofs.OutputLemmas.{none_reported}
use Rattle.cap_run.proofs.workload.run_workload.Goals as goal

-- which input is no text
pub returns-clause-not_utf8 : goal.returns-clause-not_utf8
returns-clause-not_utf8 g c =
    text_known (λ given. IsErrAnd c.serve_lines.result (λ fault. (fault ≡ NotUtf8) ⊎ IsUnread fault)) (g.R.Source.remaining c.args.reader.now)
    (string_bytes c.in_ok-text.text) c.as_str.result.now c.as_str.ensures.value c.in_ok-text.ensures.whole c.as_str.utf8

pub returns-in_err-lines-clause-not_utf8 : goal.returns-in_err-lines-clause-not_utf8
returns-in_err-lines-clause-not_utf8 g c =
    text_known (λ given. IsErrAnd c.from_residual-in_err-lines.result (λ fault. (fault ≡ NotUtf8) ⊎ IsUnread fault)) (g.R.Source.remaining c.args.reader.now)
    (string_bytes c.in_ok-text.text) c.as_str.result.now c.as_str.ensures.value c.in_ok-text.ensures.whole c.as_str.utf8

pub returns-clause-only_not_utf8 : goal.returns-clause-only_not_utf8
returns-clause-only_not_utf8 g c = no_text_fault (g.R.Source.remaining c.args.reader.now) c.serve_lines.result c.serve_lines.ensures.status

pub returns-clause-written : goal.returns-clause-written
returns-clause-written g c =
    let spelled = c.in_ok-lines.ensures.spelled in
    c.serve_lines.ensures.written (g.R.Source.remaining c.args.reader.now) spelled.0
    (input_spelled c.args.form spelled.0 (g.R.Source.remaining c.args.reader.now) (string_bytes c.in_ok-text.text) c.as_str.result.now c.as_str.ensures.value c.in_ok-text.ensures.whole spelled.1)
    (subst (λ (l : LinesLeft). SpellsRun spelled.0 l) (sym c.in_ok-lines.ensures.whole) spelled.1)

-- nothing was run
pub returns-in_err-text-clause-written : goal.returns-in_err-text-clause-written
returns-in_err-text-clause-written g c =
    let p = err_from_is_err_and c.from_residual.result c.from_residual.ensures.1 in
    rw (p.1, p.2) (begins_nothing c.args.form g.row.A.Denot c.args.threads (g.R.Source.remaining c.args.reader.now) c.in_err-text.field-0.0 _ (unread_early c.in_err-text.field-0.0 c.in_err-text.ensures.unread))

pub returns-clause-read_reported : goal.returns-clause-read_reported
returns-clause-read_reported g c = reads_passed g.R.Source.gave g.R.Source.failed c.serve_lines.result _ _ c.serve_lines.ensures.no_failed_read c.in_ok-text.ensures.read_reported

pub returns-in_err-lines-clause-read_reported : goal.returns-in_err-lines-clause-read_reported
returns-in_err-lines-clause-read_reported g c =
    let p = err_from_is_err_and c.from_residual-in_err-lines.result c.from_residual-in_err-lines.ensures.1 in
    rw (p.1, p.2) (reads_unspelled g.R.Source.gave g.R.Source.failed c.in_err-lines.field-0.0 _ _ c.in_err-lines.ensures.early c.in_ok-text.ensures.read_reported)

pub returns-in_err-text-clause-read_reported : goal.returns-in_err-text-clause-read_reported
returns-in_err-text-clause-read_reported g c =
    let p = err_from_is_err_and c.from_residual.result c.from_residual.ensures.1 in
    rw (p.1, p.2) c.in_err-text.ensures.read_reported

pub serve_lines-requires-clause-spelled : goal.serve_lines-requires-clause-spelled
serve_lines-requires-clause-spelled g c κs within =
    let spelled = c.in_ok-lines.ensures.spelled in
    (spelled.0, subst (λ (l : LinesLeft). SpellsRun spelled.0 l) (sym c.in_ok-lines.ensures.whole) spelled.1)

-- which texts are refused
pub returns-clause-refused : goal.returns-clause-refused
returns-clause-refused g c = each_text _ (g.R.Source.remaining c.args.reader.now) (λ given. fault_of_text g.row.A.Denot c.serve_lines.result given c.serve_lines.ensures.status)

pub returns-clause-accepted : goal.returns-clause-accepted
returns-clause-accepted g c = each_text _ (g.R.Source.remaining c.args.reader.now) (λ given within. no_script_fault c.serve_lines.result c.serve_lines.ensures.status)

pub returns-clause-no_lines : goal.returns-clause-no_lines
returns-clause-no_lines g c =
    known_text (λ given. ¬ (SpellsWithin g.row.A.Denot given) → IsErrAnd c.serve_lines.result IsNoWorkload) (g.R.Source.remaining c.args.reader.now) (string_bytes c.in_ok-text.text) c.as_str.result.now c.as_str.ensures.value c.in_ok-text.ensures.whole (λ none. absurd (none c.in_ok-lines.ensures.within))

pub returns-in_err-lines-clause-refused : goal.returns-in_err-lines-clause-refused
returns-in_err-lines-clause-refused g c =
    let p = err_from_is_err_and c.from_residual-in_err-lines.result c.from_residual-in_err-lines.ensures.1 in
    rw (p.1, p.2) (known_text (λ given. IsOfText g.row.A.Denot c.in_err-lines.field-0.0 given) (g.R.Source.remaining c.args.reader.now) (string_bytes c.in_ok-text.text) c.as_str.result.now c.as_str.ensures.value c.in_ok-text.ensures.whole c.in_err-lines.ensures.refused)

pub returns-in_err-lines-clause-accepted : goal.returns-in_err-lines-clause-accepted
returns-in_err-lines-clause-accepted g c =
    let p = err_from_is_err_and c.from_residual-in_err-lines.result c.from_residual-in_err-lines.ensures.1 in
    rw (p.1, p.2) (known_text (λ given. SpellsWithin g.row.A.Denot given → is_script c.in_err-lines.field-0.0 ≡ false) (g.R.Source.remaining c.args.reader.now) (string_bytes c.in_ok-text.text) c.as_str.result.now c.as_str.ensures.value c.in_ok-text.ensures.whole c.in_err-lines.ensures.accepted)

pub returns-in_err-lines-clause-no_lines : goal.returns-in_err-lines-clause-no_lines
returns-in_err-lines-clause-no_lines g c =
    let p = err_from_is_err_and c.from_residual-in_err-lines.result c.from_residual-in_err-lines.ensures.1 in
    rw (p.1, p.2) (each_text _ (g.R.Source.remaining c.args.reader.now) (λ given none. unspelled_no_workload c.in_err-lines.field-0.0 c.in_err-lines.ensures.early))

pub returns-in_err-text-clause-refused : goal.returns-in_err-text-clause-refused
returns-in_err-text-clause-refused g c =
    let p = err_from_is_err_and c.from_residual.result c.from_residual.ensures.1 in
    rw (p.1, p.2) (each_text _ (g.R.Source.remaining c.args.reader.now) (λ given. unread_of_text g.row.A.Denot c.in_err-text.field-0.0 given c.in_err-text.ensures.unread))

pub returns-in_err-text-clause-accepted : goal.returns-in_err-text-clause-accepted
returns-in_err-text-clause-accepted g c =
    let p = err_from_is_err_and c.from_residual.result c.from_residual.ensures.1 in
    rw (p.1, p.2) (each_text _ (g.R.Source.remaining c.args.reader.now) (λ given within. unread_no_script c.in_err-text.field-0.0 c.in_err-text.ensures.unread))

pub returns-in_err-text-clause-no_lines : goal.returns-in_err-text-clause-no_lines
returns-in_err-text-clause-no_lines g c =
    let p = err_from_is_err_and c.from_residual.result c.from_residual.ensures.1 in
    rw (p.1, p.2) (each_text _ (g.R.Source.remaining c.args.reader.now) (λ given none. inr c.in_err-text.ensures.unread))

pub returns-in_err-lines-clause-write_reported : goal.returns-in_err-lines-clause-write_reported
returns-in_err-lines-clause-write_reported g c =
    let p = err_from_is_err_and c.from_residual-in_err-lines.result c.from_residual-in_err-lines.ensures.1 in
    rw (p.1, p.2) (none_reported g.W.Sink.went g.W.Sink.failed c.in_err-lines.field-0.0 c.args.writer.now (unspelled_early c.in_err-lines.field-0.0 c.in_err-lines.ensures.early))
