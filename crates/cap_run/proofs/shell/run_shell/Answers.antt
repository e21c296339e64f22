use Rattle.std.proofs.Common.{◌≡◌, ◌+◌, List, [], Err, false, length, ℕ, ap, arith, refl, rules, subst, sym}
use Rattle.std.specs.Prelude.{string_bytes}
use Rattle.std.specs.Io.KnownBytes.{prepend_known}
use Rattle.cap_locked.specs.declared.fault.CallFault.TheVariants as call
use Rattle.cap_run.specs.BlobList.{HasLines}
use Rattle.cap_run.specs.Code.Unread.{CutsLine}
use Rattle.cap_run.specs.RunFault.{is_read}
use Rattle.cap_interpreter.specs.Lines.{after_lines, begin_course}
use Rattle.cap_run.specs.Shell.{lines_run, outputs}
use Rattle.cap_run.proofs.InputLemmas.{reads_before, reads_passed}
use Rattle.cap_stream.proofs.CallLemmas.{went_on}
use Rattle.cap_run.proofs.ShellLemmas.{at_end, at_fault, at_first, at_line, at_next, at_unread, both_later, failed_reported, first_alone, line_there}
use Rattle.cap_run.proofs.UnreadLemmas.{all_went, counted_none, counted_on, failed_on, lines_nil, lines_one}
use Rattle.cap_run.proofs.shell.run_shell.Goals as goal

pub loop-found-init : goal.loop-found-init
loop-found-init g c =
    let input = g.R.Source.remaining c.args.reader.now in record {
      run = at_first input (prepend_known c.new-unread.result input) c.new-interpreter.result (outputs (g.W.Sink.contents c.args.replies.now) (g.E.Sink.contents c.args.faults.now)) c.new-interpreter.ensures
          (λ others has. lines_nil input others (subst (λ (u : List ℕ). HasLines (prepend_known u input) others) c.new-unread.ensures has));
      went = (0, refl);
      reported = (0, refl);
      counted = counted_none g.R.Source.gave 1099511627776 c.args.reader.now;
      few = omega (arith, ap (λ (l : List ℕ). length l) c.new-unread.ensures);
    }

-- ---- out of memory for a line

pub returns-in-Err-OutOfMemory-clause-read_reported : goal.returns-in-Err-OutOfMemory-clause-read_reported
returns-in-Err-OutOfMemory-clause-read_reported g c =
    let memory = rw c.in-Err-OutOfMemory.field-0-is at c.in-Err-OutOfMemory.ensures.failed in
    reads_passed g.R.Source.gave g.R.Source.failed c.end.result c.args.reader.now c.next_line.new.reader c.end.ensures.no_failed_read
    (all_went g.R.Source.gave 1099511627776 c.next_line.new.reads c.args.reader.now c.next_line.new.reader (counted_on g.R.Source.gave 1099511627776 c.loop-found.reads c.next_line.new.reads c.args.reader.now c.loop-found.reader c.next_line.new.reader c.loop-found.invariant.counted memory.0))

pub returns-in-Err-OutOfMemory-clause-write_reported : goal.returns-in-Err-OutOfMemory-clause-write_reported
returns-in-Err-OutOfMemory-clause-write_reported g c =
    first_alone g.W.Sink.went g.W.Sink.failed g.E.Sink.went g.E.Sink.failed c.end.result c.args.replies.now c.loop-found.replies c.end.new.replies c.args.faults.now c.loop-found.faults
    c.loop-found.invariant.went c.loop-found.invariant.reported c.end.ensures.write_reported

pub returns-in-Err-OutOfMemory-clause-written : goal.returns-in-Err-OutOfMemory-clause-written
returns-in-Err-OutOfMemory-clause-written g c =
    let memory = rw c.in-Err-OutOfMemory.field-0-is at c.in-Err-OutOfMemory.ensures.failed in
    let remaining = g.R.Source.remaining in
    let so = c.loop-found.invariant.run in
    let input = remaining c.args.reader.now in
    let left = prepend_known c.loop-found.unread (remaining c.loop-found.reader) in
    let old = outputs (g.W.Sink.contents c.args.replies.now) (g.E.Sink.contents c.args.faults.now) in
    let here = outputs (g.W.Sink.contents c.loop-found.replies) (g.E.Sink.contents c.loop-found.faults) in
    at_fault input left (remaining c.next_line.new.reader) c.loop-found.interpreter c.loop-found.number old here (g.W.Sink.contents c.end.new.replies) call.OutOfMemory c.end.result so tt (lines_one left memory.1)
    c.end.ensures.ended c.end.ensures.written

-- ---- a read failed

pub returns-in-Err-Failed-clause-read_reported : goal.returns-in-Err-Failed-clause-read_reported
returns-in-Err-Failed-clause-read_reported g c =
    let unread = rw c.in-Err-Failed.field-0-is at c.in-Err-Failed.ensures.failed in
    failed_reported g.R.Source.gave g.R.Source.failed c.args.reader.now c.next_line.new.reader
    (failed_on g.R.Source.gave g.R.Source.failed 1099511627776 c.loop-found.reads c.args.reader.now c.loop-found.reader c.next_line.new.reader c.loop-found.invariant.counted unread.0)

pub returns-in-Err-Failed-clause-written : goal.returns-in-Err-Failed-clause-written
returns-in-Err-Failed-clause-written g c =
    let unread = rw c.in-Err-Failed.field-0-is at c.in-Err-Failed.ensures.failed in
    let remaining = g.R.Source.remaining in
    let so = c.loop-found.invariant.run in
    let input = remaining c.args.reader.now in
    let left = prepend_known c.loop-found.unread (remaining c.loop-found.reader) in
    let old = outputs (g.W.Sink.contents c.args.replies.now) (g.E.Sink.contents c.args.faults.now) in
    let here = outputs (g.W.Sink.contents c.loop-found.replies) (g.E.Sink.contents c.loop-found.faults) in
    at_unread input left (remaining c.next_line.new.reader) c.loop-found.interpreter c.loop-found.number old here so unread.1

-- ---- the end of the input

pub returns-in_default-clause-read_reported : goal.returns-in_default-clause-read_reported
returns-in_default-clause-read_reported g c = (all_went g.R.Source.gave 1099511627776 c.next_line.new.reads c.args.reader.now c.next_line.new.reader (counted_on g.R.Source.gave 1099511627776 c.loop-found.reads c.next_line.new.reads c.args.reader.now c.loop-found.reader c.next_line.new.reader c.loop-found.invariant.counted c.in-Ok.ensures.gave))

pub returns-in_default-clause-written : goal.returns-in_default-clause-written
returns-in_default-clause-written g c =
    let ended = rw c.in_default.is at c.in-Ok.ensures.line in
    let remaining = g.R.Source.remaining in
    let so = c.loop-found.invariant.run in
    let input = remaining c.args.reader.now in
    let left = prepend_known c.loop-found.unread (remaining c.loop-found.reader) in
    let old = outputs (g.W.Sink.contents c.args.replies.now) (g.E.Sink.contents c.args.faults.now) in
    let here = outputs (g.W.Sink.contents c.loop-found.replies) (g.E.Sink.contents c.loop-found.faults) in
    at_end input left c.loop-found.interpreter c.loop-found.number old here so ended

-- ---- a line at which the shell ends

pub returns-in-Err-clause-read_reported : goal.returns-in-Err-clause-read_reported
returns-in-Err-clause-read_reported g c =
    reads_passed g.R.Source.gave g.R.Source.failed c.end-in-Err.result c.args.reader.now c.next_line.new.reader c.end-in-Err.ensures.no_failed_read
    (all_went g.R.Source.gave 1099511627776 c.next_line.new.reads c.args.reader.now c.next_line.new.reader (counted_on g.R.Source.gave 1099511627776 c.loop-found.reads c.next_line.new.reads c.args.reader.now c.loop-found.reader c.next_line.new.reader c.loop-found.invariant.counted c.in-Ok.ensures.gave))

pub returns-in-Err-clause-write_reported : goal.returns-in-Err-clause-write_reported
returns-in-Err-clause-write_reported g c =
    first_alone g.W.Sink.went g.W.Sink.failed g.E.Sink.went g.E.Sink.failed c.end-in-Err.result c.args.replies.now c.loop-found.replies c.end-in-Err.new.replies c.args.faults.now c.loop-found.faults
    c.loop-found.invariant.went c.loop-found.invariant.reported c.end-in-Err.ensures.write_reported

pub returns-in-Err-clause-written : goal.returns-in-Err-clause-written
returns-in-Err-clause-written g c =
    let remaining = g.R.Source.remaining in
    let so = c.loop-found.invariant.run in
    let input = remaining c.args.reader.now in
    let left = prepend_known c.loop-found.unread (remaining c.loop-found.reader) in
    let old = outputs (g.W.Sink.contents c.args.replies.now) (g.E.Sink.contents c.args.faults.now) in
    let here = outputs (g.W.Sink.contents c.loop-found.replies) (g.E.Sink.contents c.loop-found.faults) in
    let rest = prepend_known c.next_line.new.unread (remaining c.next_line.new.reader) in
    let cut = rw c.in-Some.is at c.in-Ok.ensures.line in
    at_fault input left (remaining c.next_line.new.reader) c.loop-found.interpreter c.loop-found.number old here (g.W.Sink.contents c.end-in-Err.new.replies) c.in-Err.fault c.end-in-Err.result so c.in-Err.ensures.ended
    (line_there c.in-Some.line.items left rest cut) c.end-in-Err.ensures.ended c.end-in-Err.ensures.written

-- ---- a write failed

pub returns-in-Err-write_printed-clause-read_reported : goal.returns-in-Err-write_printed-clause-read_reported
returns-in-Err-write_printed-clause-read_reported g c =
    let later : is_read c.in-Err-write_printed.fault ≡ false = ap is_read c.in-Err-write_printed.ensures.err.0 in
    reads_before g.R.Source.gave g.R.Source.failed c.in-Err-write_printed.fault c.args.reader.now c.next_line.new.reader later
    (all_went g.R.Source.gave 1099511627776 c.next_line.new.reads c.args.reader.now c.next_line.new.reader (counted_on g.R.Source.gave 1099511627776 c.loop-found.reads c.next_line.new.reads c.args.reader.now c.loop-found.reader c.next_line.new.reader c.loop-found.invariant.counted c.in-Ok.ensures.gave))

pub returns-in-Err-write_printed-clause-write_reported : goal.returns-in-Err-write_printed-clause-write_reported
returns-in-Err-write_printed-clause-write_reported g c =
    both_later g.W.Sink.went g.W.Sink.failed g.E.Sink.went g.E.Sink.failed (Err c.in-Err-write_printed.fault) c.args.replies.now c.loop-found.replies c.write_printed.new.replies c.args.faults.now c.loop-found.faults c.write_printed.new.faults
    c.loop-found.invariant.went c.loop-found.invariant.reported c.in-Err-write_printed.ensures.write_reported

pub returns-in-Err-write_printed-clause-written : goal.returns-in-Err-write_printed-clause-written
returns-in-Err-write_printed-clause-written g c =
    let remaining = g.R.Source.remaining in
    let so = c.loop-found.invariant.run in
    let input = remaining c.args.reader.now in
    let left = prepend_known c.loop-found.unread (remaining c.loop-found.reader) in
    let old = outputs (g.W.Sink.contents c.args.replies.now) (g.E.Sink.contents c.args.faults.now) in
    let here = outputs (g.W.Sink.contents c.loop-found.replies) (g.E.Sink.contents c.loop-found.faults) in
    let rest = prepend_known c.next_line.new.unread (remaining c.next_line.new.reader) in
    let cut = rw c.in-Some.is at c.in-Ok.ensures.line in
    let text = subst (λ (l : List ℕ). CutsLine l left rest) (sym c.as_slice.ensures.value) cut in
    let answered = c.in-Ok-answer_line.ensures.answered (after_lines begin_course (lines_run so.lines)) so.stands in
    let after = outputs (g.W.Sink.contents c.write_printed.new.replies) (g.E.Sink.contents c.write_printed.new.faults) in
    let err = c.in-Err-write_printed.ensures.err in
    rw err.0 (at_line input left rest (remaining c.next_line.new.reader) c.loop-found.interpreter c.answer_line.new.interpreter c.loop-found.number (c.loop-found.number + 1) old here after c.as_slice.result.now
    (string_bytes c.in-Ok-answer_line.printed.reply) (string_bytes c.in-Ok-answer_line.printed.fault) so text refl answered (err.1, err.2))

-- ---- the next line

pub loop-found-preserved : goal.loop-found-preserved
loop-found-preserved g c =
    let remaining = g.R.Source.remaining in
    let so = c.loop-found.invariant.run in
    let input = remaining c.args.reader.now in
    let left = prepend_known c.loop-found.unread (remaining c.loop-found.reader) in
    let old = outputs (g.W.Sink.contents c.args.replies.now) (g.E.Sink.contents c.args.faults.now) in
    let here = outputs (g.W.Sink.contents c.loop-found.replies) (g.E.Sink.contents c.loop-found.faults) in
    let rest = prepend_known c.next_line.new.unread (remaining c.next_line.new.reader) in
    let cut = rw c.in-Some.is at c.in-Ok.ensures.line in
    let text = subst (λ (l : List ℕ). CutsLine l left rest) (sym c.as_slice.ensures.value) cut in
    let answered = c.in-Ok-answer_line.ensures.answered (after_lines begin_course (lines_run so.lines)) so.stands in
    let after = outputs (g.W.Sink.contents c.write_printed.new.replies) (g.E.Sink.contents c.write_printed.new.faults) in
    let wrote = c.in_default-write_printed.ensures in
    let fewer = rw c.in-Some.is at c.in-Ok.ensures.fewer in record {
      run = at_next input left rest c.loop-found.interpreter c.answer_line.new.interpreter c.loop-found.number (c.loop-found.number + 1) old here after c.as_slice.result.now
          (string_bytes c.in-Ok-answer_line.printed.reply) (string_bytes c.in-Ok-answer_line.printed.fault) so text refl answered wrote.ok;
      went = went_on g.W.Sink.went g.W.Sink.failed c.args.replies.now c.loop-found.replies c.write_printed.new.replies c.loop-found.invariant.went wrote.write_reported.0;
      reported = went_on g.E.Sink.went g.E.Sink.failed c.args.faults.now c.loop-found.faults c.write_printed.new.faults c.loop-found.invariant.reported wrote.write_reported.1;
      counted = counted_on g.R.Source.gave 1099511627776 c.loop-found.reads c.next_line.new.reads c.args.reader.now c.loop-found.reader c.next_line.new.reader c.loop-found.invariant.counted c.in-Ok.ensures.gave;
      few = omega (arith, c.loop-found.invariant.few, fewer);
    }
