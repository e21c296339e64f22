use Rattle.std.proofs.Common.{◌∙◌, Option, refl, string_bytes, subst}
use Rattle.cap_replies.specs.Lines.{TakesFirst}
use Rattle.cap_replies.specs.declared.run_line.RunLine.{RunLine}
use Rattle.cap_run.proofs.NextLemmas.{under_begun, under_end, under_next, under_none, under_refused, under_stuck, under_written}
use Rattle.cap_run.proofs.OutputLemmas.{fault_later}
use Rattle.cap_stream.proofs.CallLemmas.{went_on}
use Rattle.cap_run.proofs.workload.answer_all.Goals as goal

pub loop-line-init : goal.loop-line-init
loop-line-init g c = record {
  seats = c.requires.seats;
  len = refl;
  called = λ spelled is. under_none c.args.shared.now.threads spelled c.args.lines.now (string_bytes c.args.pending.now) _ _ is c.requires.none;
  went = (0, refl);
}

-- the line and those of its block have their replies, and what was long enough was written
pub loop-line-preserved : goal.loop-line-preserved
loop-line-preserved g c = record {
  seats = c.answer_next-called.ensures.seats;
  len = c.answer_next-called.ensures.len ∙ c.loop-line.invariant.len;
  called = λ spelled is.
      let so = c.loop-line.invariant.called spelled is in
      let taken = subst (λ (o : Option (RunLine g.row.A.Denot)). TakesFirst o so.others c.next_line.new.self) c.in-Ok-Some.field-0-is (c.in-Ok-Some.ensures.next so.others so.spelled) in
      let next = under_next c.args.shared.now.threads spelled c.loop-line.lines c.next_line.new.self c.answer_next-called.new.lines (string_bytes c.loop-line.pending) (string_bytes c.answer_next-called.new.pending)
      c.in-Ok-Some.line _ _ _ _ _ _ so taken c.in_default.is c.answer_next-called.ensures.called in
      under_written c.args.shared.now.threads spelled c.answer_next-called.new.lines (string_bytes c.answer_next-called.new.pending) (string_bytes c.write_long.new.pending) _ _ _ _ _ next c.in_default-write_long.ensures.ok;
  went = went_on g.W.Sink.went g.W.Sink.failed c.args.writer.now c.loop-line.writer c.write_long.new.writer c.loop-line.invariant.went c.in_default-write_long.ensures.write_reported;
}

-- all lines were called
pub returns-in-Ok-None-clause-called : goal.returns-in-Ok-None-clause-called
returns-in-Ok-None-clause-called g c = λ spelled is.
    let so = c.loop-line.invariant.called spelled is in
    under_end c.args.shared.now.threads spelled c.loop-line.lines c.next_line.new.self (string_bytes c.loop-line.pending) _ _ _ _ so
    (subst (λ (o : Option (RunLine g.row.A.Denot)). TakesFirst o so.others c.next_line.new.self) c.in-Ok-None.field-0-is (c.in-Ok-None.ensures.next so.others so.spelled))

-- out of memory for the next line
pub returns-in-Err-clause-called : goal.returns-in-Err-clause-called
returns-in-Err-clause-called g c = λ spelled is.
    let so = c.loop-line.invariant.called spelled is in
    under_stuck c.args.shared.now.threads spelled c.loop-line.lines (string_bytes c.loop-line.pending) _ _ _ _ so (c.in-Err.ensures.next so.others so.spelled).0

-- a line has no reply
pub returns-in-Err-outcome-clause-called : goal.returns-in-Err-outcome-clause-called
returns-in-Err-outcome-clause-called g c = λ spelled is.
    let so = c.loop-line.invariant.called spelled is in
    let taken = subst (λ (o : Option (RunLine g.row.A.Denot)). TakesFirst o so.others c.next_line.new.self) c.in-Ok-Some.field-0-is (c.in-Ok-Some.ensures.next so.others so.spelled) in
    under_refused c.args.shared.now.threads c.in-Err-outcome.fault spelled c.loop-line.lines c.next_line.new.self c.answer_next-called.new.lines (string_bytes c.loop-line.pending) (string_bytes c.answer_next-called.new.pending)
    c.in-Ok-Some.line _ _ _ _ _ _ so taken c.in-Err-outcome.is c.answer_next-called.ensures.called

-- the replies were not written, or not all of them
pub returns-in-Err-write_long-clause-called : goal.returns-in-Err-write_long-clause-called
returns-in-Err-write_long-clause-called g c = λ spelled is.
    let so = c.loop-line.invariant.called spelled is in
    let taken = subst (λ (o : Option (RunLine g.row.A.Denot)). TakesFirst o so.others c.next_line.new.self) c.in-Ok-Some.field-0-is (c.in-Ok-Some.ensures.next so.others so.spelled) in
    let next = under_next c.args.shared.now.threads spelled c.loop-line.lines c.next_line.new.self c.answer_next-called.new.lines (string_bytes c.loop-line.pending) (string_bytes c.answer_next-called.new.pending)
    c.in-Ok-Some.line _ _ _ _ _ _ so taken c.in_default.is c.answer_next-called.ensures.called in
    under_begun c.args.shared.now.form c.args.shared.now.threads spelled c.answer_next-called.new.lines (string_bytes c.answer_next-called.new.pending) _ _ _ _ _ next c.in-Err-write_long.ensures.err.1

pub returns-in-Err-write_long-clause-write_reported : goal.returns-in-Err-write_long-clause-write_reported
returns-in-Err-write_long-clause-write_reported g c =
    fault_later g.W.Sink.went g.W.Sink.failed c.in-Err-write_long.fault c.args.writer.now c.loop-line.writer c.write_long.new.writer c.loop-line.invariant.went c.in-Err-write_long.ensures.write_reported

-- the lines behind this one are those that are left
pub answer_next-called-requires-clause-spelled : goal.answer_next-called-requires-clause-spelled
answer_next-called-requires-clause-spelled g c κs within =
    let so = c.loop-line.invariant.called c.requires.spelled.0 c.requires.spelled.1 in
    let taken = subst (λ (o : Option (RunLine g.row.A.Denot)). TakesFirst o so.others c.next_line.new.self) c.in-Ok-Some.field-0-is (c.in-Ok-Some.ensures.next so.others so.spelled) in
    (taken.0, taken.2)
