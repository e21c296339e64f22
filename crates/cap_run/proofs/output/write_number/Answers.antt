use Rattle.std.proofs.Common.{List, ℕ, ◌++◌, ◌∙◌, refl, subst}
use Rattle.cap_run.proofs.OutputLemmas.{fault_later, write_fault}
use Rattle.cap_stream.proofs.CallLemmas.{went_on}
use Rattle.cap_run.proofs.RunLemmas.{front_more, front_sooner}
use Rattle.cap_stream.specs.Writing.{AppendsFront}
use Rattle.cap_run.specs.declared.fault.RunFault.TheVariants.{Write}
use Rattle.cap_run.proofs.output.write_number.Goals as goal

-- the words and the number were written, and nothing behind them
pub returns-in-Err-write_whole-clause-err : goal.returns-in-Err-write_whole-clause-err
returns-in-Err-write_whole-clause-err g c =
    let text = c.as_bytes.ensures.value ∙ c.format.ensures.text in (
      refl,
      subst (λ (digits : List ℕ). AppendsFront (g.W.Sink.contents c.args.writer.now) (g.W.Sink.contents c.write_whole.new.writer) ((c.args.before.now ++ digits) ++ c.args.after.now)) text
          (front_more _ _ _ (c.args.before.now ++ c.as_bytes.result.now) c.args.after.now c.in_default.ensures.ok c.in-Err-write_whole.ensures.err.1),
    )

-- a beginning of the words and the number was written
pub returns-in-Err-clause-err : goal.returns-in-Err-clause-err
returns-in-Err-clause-err g c =
    let text = c.as_bytes.ensures.value ∙ c.format.ensures.text in (
      refl,
      subst (λ (digits : List ℕ). AppendsFront (g.W.Sink.contents c.args.writer.now) (g.W.Sink.contents c.write_both.new.writer) ((c.args.before.now ++ digits) ++ c.args.after.now)) text
          (front_sooner _ _ (c.args.before.now ++ c.as_bytes.result.now) c.args.after.now c.in-Err.ensures.err.1),
    )

pub returns-in-Err-write_whole-clause-write_reported : goal.returns-in-Err-write_whole-clause-write_reported
returns-in-Err-write_whole-clause-write_reported g c =
    fault_later g.W.Sink.went g.W.Sink.failed Write c.args.writer.now c.write_both.new.writer c.write_whole.new.writer c.in_default.ensures.write_reported
    (write_fault g.W.Sink.went g.W.Sink.failed c.in-Err-write_whole.field-0 c.write_both.new.writer c.write_whole.new.writer c.in-Err-write_whole.ensures.err.0 c.in-Err-write_whole.ensures.write_reported)

pub returns-in-Err-clause-write_reported : goal.returns-in-Err-clause-write_reported
returns-in-Err-clause-write_reported g c =
    write_fault g.W.Sink.went g.W.Sink.failed c.in-Err.field-0 c.args.writer.now c.write_both.new.writer c.in-Err.ensures.err.0 c.in-Err.ensures.write_reported

pub returns-clause-write_reported : goal.returns-clause-write_reported
returns-clause-write_reported g c =
    went_on g.W.Sink.went g.W.Sink.failed c.args.writer.now c.write_both.new.writer c.write_whole.new.writer c.in_default.ensures.write_reported c.in_default-write_whole.ensures.write_reported
