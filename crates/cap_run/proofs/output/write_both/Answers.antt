use Rattle.std.proofs.Common.{refl}
use Rattle.cap_run.proofs.OutputLemmas.{fault_later, write_fault}
use Rattle.cap_stream.proofs.CallLemmas.{went_on}
use Rattle.cap_run.proofs.RunLemmas.{front_more}
use Rattle.cap_run.specs.declared.fault.RunFault.TheVariants.{Write}
use Rattle.cap_run.proofs.output.write_both.Goals as goal

-- the first bytes were written, and a beginning of the others
pub returns-in-Err-write_whole-clause-err : goal.returns-in-Err-write_whole-clause-err
returns-in-Err-write_whole-clause-err g c = (
  refl,
  front_more _ _ _ c.args.first.now c.args.second.now c.in_default.ensures.ok c.in-Err-write_whole.ensures.err.1,
)

pub returns-in-Err-write_whole-clause-write_reported : goal.returns-in-Err-write_whole-clause-write_reported
returns-in-Err-write_whole-clause-write_reported g c =
    fault_later g.W.Sink.went g.W.Sink.failed Write c.args.writer.now c.write_whole.new.writer c.write_whole-2.new.writer c.in_default.ensures.write_reported
    (write_fault g.W.Sink.went g.W.Sink.failed c.in-Err-write_whole.field-0 c.write_whole.new.writer c.write_whole-2.new.writer c.in-Err-write_whole.ensures.err.0 c.in-Err-write_whole.ensures.write_reported)

pub returns-clause-write_reported : goal.returns-clause-write_reported
returns-clause-write_reported g c =
    went_on g.W.Sink.went g.W.Sink.failed c.args.writer.now c.write_whole.new.writer c.write_whole-2.new.writer c.in_default.ensures.write_reported c.in_default-write_whole.ensures.write_reported
