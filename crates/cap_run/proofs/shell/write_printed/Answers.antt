use Rattle.std.proofs.Common.{rules}
use Rattle.cap_stream.specs.StreamCalls.{AllWent}
use Rattle.cap_run.proofs.ShellLemmas.{then_second}
use Rattle.cap_run.proofs.shell.write_printed.Goals as goal

-- the replies were written
pub returns-clause-write_reported : goal.returns-clause-write_reported
returns-clause-write_reported g c =
    let went : AllWent g.W.Sink.went c.args.replies.now c.write_output.new.writer = search rules in
    then_second g.W.Sink.went g.W.Sink.failed g.E.Sink.went g.E.Sink.failed c.write_output-2.result c.args.replies.now c.write_output.new.writer c.args.faults.now c.write_output-2.new.writer went c.write_output-2.ensures.write_reported
