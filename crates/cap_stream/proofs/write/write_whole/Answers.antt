use Rattle.std.proofs.Common.{arith}
use Rattle.std.proofs.lemmas.List.{take_rest}
use Rattle.cap_stream.proofs.CallLemmas.{one_call, write_went, writes_more}
use Rattle.cap_stream.proofs.write.write_whole.Goals as goal

pub loop-preserved : goal.loop-preserved
loop-preserved g c = record {
  written = rw (take_rest c.loop.rest.now c.in-Ok.count) (writes_more _ _ _ c.args.bytes.now c.loop.rest.now c.in-Ok.count c.loop.invariant.written c.in-Ok.ensures.bytes);
  went = one_call g.W.Sink.went g.W.Sink.failed c.loop.counter c.args.writer.now c.loop.writer c.write_some.new.self c.loop.invariant.went
      (write_went g.W.Sink.went g.W.Sink.failed c.in-Ok.count c.loop.writer c.write_some.new.self (λ e. omega arith) c.in-Ok.ensures.reported);
}
