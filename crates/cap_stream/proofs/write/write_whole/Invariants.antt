use Rattle.std.proofs.Common.{◌≡◌, ◌++◌, List, ℕ}
use Rattle.std.specs.Io.KnownBytes.{Appends}
use Rattle.cap_stream.specs.StreamCalls.{Calls}
use Rattle.cap_stream.proofs.write.write_whole.Given as goal

abbrev pub invariant-loop : goal.invariant-loop
invariant-loop g l = record {
  written : (front : List ℕ) × (l.bytes ≡ front ++ l.rest) × Appends (g.W.Sink.contents l.initial.writer) (g.W.Sink.contents l.writer) front;
  went : Calls g.W.Sink.went l.counter l.initial.writer l.writer;
}
