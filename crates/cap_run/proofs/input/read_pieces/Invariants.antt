use Rattle.std.specs.Io.KnownBytes.{Consumes}
use Rattle.cap_stream.specs.StreamCalls.{Calls}
use Rattle.cap_run.proofs.input.read_pieces.Given as goal

abbrev pub invariant-loop : goal.invariant-loop
invariant-loop g l = record {
  fed : Consumes (g.R.Source.remaining l.initial.reader) (g.R.Source.remaining l.reader) l.pieces;
  went : Calls g.R.Source.gave l.counter l.initial.reader l.reader;
}
