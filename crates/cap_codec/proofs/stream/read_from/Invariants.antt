use Rattle.cap_codec.proofs.Common.{ReadsOn}
use Rattle.cap_codec.proofs.stream.read_from.Given as goal

abbrev pub invariant-loop : goal.invariant-loop
invariant-loop g l = ReadsOn g.row.A.Denot g.R.Source.remaining g.R.Source.gave g.R.Source.failed l.counter l.initial.reader l.reader l.decoder
