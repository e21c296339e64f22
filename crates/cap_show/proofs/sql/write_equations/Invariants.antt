use Rattle.cap_show.specs.Sql.{joined}
use Rattle.cap_show.proofs.TextLemmas.{WrittenSoFar, left_at}
use Rattle.cap_show.proofs.sql.write_equations.Given as goal

abbrev pub invariant-loop-column : goal.invariant-loop-column
invariant-loop-column g l = WrittenSoFar g.W.Write.write_str_gives l.initial.f l.f (left_at l.is_first l.of_key l.column l.flags l.rest) (joined l.of_key l.flags l.fields)
