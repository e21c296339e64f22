use Rattle.std.proofs.Common.{codes, true}
use Rattle.cap_show.specs.Sql.{literal}
use Rattle.cap_show.proofs.TextLemmas.{WrittenSoFar, defined, joined_left}
use Rattle.cap_show.proofs.sql.write_values.Given as goal

abbrev pub invariant-loop-field : goal.invariant-loop-field
invariant-loop-field g l = WrittenSoFar g.W.Write.write_str_gives l.initial.f l.f (joined_left literal (codes ",") l.is_first (defined l.field-iterator)) (joined_left literal (codes ",") true (defined l.fields))
