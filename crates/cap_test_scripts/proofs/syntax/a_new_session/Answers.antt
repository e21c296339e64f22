use Rattle.std.specs.Prelude.{codes}
use Rattle.cap_test_scripts.proofs.SyntaxLemmas.{new_session}
use Rattle.cap_test_scripts.proofs.syntax.a_new_session.Goals as goal

pub returns : goal.returns
returns g c = c.a_line_without_fault.ensures.spelled (codes "session") (new_session g.row.A.Denot)
