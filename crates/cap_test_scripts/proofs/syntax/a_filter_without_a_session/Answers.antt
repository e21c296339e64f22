use Rattle.std.specs.Prelude.{codes}
use Rattle.cap_test_scripts.proofs.SyntaxLemmas.{no_session, no_session_reaches_no_filter}
use Rattle.cap_test_scripts.proofs.syntax.a_filter_without_a_session.Goals as goal

pub returns-clause-lasts : goal.returns-clause-lasts
returns-clause-lasts g c = c.syntax_fault_lasts.ensures (codes "filter x") 1 (no_session g.row.A.Denot) (no_session_reaches_no_filter g.row.A.Denot)

pub returns-clause-place : goal.returns-clause-place
returns-clause-place g c = c.syntax_fault_place.ensures (codes "filter x") 1 (no_session g.row.A.Denot) (no_session_reaches_no_filter g.row.A.Denot)
