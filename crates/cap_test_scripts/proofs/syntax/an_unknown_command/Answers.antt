use Rattle.std.specs.Prelude.{codes}
use Rattle.cap_test_scripts.proofs.SyntaxLemmas.{no_fault_and_one, unknown_command, unknown_command_reaches_no_filter}
use Rattle.cap_test_scripts.proofs.syntax.an_unknown_command.Goals as goal

pub returns-clause-lasts : goal.returns-clause-lasts
returns-clause-lasts g c = c.syntax_fault_lasts.ensures (codes "frob") 4 (unknown_command g.row.A.Denot) (unknown_command_reaches_no_filter g.row.A.Denot)

pub returns-clause-place : goal.returns-clause-place
returns-clause-place g c = c.syntax_fault_place.ensures (codes "frob") 4 (unknown_command g.row.A.Denot) (unknown_command_reaches_no_filter g.row.A.Denot)

pub returns-clause-none : goal.returns-clause-none
returns-clause-none g c = λ line within. no_fault_and_one _ _ (unknown_command g.row.A.Denot) (c.a_line_without_fault.ensures.read (codes "frob") line within)
