use Rattle.cap_script.proofs.LineLaws.{no_fault_spelled, spelled_no_fault}
use Rattle.cap_script.proofs.laws.a_line_without_fault.Goals as goal

pub returns-clause-spelled : goal.returns-clause-spelled
returns-clause-spelled g c = λ text none. no_fault_spelled c.read_is_spelled.ensures text none

pub returns-clause-read : goal.returns-clause-read
returns-clause-read g c = λ text line within. spelled_no_fault c.spelled_is_read.ensures text line within
