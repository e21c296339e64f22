use Rattle.cap_convergence.proofs.ConcatenationLemmas.{concatenation_leads}
use Rattle.cap_convergence.proofs.laws.a_concatenation_leads_from_the_first_rows_to_the_last.Goals as goal

pub returns : goal.returns
returns g c = λ columns first last lists changes in_a_row fit is. concatenation_leads columns first last lists in_a_row fit changes is
