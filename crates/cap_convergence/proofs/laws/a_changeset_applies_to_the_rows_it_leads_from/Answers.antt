use Rattle.cap_convergence.proofs.LeadsLemmas.{applied_whole}
use Rattle.cap_convergence.proofs.laws.a_changeset_applies_to_the_rows_it_leads_from.Goals as goal

pub returns : goal.returns
returns g c = λ columns before after changes database policy leads rise has same. applied_whole policy columns database before after changes rise has same leads
