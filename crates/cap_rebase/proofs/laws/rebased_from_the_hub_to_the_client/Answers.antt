use Rattle.cap_rebase.proofs.OneRowLemmas.{leads_on_the_hub, over_no_conflict, over_one_remote}
use Rattle.cap_rebase.proofs.laws.rebased_from_the_hub_to_the_client.Goals as goal

pub returns-clause-conflict : goal.returns-clause-conflict
returns-clause-conflict g c = over_one_remote

pub returns-clause-hub : goal.returns-clause-hub
returns-clause-hub g c = leads_on_the_hub

pub returns-clause-none : goal.returns-clause-none
returns-clause-none g c = over_no_conflict
