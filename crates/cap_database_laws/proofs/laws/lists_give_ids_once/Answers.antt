use Rattle.cap_database_laws.specs.Ids.{GivesIdsOnce}
use Rattle.cap_database_laws.proofs.IdLemmas.{run-once}
use Rattle.cap_database.proofs.KeptLemmas.{each-act}
use Rattle.cap_database_laws.proofs.laws.lists_give_ids_once.Goals as goal

pub returns : goal.returns
returns g c =
    let acts = c.ids_are_given_once.ensures in
    run-once (each-act GivesIdsOnce acts.insert acts.update acts.delete) acts.over acts.none
