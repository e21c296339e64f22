use Rattle.cap_apply_laws.proofs.FittingLemmas.{changeset-fits, patchset-fits}
use Rattle.cap_apply_laws.proofs.laws.captures_fit_their_columns.Goals as goal

pub returns : goal.returns
returns g c = record { changeset = changeset-fits; patchset = patchset-fits }
