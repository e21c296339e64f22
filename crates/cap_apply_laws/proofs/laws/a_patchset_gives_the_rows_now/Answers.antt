use Rattle.cap_apply_laws.proofs.BlobLemmas.{patchset_gives}
use Rattle.cap_apply_laws.proofs.laws.a_patchset_gives_the_rows_now.Goals as goal

pub returns : goal.returns
returns g c = patchset_gives
