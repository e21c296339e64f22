use Rattle.cap_apply.proofs.Common.{patch_of, requested_by_patch}
use Rattle.cap_apply_laws.proofs.DifferenceLemmas.{patch_asks, rows_given}
use Rattle.cap_apply_laws.proofs.laws.patches_give_the_rows_now.Goals as goal

pub returns : goal.returns
returns g c = λ policy. rows_given policy (λ flags change. requested_by_patch flags (patch_of flags change)) patch_asks
