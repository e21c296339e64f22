use Rattle.cap_script_laws.proofs.FitLemmas.{script-fits}
use Rattle.cap_script_laws.proofs.laws.spelled_commands_fit.Goals as goal

pub returns : goal.returns
returns g c = script-fits c.spelled_blobs_fit_their_columns.ensures c.read_is_spelled.ensures.spelled
