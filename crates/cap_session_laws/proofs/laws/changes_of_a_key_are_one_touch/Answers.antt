use Rattle.cap_session.proofs.KeyLemmas.{again-each}
use Rattle.cap_session_laws.proofs.laws.changes_of_a_key_are_one_touch.Goals as goal

pub returns : goal.returns
returns g c = again-each
