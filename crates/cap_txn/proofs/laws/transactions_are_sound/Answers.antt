use Rattle.cap_txn.proofs.SoundLemmas.{back-IsSound, begin-IsSound, op-IsSound, savepoint-IsSound}
use Rattle.cap_txn.proofs.laws.transactions_are_sound.Goals as goal

pub returns : goal.returns
returns g c = record { begin = begin-IsSound; op = op-IsSound; savepoint = savepoint-IsSound; back = back-IsSound; ops = λ txn h. h.left }
