use Rattle.std.proofs.Common.{vec_len}
use Rattle.cap_run.proofs.block.+run_workers.Given as goal

abbrev pub decreases-run_workers : goal.decreases-run_workers
decreases-run_workers g l = vec_len l.workers.now
