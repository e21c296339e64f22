use Rattle.std.proofs.Crossing.{frees}
use Rattle.changecap.proofs.run_lines.Goals as goal

-- any thread may give memory of the heap back
pub run_workload-outcome-requires-clause-frees : goal.run_workload-outcome-requires-clause-frees
run_workload-outcome-requires-clause-frees g c κs within = frees
