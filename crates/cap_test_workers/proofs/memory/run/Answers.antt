use Rattle.std.proofs.Crossing.{frees}
use Rattle.cap_test_workers.proofs.memory.run.Goals as goal

-- any thread may give memory of the heap back, and that memory counts its requests does not matter
pub run_workload-requires-clause-frees : goal.run_workload-requires-clause-frees
run_workload-requires-clause-frees g c κs within = record { frees = λ a τ p. frees.frees c.args.memory.now.inner τ p }

pub run_workload-requires-frees-A-Allocator : goal.run_workload-requires-frees-A-Allocator
run_workload-requires-frees-A-Allocator g c κs within = record { frees = λ a τ p. frees.frees c.args.memory.now.inner τ p }
