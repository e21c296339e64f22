-- The threads of a run.
use Rattle.std.specs.Prelude.{ℕ, ◌≤◌}

-- the lines of a workload can run on 1 to 63 threads
abbrev pub IsThreadCount : ℕ → Type 0
IsThreadCount threads = (1 ≤ threads) × (threads ≤ 63)
