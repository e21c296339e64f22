use Rattle.std.proofs.Common.{◌+◌}
use Rattle.cap_run.proofs.workload.run_workload.Given as goal

-- the history that was just opened, and a seat for each worker beside the first one
abbrev pub ghosts-serve_lines : goal.ghosts-serve_lines
ghosts-serve_lines g a = record { book = a.opened.seen.book; seats = a.threads + 1 }
