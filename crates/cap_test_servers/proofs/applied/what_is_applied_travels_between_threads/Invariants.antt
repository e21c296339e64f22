use Rattle.cap_test_servers.proofs.applied.what_is_applied_travels_between_threads.Given as goal

-- the history that was just opened, and its seat
abbrev pub ghosts-applied_to_replicas : goal.ghosts-applied_to_replicas
ghosts-applied_to_replicas g a = record { book = a.opened.seen.book; seats = 1 }
