use Rattle.cap_test_servers.proofs.servers.four_threads_commit.Given as goal

-- the history that was just opened, and its seats
abbrev pub ghosts-four_threads : goal.ghosts-four_threads
ghosts-four_threads g a = record { book = a.opened.seen.book; seats = 5 }
