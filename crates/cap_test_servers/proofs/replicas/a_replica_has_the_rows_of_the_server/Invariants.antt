use Rattle.cap_test_servers.proofs.replicas.a_replica_has_the_rows_of_the_server.Given as goal

-- the history that was just opened, and its seat
abbrev pub ghosts-replicated_in : goal.ghosts-replicated_in
ghosts-replicated_in g a = record { book = a.opened.seen.book; seats = 1 }
