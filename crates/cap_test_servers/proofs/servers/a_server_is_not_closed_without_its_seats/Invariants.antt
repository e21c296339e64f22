use Rattle.cap_test_servers.proofs.servers.a_server_is_not_closed_without_its_seats.Given as goal

-- the history that was just opened, and its seats
abbrev pub ghosts-missing_seats : goal.ghosts-missing_seats
ghosts-missing_seats g a = record { book = a.opened.seen.book; seats = 5 }
