use Rattle.cap_test_servers.proofs.servers.a_seat_reads_its_own_commit.Given as goal

-- the history that was just opened, and its seats
abbrev pub ghosts-three_seats : goal.ghosts-three_seats
ghosts-three_seats g a = record { book = a.opened.seen.book; seats = 3 }
