use Rattle.cap_test_servers.proofs.applied.replies_to_an_apply_travel_between_threads.Given as goal

-- the history that was just opened, and its seats
abbrev pub ghosts-applied_through_seats : goal.ghosts-applied_through_seats
ghosts-applied_through_seats g a = record { book = a.opened.seen.book; seats = 4 }
