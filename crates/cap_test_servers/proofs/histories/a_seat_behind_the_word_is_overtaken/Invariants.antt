use Rattle.cap_test_servers.proofs.histories.a_seat_behind_the_word_is_overtaken.Given as goal

-- the history that was just opened, and two seats
abbrev pub ghosts-append_twice : goal.ghosts-append_twice
ghosts-append_twice g a = record { book = a.opened.seen.book; seats = 2 }
