use Rattle.cap_test_servers.proofs.row_level.transactions_are_refused_where_what_they_looked_at_has_changed.Given as goal

-- the history that was just opened, and its seats
abbrev pub ghosts-judged : goal.ghosts-judged
ghosts-judged g a = record { book = a.opened.seen.book; seats = 2 }
