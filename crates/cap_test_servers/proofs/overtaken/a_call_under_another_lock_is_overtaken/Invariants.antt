use Rattle.cap_test_servers.proofs.overtaken.a_call_under_another_lock_is_overtaken.Given as goal

-- the history that was just opened, and two seats
abbrev pub ghosts-two_locks : goal.ghosts-two_locks
ghosts-two_locks g a = record { book = a.opened.seen.book; seats = 3 }
