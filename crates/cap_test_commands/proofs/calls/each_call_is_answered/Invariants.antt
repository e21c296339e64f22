use Rattle.cap_test_commands.proofs.calls.each_call_is_answered.Given as goal

-- the history that was just opened, and its seat
abbrev pub ghosts-each_call : goal.ghosts-each_call
ghosts-each_call g a = record { book = a.opened.seen.book; seats = 1 }
