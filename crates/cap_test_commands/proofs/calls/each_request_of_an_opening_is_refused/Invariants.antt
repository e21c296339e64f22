use Rattle.cap_test_commands.proofs.calls.each_request_of_an_opening_is_refused.Given as goal

-- the history that was just opened, and its seat
abbrev pub ghosts-is_opened : goal.ghosts-is_opened
ghosts-is_opened g a = record { book = a.opened.seen.book; seats = 1 }
