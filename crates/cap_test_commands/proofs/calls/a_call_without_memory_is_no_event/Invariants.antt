use Rattle.cap_test_commands.proofs.calls.a_call_without_memory_is_no_event.Given as goal

-- the history that was just opened, and its seat
abbrev pub ghosts-starved : goal.ghosts-starved
ghosts-starved g a = record { book = a.opened.seen.book; seats = 1 }
