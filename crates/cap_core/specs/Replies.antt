-- The replies to commands that are given one after the other.
use Rattle.std.specs.Prelude.{List, [], ◌∷◌}
use Rattle.cap_core.specs.declared.command.Command.{Command}
use Rattle.cap_core.specs.declared.reply.Reply.{Reply}
use Rattle.cap_core.specs.Answer.{answer, event_by, state_after}
use Rattle.cap_core.specs.Past.{Past}

module _ {A : Type 0} where
  -- each command is answered after the past and the commands before it
  abbrev pub replies_after : Past A → List (Command A) → List (Reply A)
  replies_after past [] = []
  replies_after past (command ∷ commands) =
      answer (state_after past) command
      ∷ replies_after (event_by 0 command (answer (state_after past) command) ∷ past) commands
