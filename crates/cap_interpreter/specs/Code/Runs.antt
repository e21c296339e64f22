-- What a line makes of a server, of what is open and of the output, for private contracts. No rule is
-- defined here.
use Rattle.std.specs.Prelude.{◌≡◌, ◌++◌, ℕ, List, Option, None, Result, Ok, Err}
use Rattle.cap_core.specs.Answer.{State}
use Rattle.cap_locked.specs.declared.fault.CallFault.{CallFault}
use Rattle.cap_locked.specs.declared.fault.CallFault.TheVariants.{OutOfMemory, Overtaken, HistoryFull}
use Rattle.cap_replies.specs.declared.run_line.RunLine.{RunLine}
use Rattle.cap_interpreter.specs.Interpreter.{InterpreterState}
use Rattle.cap_interpreter.specs.declared.held.Open.{Open}
use Rattle.cap_core.specs.declared.event.Event.{Event}
use Rattle.cap_interpreter.specs.Lines.{Course, Deed, IsAt, IsFull, after_line, command_of, deed_text}
use Rattle.cap_interpreter.specs.Lines.{on_a_line, text_of, txn_after}

-- S2 exactly where the history is full; no call is overtaken
abbrev pub FaultIs : CallFault → Type 0 → Type 0
FaultIs OutOfMemory full = full → ⊥
FaultIs (Overtaken front) full = ⊥
FaultIs HistoryFull full = full

module _ {A : Type 0} where
  abbrev pub holding : State A → Option (Open A) → InterpreterState A
  holding core txn = record { core = core; txn = txn }

  -- The line led from there to this server and what is open, and its reply was appended; or it has a
  -- fault, and the server and the output are as before.
  abbrev pub Ran : RunLine A → InterpreterState A → State A → Result (Option (Open A)) CallFault → List ℕ
      → List ℕ → Type 0
  Ran line old core (Ok txn) before printed =
      (IsFull old line → ⊥) × ((course : Course A) → IsAt course old →
      IsAt (after_line course line) (holding core txn)
      × (printed ≡ before ++ on_a_line (text_of course line)))
  Ran line old core (Err fault) before printed =
      (core ≡ old.core) × (printed ≡ before) × FaultIs fault (IsFull old line)

  -- The line did this where that was open: it carried out no command, its text was printed, and what is open
  -- after it is handed back. Or memory ran out, and the output is as before.
  abbrev pub Did : RunLine A → Deed A → Option (Open A) → Result (Option (Open A)) CallFault → List ℕ → List ℕ
      → Type 0
  Did line does held (Ok left) before printed =
      (command_of does ≡ None) × ((course : Course A) → course.txn ≡ held → left ≡ txn_after course does)
      × ((history : List (Event A)) → printed ≡ before ++ on_a_line (deed_text line history does))
  Did line does held (Err fault) before printed =
      (command_of does ≡ None) × (fault ≡ OutOfMemory) × (printed ≡ before)
