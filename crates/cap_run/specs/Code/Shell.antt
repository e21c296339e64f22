-- The progress of a shell, for private contracts. No rule is defined here.
use Rattle.std.specs.Prelude.{◌≡◌, ℕ, ◌≤◌, List}
use Rattle.cap_interpreter.specs.Interpreter.{InterpreterState}
use Rattle.cap_interpreter.specs.Lines.{Course, IsAt, after_lines, events_max}
use Rattle.cap_locked.specs.Fault.{MatchCallFault}
use Rattle.cap_locked.specs.declared.fault.CallFault.{CallFault}
use Rattle.cap_run.specs.Run.{replies_to}
use Rattle.cap_run.specs.Shell.{IsReadAs, ReadLine, fault_of, run_of}
use Rattle.cap_run.specs.declared.fault.RunFault.{RunFault}
use Rattle.cap_run.specs.declared.fault.RunFault.TheVariants.{Call, Write}

-- the first where the call's fault ended the shell, the second where a write failed
abbrev pub MatchEnd : RunFault → (CallFault → Type 0) → Type 0 → Type 0
MatchEnd (Call fault) Called written = Called fault
MatchEnd Write Called written = written
MatchEnd fault Called written = ⊥

module _ {A : Type 0} where
  -- what the line was, how it stands after it, and the reply and the fault that are printed for it
  abbrev pub HasAnswered : ℕ → List ℕ → Course A → InterpreterState A → List ℕ → List ℕ → Type 0
  HasAnswered number text course state reply fault =
      (line : ReadLine A) × IsReadAs number text line × IsAt (after_lines course (run_of number line)) state
      × (reply ≡ replies_to course (run_of number line)) × (fault ≡ fault_of number line)

  -- out of memory, or a full history; on one thread no call is overtaken
  abbrev pub MayEnd : CallFault → InterpreterState A → Type 0
  MayEnd fault state = MatchCallFault fault (Unit {0}) (λ front. ⊥) (events_max ≤ state.core.events)
