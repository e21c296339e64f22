-- The progress of a run, for private contracts. No rule is defined here.
use Rattle.std.specs.Prelude.{◌≡◌, ℕ, Bool, true, false, List, [], ◌∷◌, ◌++◌, Err}
use Rattle.std.specs.Io.KnownBytes.{Appends}
use Rattle.cap_interpreter.specs.Interpreter.{InterpreterState}
use Rattle.cap_interpreter.specs.Lines.{Course, IsAt, after_line, after_lines, begin_course, on_a_line, text_of}
use Rattle.cap_locked.specs.declared.fault.CallFault.{CallFault}
use Rattle.cap_replies.specs.Lines.{LinesLeft, SpellsRun}
use Rattle.cap_replies.specs.declared.run_line.RunLine.{RunLine}
use Rattle.cap_run.specs.Run.{Ended, EndsAt, IsLegalRun, Known, replies_to}

module _ {A : Type 0} where
  -- How the lines ended: the first of them have replies, and these were written, but for what is pending.
  pub record HaveEnded (lines : List (RunLine A)) (ended : Ended) (pending : List ℕ) (old new : Known) : Type 0 where
    pub first : List (RunLine A)
    pub others : List (RunLine A)
    pub parts : lines ≡ first ++ others
    pub run : IsLegalRun first
    pub ends : EndsAt ended first others
    pub written : List ℕ
    pub text_is : written ++ pending ≡ replies_to begin_course first
    pub wrote : Appends old new written

  -- the line has a reply, wherever the lines before have led
  abbrev pub IsStep : RunLine A → InterpreterState A → InterpreterState A → List ℕ → List ℕ → Type 0
  IsStep line old new before after = (course : Course A) → IsAt course old
      → IsAt (after_line course line) new × (after ≡ before ++ on_a_line (text_of course line))

  -- the first of the lines has its reply, and the others are left; or there is no line
  abbrev pub RunsNext : Bool → List (RunLine A) → LinesLeft → InterpreterState A → InterpreterState A
      → List ℕ → List ℕ → Type 0
  RunsNext true lines left old new before after =
      (line : RunLine A) × (others : List (RunLine A)) × (lines ≡ line ∷ others) × SpellsRun others left
      × IsStep line old new before after
  RunsNext false lines left old new before after = (lines ≡ []) × (after ≡ before)

  -- a run may end before these lines, whatever lines it has run
  abbrev pub MayEnd : CallFault → List (RunLine A) → InterpreterState A → Type 0
  MayEnd fault others interpreter = (lines : List (RunLine A)) → IsAt (after_lines begin_course lines) interpreter
      → EndsAt (Err fault) lines others
