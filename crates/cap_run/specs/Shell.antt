-- The output of a shell: the text of a run of its lines, and the faults of those that are not run.
use Rattle.std.specs.Prelude.{◌≡◌, ℕ, ◌+◌, ◌<◌, List, [], ◌∷◌, ◌++◌, None, Some, Result, Ok, Err}
use Rattle.std.specs.Prelude.{IsUtf8, codes, decimal, false, length}
use Rattle.std.specs.Io.KnownBytes.{Appends, prepend_known}
use Rattle.cap_core.specs.declared.event.Event.{Event}
use Rattle.cap_value.specs.declared.memory.Fault.TheVariants as fault
use Rattle.cap_script.specs.FaultText.{fault_text}
use Rattle.cap_script.specs.ReadLine.{HasFault, IsFound}
use Rattle.cap_script.specs.Script.{has_line_feed}
use Rattle.cap_script.specs.declared.fault.ScriptFault.{ScriptFault}
use Rattle.cap_script.specs.declared.line.Line.{Line}
use Rattle.cap_locked.specs.declared.fault.CallFault.{CallFault}
use Rattle.cap_locked.specs.declared.fault.CallFault.TheVariants as call
use Rattle.cap_interpreter.specs.Lines.{events_max, on_a_line}
use Rattle.cap_replies.specs.Lines.{run_line}
use Rattle.cap_replies.specs.declared.run_line.ReplyForm.TheVariants.{Text}
use Rattle.cap_replies.specs.declared.run_line.RunLine.{RunLine}
use Rattle.cap_run.specs.BlobList.{HasLines}
use Rattle.cap_run.specs.Run.{Ended, IsLegalRun, Known, history_of, run_text}
use Rattle.cap_stream.specs.Writing.{AppendsFront}
use Rattle.cap_run.specs.declared.fault.RunFault.{RunFault}
use Rattle.cap_run.specs.declared.fault.RunFault.TheVariants.{Call, Read, Write}

-- what a line of the input is: no text, ignored, a command, or refused
pub data ReadLine (A : Type 0) : Type 0 where
  NoText : ReadLine A
  Ignored : ReadLine A
  Spelled : (line : Line A) → ReadLine A
  Refused : (why : ScriptFault) → ReadLine A

-- what the writers of the replies and of the faults hold
pub record Outputs : Type 0 where
  pub replies : Known
  pub faults : Known

abbrev pub outputs : Known → Known → Outputs
outputs replies faults = record { replies = replies; faults = faults }

module _ {A : Type 0} where
  -- ---- one line

  -- the line with this number is that
  abbrev pub IsReadAs : ℕ → List ℕ → ReadLine A → Type 0
  IsReadAs number text NoText = ¬ (IsUtf8 text)
  IsReadAs number text Ignored = IsUtf8 text × IsFound {A = A} None text
  IsReadAs number text (Spelled line) = IsUtf8 text × IsFound (Some line) text
  IsReadAs number text (Refused why) = IsUtf8 text × HasFault A number (fault.Refused why) text

  -- what is run of the line with this number: a line of a run
  abbrev pub run_of : ℕ → ReadLine A → List (RunLine A)
  run_of number NoText = []
  run_of number Ignored = []
  run_of number (Spelled line) = run_line Text number line ∷ []
  run_of number (Refused why) = []

  -- what is printed for it on the writer of the faults: its fault
  abbrev pub fault_of : ℕ → ReadLine A → List ℕ
  fault_of number NoText = on_a_line (codes "line " ++ (decimal number ++ codes ": not UTF-8"))
  fault_of number Ignored = []
  fault_of number (Spelled line) = []
  fault_of number (Refused why) = on_a_line (fault_text why)

  -- ---- lines one after the other, the first of them with this number

  abbrev pub AreReadAs : ℕ → List (List ℕ) → List (ReadLine A) → Type 0
  AreReadAs number [] [] = Unit {0}
  AreReadAs number [] (line ∷ lines) = ⊥
  AreReadAs number (text ∷ texts) [] = ⊥
  AreReadAs number (text ∷ texts) (line ∷ lines) =
      IsReadAs number text line × AreReadAs (number + 1) texts lines

  -- what there is of each line by its number, one after the other
  abbrev pub of_each : {X : Type 0} → (ℕ → ReadLine A → List X) → ℕ → List (ReadLine A) → List X
  of_each of_one number [] = []
  of_each of_one number (line ∷ lines) = of_one number line ++ of_each of_one (number + 1) lines

  -- what is run of all
  abbrev pub lines_run : List (ReadLine A) → List (RunLine A)
  lines_run lines = of_each run_of 1 lines

  abbrev pub faults_of : List (ReadLine A) → List ℕ
  faults_of lines = of_each fault_of 1 lines

  -- The lines of the input before the others are these. What is run of them has a legal history, whose blobs
  -- fit.
  pub record HasRun (input : Known) (others : List (List ℕ)) (lines : List (ReadLine A)) : Type 0 where
    pub texts : List (List ℕ)
    pub parts : HasLines input (texts ++ others)
    pub read : AreReadAs 1 texts lines
    pub run : IsLegalRun (lines_run lines)

  -- ---- the output

  -- the text of a run of the lines was written, up to what ended the shell, and the faults
  abbrev pub Prints : List (ReadLine A) → Ended → Outputs → Outputs → Type 0
  Prints lines ended old new =
      Appends old.replies new.replies (run_text Text (lines_run lines) ended)
      × Appends old.faults new.faults (faults_of lines)

  -- a prefix of each was written
  abbrev pub PrintsPart : List (ReadLine A) → Ended → Outputs → Outputs → Type 0
  PrintsPart lines ended old new =
      AppendsFront old.replies new.replies (run_text Text (lines_run lines) ended)
      × AppendsFront old.faults new.faults (faults_of lines)

  -- out of memory may end a shell before any line, and a full history before a line that would exceed it
  abbrev pub EndsBefore : CallFault → List (Event A) → List (List ℕ) → Type 0
  EndsBefore call.OutOfMemory history others = 0 < length others
  EndsBefore (call.Overtaken front) history others = ⊥
  EndsBefore call.HistoryFull history others = (0 < length others) × (length history ≡ events_max)

-- the lines begin with what was read of one, and go on with what the reader has left
abbrev pub AreLeft : Known → List (List ℕ) → Type 0
AreLeft left others =
    (partial : List ℕ) × (has_line_feed partial ≡ false) × HasLines (prepend_known partial left) others

-- The output of a shell, by its input and what the reader has left: of all lines; of the lines before the one
-- at which it ended; of those that were read whole before a read failed; or a prefix, where a write failed.
abbrev pub WritesShell : (A : Type 0) → Known → Known → Result (Unit {0}) RunFault →
    Outputs → Outputs → Type 0
WritesShell A input left (Ok done) old new =
    (lines : List (ReadLine A)) × HasRun input [] lines × Prints lines (Ok tt) old new
WritesShell A input left (Err (Call fault)) old new =
    (lines : List (ReadLine A)) × (others : List (List ℕ)) × HasRun input others lines
    × EndsBefore fault (history_of (lines_run lines)) others × Prints lines (Err fault) old new
WritesShell A input left (Err Read) old new =
    (lines : List (ReadLine A)) × (others : List (List ℕ)) × HasRun input others lines × AreLeft left others
    × Prints lines (Ok tt) old new
WritesShell A input left (Err Write) old new =
    (lines : List (ReadLine A)) × (others : List (List ℕ)) × (ended : Ended) × HasRun input others lines
    × PrintsPart lines ended old new
WritesShell A input left (Err fault) old new = ⊥
